use Rattle.std.proofs.Common.{rules, arith, sym, ap, subst, ◌∙◌, ◌≡◌, ℤ, pos, ◌<◌, ◌*ℤ◌, List, length, map, FitsSigned, get_or}
use Rattle.std.proofs.lemmas.Int.{to_z-of_z}
use Rattle.std.specs.Int.{w128}
use Rattle.boxed_problem.proofs.SameData.{same_data}
use Rattle.sp_model.specs.Changes.{Data}
use Rattle.sp_model.specs.Problems.{data_at, factor_of, problem_in}
use Rattle.sp_model.proofs.DataFacts.{boxed_is, costs_fit}
use Rattle.sp_model.proofs.run.Run.scenario.Goals as goal

pub line-requires : goal.line-requires
line-requires c = λ k d h.
    let run = c.args.self.now in
    let s = c.args.s in
    let costs : c.as_slice.result.now ≡ (data_at run s).costs = c.as_slice.ensures.value ∙ ap (λ (e : Data). e.costs) c.in_ok-costs.ensures in
    let long : k < length (data_at run s).costs = omega (arith, ap length costs) in
    let P : List ℤ → Type 0 = λ cs. FitsSigned w128 (factor_of run s *ℤ get_or cs k d) in
    let Q : ℤ → Type 0 = λ z. FitsSigned w128 (z *ℤ get_or c.as_slice.result.now k d) in
    let ff : FitsSigned w128 c.factor.result = search rules in
    let fits : FitsSigned w128 (c.factor.result *ℤ get_or c.as_slice.result.now k d) = subst Q (sym c.factor.ensures) (subst P (sym costs) (costs_fit run s c.requires k d long)) in
    simp to_z-of_z fits

pub invariant_of-result : goal.invariant_of-result
invariant_of-result c =
    let run = c.args.self.now in
    let s = c.args.s in
    let costs : c.as_slice.result.now ≡ (data_at run s).costs = c.as_slice.ensures.value ∙ ap (λ (e : Data). e.costs) c.in_ok-costs.ensures in
    let costs2 : c.as_slice-2.result.now ≡ (data_at run s).costs = c.as_slice-2.ensures.value ∙ ap (λ (e : Data). e.costs) c.in_ok-costs.ensures in
    let limits : c.from_vec.result ≡ (data_at run s).limits = c.from_vec.ensures ∙ ap (λ (e : Data). e.limits) c.in_ok-costs.ensures in
    let entries : c.from_vec-2.result ≡ (data_at run s).entries = c.from_vec-2.ensures ∙ ap (λ (e : Data). e.entries) c.in_ok-costs.ensures in
    let fc : FitsSigned w128 c.constant.result = search rules in
    let ff : FitsSigned w128 c.factor.result = search rules in
    let line : c.in_ok-line.line ≡ (problem_in run s).line = (simp to_z-of_z at c.in_ok-line.ensures) ∙ ap (λ z. map (λ cost. z *ℤ cost) c.as_slice.result.now) c.factor.ensures ∙ ap (map (λ cost. factor_of run s *ℤ cost)) costs in
    let square : c.in_ok-square.square ≡ (problem_in run s).square = c.in_ok-square.ensures ∙ ap (map (λ cost. pos 0)) costs2 in
    record { facts = simp to_z-of_z (rw (c.in_ok-columns.ensures, limits, entries, c.constant.ensures, line, square) (boxed_is run s c.requires)) }

pub returns : goal.returns
returns c =
    let run = c.args.self.now in
    let s = c.args.s in
    let costs : c.as_slice.result.now ≡ (data_at run s).costs = c.as_slice.ensures.value ∙ ap (λ (e : Data). e.costs) c.in_ok-costs.ensures in
    let costs2 : c.as_slice-2.result.now ≡ (data_at run s).costs = c.as_slice-2.ensures.value ∙ ap (λ (e : Data). e.costs) c.in_ok-costs.ensures in
    let limits : c.from_vec.result ≡ (data_at run s).limits = c.from_vec.ensures ∙ ap (λ (e : Data). e.limits) c.in_ok-costs.ensures in
    let entries : c.from_vec-2.result ≡ (data_at run s).entries = c.from_vec-2.ensures ∙ ap (λ (e : Data). e.entries) c.in_ok-costs.ensures in
    let fc : FitsSigned w128 c.constant.result = search rules in
    let ff : FitsSigned w128 c.factor.result = search rules in
    let line : c.in_ok-line.line ≡ (problem_in run s).line = (simp to_z-of_z at c.in_ok-line.ensures) ∙ ap (λ z. map (λ cost. z *ℤ cost) c.as_slice.result.now) c.factor.ensures ∙ ap (map (λ cost. factor_of run s *ℤ cost)) costs in
    let square : c.in_ok-square.square ≡ (problem_in run s).square = c.in_ok-square.ensures ∙ ap (map (λ cost. pos 0)) costs2 in
    simp to_z-of_z (same_data _ (problem_in run s) c.in_ok-columns.ensures limits entries c.constant.ensures line square)
