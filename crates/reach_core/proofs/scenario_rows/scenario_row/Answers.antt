use Rattle.std.proofs.Common.{sym, ap, ◌≡◌, ◌∙◌, length, map, List, ℕ}
use Rattle.std.specs.List.{fold}
use Rattle.std.proofs.lemmas.List.{length-map}
use Rattle.boxed_problem.specs.BoxedFacts.{limits_size}
use Rattle.sp_model.specs.Changes.{limits_of}
use Rattle.sp_model.specs.declared.program.Row.{Row}
use Rattle.reach_core.specs.Changed.{given_by, limited_by, taken_by}
use Rattle.reach_core.specs.Greatest.{sums_of}
use Rattle.reach_core.proofs.Data.{sums_long}
use Rattle.reach_core.proofs.ScenarioSums.{given_long, limited_long, rest_long, scenario_is, there_at}
use Rattle.reach_core.proofs.scenario_rows.scenario_row.Goals as goal

pub rest-requires-clause-there : goal.rest-requires-clause-there
rest-requires-clause-there c =
    let p = c.args.program.now in
    let long = ap length c.as_slice.ensures.value ∙ (ap length c.requires.core.sums ∙ sums_long p p.entries) in
    there_at p c.args.scenario.now c.as_slice-changes.result.now c.as_slice.result.now c.requires.scenario c.as_slice-changes.ensures long

pub give_all-requires : goal.give_all-requires
give_all-requires c =
    let p = c.args.program.now in
    let long = ap length c.in_ok-sums.ensures ∙ (rest_long p c.as_slice-changes.result.now c.as_slice.result.now ∙ (ap length c.as_slice.ensures.value ∙ (ap length c.requires.core.sums ∙ sums_long p p.entries))) in
    there_at p c.args.scenario.now c.as_slice-changes.result.now c.in_ok-sums.sums.items c.requires.scenario c.as_slice-changes.ensures long

pub greatest_row-requires : goal.greatest_row-requires
greatest_row-requires c =
    let p = c.args.program.now in
    let changes = c.as_slice-changes.result.now in
    let sums = ap length c.as_slice-4.ensures.value ∙ (ap length c.give_all.ensures ∙ (given_long p changes c.in_ok-sums.sums.items ∙ (ap length c.in_ok-sums.ensures ∙ (rest_long p changes c.as_slice.result.now ∙ (ap length c.as_slice.ensures.value ∙ (ap length c.requires.core.sums ∙ sums_long p p.entries)))))) in
    let limits = ap length c.as_slice-3.ensures.value ∙ (ap length c.in_ok-limits.ensures ∙ (limited_long changes c.as_slice-2.result.now ∙ (ap length c.as_slice-2.ensures.value ∙ (ap length c.requires.core.limits ∙ length-map p.rows (λ (row : Row). limits_size (limits_of row)))))) in
    limits ∙ sym sums

pub returns-clause-exact : goal.returns-clause-exact
returns-clause-exact c = λ small.
    let p = c.args.program.now in
    let s = c.args.scenario.now in
    let changes = c.as_slice-changes.result.now in
    let core_limits = map (λ (row : Row). limits_size (limits_of row)) p.rows in
    let core_sums = sums_of p p.entries in
    let sizes : c.as_slice-3.result.now ≡ fold limited_by core_limits s.changes = c.as_slice-3.ensures.value ∙ (c.in_ok-limits.ensures ∙ (ap (λ (l : List ℕ). fold limited_by l changes) (c.as_slice-2.ensures.value ∙ c.requires.core.limits) ∙ ap (fold limited_by core_limits) c.as_slice-changes.ensures)) in
    let rest : c.in_ok-sums.sums.items ≡ fold (taken_by p) core_sums s.changes = c.in_ok-sums.ensures ∙ (ap (λ (l : List ℕ). fold (taken_by p) l changes) (c.as_slice.ensures.value ∙ c.requires.core.sums) ∙ ap (fold (taken_by p) core_sums) c.as_slice-changes.ensures) in
    let sums : c.as_slice-4.result.now ≡ fold (given_by p) (fold (taken_by p) core_sums s.changes) s.changes = c.as_slice-4.ensures.value ∙ (c.give_all.ensures ∙ (ap (λ (l : List ℕ). fold (given_by p) l changes) rest ∙ ap (fold (given_by p) (fold (taken_by p) core_sums s.changes)) c.as_slice-changes.ensures)) in
    scenario_is p s c.as_slice-3.result.now c.as_slice-4.result.now c.greatest_row.result c.requires.ordered c.requires.scenario small sizes sums c.greatest_row.ensures
