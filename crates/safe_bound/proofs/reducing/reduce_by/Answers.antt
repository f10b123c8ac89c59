use Rattle.std.proofs.Common.{arith, ap, ◌∙◌, rules, ◌≡◌, ◌<◌, ◌≤◌, length, set, FitsSigned}
use Rattle.std.proofs.lemmas.Int.{to_z-of_z}
use Rattle.std.specs.Int.{w128}
use Rattle.boxed_problem.specs.Data.{problem_of}
use Rattle.safe_bound.specs.Reducing.{kept_cost, kept_square}
use Rattle.std.proofs.lemmas.List.{length-set}
use Rattle.safe_bound.proofs.ReducedLaws.{one_more, reduced_data}
use Rattle.safe_bound.proofs.RunLaws.{run_is, run_next}
use Rattle.safe_bound.proofs.UnderLaws.{reduced_under}
use Rattle.safe_bound.proofs.reducing.reduce_by.Goals as goal

pub kept_cost-cost-requires-clause-run : goal.kept_cost-cost-requires-clause-run
kept_cost-cost-requires-clause-run c =
    run_is c.args.problem.now.entries c.loop-j.j c.loop-j.first c.run_end-end.result c.args.problem.now.facts.ascending c.loop-j.invariant.first (rw c.as_slice-entries.ensures at c.run_end-end.ensures)

pub loop-j-preserved : goal.loop-j-preserved
loop-j-preserved c =
    let b = problem_of c.args.problem.now in
    let y = c.args.prices.now in
    let j = c.loop-j.j in
    let short : j < length b.columns = omega (arith, c.loop-j-test.true, c.len-j-end.ensures, ap length c.in_ok-columns.ensures) in
    let run = run_is b.entries j c.loop-j.first c.run_end-end.result c.args.problem.now.facts.ascending c.loop-j.invariant.first (rw c.as_slice-entries.ensures at c.run_end-end.ensures) in
    let fl : FitsSigned w128 c.kept_cost-cost.result.line = search rules in
    let fs : FitsSigned w128 c.kept_cost-cost.result.square = search rules in
    let line : c.set.new.self ≡ set c.loop-j.line j c.kept_cost-cost.result.line = simp to_z-of_z at c.set.ensures.after in
    let square : c.set-in-loop-j.new.self ≡ set c.loop-j.square j c.kept_cost-cost.result.square = simp to_z-of_z at c.set-in-loop-j.ensures.after in
    record {
      first = run_next b.entries j c.loop-j.first c.run_end-end.result run;
      lines = ap length line ∙ (length-set c.loop-j.line j c.kept_cost-cost.result.line ∙ c.loop-j.invariant.lines);
      squares = ap length square ∙ (length-set c.loop-j.square j c.kept_cost-cost.result.square ∙ c.loop-j.invariant.squares);
      line = one_more c.loop-j.line c.set.new.self (kept_cost b y) j (length b.columns) c.kept_cost-cost.result.line line c.loop-j.invariant.lines short c.kept_cost-cost.ensures.line c.loop-j.invariant.line;
      square = one_more c.loop-j.square c.set-in-loop-j.new.self (kept_square b y) j (length b.columns) c.kept_cost-cost.result.square square c.loop-j.invariant.squares short c.kept_cost-cost.ensures.square c.loop-j.invariant.square;
    }

pub invariant_of-result : goal.invariant_of-result
invariant_of-result c =
    let b = problem_of c.args.problem.now in
    let y = c.args.prices.now in
    let past : length b.columns ≤ c.loop-j.j = omega (arith, c.loop-j-test.false, c.len-j-end.ensures, ap length c.in_ok-columns.ensures) in
    let fs : FitsSigned w128 y.scale = search rules in
    let fc : FitsSigned w128 c.reduced_constant.result = search rules in
    let facts = reduced_data b y c.in_ok-columns.columns c.loop-j.line c.loop-j.square c.reduced_constant.result c.args.problem.now.facts.places c.requires c.args.problem.now.facts.squares c.args.problem.now.facts.convex c.in_ok-columns.ensures
    c.loop-j.invariant.lines c.loop-j.invariant.squares (λ k l. c.loop-j.invariant.line k (omega (arith, l, past))) (λ k l. c.loop-j.invariant.square k (omega (arith, l, past))) c.reduced_constant.ensures in
    record { facts = simp to_z-of_z facts }

pub returns-clause-is : goal.returns-clause-is
returns-clause-is c =
    let b = problem_of c.args.problem.now in
    let y = c.args.prices.now in
    let past : length b.columns ≤ c.loop-j.j = omega (arith, c.loop-j-test.false, c.len-j-end.ensures, ap length c.in_ok-columns.ensures) in
    let fs : FitsSigned w128 y.scale = search rules in
    let fc : FitsSigned w128 c.reduced_constant.result = search rules in
    record {
      columns = c.in_ok-columns.ensures;
      scale = simp to_z-of_z;
      constant = simp to_z-of_z c.reduced_constant.ensures;
      line = λ k l. c.loop-j.invariant.line k (omega (arith, l, past));
      square = λ k l. c.loop-j.invariant.square k (omega (arith, l, past));
    }

pub returns-clause-under : goal.returns-clause-under
returns-clause-under c =
    let fs : FitsSigned w128 c.args.prices.now.scale = search rules in
    let fc : FitsSigned w128 c.reduced_constant.result = search rules in
    reduced_under (problem_of c.args.problem.now) c.args.prices.now _ c.args.problem.now.facts.places c.requires (returns-clause-is c)
