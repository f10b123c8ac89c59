use Rattle.std.proofs.Common.{◌≡◌, ℕ, ◌<◌, get_or, true}
use Rattle.boxed_problem.specs.declared.parts.Entry.{Entry}
use Rattle.sp_model.specs.Changes.{is_before}
use Rattle.sp_model.proofs.placing.place_of.Given as goal

abbrev pub invariant-loop-i : goal.invariant-loop-i
invariant-loop-i l = (k : ℕ) (d : Entry) → k < l.i → is_before (get_or l.entries k d) l.entry ≡ true
