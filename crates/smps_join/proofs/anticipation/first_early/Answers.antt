use Rattle.std.proofs.Common.{arith, sym, subst, ap, ◌≡◌, ◌<◌, ◌+◌, ◌∙◌, get_or, length, take, ℕ, Option, Some}
use Rattle.std.proofs.lemmas.List.{get_or_default}
use Rattle.smps_words.specs.CoreFacts.{no_entry}
use Rattle.join_words.specs.Parts.{IsFirstEarly, firsts_of}
use Rattle.smps_join.proofs.Counted.{early_next, late_next}
use Rattle.smps_join.proofs.anticipation.first_early.Goals as goal
use Rattle.smps_join.proofs.anticipation.first_early.Goals.{then-is_early, else-is_early}

pub loop-entry-preserved : goal.loop-entry-preserved
loop-entry-preserved c =
    let firsts = firsts_of c.args.periods.now in
    let es = c.args.entries.now in
    let k = c.loop-entry.entry-index in
    let e = get_or es k no_entry in
    let lt : k < length es = omega arith in
    let at : e ≡ get_or es k e = get_or_default es k no_entry e lt in
    let P : Option ℕ → Type 0 = λ o. IsFirstEarly firsts (take (k + 1) es) o in
    elim c.if-is_early.branch [
      | then-is_early w ↦ subst P (sym (w.least-is ∙ ap Some w.lesser.ensures)) (early_next firsts es k e c.loop-entry.least lt at (sym c.is_early.ensures ∙ w.if-is_early.true) c.loop-entry.invariant)
      | else-is_early w ↦ subst P (sym w.least-is) (late_next firsts es k e c.loop-entry.least lt at (sym c.is_early.ensures ∙ w.if-is_early.false) c.loop-entry.invariant)
    ]
