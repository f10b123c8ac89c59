use Rattle.std.proofs.Common.{arith, sym, ap, ◌+◌, ◌∙◌}
use Rattle.join_words.specs.Parts.{firsts_of}
use Rattle.smps_join.proofs.Counted.{nonleaf_no, nonleaf_yes}
use Rattle.smps_join.proofs.anticipation.nonleaf.Goals as goal
use Rattle.smps_join.proofs.anticipation.nonleaf.Goals.{then-is_nonleaf, else-is_nonleaf}

pub overflow_add-count : goal.overflow_add-count
overflow_add-count c =
    let le = c.loop-j.invariant.1 in
    let most = c.ranges.columns.fits in
    record { fits = omega (arith, le, most) }

pub loop-j-preserved : goal.loop-j-preserved
loop-j-preserved c =
    let firsts = firsts_of c.args.periods.now in
    let j = c.loop-j.j in
    let is = c.loop-j.invariant.0 in
    let le = c.loop-j.invariant.1 in
    elim c.if-is_nonleaf.branch [
      | then-is_nonleaf w ↦ (w.count-is ∙ (ap (λ n. n + 1) is ∙ sym (nonleaf_yes firsts j (sym c.is_nonleaf.ensures ∙ w.if-is_nonleaf.true))), omega (arith, w.count-is, le))
      | else-is_nonleaf w ↦ (w.count-is ∙ (is ∙ sym (nonleaf_no firsts j (sym c.is_nonleaf.ensures ∙ w.if-is_nonleaf.false))), omega (arith, w.count-is, le))
    ]
