use Rattle.std.proofs.Common.{arith, refl, ◌<◌, ap, length}
use Rattle.scenario_lists.proofs.Marks.{mark_next, some_choice}
use Rattle.scenario_lists.proofs.marking.mark.Goals as goal

pub loop-k-init : goal.loop-k-init
loop-k-init c =
    record { mark_is = refl; room = omega arith; some = some_choice c.args.elements.now c.args.choices.now c.requires.choices }

pub loop-k-preserved : goal.loop-k-preserved
loop-k-preserved c =
    let inv = c.loop-k.invariant in
    let lt : c.loop-k.k < length c.args.elements.now = omega arith in
    mark_next c.args.elements.now c.args.choices.now c.args.stage c.loop-k.k c.loop-k.mark (length c.realisations_at.result.now) c.choice_until.result lt c.requires.choices (ap length c.realisations_at.ensures) c.choice_until.ensures inv.mark_is inv.room inv.some
