use Rattle.std.proofs.Common.{length, sym, ◌∙◌}
use Rattle.smps_stoch.proofs.Entries.{so_far_long}
use Rattle.smps_stoch.proofs.elements.filled_elements.Goals as goal

pub add_realisation-requires-clause-each : goal.add_realisation-requires-clause-each
add_realisation-requires-clause-each c =
    so_far_long c.loop-draft.elements.items c.args.periods.now c.args.places.now c.loop-draft.yielded (length c.args.periods.now) c.loop-draft.invariant ∙ sym c.requires.each

pub loop-draft-preserved : goal.loop-draft-preserved
loop-draft-preserved c =
    c.in_ok-add_realisation.ensures c.args.periods.now c.loop-draft.yielded (length c.args.periods.now) c.loop-draft.invariant
