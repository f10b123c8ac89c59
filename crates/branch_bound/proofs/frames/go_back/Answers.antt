use Rattle.branch_bound.proofs.FrameLaws.{remarked}
use Rattle.branch_bound.proofs.frames.go_back.Goals as goal

pub returns-clause-marks : goal.returns-clause-marks
returns-clause-marks c =
    remarked c.args.trail.now c.undo.new.self c.mark.new.self c.args.mark c.in_ok-mark.field-0 c.undo.ensures.earlier c.undo.ensures.count c.undo.ensures.sides c.in_ok-mark.ensures.earlier c.in_ok-mark.ensures.number c.in_ok-mark.ensures.remembers c.in_ok-mark.ensures.count
