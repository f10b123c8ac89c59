use Rattle.plain_board.specs.Fresh.{IsWidest}
use Rattle.plain_board.proofs.fresh.widest_of.Given as goal

abbrev pub invariant-loop-window : goal.invariant-loop-window
invariant-loop-window g l = IsWidest (g.M.Meaning.wide l.of) l.window l.widest
