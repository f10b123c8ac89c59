use Rattle.std.proofs.Common.{sym, subst}
use Rattle.plain_board.specs.Plain.{PlainValue, selected}
use Rattle.window_tests.specs.declared.tiny.Tiny.{Tiny}
use Rattle.window_tests.specs.Ranks.{IsRunning}
use Rattle.window_tests.proofs.stops.stop_hub.Goals as goal

pub stop-requires : goal.stop-requires
stop-requires c =
    let runs = subst (λ (z : PlainValue Tiny). IsRunning (selected z)) (sym c.select.ensures) c.requires.runs in
    record { hub = runs.0; once = runs.1; last = c.requires.last }
