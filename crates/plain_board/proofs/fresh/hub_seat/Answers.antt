use Rattle.std.proofs.Common.{ap, true}
use Rattle.window_words.specs.declared.views.View.{View}
use Rattle.plain_board.proofs.fresh.hub_seat.Goals as goal

pub returns : goal.returns
returns c = record {
  view = ap (λ (v : View). record v { hub = true; dealt = c.args.sizes.windows }) c.in_ok-seat.ensures.view;
  room = record { closed = c.in_ok-seat.ensures.room.closed; words = c.in_ok-seat.ensures.room.words; accepted = c.in_ok-seat.ensures.room.accepted };
}
