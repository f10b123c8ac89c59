use Rattle.std.proofs.Common.{refl}
use Rattle.window_words.specs.Views.{one}
use Rattle.plain_board.specs.Tracks.{items_of}
use Rattle.plain_board.proofs.Opening.{owner_roomy}
use Rattle.plain_board.proofs.fresh.owner_seat.Goals as goal

pub returns : goal.returns
returns c = record {
  view = λ i. record (c.in_ok-seat.ensures.view i) { owned = one c.args.window (items_of (c.in_ok-seat.ensures.closed i)) };
  room = owner_roomy c.args.sizes.leaders c.args.sizes.windows c.args.sizes.widest c.args.sizes.most _ _ c.in_ok-seat.ensures.room c.in_ok-seat.ensures.closed refl refl refl;
}
