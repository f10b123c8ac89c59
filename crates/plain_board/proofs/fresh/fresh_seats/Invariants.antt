use Rattle.std.proofs.Common.{◌≡◌, ◌∷◌, map}
use Rattle.std.specs.Prelude.{All}
use Rattle.std.specs.List.{range_with_len}
use Rattle.plain_board.specs.Seats.{shown, IsRoomy}
use Rattle.plain_board.specs.Plain.{hub_view, owner_view}
use Rattle.plain_board.proofs.fresh.fresh_seats.Given as goal

abbrev pub invariant-loop-window : goal.invariant-loop-window
invariant-loop-window l = record {
  views : map shown l.seats.items ≡ hub_view l.sizes.windows ∷ map (owner_view l.sizes.windows) (range_with_len 0 l.window);
  room : All (IsRoomy l.sizes.leaders l.sizes.windows l.sizes.widest l.sizes.most) l.seats.items;
}
