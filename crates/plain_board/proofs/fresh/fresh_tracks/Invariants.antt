use Rattle.std.proofs.Common.{◌≡◌, map}
use Rattle.std.specs.List.{range_with_len}
use Rattle.plain_board.specs.Fresh.{fresh_track}
use Rattle.plain_board.proofs.fresh.fresh_tracks.Given as goal

abbrev pub invariant-loop-window : goal.invariant-loop-window
invariant-loop-window l = l.tracks.items ≡ map (fresh_track l.sizes.leaders l.sizes.most) (range_with_len 0 l.window)
