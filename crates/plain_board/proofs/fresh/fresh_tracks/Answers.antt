use Rattle.plain_board.proofs.Opening.{tracks_more}
use Rattle.plain_board.proofs.fresh.fresh_tracks.Goals as goal

pub loop-window-preserved : goal.loop-window-preserved
loop-window-preserved c = tracks_more c.args.sizes.leaders c.args.sizes.most c.loop-window.window c.loop-window.tracks.items _ _ _ c.loop-window.invariant c.accepted_room.ensures c.in_ok-track.ensures c.in_ok-push.ensures.items
