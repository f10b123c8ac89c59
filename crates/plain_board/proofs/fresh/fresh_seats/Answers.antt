use Rattle.plain_board.proofs.Opening.{rooms_more, rooms_one, views_more, views_one}
use Rattle.plain_board.proofs.fresh.fresh_seats.Goals as goal

pub loop-window-init : goal.loop-window-init
loop-window-init c = record {
  views = views_one c.args.sizes.windows _ _ c.in_ok-hub.hub c.new-seats.ensures.items c.in_ok-push.ensures.items c.in_ok-hub.ensures.view;
  room = rooms_one c.args.sizes.leaders c.args.sizes.windows c.args.sizes.widest c.args.sizes.most _ _ c.in_ok-hub.hub c.new-seats.ensures.items c.in_ok-push.ensures.items c.in_ok-hub.ensures.room;
}

pub loop-window-preserved : goal.loop-window-preserved
loop-window-preserved c = record {
  views = views_more c.args.sizes.windows c.loop-window.window c.loop-window.seats.items _ c.in_ok-owner.owner c.loop-window.invariant.views c.in_ok-owner.ensures.view c.in_ok-push-2.ensures.items;
  room = rooms_more c.args.sizes.leaders c.args.sizes.windows c.args.sizes.widest c.args.sizes.most c.loop-window.seats.items _ c.in_ok-owner.owner c.loop-window.invariant.room c.in_ok-owner.ensures.room c.in_ok-push-2.ensures.items;
}
