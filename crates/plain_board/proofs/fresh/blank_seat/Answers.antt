use Rattle.std.proofs.Common.{[], false, refl}
use Rattle.std.specs.Prelude.{None}
use Rattle.plain_board.proofs.Opening.{blank_accepts, blank_roomy}
use Rattle.plain_board.proofs.fresh.blank_seat.Goals as goal

pub returns-clause-view : goal.returns-clause-view
returns-clause-view c = λ i. record { hub = false; dealt = 0; owned = []; pending = None; reading = None; accepted = blank_accepts c.args.sizes.leaders c.args.sizes.most c.args.sizes.windows _ c.in_ok-accepted.ensures i; stopped = 0 }

pub returns-clause-room : goal.returns-clause-room
returns-clause-room c = blank_roomy c.args.sizes.leaders c.args.sizes.most c.args.sizes.windows c.args.sizes.widest _ refl c.in_ok-words.ensures c.in_ok-accepted.ensures
