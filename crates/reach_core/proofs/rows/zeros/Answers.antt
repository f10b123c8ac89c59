use Rattle.std.proofs.Common.{refl}
use Rattle.base_words.proofs.Made.{map_next}
use Rattle.reach_core.proofs.rows.zeros.Goals as goal

pub loop-i-preserved : goal.loop-i-preserved
loop-i-preserved c = map_next (λ i. 0) c.loop-i._i c.loop-i.zeros.items c.push.new.self.items 0 c.in_ok-push.ensures.items refl c.loop-i.invariant
