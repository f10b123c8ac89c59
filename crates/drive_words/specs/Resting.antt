-- When no actor has a step.

use Rattle.std.specs.Prelude.{◌≡◌, ◌≢◌, ℕ, ◌<◌, length, true, None}
use Rattle.lagrangian_spoke.specs.declared.spoke.Phase.TheVariants.{Ended}
use Rattle.drive_words.specs.Worlds.{World, is_written, put_at, spoke_at}

-- the run has ended and the hub has stopped, the last put stands whole in all windows, and all spokes
-- have ended
pub record IsAtRest (w : World) : Type 0 where
  pub why : w.hub.why ≢ None
  pub stopped : w.hub.stopped ≡ true
  pub written : is_written w.ranks (put_at w) ≡ true
  pub spokes : (i : ℕ) → i < length w.spokes → (spoke_at w i).phase ≡ Ended
