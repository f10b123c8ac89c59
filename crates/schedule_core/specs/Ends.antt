-- What the spokes of a run leave that have ended.

use Rattle.std.specs.Prelude.{◌≡◌, ◌≤◌, ℕ}
use Rattle.lagrangian_spoke.specs.Answering.{last_put}
use Rattle.lagrangian_spoke.specs.Spokes.{HasFinished, IsEnd, IsSpoke}
use Rattle.lagrangian_spoke.specs.declared.spoke.LagrangianSpoke.{LagrangianSpoke}
use Rattle.lagrangian_spoke.specs.declared.spoke.Phase.TheVariants.{Ended}
use Rattle.log_words.specs.declared.log.SpokeEnd.{SpokeEnd}
use Rattle.sp_model.specs.declared.run.Run.{Run}

-- a spoke that has ended, and may answer put k
pub record MayFinish (run : Run) (k : ℕ) (s : LagrangianSpoke) : Type 0 where
  pub ended : s.phase ≡ Ended
  pub spoke : IsSpoke run s
  pub newer : last_put s.answers.items ≤ k

-- what it leaves, once it has answered put k
pub record IsLeft (run : Run) (k : ℕ) (s : LagrangianSpoke) (end : SpokeEnd) : Type 0 where
  pub finished : LagrangianSpoke
  pub finishes : HasFinished run s finished k
  pub leaves : IsEnd finished end
