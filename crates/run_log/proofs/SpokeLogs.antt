-- What a spoke leaves that has finished is a spoke's log of the run.
use Rattle.std.proofs.Common.{ap, ◌∙◌, subst, sym, ℕ, List}
use Rattle.log_words.specs.declared.log.Answer.{Answer}
use Rattle.log_words.specs.declared.log.SpokeEnd.{SpokeEnd}
use Rattle.sp_model.specs.declared.run.Run.{Run}
use Rattle.lagrangian_spoke.specs.Answering.{AreAnswers, last_put}
use Rattle.lagrangian_spoke.specs.Spokes.{BacksBest, HasFinished, IsEnd}
use Rattle.lagrangian_spoke.specs.declared.spoke.LagrangianSpoke.{LagrangianSpoke}
use Rattle.lagrangian_spoke.proofs.FirstBest.{left_backs}
use Rattle.run_log.specs.Runs.{IsSpokeLog}

pub leaves_log : (run : Run) (s ended : LagrangianSpoke) (p : ℕ) (left : SpokeEnd) → HasFinished run s ended p → IsEnd ended left → IsSpokeLog run p s.number left.log
leaves_log run s ended p left h is = record {
  kind = is.kind;
  answers = subst (λ (z : ℕ × List Answer). AreAnswers run z.0 z.1) (λ i. (h.number i, sym is.answers i)) h.spoke.answers;
  last = ap last_put is.answers ∙ h.last;
}

pub leaves_best : (run : Run) (s ended : LagrangianSpoke) (p : ℕ) (left : SpokeEnd) → HasFinished run s ended p → IsEnd ended left → BacksBest run left.log.answers left.best
leaves_best run s ended p left h is = left_backs run ended left h.spoke is
