use Rattle.sp_model.specs.Plans.{AreBalanced}
use Rattle.put_words.proofs.Inside.{each_put}
use Rattle.put_words.proofs.Moves.{next_balanced, nothing_balanced}
use Rattle.put_words.proofs.laws.puts_are_balanced.Goals as goal

pub returns-clause-step : goal.returns-clause-step
returns-clause-step c = next_balanced

pub returns-clause-puts : goal.returns-clause-puts
returns-clause-puts c = λ run k made e. each_put run (λ n multipliers. AreBalanced run multipliers) (nothing_balanced run) (λ n multipliers x inside old. next_balanced run multipliers x old) k made e
