use Rattle.run_log.proofs.Enclosing.{last_is, lower_is, multipliers_prove, optimum_is, plan_is, told_is, upper_is}
use Rattle.run_log.proofs.laws.runs_enclose.Goals as goal

pub returns-clause-lower : goal.returns-clause-lower
returns-clause-lower c = λ run log n is. lower_is c.puts_are_there.ensures c.puts_are_balanced.ensures.puts run log is n

pub returns-clause-upper : goal.returns-clause-upper
returns-clause-upper c = λ run log n is. upper_is c.puts_are_there.ensures c.puts_are_balanced.ensures.puts run log is n

pub returns-clause-told : goal.returns-clause-told
returns-clause-told c = λ run log is. told_is c.puts_are_there.ensures c.puts_are_balanced.ensures.puts run log is

pub returns-clause-multipliers : goal.returns-clause-multipliers
returns-clause-multipliers c = λ run log is. multipliers_prove c.puts_are_there.ensures c.puts_are_balanced.ensures.puts run log is

pub returns-clause-plan : goal.returns-clause-plan
returns-clause-plan c = λ run log is. plan_is c.puts_are_there.ensures c.puts_are_balanced.ensures.puts run log is

pub returns-clause-last : goal.returns-clause-last
returns-clause-last c = λ run log is. last_is c.puts_are_there.ensures c.puts_are_balanced.ensures.puts run log is

pub returns-clause-optimum : goal.returns-clause-optimum
returns-clause-optimum c = λ run log cost is best. optimum_is c.puts_are_there.ensures c.puts_are_balanced.ensures.puts run log is cost best
