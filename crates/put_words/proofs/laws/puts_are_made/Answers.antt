use Rattle.put_words.proofs.Inside.{put_inside, put_long, put_number}
use Rattle.put_words.proofs.laws.puts_are_made.Goals as goal

pub returns-clause-number : goal.returns-clause-number
returns-clause-number c = put_number

pub returns-clause-long : goal.returns-clause-long
returns-clause-long c = put_long

pub returns-clause-inside : goal.returns-clause-inside
returns-clause-inside c = put_inside
