use Rattle.std.proofs.Common.{sym}
use Rattle.schedule_lines.proofs.Within.{counted_more}
use Rattle.schedule_lines.proofs.reading.Reading.add_word.Goals as goal

pub returns-clause-counted : goal.returns-clause-counted
returns-clause-counted c =
    counted_more c.args.crew c.args.self.now.turns c.push.new.self c.args.self.now.total c.from.result c.args.word.now c.in-Ok.turn
    c.requires.total (sym c.in-Ok.ensures) c.in-Ok-push.ensures.ok c.from.ensures
