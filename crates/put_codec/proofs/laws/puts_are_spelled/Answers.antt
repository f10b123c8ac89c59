use Rattle.put_codec.proofs.Spellable.{put_fits, put_spelled}
use Rattle.put_codec.proofs.laws.puts_are_spelled.Goals as goal

pub returns-clause-lists : goal.returns-clause-lists
returns-clause-lists c = put_fits

pub returns-clause-spelled : goal.returns-clause-spelled
returns-clause-spelled c = put_spelled
