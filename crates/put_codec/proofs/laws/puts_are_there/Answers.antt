use Rattle.put_codec.proofs.Existing.{put_there}
use Rattle.put_codec.proofs.laws.puts_are_there.Goals as goal

pub returns : goal.returns
returns c = put_there
