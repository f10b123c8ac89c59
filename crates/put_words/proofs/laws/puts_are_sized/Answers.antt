use Rattle.put_words.proofs.Rises.{put_sized}
use Rattle.put_words.proofs.laws.puts_are_sized.Goals as goal

pub returns : goal.returns
returns c = put_sized
