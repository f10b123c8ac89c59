use Rattle.put_words.proofs.Unpriced.{put_points}
use Rattle.put_words.proofs.laws.puts_need_points.Goals as goal

pub returns : goal.returns
returns c = put_points
