use Rattle.board_tests.proofs.Placing.{fresh_rank, rank_there}
use Rattle.board_tests.proofs.actors.rank_at.Goals as goal

pub new-writer-requires : goal.new-writer-requires
new-writer-requires c = rank_there c.args.given.now c.requires.given c.args.place c.requires.first c.requires.last

pub returns : goal.returns
returns c = fresh_rank c.args.given.now c.requires.given c.args.place c.new-writer.result c.requires.first c.requires.last c.new-writer.ensures.fresh
