use Rattle.std.proofs.Common.{◌∙◌}
use Rattle.window_tests.proofs.Ranking.{fresh_seats}
use Rattle.window_tests.proofs.crew.Crew.new.Goals as goal

pub take_all-requires : goal.take_all-requires
take_all-requires c = record {
  seats = fresh_seats c.args.board.now.0 c.args.board.now.1 c.args.meaning.now _ c.requires.same (c.into_vec.ensures ∙ c.in_ok-seats.ensures);
  leads = c.requires.leads;
  small = c.requires.small;
}
