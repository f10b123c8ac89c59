use Rattle.std.proofs.Common.{arith}
use Rattle.window_tests.proofs.Following.{fresh_runs}
use Rattle.window_tests.proofs.Ranking.{reads_leaders, seat_ranks, seat_reads}
use Rattle.window_tests.proofs.crew.Crew.take.Goals as goal

pub new-rank-requires : goal.new-rank-requires
new-rank-requires c = seat_ranks c.args.seat c.args.meaning.now c.args.place c.requires.seat (omega arith) (omega arith) c.requires.small

pub new-follower-requires : goal.new-follower-requires
new-follower-requires c = record {
  reads = seat_reads c.args.seat c.args.meaning.now c.args.place _ c.requires.seat c.in_ok-reader.ensures.reads;
  ranks = reads_leaders c.args.meaning.now _ c.in_ok-reader.ensures.fresh;
}

pub at_hub-follower-requires : goal.at_hub-follower-requires
at_hub-follower-requires c = record {
  reads = seat_reads c.args.seat c.args.meaning.now c.args.place _ c.requires.seat c.in_ok-reader.ensures.reads;
  ranks = reads_leaders c.args.meaning.now _ c.in_ok-reader.ensures.fresh;
  runs = fresh_runs c.args.seat c.args.meaning.now c.args.place c.requires.seat (omega arith);
}
