use Rattle.std.proofs.Common.{refl}
use Rattle.window_tests.proofs.Phasing.{reads_here, reads_there, stays}
use Rattle.window_tests.proofs.phases.read_step.Goals as goal

pub step-requires : goal.step-requires
step-requires c = reads_here c.args.board.now c.select.new.self _ c.select.ensures c.args.reader.now refl c.requires

pub returns : goal.returns
returns c = record {
  reads = reads_there c.args.board.now c.select.new.self c.step.new.board _ c.select.ensures _ _ c.step.ensures.made.1.leaves_it.1 _ refl c.step.ensures.reads;
  stays = stays c.args.board.now c.select.new.self c.step.new.board _ c.select.ensures _ _ c.step.ensures.made.1.leaves_it.1;
  group = c.step.ensures.group;
}
