use Rattle.std.proofs.Common.{false, refl}
use Rattle.schedule_core.proofs.FreshDriver.{IsMade, made_driver, made_world}
use Rattle.schedule_core.proofs.OneMeaning.{hub_points}
use Rattle.schedule_core.proofs.driver.Driver.new.Goals as goal

pub meaning-of-requires : goal.meaning-of-requires
meaning-of-requires c = hub_points c.args.run.now c.args.hub c.requires.hub

pub meaning-requires : goal.meaning-requires
meaning-requires c = hub_points c.args.run.now c.args.hub c.requires.hub

made : (c : goal.In_ok-polls) → IsMade c.args.run.now c.meaning.result record {
  of = c.meaning-of.result;
  board = c.in_ok-board.board;
  hub = c.args.hub;
  ranks = c.in_ok-ranks.ranks;
  spokes = c.in_ok-spokes.spokes;
  polls = c.in_ok-polls.polls;
  asks = 0;
  is_stopped = false;
}
made c = record {
  hub = c.requires.hub;
  fresh = c.requires.fresh;
  of = c.meaning-of.ensures;
  meaning = c.meaning.ensures;
  board = c.in_ok-board.ensures;
  ranks = c.in_ok-ranks.ensures;
  spokes = c.in_ok-spokes.ensures;
  polls = c.in_ok-polls.ensures;
  asks = refl;
  going = refl;
}

pub returns-clause-driver : goal.returns-clause-driver
returns-clause-driver c = made_driver c.args.run.now c.meaning.result _ (made c)

pub returns-clause-first : goal.returns-clause-first
returns-clause-first c = made_world c.args.run.now c.meaning.result _ (made c)
