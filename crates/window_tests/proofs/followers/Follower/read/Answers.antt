use Rattle.std.proofs.Common.{◌∙◌, sym, subst}
use Rattle.stamped_read.specs.Promises.{ReadsFor}
use Rattle.window_tests.specs.declared.tiny.Tiny.{Tiny}
use Rattle.window_tests.specs.Phases.{entry_of}
use Rattle.window_tests.proofs.Following.{read_stays, still_runs}
use Rattle.window_tests.proofs.followers.Follower.read.Goals as goal

pub invariant_of-self : goal.invariant_of-self
invariant_of-self c = (
  subst (λ (x : Tiny). ReadsFor (entry_of x) (λ w. x.width) x.windows c.step.new.board.2 c.step.new.self) (sym c.step.ensures.same) c.step.ensures.reads,
  c.step.ensures.group.1 ∙ c.self.invariant.1,
  λ runs. still_runs c.self.inside.seat.2 c.step.new.board.2 (read_stays c.self.inside.seat.1.leaders c.step.ensures.made.0 c.self.inside.reader c.self.inside.seat.2 c.step.new.board.2 c.step.ensures.made.1.knows) (c.self.invariant.2 runs),
)
