use Rattle.std.proofs.Common.{ap, sym, subst}
use Rattle.window_words.specs.declared.views.View.{View}
use Rattle.window_tests.specs.Ranks.{IsRunning}
use Rattle.window_tests.proofs.Following.{reads_still}
use Rattle.window_tests.proofs.followers.Follower.stopped.Goals as goal

pub invariant_of-self : goal.invariant_of-self
invariant_of-self c = (
  reads_still c.self.inside.seat c.stopped.new.self c.self.inside.reader c.stopped.ensures.same (ap (λ (v : View). v.reading) c.stopped.ensures.view) c.self.invariant.0,
  c.self.invariant.1,
  λ runs. subst IsRunning (sym c.stopped.ensures.view) (c.self.invariant.2 runs),
)
