use Rattle.std.proofs.Common.{ap, sym, true≢false}
use Rattle.window_words.specs.declared.views.View.{View}
use Rattle.window_tests.proofs.Following.{reads_still}
use Rattle.window_tests.proofs.followers.Follower.stop.Goals as goal

pub invariant_of-self : goal.invariant_of-self
invariant_of-self c = (
  reads_still c.self.inside.seat c.stop.new.self c.self.inside.reader c.stop.ensures.same (ap (λ (v : View). v.reading) c.stop.ensures.view) c.self.invariant.0,
  c.self.invariant.1,
  λ runs. absurd (true≢false (sym runs)),
)
