-- What the windows of a run mean is fixed by the run, and a run that has a put has points.

use Rattle.std.proofs.Common.{sym, ap, ◌∙◌, ◌≡◌, ◌+◌}
use mathlib.Core.HLevel.{is_prop→PathP}
use Rattle.std.proofs.Math.Bridge.{le_prop}
use Rattle.std.proofs.Math.Nat.{ℕ_set}
use Rattle.hub_cylinder.specs.Hubs.{IsHub}
use Rattle.hub_cylinder.specs.declared.hub.Hub.{Hub}
use Rattle.hedging.specs.Hedges.{made_of}
use Rattle.put_codec.specs.Entries.{MeansRun}
use Rattle.put_codec.specs.Layouts.{layout_in}
use Rattle.put_codec.specs.declared.run_meaning.RunMeaning.{RunMeaning}
use Rattle.put_words.proofs.Unpriced.{put_points}
use Rattle.run_log.specs.Events.{present}
use Rattle.sp_model.specs.Problems.{scenarios}
use Rattle.sp_model.specs.ScenarioPoints.{HavePoints}
use Rattle.sp_model.specs.declared.run.Run.{Run}

-- the layout that a run's meaning keeps
pub layout_of_run : (m : RunMeaning) (run : Run) → m.run.value ≡ run → m.layout ≡ layout_in run
layout_of_run m run e = m.facts.layout_is ∙ ap layout_in e

module _ (m n : RunMeaning) (e : m.run.value ≡ n.run.value) where
  layouts : m.layout ≡ n.layout
  layouts = m.facts.layout_is ∙ (ap layout_in e ∙ sym n.facts.layout_is)

  mosts : m.most ≡ n.most
  mosts = m.facts.most_is ∙ (ap (λ (r : Run). r.options.iterations + 1) e ∙ sym n.facts.most_is)

  pub one_meaning : m ≡ n
  one_meaning = λ i. record {
    layout = layouts i;
    most = mosts i;
    run = record { marker = m.run.marker; value = e i };
    facts = is_prop→PathP (λ j. MeansRun (e j) (layouts j) (mosts j)) (λ j. hlevel (le_prop, ℕ_set)) m.facts n.facts i;
  }

-- a hub has made a put
pub hub_points : (run : Run) (hub : Hub) → IsHub run hub → HavePoints run (scenarios run)
hub_points run hub is = put_points run (present hub.events.items) (made_of hub.hedge) is.put
