-- What holds behind a rank's call, by whether the present put stands in all windows then.

use Rattle.std.proofs.Common.{sym, ap, ◌∙◌, ◌≡◌, ℕ, ◌+◌, ◌<◌, Bool, true, false, List, get_or, set, Vec, Global}
use Rattle.std.specs.Prelude.{slice_get, Some}
use Rattle.drive_words.specs.Worlds.{is_written, rank_at}
use Rattle.hub_cylinder.specs.Hubs.{IsHub}
use Rattle.hub_cylinder.specs.declared.hub.Hub.{Hub}
use Rattle.put_codec.specs.Layouts.{layout_in}
use Rattle.rank_writer.specs.declared.writer.RankWriter.{RankWriter}
use Rattle.run_calls.specs.declared.put.Put.{Put}
use Rattle.sp_model.specs.declared.run.Run.{Run}
use Rattle.schedule_core.specs.Drivers.{IsDriver, put_in}
use Rattle.schedule_core.specs.Seats.{Boards, RankCalls}
use Rattle.schedule_core.specs.declared.driver.Driver.{Driver}
use Rattle.schedule_core.proofs.RankAsks.{calls_now, late_there, rank_found}
use Rattle.schedule_core.proofs.Ranking.{not_wrote, rank_keeps, told_keeps}

module _ (run : Run) (d : Driver) (is : IsDriver run d) (i : ℕ) (there : i < run.options.ranks) (w : RankWriter) (found : w ≡ get_or d.ranks.items i w) (late : (rank_at d.ranks.items i).last < put_in d)
    (b' : Boards) (w' : RankWriter) (calls : RankCalls d.of.layout d.board b' (i + 1) d.hub.hedge.put.number w w') (v : Vec RankWriter Global) (items : v.items ≡ set d.ranks.items i w')
    (t : Bool) (xs : List RankWriter) (p : Put) (asked : t ≡ is_written xs p.number) (xs_is : xs ≡ v.items) (p_is : p ≡ d.hub.hedge.put) where
  at : slice_get d.ranks.items i ≡ Some w
  at = rank_found run d is i there w found

  behind : w.last < put_in d
  behind = late_there run d is i there w found late

  made : RankCalls (layout_in run) d.board b' (i + 1) (put_in d) w w'
  made = calls_now run d is i there w found b' w' calls

  written : t ≡ is_written v.items (put_in d)
  written = asked ∙ (λ j. is_written (xs_is j) ((ap (λ (q : Put). q.number) p_is ∙ is.hub.number) j))

  pub call_keeps : t ≡ false → IsDriver run (record d { board = b'; ranks = v })
  call_keeps off = rank_keeps run d is i w at behind w' b' made v items d.hub.wrote (not_wrote run d is i w at behind ∙ (sym off ∙ written)) is.hub

  pub told_call_keeps : t ≡ true → (hub : Hub) → hub ≡ record d.hub { wrote = true } → IsHub d.hub.run.value hub → IsDriver run (record d { board = b'; ranks = v; hub = hub })
  told_call_keeps on hub same = told_keeps run d is i w at behind w' b' made v items hub same (sym on ∙ written)
