-- Which replies of a run were taken, as marks: one for each spoke and each put number from 0.

use Rattle.std.specs.Prelude.{◌≡◌, ℕ, ◌+◌, ◌*◌, ◌<◌, ◌≤◌, nat_eq, Bool, false, ◌&&◌, ◌||◌, List, length, slice_index_or}
use Rattle.sp_model.specs.declared.run.Run.{Run}
use Rattle.run_log.specs.Events.{is_taken}
use Rattle.run_log.specs.declared.log.Event.{Event}

-- how many puts a run makes at most, and how many spokes it has
abbrev pub puts_of : Run → ℕ
puts_of run = run.options.iterations + 1

abbrev pub spokes_of : Run → ℕ
spokes_of run = run.options.lagrangian

-- the mark of spoke i's reply to put k
abbrev pub mark_of : ℕ → List Bool → ℕ → ℕ → Bool
mark_of most marks i k = slice_index_or marks (i * (most + 1) + k) false

-- one mark more
pub record Marks (old new : List Bool) (most i k : ℕ) : Type 0 where
  pub long : length new ≡ length old
  pub each : (j m : ℕ) → m ≤ most
      → mark_of most new j m ≡ (mark_of most old j m || (nat_eq i j && nat_eq k m))

-- the replies that were taken are marked
pub record AreMarked (run : Run) (most : ℕ) (marks : List Bool) (events : List Event) : Type 0 where
  pub long : length marks ≡ spokes_of run * (most + 1)
  pub each : (i k : ℕ) → i < spokes_of run → k ≤ most
      → mark_of most marks i k ≡ is_taken events i k
