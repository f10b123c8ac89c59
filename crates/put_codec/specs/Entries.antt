-- The words of the entries of a run's windows: a rank's part of each put, and a spoke's reply to
-- it.

use Rattle.std.specs.Prelude.{◌≡◌, ◌≢◌, ℕ, ◌+◌, ◌-◌, ◌^◌, ◌<◌, ◌≤◌, nat_lt, List, [], length, FitsSigned, None, if◌then◌else◌}
use Rattle.std.specs.Int.{w128}
use Rattle.std.specs.Option.{option_map_or}
use Rattle.base_words.specs.Gathered.{gathered}
use Rattle.base_words.specs.Sums.{number_at}
use Rattle.word_codec.specs.Spelling.{IsValue, cell_words, reply_words}
use Rattle.window_words.specs.Conditions.{AreEntriesWide}
use Rattle.sp_model.specs.declared.run.Run.{Run}
use Rattle.run_calls.specs.declared.put.Put.{Put}
use Rattle.put_words.specs.Puts.{Made, put_of}
use Rattle.log_words.specs.Replies.{reply_of}
use Rattle.put_codec.specs.declared.layout.Layout.{Layout}
use Rattle.put_codec.specs.Layouts.{all_cells, cells_of, layout_in, start_of, width_of, windows_of}

-- the words of the cell at a place of a put: its multiplier and its value
abbrev pub words_at : Put → ℕ → List ℕ
words_at put place = cell_words (number_at put.multipliers.values place) (number_at put.x place)

-- the words of rank i's part of a put, cell after cell
abbrev pub part_words : Layout → ℕ → Put → List ℕ
part_words layout i put = gathered (cells_of layout i) (λ c. words_at put (start_of layout i + c))

-- the lists of a put have the layout's lengths
pub record FitsLayout (layout : Layout) (put : Put) : Type 0 where
  pub multipliers : length put.multipliers.values ≡ all_cells layout
  pub x : length put.x ≡ all_cells layout

-- the words of rank i's part of put k
abbrev pub part_of : Run → ℕ → ℕ → List ℕ
part_of run i k =
    option_map_or (λ (made : Made). part_words (layout_in run) i made.put) (put_of run k) []

-- the words of entry k of window w: of a rank's its part of put k, of a spoke's its reply to put k
unfoldable pub entry_of : Run → ℕ → ℕ → List ℕ
entry_of run w k = if nat_lt w run.options.ranks then part_of run w k
    else reply_words (reply_of run (w - run.options.ranks) k)

-- what the meaning of a run's windows keeps: their layout, and the number of the last put that the
-- run may make; each put is there, and each entry has the width of its window
pub record MeansRun (run : Run) (layout : Layout) (most : ℕ) : Type 0 where
  pub layout_is : layout ≡ layout_in run
  pub most_is : most ≡ run.options.iterations + 1
  pub there : (k : ℕ) → 1 ≤ k → put_of run k ≢ None
  pub wide : AreEntriesWide (entry_of run) (width_of layout) (windows_of layout) most
  pub few : most < 2 ^ 62
  pub led : layout.ranks ≤ windows_of layout

-- the cells of a put can be spelled: each multiplier fits 128 bits, and each value is one that a
-- nonleaf column may have
pub record IsSpelled (put : Put) : Type 0 where
  pub multipliers : (c : ℕ) → FitsSigned w128 (number_at put.multipliers.values c)
  pub x : (c : ℕ) → IsValue (number_at put.x c)

-- before place n a put has the cells of another
pub record AgreeBelow (n : ℕ) (put given : Put) : Type 0 where
  pub multipliers : (c : ℕ) → c < n
      → number_at put.multipliers.values c ≡ number_at given.multipliers.values c
  pub x : (c : ℕ) → c < n → number_at put.x c ≡ number_at given.x c
