-- A board with ranks that write puts, a spoke and a reader, between two steps.

use Rattle.std.specs.Prelude.{◌≡◌, ℕ, ◌+◌, ◌<◌, ◌≤◌, Bool, true, false, List, length, All, slice_index}
use Rattle.plain_board.specs.Plain.{PlainValue}
use Rattle.sp_model.specs.declared.run.Run.{Run}
use Rattle.run_calls.specs.declared.put.Put.{Put}
use Rattle.put_codec.specs.Layouts.{layout_in, width_of}
use Rattle.put_codec.specs.declared.run_meaning.RunMeaning.{RunMeaning}
use Rattle.put_read.specs.Reads.{ReadsPuts}
use Rattle.put_read.specs.SpokeReads.{ReadsSpoke}
use Rattle.put_read.specs.declared.reader.PutReader.{PutReader}
use Rattle.put_read.specs.declared.spokes.SpokeReader.{SpokeReader}
use Rattle.lagrangian_spoke.specs.Spokes.{IsPutOf, StandsFor}
use Rattle.lagrangian_spoke.specs.declared.spoke.LagrangianSpoke.{LagrangianSpoke}
use Rattle.spoke_tests.specs.Seats.{IsBoard, WritesAt, viewed}
use Rattle.spoke_tests.specs.declared.bench.Bench.{Bench}

-- each rank has made so many steps of the put that it writes next; the first spoke's seat stands
-- for the spoke, at the second's the reader of puts reads, and at the third's that of replies; the
-- hub stops once
pub record AreSeated (run : Run) (b : PlainValue RunMeaning) (s : LagrangianSpoke) (r : PutReader)
    (p : SpokeReader) (all : List Put) (nexts steps : List ℕ) (stopped : Bool) : Type 0 where
  pub board : IsBoard run b
  pub ranks : run.options.ranks ≤ 2
  pub spokes : 3 ≤ run.options.lagrangian
  pub puts : All (IsPutOf run) all
  pub two : (length nexts ≡ 2) × (length steps ≡ 2)
  pub made : (w : ℕ) → w < run.options.ranks
      → slice_index steps w < width_of (layout_in run) w + 2
  pub writes : (w : ℕ) → w < run.options.ranks
      → WritesAt (width_of (layout_in run) w) w (slice_index nexts w) (slice_index steps w)
      (viewed b (w + 1))
  pub spoke : StandsFor run (viewed b (run.options.ranks + 1)) s
  pub reader : ReadsPuts run (viewed b (run.options.ranks + 2)) r
  pub poll : ReadsSpoke run (viewed b (run.options.ranks + 3)) p
  pub hub : (viewed b 0).hub ≡ true
  pub free : stopped ≡ false → (viewed b 0).stopped ≡ 0

abbrev pub IsBench : Run → Bench → Type 0
IsBench run a =
    AreSeated run a.board a.spoke a.reader a.poll a.puts a.nexts a.steps a.is_stopped
