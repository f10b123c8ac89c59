-- The greatest costs and rows among the data of a core and of its scenarios.
use Rattle.std.specs.Prelude.{◌≡◌, ℕ, ◌+◌, ◌*◌, List, length, map, slice_index, slice_set, unsigned_abs}
use Rattle.std.specs.List.{range_with_len, sum_by}
use Rattle.base_words.specs.Sums.{number_at}
use Rattle.boxed_problem.specs.BoxedFacts.{entry_size}
use Rattle.boxed_problem.specs.declared.parts.Entry.{Entry}
use Rattle.capped_num.specs.Capped.{capped}
use Rattle.sp_model.specs.Changes.{Data, sides}
use Rattle.sp_model.specs.Reaching.{box_reach, data_reach, greatest}
use Rattle.sp_model.specs.declared.program.Program.{Program}
use Rattle.reach_core.specs.declared.greatest.Greatest.{Greatest}

-- the magnitude of column j's cost in some data
abbrev pub cost_size : ℕ → Data → ℕ
cost_size j d = unsigned_abs (number_at d.costs j)

-- the greatest magnitude of each column's cost among some data
abbrev pub tops_of : ℕ → List Data → List ℕ
tops_of n ds = map (λ j. greatest (map (cost_size j) ds)) (range_with_len 0 n)

-- the parts of some entries in each row, up to the cap
abbrev pub sums_of : Program → List Entry → List ℕ
sums_of program entries = map (λ i. capped (sum_by (entry_size (sides program) i) entries))
    (range_with_len 0 (length program.rows))

-- one more entry's part in its row
abbrev pub with_part : Program → List ℕ → Entry → List ℕ
with_part program sums e = slice_set sums e.row
    (capped (slice_index sums e.row + capped (unsigned_abs e.value * box_reach program e.column)))

-- the greatest costs and the greatest row among some data
pub record AreGreatest (program : Program) (ds : List Data) (g : Greatest) : Type 0 where
  pub tops : g.tops.items ≡ tops_of (length program.columns) ds
  pub rows : g.rows ≡ capped (greatest (map (data_reach program) ds))
