-- Where the parts of a put lie: which scenarios each rank has, and how many words each window's
-- entries have.

use Rattle.std.specs.Prelude.{ℕ, ◌+◌, ◌-◌, ◌*◌, ◌/◌, nat_lt, if◌then◌else◌}
use Rattle.sp_model.specs.Problems.{scenarios}
use Rattle.sp_model.specs.declared.run.Run.{Run}
use Rattle.put_codec.specs.declared.layout.Layout.{Layout}

-- the layout of a run's windows
abbrev pub layout_in : Run → Layout
layout_in run = record {
  scenarios = scenarios run;
  nonleaf = run.nonleaf;
  ranks = run.options.ranks;
  spokes = run.options.lagrangian + run.options.xhat;
}

-- how many windows there are: the ranks' and behind them the spokes'
abbrev pub windows_of : Layout → ℕ
windows_of layout = layout.ranks + layout.spokes

-- the first scenario of rank i: the ranks share the scenarios evenly, in order
abbrev pub first_of : Layout → ℕ → ℕ
first_of layout i = i * layout.scenarios / layout.ranks

-- a put has a cell for each scenario and nonleaf column, scenario after scenario: the place of rank
-- i's first one
abbrev pub start_of : Layout → ℕ → ℕ
start_of layout i = first_of layout i * layout.nonleaf

-- how many cells rank i has
abbrev pub cells_of : Layout → ℕ → ℕ
cells_of layout i = start_of layout (i + 1) - start_of layout i

-- how many cells a put has
abbrev pub all_cells : Layout → ℕ
all_cells layout = layout.scenarios * layout.nonleaf

-- how many words an entry of window w has
abbrev pub width_of : Layout → ℕ → ℕ
width_of layout w = if nat_lt w layout.ranks then 3 * cells_of layout w else 3
