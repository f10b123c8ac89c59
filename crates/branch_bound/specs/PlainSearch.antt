-- The plain search, by which the boxes of a budget are counted.
use Rattle.std.specs.Prelude.{ℕ, zero, suc, ◌+◌, Bool, not, ◌||◌, List, [], ◌∷◌, length, ℤ, pos, negsuc, ◌-ℤ◌, Option, Some, None, if◌then◌else◌}
use Rattle.branch_bound.specs.Halves.{Halves, halves}
use Rattle.safe_bound.specs.Leasts.{least_value}
use Rattle.boxed_problem.specs.Optimum.{improves, priced}
use Rattle.propagate.specs.Ranges.{misses_one}
use Rattle.boxed_problem.specs.Sides.{corner}
use Rattle.boxed_problem.specs.declared.parts.Best.{Best}
use Rattle.boxed_problem.specs.declared.parts.Side.{Side}
use Rattle.boxed_problem.specs.Data.{Problem}

-- a box is pruned where a row's range misses its limits, or its least isn't below the best value
abbrev pub is_pruned : Problem → List Side → Option Best → Bool
is_pruned b box best =
    misses_one (length b.rows) b.rows b.entries box || not (improves (least_value b box) best)

-- the best point so far, and how many boxes were opened
pub record Progress : Type 0 where
  pub best : Option Best
  pub opened : ℕ

-- opening a box counts one
abbrev pub with_opened : Progress → Progress
with_opened p = record { best = p.best; opened = p.opened + 1 }

-- what follows where a box isn't pruned: a box of single columns gives a new best point, any other
-- is searched half by half, the low half first
abbrev pub go_on : (List Side → Progress → Progress) → Problem → List Side → Option Halves
    → Progress → Progress
go_on search b box None p = record { best = Some (priced b (corner box)); opened = p.opened }
go_on search b box (Some h) p = search h.high (search h.low p)

-- the plain search of a box, by at most this many halvings one within another
unfoldable pub search_within : ℕ → Problem → List Side → Progress → Progress
search_within zero b box p = p
search_within (suc depth) b box p =
    if is_pruned b box p.best then with_opened p
    else go_on (λ half q. search_within depth b half q) b box (halves box) (with_opened p)

-- how far the upper end is from the lower one
abbrev pub extent : ℤ → ℕ
extent (pos d) = d
extent (negsuc d) = 0

-- the lengths of all sides together
abbrev pub width : List Side → ℕ
width [] = 0
width (s ∷ ss) = extent (s.upper -ℤ s.lower) + width ss

-- the plain search of a box; each half has a smaller width, so the depth never runs out
unfoldable pub search : Problem → List Side → Progress → Progress
search b box p = search_within (suc (width box)) b box p

-- boxes searched one after another, the last of the list first
abbrev pub search_all : Problem → List (List Side) → Progress → Progress
search_all b [] p = p
search_all b (box ∷ boxes) p = search b box (search_all b boxes p)

-- nothing found and nothing opened
abbrev pub nothing_yet : Progress
nothing_yet = record { best = None; opened = 0 }

-- how many boxes the plain search opens in all
abbrev pub ref_count : Problem → ℕ
ref_count b = (search b b.columns nothing_yet).opened
