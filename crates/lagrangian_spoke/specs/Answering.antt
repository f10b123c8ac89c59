-- What a Lagrangian spoke answers, and the first best of its replies.

use Rattle.std.specs.Prelude.{◌≡◌, ℕ, ◌+◌, ◌<◌, ◌≤◌, List, map, slice_get, ℤ, ◌<ℤ◌, ◌≤ℤ◌, Option, Some, None, int_lt, if◌then◌else◌}
use Rattle.std.specs.List.{All, AllPairs, filter_map, fold}
use Rattle.branch_bound.specs.PlainSearch.{ref_count}
use Rattle.dual_value.specs.Duals.{priced_in}
use Rattle.sp_model.specs.Problems.{scenarios}
use Rattle.sp_model.specs.declared.run.Run.{Run}
use Rattle.put_words.specs.Puts.{Made, put_of}
use Rattle.log_words.specs.Replies.{reply_of}
use Rattle.log_words.specs.declared.log.Answer.{Answer}
use Rattle.log_words.specs.declared.log.Answer.TheVariants.{Reply, Skip}
use Rattle.window_words.specs.Views.{last_of}

-- the put that an answer is to
abbrev pub put_in : Answer → ℕ
put_in (Reply k value) = k
put_in (Skip k s opened) = k

-- the same of a reply; none of a skip
abbrev pub reply_put : Answer → Option ℕ
reply_put (Reply k value) = Some k
reply_put (Skip k s opened) = None

-- the puts that were replied to, in order
abbrev pub replied : List Answer → List ℕ
replied answers = filter_map reply_put answers

-- the put of the last answer, and 0 before any
abbrev pub last_put : List Answer → ℕ
last_put answers = last_of (map put_in answers)

-- a put that the run may make
pub record IsPut (run : Run) (k : ℕ) : Type 0 where
  pub first : 1 ≤ k
  pub last : k ≤ run.options.iterations + 1

-- the search of scenario s for the dual value of put k's multipliers opens all boxes of the budget,
-- and the plain search opens more
pub record IsSpentAt (run : Run) (k s opened : ℕ) : Type 0 where
  pub opened_is : opened ≡ run.options.budget
  pub there : s < scenarios run
  pub more : (made : Made) → put_of run k ≡ Some made
      → run.options.budget < ref_count (priced_in run made.put.multipliers s)

-- a reply has the defined value, and a skip names a search that is spent
abbrev pub IsAnswer : Run → ℕ → Answer → Type 0
IsAnswer run i (Reply k value) = IsPut run k × (value ≡ reply_of run i k)
IsAnswer run i (Skip k s opened) = IsPut run k × IsSpentAt run k s opened

-- what a spoke has answered: right answers, in strictly rising order of puts
pub record AreAnswers (run : Run) (i : ℕ) (answers : List Answer) : Type 0 where
  pub right : All (IsAnswer run i) answers
  pub rising : AllPairs (λ a b. put_in a < put_in b) answers

-- the better of the best so far and a reply to put k: the earlier one where none is greater
abbrev pub better_value : Option (ℕ × ℤ) → ℕ → Option ℤ → Option (ℕ × ℤ)
better_value best k None = best
better_value None k (Some value) = Some (k, value)
better_value (Some (j, greatest)) k (Some value) =
    if int_lt greatest value then Some (k, value) else Some (j, greatest)

abbrev pub better : Option (ℕ × ℤ) → Answer → Option (ℕ × ℤ)
better best (Reply k value) = better_value best k value
better best (Skip k s opened) = best

-- the first greatest value of all replies, behind its put; none where no reply has a value
abbrev pub best_reply : List Answer → Option (ℕ × ℤ)
best_reply answers = fold better None answers

-- a reply of this value to put k is the first greatest of all: none has a greater value, and each
-- that stands before it a lower one
pub record IsFirstGreatest (answers : List Answer) (k : ℕ) (value : ℤ) : Type 0 where
  pub place : ℕ
  pub there : slice_get answers place ≡ Some (Reply k (Some value))
  pub greatest : (n j : ℕ) (other : ℤ) → slice_get answers n ≡ Some (Reply j (Some other))
      → other ≤ℤ value
  pub first : (n j : ℕ) (other : ℤ) → slice_get answers n ≡ Some (Reply j (Some other))
      → n < place → other <ℤ value

-- no reply has a value
abbrev pub HaveNoValue : List Answer → Type 0
HaveNoValue answers =
    (n j : ℕ) (other : ℤ) → slice_get answers n ≡ Some (Reply j (Some other)) → ⊥
