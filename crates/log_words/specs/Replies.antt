-- The value of each spoke's reply to each put.

use Rattle.std.specs.Prelude.{ℕ, ◌+◌, ◌-◌, ◌*◌, nat_eq, nat_lt, ◌&&◌, List, [], ◌∷◌, ◌++◌, map, ℤ, Option, if◌then◌else◌, option_and_then}
use Rattle.std.specs.Int.{int_min}
use Rattle.std.specs.List.{filter_map, range_with_len, reduce}
use Rattle.sp_model.specs.Plans.{dual_of}
use Rattle.sp_model.specs.declared.run.Run.{Run}
use Rattle.put_words.specs.Puts.{Made, put_of}
use Rattle.log_words.specs.Candidates.{Candidate, mean_of, picked, price_of}

-- the candidates that the xhat spoke m tries, counted among the xhat spokes: so many of those by
-- number, and after them the mean, if the first spoke is to try it
abbrev pub tried : Run → List ℤ → ℕ → List Candidate
tried run x m =
    map (picked run x) (range_with_len (m * run.options.candidates) run.options.candidates)
    ++ (if nat_eq m 0 && run.options.mean then mean_of run x ∷ [] else [])

-- the least price of some candidates; none where none has a price
abbrev pub least_price : Run → List Candidate → Option ℤ
least_price run candidates = reduce int_min (filter_map (price_of run) candidates)

-- what spoke i replies to a put: the dual value of its multipliers, or the least price of the
-- candidates that the spoke tries
abbrev pub reply_to : Run → ℕ → Made → Option ℤ
reply_to run i made =
    if nat_lt i run.options.lagrangian then dual_of run made.put.multipliers
    else least_price run (tried run made.put.x (i - run.options.lagrangian))

-- the reply of spoke i to put k
abbrev pub reply_of : Run → ℕ → ℕ → Option ℤ
reply_of run i k = option_and_then (reply_to run i) (put_of run k)
