-- The text of a run behind its heading: from the first pair to the last bounds.
use Rattle.std.specs.Prelude.{◌≡◌, ℕ, ℤ, List, [], ◌∷◌, ◌++◌, codes, Option, Some, None, option_map}
use Rattle.std.specs.Fmt.{signed_decimal}
use Rattle.sp_model.specs.declared.run.Run.{Run}
use Rattle.run_log.specs.declared.log.Log.{Log}
use Rattle.run_log.specs.declared.log.Upper.{Upper}
use Rattle.run_text.specs.RunLines.{end_text, event_lines_of, spokes_lines_from}
use Rattle.run_text.specs.declared.worth.Worth.{Worth}
use Rattle.text_lines.specs.Headings.{unit_of}
use Rattle.text_lines.specs.Lines.{line_of}
use Rattle.wide_num.specs.FractionText.{fraction_text}
use Rattle.wide_num.specs.LowestTerms.{IsLowest}

-- what a bound is worth: bound / unit in lowest terms
pub record IsWorth (unit bound : ℤ) (worth : Worth) : Type 0 where
  pub bound_is : worth.bound ≡ bound
  pub lowest : IsLowest bound unit worth.value

-- the same of a bound that may be missing
abbrev pub IsWorthIfAny : ℤ → Option ℤ → Option Worth → Type 0
IsWorthIfAny unit None None = Unit {0}
IsWorthIfAny unit None (Some worth) = ⊥
IsWorthIfAny unit (Some bound) None = ⊥
IsWorthIfAny unit (Some bound) (Some worth) = IsWorth unit bound worth

-- a bound and what it is worth
abbrev pub worth_text : Worth → List ℕ
worth_text worth = signed_decimal worth.bound ++ codes " = " ++ fraction_text worth.value

-- the same of a bound that may be missing
abbrev pub worth_or_none : Option Worth → List ℕ
worth_or_none None = codes "none"
worth_or_none (Some worth) = worth_text worth

-- the first pair: the wait-and-see bound, and no upper one
abbrev pub first_line : ℤ → List ℕ
first_line first = line_of (codes "first " ++ signed_decimal first ++ codes " none")

-- the last pair
abbrev pub last_lines : Worth → Option Worth → List (List ℕ)
last_lines lower upper =
    line_of (codes "lower " ++ worth_text lower)
    ∷ line_of (codes "upper " ++ worth_or_none upper)
    ∷ []

-- the first pair, puts and takes in order, the end, what each spoke answered, and the last pair
abbrev pub body_lines_of : Log → Worth → Option Worth → List (List ℕ)
body_lines_of log lower upper =
    first_line log.first ∷ event_lines_of log.events
    ++ line_of (end_text log.end) ∷ spokes_lines_from 0 log.spokes
    ++ last_lines lower upper

-- the value of the last upper bound, where there is one
abbrev pub upper_value : Log → Option ℤ
upper_value log = option_map (λ (upper : Upper). upper.value) log.upper

-- the lines of a run of this log
abbrev pub IsBody : Run → Log → List (List ℕ) → Type 0
IsBody run log lines =
    (lower : Worth) × (upper : Option Worth)
    × IsWorth (unit_of run) log.lower lower
    × IsWorthIfAny (unit_of run) (upper_value log) upper
    × (lines ≡ body_lines_of log lower upper)
