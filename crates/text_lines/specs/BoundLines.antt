-- The lines of a lower bound alone.
use Rattle.std.specs.Prelude.{◌≡◌, ℕ, ℤ, List, [], ◌∷◌, ◌++◌, codes}
use Rattle.std.specs.Fmt.{signed_decimal}
use Rattle.wide_num.specs.declared.fraction.Fraction.{Fraction}
use Rattle.wide_num.specs.FractionText.{fraction_text}
use Rattle.wide_num.specs.LowestTerms.{IsLowest}
use Rattle.text_lines.specs.Lines.{line_of}

-- the first pair, the bound with its value in the costs of the file, and no upper bound
abbrev pub bound_lines_of : ℤ → Fraction → List (List ℕ)
bound_lines_of bound value =
    line_of (codes "first " ++ signed_decimal bound ++ codes " none")
    ∷ line_of (codes "lower " ++ signed_decimal bound ++ codes " = " ++ fraction_text value)
    ∷ line_of (codes "upper none")
    ∷ []

-- the lines of a bound; its value is bound / unit in lowest terms
abbrev pub IsBoundText : ℤ → ℤ → List (List ℕ) → Type 0
IsBoundText bound unit lines =
    (value : Fraction) × IsLowest bound unit value × (lines ≡ bound_lines_of bound value)
