-- how a fraction is written
use Rattle.std.specs.Prelude.{ℕ, List, ◌∷◌, ◌++◌, pos, if◌then◌else◌}
use Rattle.std.specs.Ordering.{int_eq}
use Rattle.std.specs.Fmt.{signed_decimal}
use Rattle.wide_num.specs.declared.fraction.Fraction.{Fraction}

-- the text of a fraction: its top, and behind a slash (47) its bottom where that isn't 1
abbrev pub fraction_text : Fraction → List ℕ
fraction_text f = if int_eq f.bottom (pos 1) then signed_decimal f.top
    else (signed_decimal f.top ++ 47 ∷ signed_decimal f.bottom)
