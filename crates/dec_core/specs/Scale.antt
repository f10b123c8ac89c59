-- a common number of places, and numbers scaled to it
use Rattle.std.specs.Prelude.{◌≡◌, ℕ, ◌-◌, ◌^◌, max, fold, Any, List, [], ◌∷◌, ℤ, pos, ◌*ℤ◌}
use Rattle.dec_core.specs.declared.decimal.Decimal.{Decimal}

-- the greatest number of places, from 0 on
abbrev pub common_places : List Decimal → ℕ
common_places items = fold (λ most item. max most item.places) 0 items

-- the number of places is an item's, or there is no item and it is 0
abbrev pub IsReached : List Decimal → ℕ → Type 0
IsReached [] places = places ≡ 0
IsReached (item ∷ items) places = Any (λ d. d.places ≡ places) (item ∷ items)

-- the number times 10^places
abbrev pub scaled_to : Decimal → ℕ → ℤ
scaled_to value places = value.mantissa *ℤ pos (10 ^ (places - value.places))
