-- The flags stay right where a value or a bound is added.
use Rattle.std.proofs.Common.{◌≡◌, sym, subst, ap, ◌∙◌, ℕ, ◌≤◌, ◌<◌, ◌==◌, Bool, true, false, List, [], ◌∷◌, ◌++◌, length, get_or, set, arith, inl, inr}
use Rattle.std.specs.Prelude.{◌||◌}
use Rattle.std.specs.List.{list_any}
use Rattle.std.proofs.lemmas.Bool.{cases_eq}
use Rattle.std.proofs.lemmas.Grind.{common_steps}
use Rattle.std.proofs.lemmas.List.Elements.{All-push}
use Rattle.base_words.specs.Signs.{limit_size}
use Rattle.smps_words.specs.CoreFacts.{IsShort, max_end}
use Rattle.core_lines.specs.BoundLines.{is_lowered}
use Rattle.core_lines.specs.BoundParts.{AreEndsSmall}
use Rattle.core_lines.specs.Boxes.{end_said}
use Rattle.core_lines.specs.PartFacts.{SideFacts, BoundFacts}
use Rattle.core_lines.specs.declared.cells.Bound.{Bound}
use Rattle.core_lines.specs.declared.cells.RowValue.{RowValue}

flag_is : (values : List RowValue) (flags : List Bool) (value : RowValue) → SideFacts values flags → value.row < length flags → (place : ℕ) → list_any (λ (v : RowValue). v.row == place) (values ++ value ∷ []) ≡ get_or (set flags value.row true) place false
flag_is values flags value facts lt place =
    let before = facts.same place in
    elim (cases_eq place value.row) as (λ _. list_any (λ (v : RowValue). v.row == place) (values ++ value ∷ []) ≡ get_or (set flags value.row true) place false) [
      | inl e ↦ grind (arith, common_steps)
      | inr ne ↦ grind (arith, common_steps)
    ]

pub side_added : (values new_values : List RowValue) (flags new_flags : List Bool) (value : RowValue) → SideFacts values flags → IsShort value.value → value.row < length flags → new_values ≡ values ++ value ∷ [] → new_flags ≡ set flags value.row true → SideFacts new_values new_flags
side_added values new_values flags new_flags value facts short lt values_are flags_are =
    subst (λ (m : List Bool). SideFacts new_values m) (sym flags_are) (subst (λ (l : List RowValue). SideFacts l (set flags value.row true)) (sym values_are) (record {
      same = flag_is values flags value facts lt;
      shorts = All-push (λ (v : RowValue). IsShort v.value) values value facts.shorts short;
    }))

low_flag_is : (bounds : List Bound) (flags : List Bool) (bound : Bound) → BoundFacts bounds flags → bound.column < length flags → (column : ℕ) → is_lowered (bounds ++ bound ∷ []) column ≡ get_or (set flags bound.column (is_lowered bounds bound.column || bound.speaks_low)) column false
low_flag_is bounds flags bound facts lt column =
    let before = facts.same column in
    elim (cases_eq column bound.column) as (λ _. is_lowered (bounds ++ bound ∷ []) column ≡ get_or (set flags bound.column (is_lowered bounds bound.column || bound.speaks_low)) column false) [
      | inl e ↦ grind (arith, common_steps)
      | inr ne ↦ grind (arith, common_steps)
    ]

pub bound_added : (bounds new_bounds : List Bound) (flags new_flags : List Bool) (bound : Bound) (flag : Bool) → BoundFacts bounds flags → AreEndsSmall bound → bound.column < length flags → flag ≡ (is_lowered bounds bound.column || bound.speaks_low) → new_bounds ≡ bounds ++ bound ∷ [] → new_flags ≡ set flags bound.column flag → BoundFacts new_bounds new_flags
bound_added bounds new_bounds flags new_flags bound flag facts small lt flag_is bounds_are flags_are =
    subst (λ (m : List Bool). BoundFacts new_bounds m) (sym (flags_are ∙ ap (λ f. set flags bound.column f) flag_is))
    (subst (λ (l : List Bound). BoundFacts l (set flags bound.column (is_lowered bounds bound.column || bound.speaks_low))) (sym bounds_are) (record {
      same = low_flag_is bounds flags bound facts lt;
      lowers = All-push (λ (b : Bound). limit_size (end_said b.lower) ≤ max_end) bounds bound facts.lowers small.0;
      uppers = All-push (λ (b : Bound). limit_size (end_said b.upper) ≤ max_end) bounds bound facts.uppers small.1;
    }))
