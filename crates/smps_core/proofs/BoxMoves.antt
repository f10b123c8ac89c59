-- One more line moves an end of a box exactly where it is a line of BOUNDS for that column that speaks of that end.
use Rattle.std.proofs.Common.{◌≡◌, refl, sym, ap, ◌∙◌, ℕ, ◌==◌, Bool, true, false, List, [], ◌++◌}
use Rattle.std.specs.Prelude.{◌&&◌, if◌then◌else◌, Option, Some, None, ℤ, pos}
use Rattle.std.specs.Option.{option_map_or}
use Rattle.std.proofs.lemmas.List.{append-nil}
use Rattle.base_words.proofs.Booleans.{and_false}
use Rattle.line_core.specs.Names.{number_of}
use Rattle.smps_words.specs.Outcomes.{latest}
use Rattle.smps_words.specs.TextLines.{TextLine}
use Rattle.core_lines.proofs.LatestLaws.{latest_push}
use Rattle.core_lines.proofs.NextLaw.{goes_on}
use Rattle.core_lines.specs.BoundLines.{bound_for, bound_set, bounds_next, column_word, kind_of, lower_said, speaks_low, upper_said, bound_value}
use Rattle.core_lines.specs.Boxes.{end_said, lower_of, speaks, upper_of}
use Rattle.core_lines.specs.Headers.{is_bounds}
use Rattle.core_lines.specs.Lines.{bounds_of, column_names_of, is_within, section_of}
use Rattle.core_lines.specs.Parts.{Before, BoundsSaid}
use Rattle.core_lines.specs.SideLines.{is_used}
use Rattle.core_lines.specs.declared.bound_values.BoundValue.{BoundValue}
use Rattle.core_lines.specs.declared.cells.Bound.{Bound}
use Rattle.core_lines.specs.declared.cells.EndChange.{EndChange}
use Rattle.core_lines.specs.declared.cells.EndChange.TheVariants.{Kept}
use Rattle.core_lines.specs.declared.words.BoundKind.{BoundKind}
use Rattle.smps_core.specs.BoxLines.{MovesLower, MovesUpper}

-- an end of the box of column j, by what each bound says of that end
abbrev end_by : (Bound → EndChange) → Option ℤ → ℕ → List Bound → Option ℤ
end_by at other j bounds = latest (λ (b : Bound). speaks (at b) && (b.column == j)) (λ (b : Bound). end_said (at b)) other bounds

-- the bound that a line of this kind, column and value says
abbrev made : BoundKind → ℕ → BoundValue → Bound
made kind column value = record { column = column; lower = lower_said kind value; upper = upper_said kind value; speaks_low = speaks_low kind }

abbrev Finds : (Bound → EndChange) → (BoundKind → BoundValue → EndChange) → Type 0
Finds at said = (kind : BoundKind) (column : ℕ) (value : BoundValue) → at (made kind column value) ≡ said kind value

abbrev change : (BoundKind → BoundValue → EndChange) → Option BoundKind → BoundValue → EndChange
change said kind value = option_map_or (λ k. said k value) kind Kept

-- the end, moved where the test is true
abbrev moved : Bool → EndChange → Option ℤ → Option ℤ
moved test to old = if test && speaks to then end_said to else old

and_swap : (s t : Bool) → (s && t) ≡ (t && s)
and_swap true true = refl
and_swap true false = refl
and_swap false true = refl
and_swap false false = refl

moved_by : (at : Bound → EndChange) (other : Option ℤ) (said : BoundKind → BoundValue → EndChange) → Finds at said → (j : ℕ) (bounds : List Bound) (used : Bool) (kind : Option BoundKind) (number : Option ℕ) (value : BoundValue) → end_by at other j (bounds ++ (if used then bound_for kind number value else [])) ≡ moved (used && option_map_or (λ i. i == j) number false) (change said kind value) (end_by at other j bounds)
moved_by at other said finds j bounds false kind number value = ap (end_by at other j) (append-nil bounds)
moved_by at other said finds j bounds true None None value = ap (end_by at other j) (append-nil bounds)
moved_by at other said finds j bounds true (Some kind) None value = ap (end_by at other j) (append-nil bounds)
moved_by at other said finds j bounds true None (Some i) value =
    ap (end_by at other j) (append-nil bounds)
    ∙ sym (ap (λ (t : Bool). if t then end_said Kept else end_by at other j bounds) (and_false (i == j)))
moved_by at other said finds j bounds true (Some kind) (Some i) value =
    latest_push (λ (b : Bound). speaks (at b) && (b.column == j)) (λ (b : Bound). end_said (at b)) other bounds (made kind i value)
    ∙ ap (λ (e : EndChange). if speaks e && (i == j) then end_said e else end_by at other j bounds) (finds kind i value)
    ∙ ap (λ (t : Bool). if t then end_said (said kind value) else end_by at other j bounds) (and_swap (speaks (said kind value)) (i == j))

moved_next : (at : Bound → EndChange) (other : Option ℤ) (said : BoundKind → BoundValue → EndChange) → Finds at said → (j : ℕ) (within : Bool) (names : List (List ℕ)) (b : BoundsSaid) (line : TextLine) → end_by at other j (bounds_next within names b line).bounds ≡ moved (within && is_used b.set (bound_set line) && option_map_or (λ i. i == j) (number_of (column_word line) names) false) (change said (kind_of line) (bound_value line)) (end_by at other j b.bounds)
moved_next at other said finds j false names b line = refl
moved_next at other said finds j true names b line = moved_by at other said finds j b.bounds (is_used b.set (bound_set line)) (kind_of line) (number_of (column_word line) names) (bound_value line)

pub lower_moves : (before : List TextLine) (line : TextLine) (j : ℕ) → MovesLower before line j
lower_moves before line j =
    ap (λ (b : Before). lower_of b.bounds.bounds j) (goes_on.more before line)
    ∙ moved_next (λ (b : Bound). b.lower) (Some (pos 0)) lower_said (λ kind column value. refl) j (is_within is_bounds (section_of before) line) (column_names_of before) (bounds_of before) line

pub upper_moves : (before : List TextLine) (line : TextLine) (j : ℕ) → MovesUpper before line j
upper_moves before line j =
    ap (λ (b : Before). upper_of b.bounds.bounds j) (goes_on.more before line)
    ∙ moved_next (λ (b : Bound). b.upper) None upper_said (λ kind column value. refl) j (is_within is_bounds (section_of before) line) (column_names_of before) (bounds_of before) line
