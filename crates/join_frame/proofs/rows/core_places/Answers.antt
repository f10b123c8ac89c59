use Rattle.std.proofs.Common.{arith, refl, ◌≡◌, ◌<◌, ◌∙◌, ap, get_or, length, map, subst, sym, take, ℕ, List}
use Rattle.std.specs.Prelude.{IfSome}
use Rattle.std.proofs.lemmas.List.{get_or_default, take_all}
use Rattle.dec_core.specs.Scale.{common_places}
use Rattle.smps_words.specs.CoreFacts.{no_entry}
use Rattle.smps_words.specs.declared.core_data.CoreEntry.{CoreEntry}
use Rattle.smps_words.specs.declared.core_data.CoreRow.{CoreRow}
use Rattle.join_words.specs.Parts.{parts_of, row_at}
use Rattle.join_words.specs.Powers.{is_entry_in, own_numbers}
use Rattle.join_frame.proofs.Commons.{entry_rows, entry_there, picked_long, rows_begin, rows_next, rows_picked}
use Rattle.join_frame.proofs.rows.core_places.Goals as goal

pub loop-entry-init : goal.loop-entry-init
loop-entry-init c = c.in_ok-places.ensures ∙ (ap (map (λ (row : CoreRow). common_places (own_numbers row))) c.as_slice.ensures ∙ rows_begin (is_entry_in c.args.sides.now) (λ (e : CoreEntry). e.value) c.args.core.now.rows)

pub raise-requires : goal.raise-requires
raise-requires c =
    let core = c.args.core.now in
    let sides = c.args.sides.now in
    let k = c.loop-entry.entry-index in
    let n = length core.rows in
    let items = c.as_slice-entry-items.result.now in
    let same : items ≡ core.entries = c.as_slice-entry-items.ensures in
    let lt : k < length core.entries = omega (arith, ap length same) in
    let e = get_or items k no_entry in
    let here : e ≡ get_or core.entries k no_entry = ap (λ (es : List CoreEntry). get_or es k no_entry) same in
    let there : e.row < n = let place = (core.facts.places k no_entry lt).0 in omega (arith, place, ap (λ (x : CoreEntry). x.row) here) in
    let long : length c.loop-entry.places.items ≡ n = ap length c.loop-entry.invariant ∙ picked_long (is_entry_in sides) (λ (x : CoreEntry). x.value) (λ i. own_numbers (row_at (parts_of core) i)) n (take k core.entries) in
    let P : ℕ → Type 0 = λ m. IfSome c.live_row_of_entry.result (λ i. i < m) in
    subst P (sym long) (entry_there sides e c.live_row_of_entry.result n c.live_row_of_entry.ensures there)

pub loop-entry-preserved : goal.loop-entry-preserved
loop-entry-preserved c =
    let core = c.args.core.now in
    let sides = c.args.sides.now in
    let k = c.loop-entry.entry-index in
    let items = c.as_slice-entry-items.result.now in
    let same : items ≡ core.entries = c.as_slice-entry-items.ensures in
    let lt : k < length core.entries = omega (arith, ap length same) in
    let e = get_or items k no_entry in
    let at : e ≡ get_or core.entries k e = ap (λ (es : List CoreEntry). get_or es k no_entry) same ∙ get_or_default core.entries k no_entry e lt in
    let here : e ≡ get_or core.entries k no_entry = ap (λ (es : List CoreEntry). get_or es k no_entry) same in
    let there : e.row < length core.rows = let place = (core.facts.places k no_entry lt).0 in omega (arith, place, ap (λ (x : CoreEntry). x.row) here) in
    rows_next (is_entry_in sides) (λ (x : CoreEntry). x.value) (λ i. own_numbers (row_at (parts_of core) i)) (length core.rows) core.entries k e c.loop-entry.places.items c.raise.new.places.items c.live_row_of_entry.result e.value lt at c.loop-entry.invariant (entry_rows sides e c.live_row_of_entry.result c.live_row_of_entry.ensures) (entry_there sides e c.live_row_of_entry.result (length core.rows) c.live_row_of_entry.ensures there) refl c.raise.ensures

pub returns : goal.returns
returns c =
    let core = c.args.core.now in
    let sides = c.args.sides.now in
    let long = ap length c.as_slice-entry-items.ensures in
    c.loop-entry.invariant ∙ ap (rows_picked (is_entry_in sides) (λ (x : CoreEntry). x.value) (λ i. own_numbers (row_at (parts_of core) i)) (length core.rows)) (take_all c.loop-entry.entry-index core.entries (omega (arith, long)))
