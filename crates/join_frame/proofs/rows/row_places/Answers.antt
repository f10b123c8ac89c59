use Rattle.std.proofs.Common.{arith, refl, ◌≡◌, ◌<◌, ◌∙◌, ap, subst, sym, get_or, length, take, ℕ}
use Rattle.std.specs.Prelude.{IfSome}
use Rattle.std.proofs.lemmas.List.{get_or_default, take_all}
use Rattle.smps_words.specs.CoreFacts.{zero_decimal}
use Rattle.stoch_lines.specs.declared.places.StochEntry.{StochEntry}
use Rattle.stoch_lines.specs.declared.places.StochPlace.TheVariants.{Cost}
use Rattle.join_words.specs.Parts.{parts_of}
use Rattle.join_words.specs.Powers.{core_row_numbers, is_live_in}
use Rattle.join_frame.proofs.Commons.{picked_long, place_rows, place_there, rows_next, rows_picked}
use Rattle.join_frame.proofs.rows.row_places.Goals as goal

abbrev no_value : StochEntry
no_value = record { place = Cost 0; value = zero_decimal; line = 0 }

pub raise-requires : goal.raise-requires
raise-requires c =
    let core = c.args.core.now in
    let sides = c.args.sides.now in
    let k = c.loop-entry.entry-index in
    let n = length core.rows in
    let e = get_or c.args.entries.now k no_value in
    let long : length c.loop-entry.places.items ≡ n = ap length c.loop-entry.invariant ∙ picked_long (λ i (x : StochEntry). is_live_in sides i x.place) (λ (x : StochEntry). x.value) (core_row_numbers (parts_of core) sides) n (take k c.args.entries.now) in
    let P : ℕ → Type 0 = λ m. IfSome c.live_row_of_place.result (λ i. i < m) in
    subst P (sym long) (place_there sides e.place c.live_row_of_place.result n c.live_row_of_place.ensures (c.requires.rows k no_value (omega arith)))

pub loop-entry-preserved : goal.loop-entry-preserved
loop-entry-preserved c =
    let core = c.args.core.now in
    let sides = c.args.sides.now in
    let k = c.loop-entry.entry-index in
    let lt : k < length c.args.entries.now = omega arith in
    let e = get_or c.args.entries.now k no_value in
    rows_next (λ i (x : StochEntry). is_live_in sides i x.place) (λ (x : StochEntry). x.value) (core_row_numbers (parts_of core) sides) (length core.rows) c.args.entries.now k e c.loop-entry.places.items c.raise.new.places.items c.live_row_of_place.result e.value lt (get_or_default c.args.entries.now k no_value e lt) c.loop-entry.invariant (place_rows sides e.place c.live_row_of_place.result c.live_row_of_place.ensures) (place_there sides e.place c.live_row_of_place.result (length core.rows) c.live_row_of_place.ensures (c.requires.rows k no_value lt)) refl c.raise.ensures

pub returns : goal.returns
returns c =
    let core = c.args.core.now in
    let sides = c.args.sides.now in
    c.from_vec.ensures ∙ (c.loop-entry.invariant ∙ ap (rows_picked (λ i (x : StochEntry). is_live_in sides i x.place) (λ (x : StochEntry). x.value) (core_row_numbers (parts_of core) sides) (length core.rows)) (take_all c.loop-entry.entry-index c.args.entries.now (omega arith)))
