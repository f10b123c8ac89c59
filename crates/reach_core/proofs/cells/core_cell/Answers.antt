use Rattle.std.proofs.Common.{rules, arith, FitsSigned, sym, ap, ◌∙◌, ◌≡◌, ◌<◌, ◌≤◌, List, length, get_or, pos, if◌then◌else◌}
use Rattle.std.specs.Int.{w128}
use Rattle.std.proofs.lemmas.Int.{to_z-of_z}
use Rattle.boxed_problem.specs.BoxedFacts.{no_entry}
use Rattle.boxed_problem.specs.declared.parts.Entry.{Entry}
use Rattle.sp_model.specs.Changes.{is_at}
use Rattle.sp_model.proofs.EntryOrder.{chain_from}
use Rattle.reach_core.proofs.Finding.{none_at, one_at}
use Rattle.reach_core.proofs.cells.core_cell.Goals as goal

pub returns-then-at-entries : goal.returns-then-at-entries
returns-then-at-entries c =
    let es = c.args.program.now.entries in
    let other : Entry = record { row = c.args.row; column = c.args.column; value = pos 0 } in
    let same : c.as_slice-entries.result.now ≡ es = c.as_slice-entries.ensures in
    let k = c.place_of-at.result in
    let point = c.place_of-at.ensures.parted in
    let lt : k < length es = omega (arith, ap length same) in
    let found = one_at other es k (chain_from es c.requires) lt (λ i d l. point.0 i d (omega arith) l) (point.1 k no_entry (omega arith) lt) in
    let fits : FitsSigned w128 c.value_at.result = search rules in
    simp to_z-of_z (c.value_at.ensures ∙ (ap (λ (l : List Entry). if is_at (get_or l k no_entry) other then (get_or l k no_entry).value else pos 0) same ∙ sym found))

pub returns-else-at-entries : goal.returns-else-at-entries
returns-else-at-entries c =
    let es = c.args.program.now.entries in
    let other : Entry = record { row = c.args.row; column = c.args.column; value = pos 0 } in
    let same : c.as_slice-entries.result.now ≡ es = c.as_slice-entries.ensures in
    let k = c.place_of-at.result in
    let point = c.place_of-at.ensures.parted in
    let le : length es ≤ k = omega (arith, ap length same) in
    sym (none_at other es (λ i d l. point.0 i d (omega arith) (omega (arith, le, l))))
