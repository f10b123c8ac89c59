use Rattle.std.proofs.Common.{◌≡◌, length, take}
use Rattle.smps_words.specs.declared.core_data.CoreEntry.{CoreEntry}
use Rattle.join_words.specs.Parts.{parts_of, row_at}
use Rattle.join_words.specs.Powers.{is_entry_in, own_numbers}
use Rattle.join_frame.proofs.Commons.{rows_picked}
use Rattle.join_frame.proofs.rows.core_places.Given as goal

abbrev pub invariant-loop-entry : goal.invariant-loop-entry
invariant-loop-entry l = l.places.items ≡ rows_picked (is_entry_in l.sides) (λ (e : CoreEntry). e.value) (λ i. own_numbers (row_at (parts_of l.core) i)) (length l.core.rows) (take l.entry-index l.core.entries)
