use Rattle.std.proofs.Common.{◌≡◌, length, take}
use Rattle.stoch_lines.specs.declared.places.StochEntry.{StochEntry}
use Rattle.join_words.specs.Parts.{parts_of}
use Rattle.join_words.specs.Powers.{core_row_numbers, is_live_in}
use Rattle.join_frame.proofs.Commons.{rows_picked}
use Rattle.join_frame.proofs.rows.row_places.Given as goal

abbrev pub invariant-loop-entry : goal.invariant-loop-entry
invariant-loop-entry l = l.places.items ≡ rows_picked (λ i (e : StochEntry). is_live_in l.sides i e.place) (λ (e : StochEntry). e.value) (core_row_numbers (parts_of l.fn.core) l.sides) (length l.fn.core.rows) (take l.entry-index l.entries)
