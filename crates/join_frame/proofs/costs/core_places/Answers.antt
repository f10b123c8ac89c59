use Rattle.std.proofs.Common.{arith, ◌≡◌, ◌<◌, ap, get_or, length, not, [], ◌∷◌, List}
use Rattle.smps_words.specs.declared.core_data.CoreColumn.{CoreColumn}
use Rattle.join_words.specs.Parts.{column_at, no_column, parts_of}
use Rattle.join_words.specs.Powers.{stays}
use Rattle.join_frame.proofs.Commons.{counted_next}
use Rattle.join_frame.proofs.costs.core_places.Goals as goal

pub loop-j-preserved : goal.loop-j-preserved
loop-j-preserved c =
    let core = c.args.core.now in
    let sides = c.args.sides.now in
    let j = c.loop-j.j in
    let lt : j < length core.columns = omega (arith, c.len-j-end.ensures) in
    let column = get_or c.as_slice.result.now j no_column in
    let here : column ≡ get_or core.columns j no_column = ap (λ (cs : List CoreColumn). get_or cs j no_column) c.as_slice.ensures in
    counted_next (stays sides) (λ i. (column_at (parts_of core) i).cost) (core.constant ∷ []) j c.loop-j.places c.raised-places.result (not c.is_idle.result) column.cost c.loop-j.invariant (ap not c.is_idle.ensures) (ap (λ (x : CoreColumn). x.cost) here) c.raised-places.ensures
