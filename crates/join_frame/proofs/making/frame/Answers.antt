use Rattle.std.proofs.Common.{◌≡◌, ◌∙◌, ap, length, map, List, FitsSigned}
use Rattle.std.proofs.lemmas.Int.{to_z-of_z}
use Rattle.std.specs.Int.{w64}
use Rattle.std.specs.List.{range_with_len}
use Rattle.boxed_problem.specs.declared.parts.Side.{Side}
use Rattle.stoch_lines.specs.declared.places.StochEntry.{StochEntry}
use Rattle.join_words.specs.Boxes.{boxes_of}
use Rattle.join_words.specs.Parts.{all_entries, parts_of}
use Rattle.join_words.specs.Powers.{cost_places, row_places}
use Rattle.join_frame.proofs.Framed.{framed}
use Rattle.join_frame.proofs.making.frame.Goals as goal

pub returns : goal.returns
returns c =
    let core = c.args.core.now in
    let fits : FitsSigned w64 c.args.missing = c.ranges.missing in
    let sides : c.in_ok-sides.sides ≡ boxes_of c.args.missing core.columns = (simp to_z-of_z at c.in_ok-sides.ensures) ∙ ap (boxes_of c.args.missing) c.as_slice.ensures in
    let entries : c.as_slice-2.result.now ≡ all_entries c.args.stoch.now = c.as_slice-2.ensures.value ∙ c.in_ok-entries.ensures in
    let entries3 : c.as_slice-3.result.now ≡ all_entries c.args.stoch.now = c.as_slice-3.ensures.value ∙ c.in_ok-entries.ensures in
    let costs : c.cost_places-cost_places.result ≡ cost_places (parts_of core) (boxes_of c.args.missing core.columns) (all_entries c.args.stoch.now) = c.cost_places-cost_places.ensures ∙ (ap (λ (s : List Side). cost_places (parts_of core) s c.as_slice-2.result.now) sides ∙ ap (cost_places (parts_of core) (boxes_of c.args.missing core.columns)) entries) in
    let rows : c.in_ok-row_places.row_places ≡ map (row_places (parts_of core) (boxes_of c.args.missing core.columns) (all_entries c.args.stoch.now)) (range_with_len 0 (length core.rows)) = c.in_ok-row_places.ensures ∙ (ap (λ (s : List Side). map (row_places (parts_of core) s c.as_slice-3.result.now) (range_with_len 0 (length core.rows))) sides ∙ ap (λ (es : List StochEntry). map (row_places (parts_of core) (boxes_of c.args.missing core.columns) es) (range_with_len 0 (length core.rows))) entries3) in
    framed core c.args.periods.now c.args.stoch.now c.args.missing c.in_ok-sides.sides c.cost_places-cost_places.result c.in_ok-row_places.row_places sides costs rows
