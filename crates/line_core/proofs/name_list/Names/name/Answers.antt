use Rattle.std.proofs.Common.{ℕ, List, Some, slice_get, ap, sym, ◌∙◌, Vec, Global}
use Rattle.std.specs.Option.{option_map}
use Rattle.std.proofs.lemmas.Option.{slice_get-map}
use Rattle.line_core.proofs.Numbered.{are_distinct, own_number}
use Rattle.line_core.proofs.name_list.Names.name.Goals as goal

pub returns-in-Some-clause-found : goal.returns-in-Some-clause-found
returns-in-Some-clause-found c =
    let keys = c.self.inside.set.keys in
    let number = c.args.number in
    let items = λ (v : Vec ℕ Global). v.items in
    let distinct = are_distinct items keys c.args.self.now c.self.view_is c.self.invariant.1 in
    let place =
    ap (λ (names : List (List ℕ)). slice_get names number) (sym c.self.view_is)
    ∙ slice_get-map items keys number
    ∙ ap (option_map items) (sym c.in-Some.ensures.key)
    ∙ ap Some (sym c.as_slice.ensures.value) in
    own_number c.args.self.now c.as_slice.result.now number distinct place
