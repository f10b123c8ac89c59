use Rattle.std.proofs.Common.{ap, ◌∙◌, ◌+◌}
use Rattle.std.specs.Option.{option_map_or}
use Rattle.indexmap.specs.IndexMap.{get_by}
use Rattle.stoch_lines.specs.Faults.{last_at, is_taken}
use Rattle.stoch_lines.proofs.Equal.{place_tests}
use Rattle.stoch_lines.proofs.Marking.{taken_is}
use Rattle.stoch_lines.proofs.entries.Entries.is_taken.Goals as goal

pub returns-in-Some : goal.returns-in-Some
returns-in-Some c =
    let place = c.args.place in
    let items = c.self.inside.items in
    let found = c.in-Some.ensures.value ∙ ap (λ eq. get_by (eq place) c.self.inside.marks) place_tests in
    let same = ap (λ o. option_map_or (λ m. m.element + 1) o 0) found ∙ c.self.invariant.elements place in
    taken_is c.args.element c.in-Some.mark.now.element (last_at place items) same
    ∙ ap (λ entries. is_taken entries c.args.element place) c.self.view_is
