use Rattle.std.proofs.Common.{ap, ◌∙◌, ◌+◌}
use Rattle.std.specs.Option.{option_map_or}
use Rattle.indexmap.specs.IndexMap.{get_by}
use Rattle.stoch_lines.specs.Faults.{last_at, is_given}
use Rattle.stoch_lines.proofs.Equal.{place_tests}
use Rattle.stoch_lines.proofs.Marking.{given_is}
use Rattle.stoch_lines.proofs.entries.Entries.is_given.Goals as goal

pub returns-in-Some : goal.returns-in-Some
returns-in-Some c =
    let place = c.args.place in
    let items = c.self.inside.items in
    let found = c.in-Some.ensures.value ∙ ap (λ eq. get_by (eq place) c.self.inside.marks) place_tests in
    let same = ap (λ o. option_map_or (λ m. m.choice + 1) o 0) found ∙ c.self.invariant.choices place in
    given_is c.args.choice c.in-Some.mark.now.choice (last_at place items) same
    ∙ ap (λ entries. is_given entries c.args.choice place) c.self.view_is
