use Rattle.std.proofs.Common.{sym, refl, subst, Some}
use Rattle.indexmap.specs.IndexMap.{Updates}
use Rattle.stoch_lines.specs.declared.entries.Mark.{Mark}
use Rattle.stoch_lines.specs.Marks.{AreMarked}
use Rattle.stoch_lines.proofs.Equal.{place_tests}
use Rattle.stoch_lines.proofs.Marking.{marked_push}
use Rattle.stoch_lines.proofs.entries.Entries.push.Goals as goal

pub invariant_of-self-in-Ok : goal.invariant_of-self-in-Ok
invariant_of-self-in-Ok c =
    let owned = c.args.owned in
    let mark : Mark = record { element = owned.element; choice = owned.choice } in
    let marks = c.self.inside.marks in
    let after = c.insert.new.self in
    let updates = subst (λ eq. Updates eq marks after owned.entry.place (Some mark)) place_tests c.in-Ok.ensures.updates in
    subst (λ items. AreMarked after items) (sym c.in_ok-push.ensures.ok)
    (marked_push marks after c.self.inside.items owned mark refl refl c.self.invariant updates)
