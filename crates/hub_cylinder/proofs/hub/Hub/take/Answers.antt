use Rattle.std.proofs.Common.{refl, sym, ap, ◌∙◌, [], ◌∷◌, ◌++◌}
use Rattle.bound_ledger.specs.Pairs.{pair_after}
use Rattle.run_log.specs.Events.{bounds_of}
use Rattle.hub_cylinder.proofs.Taking.{take_keeps}
use Rattle.hub_cylinder.proofs.hub.Hub.take.Goals as goal

pub returns-clause-hub : goal.returns-clause-hub
returns-clause-hub c =
    let s = c.args.self.now in
    let items = s.events.items in
    take_keeps s.run.value s (record s { ledger = c.take-pair.new.self; marks = c.mark.new.marks; events = c.push.new.self }) c.args.spoke c.args.put c.args.value c.take-pair.result c.requires.hub c.requires.going c.requires.may
    (c.take-pair.ensures.answer ∙ (c.take-pair.ensures.kept s.hedge.bound (bounds_of items) c.requires.hub.pair ∙ ap (λ b. pair_after s.hedge.bound (bounds_of items ++ b ∷ [])) c.bound_from.ensures))
    (record { run = refl; most = refl; hedge = refl; pair_is = sym c.take-pair.ensures.answer; events = c.push.ensures.items ∙ ap (λ e. items ++ e ∷ []) c.take_event.ensures; spare = c.push.ensures.spare; marks = c.mark.ensures; logs = refl; logs_room = refl; nothing = refl; end = refl })
