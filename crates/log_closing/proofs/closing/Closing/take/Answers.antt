use Rattle.std.proofs.Common.{sym, ap, ◌∙◌, [], ◌∷◌, ◌++◌}
use Rattle.bound_ledger.specs.Pairs.{pair_after}
use Rattle.run_log.specs.Events.{bounds_of}
use Rattle.log_closing.proofs.Advancing.{advance_take}
use Rattle.log_closing.proofs.closing.Closing.take.Goals as goal

pub returns : goal.returns
returns c = λ first.
    let items = c.args.self.now.events.items in
    advance_take c.args.self.now (record { ledger = c.take-pair.new.self; events = c.push.new.self }) c.args.source c.args.put c.args.value c.take-pair.result
    (λ start h. c.take-pair.ensures.answer ∙ (c.take-pair.ensures.kept start (bounds_of items) h ∙ ap (λ bound. pair_after start (bounds_of items ++ bound ∷ [])) c.bound_from.ensures))
    (sym c.take-pair.ensures.answer) (c.push.ensures.items ∙ ap (λ event. items ++ event ∷ []) c.take_event.ensures) c.push.ensures.spare first
