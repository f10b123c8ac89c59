use Rattle.std.proofs.Common.{arith, rules, sym, ap, subst, ◌∙◌, ◌≡◌, ◌*◌, List, length, All, FitsSigned}
use Rattle.std.specs.Int.{w128}
use Rattle.std.proofs.lemmas.Int.{to_z-of_z}
use Rattle.log_words.specs.declared.log.SpokeEnd.{SpokeEnd}
use Rattle.run_log.specs.Runs.{own_claims}
use Rattle.log_closing.specs.Closings.{HasPlaces, found_in, logs_of, multipliers_behind}
use Rattle.log_closing.specs.declared.closing.Closing.{Closing}
use Rattle.hub_cylinder.proofs.ClosedRuns.{agreed_plan, all_taken, ends_places, made_closes, made_run, own_few}
use Rattle.hub_cylinder.proofs.Roomy.{room_left}
use Rattle.hub_cylinder.proofs.hub.Hub.end.Goals as goal

pub take_own-requires-clause-plan : goal.take_own-requires-clause-plan
take_own-requires-clause-plan c = λ agreed. agreed_plan c.args.run.now c.args.self c.unwrap-end.result c.requires.hub c.unwrap-end.ensures agreed

pub take_left-requires-clause-room : goal.take_left-requires-clause-room
take_left-requires-clause-room c =
    let s = c.args.self in let run = c.args.run.now in
    omega (arith, ap (λ (xs : List SpokeEnd). length xs * s.most) c.as_slice.ensures, room_left run s.events.items s.events.spare c.requires.hub.room c.take_own.new.closing.events.spare (length (own_claims run s.hedge.put.number c.unwrap-end.result)) (length c.args.ends) s.most c.requires.hub.within (own_few run s.hedge.put.number c.unwrap-end.result) (c.take_own.ensures s.hedge.bound).spare c.requires.ends.many c.requires.hub.most)

pub take_left-requires-clause-places : goal.take_left-requires-clause-places
take_left-requires-clause-places c = let s = c.args.self in subst (λ (xs : List SpokeEnd). All (HasPlaces s.most) (logs_of xs)) (sym c.as_slice.ensures) (ends_places c.args.run.now s c.args.ends c.requires.hub c.requires.ends)

pub returns-clause-run : goal.returns-clause-run
returns-clause-run c =
    let s = c.args.self in let run = c.args.run.now in
    let last : Closing = c.take_left.new.self in
    let taken = all_taken run s c.args.ends c.requires.hub c.requires.ends c.unwrap-end.result c.take_own.new.closing last c.as_slice-2.result.now c.as_slice.result.now c.as_slice-2.ensures c.as_slice.ensures (c.take_own.ensures s.hedge.bound) (c.take_left.ensures s.hedge.bound) in
    let start_fits : FitsSigned w128 s.hedge.bound = search rules in
    let lower_fits : FitsSigned w128 last.ledger.pair.lower = search rules in
    let found : c.gather-logs.result.found ≡ found_in last.ledger.pair.lower c.args.ends = simp to_z-of_z at c.gather-logs.ensures.found in
    let backs : c.backing-multipliers.result ≡ multipliers_behind s.nothing s.hedge.bound last.ledger.pair.lower c.gather-logs.result.found = simp to_z-of_z at c.backing-multipliers.ensures in
    made_run run s c.args.ends c.unwrap-end.result last.events.items last.ledger.pair c.requires.hub c.unwrap-end.ensures c.requires.ends c.requires.answered (taken.taken c.requires.hub.pair) (taken.pair c.requires.hub.pair)
    c.closed.result c.gather-logs.result.logs.items c.backing-multipliers.result c.closed.ensures c.gather-logs.ensures.logs
    (backs ∙ ap (multipliers_behind s.nothing s.hedge.bound last.ledger.pair.lower) found)

pub returns-clause-closes : goal.returns-clause-closes
returns-clause-closes c =
    let s = c.args.self in let run = c.args.run.now in
    let last : Closing = c.take_left.new.self in
    let taken = all_taken run s c.args.ends c.requires.hub c.requires.ends c.unwrap-end.result c.take_own.new.closing last c.as_slice-2.result.now c.as_slice.result.now c.as_slice-2.ensures c.as_slice.ensures (c.take_own.ensures s.hedge.bound) (c.take_left.ensures s.hedge.bound) in
    let start_fits : FitsSigned w128 s.hedge.bound = search rules in
    let lower_fits : FitsSigned w128 last.ledger.pair.lower = search rules in
    let found : c.gather-logs.result.found ≡ found_in last.ledger.pair.lower c.args.ends = simp to_z-of_z at c.gather-logs.ensures.found in
    let backs : c.backing-multipliers.result ≡ multipliers_behind s.nothing s.hedge.bound last.ledger.pair.lower c.gather-logs.result.found = simp to_z-of_z at c.backing-multipliers.ensures in
    made_closes run s c.args.ends c.unwrap-end.result last.events.items last.ledger.pair c.requires.hub c.unwrap-end.ensures c.requires.ends c.requires.answered (taken.taken c.requires.hub.pair) (taken.pair c.requires.hub.pair)
    c.closed.result c.gather-logs.result.logs.items c.backing-multipliers.result c.closed.ensures c.gather-logs.ensures.logs
    (backs ∙ ap (multipliers_behind s.nothing s.hedge.bound last.ledger.pair.lower) found)
