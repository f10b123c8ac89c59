use Rattle.std.proofs.Common.{ℕ, ap, arith, set}
use Rattle.smps_stoch.proofs.Entries.{places_grow, places_stay}
use Rattle.smps_stoch.proofs.elements.count_places.Goals as goal

pub returns-then-draft-len : goal.returns-then-draft-len
returns-then-draft-len c =
    places_stay c.args.places.now.items c.args.draft.now (omega (arith, c.len.ensures, c.if-draft-len.true, c.args.places.now.ok.0))

pub returns : goal.returns
returns c =
    let places = c.args.places.now.items in
    let draft = c.args.draft.now in
    places_grow places (set places draft.element c.max-most.result) draft c.index.result.now (omega (arith, c.len.ensures, c.if-draft-len.false, c.args.places.now.ok.0)) c.index.ensures (ap (λ (m : ℕ). set places draft.element m) c.max-most.ensures)
