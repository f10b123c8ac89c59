use Rattle.row_prices.proofs.StartLaws.{starts_right}
use Rattle.row_prices.proofs.ascent.ascent_from.Goals as goal

pub invariant_of-result : goal.invariant_of-result
invariant_of-result c =
    let b = c.args.problem.now in
    let r = c.in_ok-columns.field-0 in
    record {
      facts = starts_right r.columns c.args.sides.now c.in_ok-sides.sides b.columns c.in_ok-rows.rows b.rows c.in_ok-entries.entries b.entries r.line r.square c.in_ok-values.values c.args.prices.now.values
          c.in_ok-columns.ensures.is.columns c.in_ok-sides.ensures c.in_ok-rows.ensures c.in_ok-values.ensures r.facts.lines r.facts.squares r.facts.convex c.requires.prices.long c.in_ok-entries.ensures c.requires.sides b.facts.places;
    }
