use Rattle.std.proofs.Common.{ap, ◌∙◌}
use Rattle.plain_board.specs.Plain.{fresh_views}
use Rattle.plain_board.proofs.Opening.{fresh_rule_by, fresh_shows}
use Rattle.plain_board.proofs.plain.PlainBoard.new.Goals as goal

pub invariant_of-result : goal.invariant_of-result
invariant_of-result g c =
    fresh_rule_by g.M.Meaning.entry g.M.Meaning.wide g.M.Meaning.count g.M.Meaning.lead g.M.Meaning.last c.args.meaning _ _ _ _ _ _ _ _ c.in_ok-places.ensures c.widest_of.ensures c.in_ok-words.ensures
    c.windows.ensures c.leaders.ensures c.most.ensures c.in_ok-seats.ensures.views c.in_ok-seats.ensures.room

pub returns : goal.returns
returns g c =
    fresh_shows g.M.Meaning.wide g.M.Meaning.count c.args.meaning _ _ _ _ c.in_ok-places.ensures c.in_ok-words.ensures (c.in_ok-seats.ensures.views ∙ ap fresh_views c.windows.ensures)
