use Rattle.branch_bound.proofs.pricing.pricing_of.Goals as goal

pub returns : goal.returns
returns c = record { fit = c.in_ok-prices.ensures; plain_under = c.in_ok-plain.ensures.under; priced_under = c.in_ok-priced.ensures.under; values = c.in_ok-grid.ensures; of = c.idle.ensures }
