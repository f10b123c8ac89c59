use Rattle.std.proofs.Common.{sym, ◌∙◌}
use Rattle.base_words.proofs.NumberTests.{less_from_test, not_less_from_test}
use Rattle.hub_cylinder.proofs.GoingOn.{ends_agreed, ends_close, ends_last, goes_on, hub_whole}
use Rattle.hub_cylinder.proofs.hub.Hub.test.Goals as goal

pub agrees-requires : goal.agrees-requires
agrees-requires c = hub_whole c.args.run.now c.args.self.now c.requires.hub

pub returns-then-agrees : goal.returns-then-agrees
returns-then-agrees c = ends_agreed c.args.run.now c.args.self.now c.requires.hub c.agrees.result c.agrees.ensures c.if-agrees.true

pub returns-then-is_close : goal.returns-then-is_close
returns-then-is_close c = ends_close c.args.run.now c.args.self.now c.requires.hub c.agrees.result c.is_close.result c.agrees.ensures c.if-agrees.false c.is_close.ensures c.if-is_close.true

pub returns-then-is_last : goal.returns-then-is_last
returns-then-is_last c = let s = c.args.self.now in ends_last c.args.run.now s c.requires.hub c.agrees.result c.is_close.result c.agrees.ensures c.if-agrees.false c.is_close.ensures c.if-is_close.false (less_from_test c.args.run.now.options.iterations s.hedge.put.number (sym c.is_last.ensures ∙ c.if-is_last.true))

pub returns : goal.returns
returns c = let s = c.args.self.now in goes_on c.args.run.now s c.requires.hub c.agrees.result c.is_close.result c.agrees.ensures c.if-agrees.false c.is_close.ensures c.if-is_close.false (not_less_from_test c.args.run.now.options.iterations s.hedge.put.number (sym c.is_last.ensures ∙ c.if-is_last.false))
