use Rattle.std.proofs.Common.{arith, ap, ◌∙◌}
use Rattle.hedging.specs.Hedges.{made_of}
use Rattle.put_words.proofs.Inside.{put_number}
use Rattle.put_words.specs.Puts.{put_of}
use Rattle.board_tests.proofs.making.puts_of.Goals as goal

pub put_on-requires-clause-put : goal.put_on-requires-clause-put
put_on-requires-clause-put c = ap (λ k. put_of c.args.run.now k) (put_number c.args.run.now 1 (made_of c.in-Ok.hedge) c.in-Ok.ensures.ok.0) ∙ c.in-Ok.ensures.ok.0

pub put_on-requires-clause-first : goal.put_on-requires-clause-first
put_on-requires-clause-first c = let number = put_number c.args.run.now 1 (made_of c.in-Ok.hedge) c.in-Ok.ensures.ok.0 in omega arith

pub put_on-requires-clause-last : goal.put_on-requires-clause-last
put_on-requires-clause-last c = let number = put_number c.args.run.now 1 (made_of c.in-Ok.hedge) c.in-Ok.ensures.ok.0 in omega arith

pub loop-step-init : goal.loop-step-init
loop-step-init c = record {
  put = ap (λ k. put_of c.args.run.now k) (put_number c.args.run.now 1 (made_of c.in-Ok.hedge) c.in-Ok.ensures.ok.0) ∙ c.in-Ok.ensures.ok.0;
  number = put_number c.args.run.now 1 (made_of c.in-Ok.hedge) c.in-Ok.ensures.ok.0;
  puts = c.in_ok-put_on.ensures;
}
