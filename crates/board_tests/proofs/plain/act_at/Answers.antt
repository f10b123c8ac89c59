use Rattle.std.proofs.Common.{ap, ◌∙◌}
use Rattle.plain_board.specs.Plain.{PlainValue}
use Rattle.put_codec.specs.declared.run_meaning.RunMeaning.{RunMeaning}
use Rattle.board_tests.specs.Sitting.{Sits}
use Rattle.board_tests.proofs.Desking.{here, stays}
use Rattle.board_tests.proofs.plain.act_at.Goals as goal

pub act-requires-clause-of : goal.act-requires-clause-of
act-requires-clause-of c = ap (λ (z : PlainValue RunMeaning). z.0) c.select.ensures ∙ c.requires.of

pub act-requires-clause-sits : goal.act-requires-clause-sits
act-requires-clause-sits c = here c.args.board.now c.select.new.self c.select.new.self c.args.seat c.select.ensures (λ v. Sits c.args.given.now.run v c.args.actor) c.requires.sits

pub returns-clause-stays : goal.returns-clause-stays
returns-clause-stays c = stays c.args.board.now c.select.new.self c.act.new.board c.args.seat c.select.ensures c.act.ensures.made
