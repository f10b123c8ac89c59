use Rattle.std.proofs.Common.{sym, ◌∙◌}
use Rattle.board_tests.proofs.Meanings.{same_meaning}
use Rattle.board_tests.proofs.given.Given.meaning.Goals as goal

pub returns : goal.returns
returns c = same_meaning c.meaning.result c.args.self.now.of (c.meaning.ensures ∙ sym c.requires.of)
