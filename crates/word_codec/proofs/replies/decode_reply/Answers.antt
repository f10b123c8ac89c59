use Rattle.std.proofs.Common.{arith}
use Rattle.word_codec.proofs.Spelled.{mark_off, first_off, second_off}
use Rattle.word_codec.proofs.replies.decode_reply.Goals as goal

pub returns-then-words-gt1-clause-err : goal.returns-then-words-gt1-clause-err
returns-then-words-gt1-clause-err c = mark_off c.args.words (omega arith) c.if-words-gt1.true

pub returns-then-words-ne0-clause-err : goal.returns-then-words-ne0-clause-err
returns-then-words-ne0-clause-err c = first_off c.args.words (omega arith) (omega arith) c.if-words-ne0.true

pub returns-then-words-ne0-2-clause-err : goal.returns-then-words-ne0-2-clause-err
returns-then-words-ne0-2-clause-err c = second_off c.args.words (omega arith) (omega arith) c.if-words-ne0.false c.if-words-ne0-2.true
