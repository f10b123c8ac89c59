use Rattle.std.proofs.lemmas.Result.{err_from_is_err_and}
use Rattle.schedule_lines.proofs.Answering.{word_fault, word_turn}
use Rattle.schedule_lines.proofs.reading.Reading.add_line.Goals as goal

pub loop-span-preserved : goal.loop-span-preserved
loop-span-preserved c = record {
  rest = word_turn c.args.crew c.args.bytes.now c.args.line.now.number _ _ c.loop-span.span-index _ c.text.result.now c.loop-span.self.turns c.add_word.new.self.turns _ c.as_slice-span-items.ensures c.loop-span-test.true c.text.ensures c.in_ok-add_word.ensures.reads c.loop-span.invariant.rest;
  counted = c.in_ok-add_word.ensures.counted;
}

pub returns-in_err-add_word-clause-reads : goal.returns-in_err-add_word-clause-reads
returns-in_err-add_word-clause-reads c =
    let p = err_from_is_err_and c.from_residual.result c.from_residual.ensures.1 in
    rw (p.1, p.2) (word_fault c.args.crew c.args.bytes.now c.args.line.now.number _ _ c.loop-span.span-index _ c.text.result.now c.loop-span.self.turns _ _ c.as_slice-span-items.ensures c.loop-span-test.true c.text.ensures c.in_err-add_word.ensures.reads c.loop-span.invariant.rest)
