use Rattle.std.proofs.lemmas.Result.{err_from_is_err_and}
use Rattle.schedule_lines.proofs.Answering.{line_fault, line_turn}
use Rattle.schedule_lines.proofs.schedule_file.read_lines.Goals as goal

pub loop-line-preserved : goal.loop-line-preserved
loop-line-preserved c = record {
  rest = line_turn c.args.crew c.args.bytes.now c.args.lines.now c.loop-line.line-index c.line-item.result c.loop-line.reading.turns c.add_line.new.self.turns _ c.loop-line-test.true c.line-item.is c.in_ok-add_line.ensures.reads c.loop-line.invariant.rest;
  counted = c.in_ok-add_line.ensures.counted;
}

pub returns-in_err-add_line : goal.returns-in_err-add_line
returns-in_err-add_line c =
    let p = err_from_is_err_and c.from_residual.result c.from_residual.ensures.1 in
    rw (p.1, p.2) (line_fault _ _ _ _ _ _ _ _ c.loop-line-test.true c.line-item.is c.in_err-add_line.ensures.reads c.loop-line.invariant.rest)
