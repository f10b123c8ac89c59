use Rattle.std.proofs.Common.{arith, ◌≡◌, ap, ◌∙◌, get_or, length}
use Rattle.sppy_cli.proofs.Written.{front_of_line_put, line_written, on_err}
use Rattle.sppy_cli.proofs.writer.write_lines.Goals as goal

pub returns-in_err-put-clause-err : goal.returns-in_err-put-clause-err
returns-in_err-put-clause-err g c =
    let is : c.as_slice.result.now ≡ get_or c.args.lines.now c.loop-line.line-index c.line-item.result =
    c.as_slice.ensures ∙ (c.line-item.is ∙ ap (λ lines. get_or lines c.loop-line.line-index c.line-item.result) c.as_slice-line-items.ensures) in
    on_err c.from_residual.result (front_of_line_put c.args.lines.now c.loop-line.line-index c.line-item.result c.as_slice.result.now (g.K.Sink.written c.args.out.now) (g.K.Sink.written c.loop-line.out) (g.K.Sink.written c.put.new.self) c.put.result (omega (arith, ap length c.as_slice-line-items.ensures)) is c.loop-line.invariant.written c.put.ensures.written)

pub loop-line-preserved : goal.loop-line-preserved
loop-line-preserved g c =
    let is : c.as_slice.result.now ≡ get_or c.args.lines.now c.loop-line.line-index c.line-item.result =
    c.as_slice.ensures ∙ (c.line-item.is ∙ ap (λ lines. get_or lines c.loop-line.line-index c.line-item.result) c.as_slice-line-items.ensures) in
    record {
      written = line_written c.args.lines.now c.loop-line.line-index c.line-item.result c.as_slice.result.now (g.K.Sink.written c.args.out.now) (g.K.Sink.written c.loop-line.out) (g.K.Sink.written c.put.new.self) (omega (arith, ap length c.as_slice-line-items.ensures)) is c.loop-line.invariant.written c.in_ok-put.ensures.written;
      count = c.in_ok-put.ensures.count ∙ c.loop-line.invariant.count;
    }
