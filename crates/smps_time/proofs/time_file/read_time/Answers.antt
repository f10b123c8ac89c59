use Rattle.std.proofs.Common.{Ok, ap, sym, ◌∙◌}
use Rattle.std.proofs.lemmas.Result.{err_from_is_err_and}
use Rattle.smps_time.specs.TimeAnswers.{names_of}
use Rattle.smps_time.proofs.Answering.{lines_end, lines_fail}
use Rattle.smps_time.proofs.time_file.read_time.Goals as goal

pub returns-in_err-reading : goal.returns-in_err-reading
returns-in_err-reading c =
    let p = err_from_is_err_and c.from_residual.result c.from_residual.ensures.1 in
    rw (p.1, p.2) (lines_fail (names_of c.args.core.now) c.args.bytes.now c.as_slice.result.now _ (c.in-Ok.ensures.exact ∙ ap Ok (sym c.as_slice.ensures)) c.in_err-reading.ensures.reads)

pub returns : goal.returns
returns c =
    lines_end (names_of c.args.core.now) c.args.bytes.now c.as_slice.result.now c.in_ok-reading.reading c.periods_in.result
    (c.in-Ok.ensures.exact ∙ ap Ok (sym c.as_slice.ensures)) c.in_ok-reading.ensures.reads c.periods_in.ensures.ok c.periods_in.ensures.err
