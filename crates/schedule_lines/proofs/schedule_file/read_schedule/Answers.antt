use Rattle.std.proofs.Common.{Ok, ap, sym, ◌∙◌}
use Rattle.std.proofs.lemmas.Result.{err_from_is_err_and}
use Rattle.schedule_lines.specs.Schedules.{crew_of, words_in}
use Rattle.schedule_lines.proofs.Answering.{file_fault, file_turns}
use Rattle.schedule_lines.proofs.Within.{within}
use Rattle.schedule_lines.proofs.schedule_file.read_schedule.Goals as goal

pub returns-in_err-reading-clause-exact : goal.returns-in_err-reading-clause-exact
returns-in_err-reading-clause-exact c =
    let p = err_from_is_err_and c.from_residual.result c.from_residual.ensures.1 in
    rw (p.1, p.2) (file_fault (crew_of c.args.ranks c.args.spokes) c.args.bytes.now c.as_slice.result.now _ (c.in-Ok.ensures.exact ∙ ap Ok (sym c.as_slice.ensures)) c.in_err-reading.ensures)

pub returns-clause-exact : goal.returns-clause-exact
returns-clause-exact c = file_turns (crew_of c.args.ranks c.args.spokes) c.args.bytes.now c.as_slice.result.now _ (c.in-Ok.ensures.exact ∙ ap Ok (sym c.as_slice.ensures)) c.in_ok-reading.ensures

pub returns-clause-within : goal.returns-clause-within
returns-clause-within c = within (crew_of c.args.ranks c.args.spokes) (words_in c.args.bytes.now c.as_slice.result.now) _ c.in_ok-reading.ensures
