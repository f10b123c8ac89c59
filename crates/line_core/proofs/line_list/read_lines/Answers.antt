use Rattle.std.proofs.Common.{◌+◌, ◌≤◌, length, sym, arith}
use Rattle.std.proofs.lemmas.List.{take_rest}
use Rattle.std.proofs.lemmas.Result.{err_from_is_err_and}
use Rattle.line_core.proofs.Turns.{begin, last, last_fault, turn, turn_fault}
use Rattle.line_core.proofs.line_list.read_lines.Goals as goal

pub loop-count-init : goal.loop-count-init
loop-count-init c = record {
  within = omega arith;
  number = omega arith;
  stands = rw c.new-found.ensures (begin c.args.bytes.now);
}

pub returns-in_err-add_line : goal.returns-in_err-add_line
returns-in_err-add_line c =
    let p = err_from_is_err_and c.from_residual.result c.from_residual.ensures.1 in
    let within : c.loop-count.at + c.in-Some.count ≤ length c.args.bytes.now = omega (arith, c.in-Some.ensures.within) in
    rw (p.1, p.2) (turn_fault c.args.bytes.now c.loop-count.found c.loop-count.number c.loop-count.at c.in-Some.count c.text_at.result.now c.in_err-add_line.field-0.0
    c.loop-count.invariant.stands (sym c.in-Some.ensures.place) within c.text_at.ensures.text c.in_err-add_line.ensures.err)

pub loop-count-preserved : goal.loop-count-preserved
loop-count-preserved c =
    let within : c.loop-count.at + c.in-Some.count ≤ length c.args.bytes.now = omega (arith, c.in-Some.ensures.within) in
    record {
      within = omega (arith, c.in-Some.ensures.within);
      number = omega (arith, c.loop-count.invariant.number);
      stands = turn c.args.bytes.now c.loop-count.found c.add_line.new.lines c.loop-count.number c.loop-count.at c.in-Some.count c.text_at.result.now
          c.loop-count.invariant.stands (sym c.in-Some.ensures.place) within c.text_at.ensures.text c.in_ok-add_line.ensures.ok;
    }

pub returns-in_err-add_line-2 : goal.returns-in_err-add_line-2
returns-in_err-add_line-2 c =
    let p = err_from_is_err_and c.from_residual-in_err-add_line-2.result c.from_residual-in_err-add_line-2.ensures.1 in
    let answered = simp take_rest at c.in_err-add_line-2.ensures.err in
    rw (p.1, p.2) (last_fault c.args.bytes.now c.loop-count.found c.loop-count.number c.loop-count.at c.in_err-add_line-2.field-0.0
    c.loop-count.invariant.stands (sym c.in_default.ensures.place) answered)

pub returns : goal.returns
returns c =
    let added = simp take_rest at c.in_ok-add_line-2.ensures.ok in
    last c.args.bytes.now c.loop-count.found c.add_line-2.new.lines c.loop-count.number c.loop-count.at
    c.loop-count.invariant.stands (sym c.in_default.ensures.place) added
