use Rattle.std.proofs.Common.{FitsSigned, of_z, subst, to_z, to_z-of_z}
use Rattle.std.specs.Int.{w128}
use Rattle.sppy_cli.proofs.TextLaws.{bound_put}
use Rattle.sppy_cli.proofs.waiting.put_bound.Goals as goal
use Rattle.text_lines.specs.BoundLines.{IsBoundText}
use Rattle.text_lines.specs.Headings.{unit_of}
use Rattle.text_lines.proofs.Units.{unit_facts}

pub returns-clause-text : goal.returns-clause-text
returns-clause-text g c =
    let fits : FitsSigned w128 c.args.bound = c.ranges.bound in
    let unit : FitsSigned w128 (unit_of c.args.instance.now.run) = (unit_facts c.args.instance.now.run).unit in
    let exact = subst (λ unit. IsBoundText (to_z w128 (of_z w128 c.args.bound)) (to_z w128 (of_z w128 unit)) c.in-Ok.lines) c.unit.ensures.value c.in-Ok.ensures.exact in
    bound_put c.args.instance.now c.args.bound c.in-Ok.lines (g.K.Sink.written c.args.out.now) (g.K.Sink.written c.put_lines.new.out) c.put_lines.result (simp to_z-of_z at exact) c.put_lines.ensures.text
