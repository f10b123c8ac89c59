use Rattle.std.proofs.Common.{◌*ℤ◌, FitsSigned, to_z-of_z}
use Rattle.std.specs.Int.{w128}
use Rattle.text_lines.specs.Headings.{unit_of}
use Rattle.text_lines.proofs.Units.{unit_facts}
use Rattle.text_lines.proofs.numbers.unit.Goals as goal

pub overflow_mul-result : goal.overflow_mul-result
overflow_mul-result c =
    let facts = unit_facts c.args.run.now in
    let scale : FitsSigned w128 c.args.run.now.options.scale = facts.scale in
    let total : FitsSigned w128 c.args.run.now.total = facts.total in
    simp to_z-of_z facts.product

pub overflow_mul-result-2 : goal.overflow_mul-result-2
overflow_mul-result-2 c =
    let facts = unit_facts c.args.run.now in
    let scale : FitsSigned w128 c.args.run.now.options.scale = facts.scale in
    let total : FitsSigned w128 c.args.run.now.total = facts.total in
    let product : FitsSigned w128 (c.args.run.now.options.scale *ℤ c.args.run.now.total) = facts.product in
    let cost : FitsSigned w128 c.args.run.now.program.cost_scale = facts.cost_scale in
    simp to_z-of_z facts.unit

pub returns-clause-value : goal.returns-clause-value
returns-clause-value c =
    let facts = unit_facts c.args.run.now in
    let scale : FitsSigned w128 c.args.run.now.options.scale = facts.scale in
    let total : FitsSigned w128 c.args.run.now.total = facts.total in
    let product : FitsSigned w128 (c.args.run.now.options.scale *ℤ c.args.run.now.total) = facts.product in
    let cost : FitsSigned w128 c.args.run.now.program.cost_scale = facts.cost_scale in
    let unit : FitsSigned w128 (unit_of c.args.run.now) = facts.unit in
    simp to_z-of_z

pub returns-clause-above : goal.returns-clause-above
returns-clause-above c =
    let facts = unit_facts c.args.run.now in
    let scale : FitsSigned w128 c.args.run.now.options.scale = facts.scale in
    let total : FitsSigned w128 c.args.run.now.total = facts.total in
    let product : FitsSigned w128 (c.args.run.now.options.scale *ℤ c.args.run.now.total) = facts.product in
    let cost : FitsSigned w128 c.args.run.now.program.cost_scale = facts.cost_scale in
    let unit : FitsSigned w128 (unit_of c.args.run.now) = facts.unit in
    simp to_z-of_z facts.above
