use Rattle.std.proofs.Common.{rules, ap, ◌∙◌, ◌≡◌, ◌+◌, ◌*◌, ◌^◌, set, ◌+ℤ◌, FitsSigned}
use Rattle.std.proofs.lemmas.Int.{to_z-of_z}
use Rattle.std.specs.Int.{w128}
use Rattle.put_words.specs.NodeSums.{value_at}
use Rattle.hedging.specs.Tables.{gain_of}
use Rattle.hedging.proofs.Filling.{cell_gained, gain_fits, place_there}
use Rattle.hedging.proofs.tables.add_cell.Goals as goal

pub add_to-requires-clause-there : goal.add_to-requires-clause-there
add_to-requires-clause-there c = place_there c.args.run.now (2 ^ 125) c.args.scenario c.args.column c.args.cells.now c.requires.table c.requires.scenario c.requires.column

pub add_to-requires-clause-fits : goal.add_to-requires-clause-fits
add_to-requires-clause-fits c =
    let run = c.args.run.now in
    let fg : FitsSigned w128 c.gain_of-gained.result = search rules in
    let h : FitsSigned w128 (value_at run c.args.cells.now c.args.scenario c.args.column +ℤ c.gain_of-gained.result) = rw c.gain_of-gained.ensures (gain_fits run c.args.x.now c.args.gain c.args.scenario c.args.column c.args.cells.now c.requires.inside c.requires.table c.requires.scenario c.requires.column) in
    simp to_z-of_z h

pub returns : goal.returns
returns c =
    let run = c.args.run.now in
    let s = c.args.scenario in
    let k = c.args.column in
    let fg : FitsSigned w128 c.gain_of-gained.result = search rules in
    let added : c.add_to.new.cells ≡ set c.args.cells.now (s * run.nonleaf + k) (value_at run c.args.cells.now s k +ℤ c.gain_of-gained.result) = simp to_z-of_z at c.add_to.ensures in
    cell_gained run (2 ^ 125) s k (gain_of run c.args.x.now c.args.gain) c.args.cells.now c.add_to.new.cells c.requires.table c.requires.scenario c.requires.column
    (added ∙ ap (λ g. set c.args.cells.now (s * run.nonleaf + k) (value_at run c.args.cells.now s k +ℤ g)) c.gain_of-gained.ensures)
