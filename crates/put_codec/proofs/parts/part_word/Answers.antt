use Rattle.std.proofs.Common.{arith, rules, Fits}
use Rattle.std.specs.Int.{w32}
use Rattle.put_codec.proofs.Places.{few_cells, place_below}
use Rattle.put_codec.proofs.Words.{cell_is}
use Rattle.put_codec.proofs.parts.part_word.Goals as goal

pub overflow_add-start : goal.overflow_add-start
overflow_add-start c = let below = place_below c.args.layout.now c.args.rank c.start.result c.args.index c.requires.rank c.requires.index c.start.ensures.value in
    let many : Fits w32 c.args.layout.now.scenarios = search rules in
    let wide : Fits w32 c.args.layout.now.nonleaf = search rules in
    let small = few_cells c.args.layout.now (omega arith) (omega arith) in
    omega arith

pub cell_at-cell-requires-clause-multiplier : goal.cell_at-cell-requires-clause-multiplier
cell_at-cell-requires-clause-multiplier c = let below = place_below c.args.layout.now c.args.rank c.start.result c.args.index c.requires.rank c.requires.index c.start.ensures.value in let long = c.requires.put.multipliers in omega arith

pub cell_at-cell-requires-clause-x : goal.cell_at-cell-requires-clause-x
cell_at-cell-requires-clause-x c = let below = place_below c.args.layout.now c.args.rank c.start.result c.args.index c.requires.rank c.requires.index c.start.ensures.value in let long = c.requires.put.x in omega arith

pub returns : goal.returns
returns c = cell_is c.args.layout.now c.args.rank c.args.index c.start.result c.cell_word.result c.args.put.now _ _ c.requires.rank c.requires.index c.start.ensures.value c.cell_at-cell.ensures.multiplier c.cell_at-cell.ensures.x c.cell_word.ensures
