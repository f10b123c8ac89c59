use Rattle.std.proofs.Common.{arith, FitsSigned, subst, sym}
use Rattle.std.specs.Prelude.{slice_index}
use Rattle.std.proofs.lemmas.Int.{to_z-of_z}
use Rattle.std.specs.Int.{w128}
use Rattle.std.proofs.lemmas.Result.{on_ok_weaker}
use Rattle.smps_stoch.proofs.Entries.{element_pushed, elements_stay}
use Rattle.smps_stoch.proofs.Weighing.{weight_fits}
use Rattle.smps_stoch.proofs.elements.add_realisation.Goals as goal

pub returns-then-element-places : goal.returns-then-element-places
returns-then-element-places c =
    elements_stay c.args.places.now c.args.elements.now.items c.args.draft (omega (arith, c.if-element-places.true, c.requires.each))

pub returns : goal.returns
returns c =
    let fits : FitsSigned w128 c.weight_of-weight.result = subst (FitsSigned w128) (sym c.weight_of-weight.ensures) (weight_fits c.args.draft.probability (slice_index c.args.places.now c.args.draft.element) c.requires.probable (c.requires.enough c.if-element-places.false) (c.requires.most c.if-element-places.false)) in
    on_ok_weaker c.push.result
    (element_pushed c.args.places.now c.args.elements.now.items c.args.draft c.index_mut.result.now c.weight_of-weight.result c.push.new.self (omega (arith, c.if-element-places.false, c.requires.each)) c.index_mut.ensures.value c.weight_of-weight.ensures)
    (simp to_z-of_z at c.push.ensures.ok)
