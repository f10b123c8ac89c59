-- Changes leave the numbers of costs and of rows.

use Rattle.std.proofs.Common.{refl, ◌∙◌, ◌≡◌, List, [], ◌∷◌, length}
use Rattle.std.proofs.Math.ListN.{length-set}
use Rattle.std.specs.List.{fold}
use Rattle.sp_model.specs.Changes.{Data, with_change}
use Rattle.sp_model.specs.declared.program.Change.{Change}
use Rattle.sp_model.specs.declared.program.Change.TheVariants.{Cost, Cell, Limits}

pub change_costs : (d : Data) (c : Change) → length (with_change d c).costs ≡ length d.costs
change_costs d (Cost column value) = length-set d.costs column value
change_costs d (Cell row column value) = refl
change_costs d (Limits row lower upper) = refl

pub change_limits : (d : Data) (c : Change) → length (with_change d c).limits ≡ length d.limits
change_limits d (Cost column value) = refl
change_limits d (Cell row column value) = refl
change_limits d (Limits row lower upper) = length-set d.limits row (record { lower = lower; upper = upper })

pub costs_kept : (d : Data) (cs : List Change) → length (fold with_change d cs).costs ≡ length d.costs
costs_kept d [] = refl
costs_kept d (c ∷ cs) = costs_kept (with_change d c) cs ∙ change_costs d c

pub limits_kept : (d : Data) (cs : List Change) → length (fold with_change d cs).limits ≡ length d.limits
limits_kept d [] = refl
limits_kept d (c ∷ cs) = limits_kept (with_change d c) cs ∙ change_limits d c
