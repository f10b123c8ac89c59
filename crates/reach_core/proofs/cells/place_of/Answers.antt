use Rattle.std.proofs.Common.{rules, subst, sym, true, false, ◌≡◌, List}
use Rattle.std.specs.List.Sorted.{IsPartitionPoint}
use Rattle.std.proofs.lemmas.List.Sorted.{IsPartitionPoint-from_clause}
use Rattle.boxed_problem.specs.declared.parts.Entry.{Entry}
use Rattle.sp_model.specs.Changes.{is_before}
use Rattle.sp_model.proofs.EntryOrder.{IsChain, chain_from}
use Rattle.reach_core.proofs.Finding.{parted}
use Rattle.reach_core.proofs.cells.place_of.Goals as goal

pub returns-clause-parted : goal.returns-clause-parted
returns-clause-parted c =
    let other = c.args.other.now in
    let same = c.as_slice.ensures in
    let chain = subst IsChain (sym same) (chain_from c.args.program.now.entries c.requires) in
    let point = IsPartitionPoint-from_clause (λ e. is_before e other) _ _ c.partition_point.ensures.partitioned (parted other c.as_slice.result.now chain) (λ a r q k. search rules) in
    subst (λ (es : List Entry). IsPartitionPoint (λ e. is_before e other ≡ true) (λ e. is_before e other ≡ false) es c.partition_point.result) same point
