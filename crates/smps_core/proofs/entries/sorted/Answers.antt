use Rattle.std.proofs.Common.{rules, sym, subst, List}
use Rattle.std.specs.List.Sorted.{IsNonDecreasingBy, IsPermutation}
use Rattle.std.proofs.lemmas.List.Sorted.{IsNonDecreasingBy-from_sort_by_key, IsPermutation-trans}
use Rattle.smps_words.specs.declared.core_data.CoreEntry.{CoreEntry}
use Rattle.smps_core.specs.Entries.{place_number}
use Rattle.smps_core.proofs.entries.sorted.Goals as goal

pub returns-clause-same : goal.returns-clause-same
returns-clause-same c = subst (λ (l : List CoreEntry). IsPermutation c.args.entries l) (sym c.from_vec.ensures) (IsPermutation-trans _ _ _ c.by_columns-items.ensures c.sort_unstable_by_key.ensures.permutation)

pub returns-clause-rise : goal.returns-clause-rise
returns-clause-rise c = subst (λ (l : List CoreEntry). IsNonDecreasingBy place_number l) (sym c.from_vec.ensures) (IsNonDecreasingBy-from_sort_by_key place_number _ c.sort_unstable_by_key.ensures.sorted (λ a r q k. search rules))
