use Rattle.std.proofs.Common.{arith, sym, subst, ap, ◌≡◌, ◌≤◌, ◌∙◌, List, Some, None}
use Rattle.base_words.proofs.NumberTests.{test_from_not_less}
use Rattle.smps_words.specs.declared.core_data.CoreEntry.{CoreEntry}
use Rattle.scenario_lists.specs.ScenarioList.{count_of}
use Rattle.join_words.specs.Joining.{source_of}
use Rattle.join_words.specs.Parts.{IsFirstEarly, firsts_of}
use Rattle.join_words.specs.RunOf.{nonleaf_in, nonleaf_of}
use Rattle.smps_join.proofs.ColumnFacts.{nonleaf_le}
use Rattle.smps_join.proofs.Refusing.{cells_many, crowded, vast_by_cells}
use Rattle.smps_join.proofs.joining.join.Goals as goal

pub returns-in-Some : goal.returns-in-Some
returns-in-Some c =
    let early : IsFirstEarly (firsts_of c.args.periods.now) c.as_slice.result.now (Some c.in-Some.line) = c.in-Some.ensures in
    subst (λ (es : List CoreEntry). IsFirstEarly (firsts_of c.args.periods.now) es (Some c.in-Some.line)) c.as_slice.ensures early

pub returns-in_default-scenario_count : goal.returns-in_default-scenario_count
returns-in_default-scenario_count c =
    let timely : IsFirstEarly (firsts_of c.args.periods.now) c.as_slice.result.now None = c.in_default.ensures in
    let many : count_of c.args.stoch.now ≤ 4096 → ⊥ = c.in_default-scenario_count.ensures in
    (subst (λ (es : List CoreEntry). IsFirstEarly (firsts_of c.args.periods.now) es None) c.as_slice.ensures timely, crowded (count_of c.args.stoch.now) many)

pub has_many_cells-requires-clause-nonleaf : goal.has_many_cells-requires-clause-nonleaf
has_many_cells-requires-clause-nonleaf c =
    let few = c.args.core.now.facts.few_columns in
    omega (arith, c.nonleaf-nonleaf.ensures, nonleaf_le c.args.periods.now c.len-columns.result, c.len-columns.ensures, few)

pub returns-then-has_many_cells : goal.returns-then-has_many_cells
returns-then-has_many_cells c =
    let timely : IsFirstEarly (firsts_of c.args.periods.now) c.as_slice.result.now None = c.in_default.ensures in
    let counted : (count_of c.args.stoch.now ≤ 4096) × (c.in-Ok.count ≡ count_of c.args.stoch.now) = c.in-Ok.ensures in
    let nonleaf : c.nonleaf-nonleaf.result ≡ nonleaf_of (source_of c.args.core.now c.args.periods.now c.args.stoch.now c.args.options.now) = c.nonleaf-nonleaf.ensures ∙ ap (nonleaf_in (firsts_of c.args.periods.now)) c.len-columns.ensures in
    let many = sym (cells_many c.args.core.now c.args.periods.now c.args.stoch.now c.args.options.now c.in-Ok.count c.len-columns.result c.len.result c.nonleaf-nonleaf.result counted.1 c.len-columns.ensures c.len.ensures nonleaf) ∙ (sym c.has_many_cells.ensures ∙ c.if-has_many_cells.true) in
    (subst (λ (es : List CoreEntry). IsFirstEarly (firsts_of c.args.periods.now) es None) c.as_slice.ensures timely, test_from_not_less 4096 (count_of c.args.stoch.now) counted.0, vast_by_cells c.args.core.now c.args.periods.now c.args.stoch.now c.args.options.now many)

pub listed-requires-clause-timely : goal.listed-requires-clause-timely
listed-requires-clause-timely c =
    let timely : IsFirstEarly (firsts_of c.args.periods.now) c.as_slice.result.now None = c.in_default.ensures in
    subst (λ (es : List CoreEntry). IsFirstEarly (firsts_of c.args.periods.now) es None) c.as_slice.ensures timely
