use Rattle.std.proofs.Common.{rules, refl, sym, subst, ap, ◌≡◌, ◌<◌, ◌≤◌, ◌∙◌, length, List, Bool, FitsSigned}
use Rattle.std.proofs.lemmas.Int.{to_z-of_z}
use Rattle.std.specs.Int.{w64}
use Rattle.scenario_lists.specs.Live.{ByExcess, entry_count, live_scenarios}
use Rattle.scenario_lists.specs.declared.data.ScenarioData.{ScenarioData}
use Rattle.scenario_lists.specs.declared.fault.ListFault.{ListFault}
use Rattle.join_words.specs.Framing.{frame_of}
use Rattle.join_words.specs.Joining.{source_of}
use Rattle.smps_join.specs.Counting.{live_of}
use Rattle.smps_join.proofs.Refusing.{all_named, cells_many, few_changes, many_changes, not_vast, vast_by_changes}
use Rattle.smps_join.proofs.joining.listed.Goals as goal

pub frame-requires-clause-named : goal.frame-requires-clause-named
frame-requires-clause-named c = all_named c.args.core.now c.args.periods.now c.args.stoch.now c.args.options.now c.requires.can

pub returns-in_default : goal.returns-in_default
returns-in_default c =
    let core = c.args.core.now in
    (c.requires.timely, c.requires.few, sym (cells_many core c.args.periods.now c.args.stoch.now c.args.options.now c.args.count (length core.columns) (length core.rows) c.args.nonleaf c.requires.count refl refl c.requires.nonleaf) ∙ c.requires.cells)

pub returns-in_default-live_columns : goal.returns-in_default-live_columns
returns-in_default-live_columns c =
    let core = c.args.core.now in
    (c.requires.timely, c.requires.few, sym (cells_many core c.args.periods.now c.args.stoch.now c.args.options.now c.args.count (length core.columns) (length core.rows) c.args.nonleaf c.requires.count refl refl c.requires.nonleaf) ∙ c.requires.cells)

pub returns-in-Err-Memory : goal.returns-in-Err-Memory
returns-in-Err-Memory c =
    let core = c.args.core.now in
    (c.requires.timely, c.requires.few, sym (cells_many core c.args.periods.now c.args.stoch.now c.args.options.now c.args.count (length core.columns) (length core.rows) c.args.nonleaf c.requires.count refl refl c.requires.nonleaf) ∙ c.requires.cells)

pub returns-in-Err-TooManyEntries : goal.returns-in-Err-TooManyEntries
returns-in-Err-TooManyEntries c =
    let fm : FitsSigned w64 c.args.options.now.missing = search rules in
    let source = source_of c.args.core.now c.args.periods.now c.args.stoch.now c.args.options.now in
    let frame : c.in-Ok.frame ≡ frame_of source = simp to_z-of_z at c.in-Ok.ensures in
    let live : c.as_slice.result.now ≡ live_of c.in-Ok.frame.sides = c.as_slice.ensures.value ∙ c.in-Ok-live_columns.ensures in
    let excess : 4194304 < entry_count (live_scenarios c.as_slice.result.now c.args.stoch.now) = subst (λ (f : ListFault). ByExcess (4194304 < entry_count (live_scenarios c.as_slice.result.now c.args.stoch.now)) f) c.in-Err-TooManyEntries.field-0-is c.in-Err-TooManyEntries.ensures.err in
    let many = many_changes c.args.core.now c.args.periods.now c.args.stoch.now c.args.options.now c.in-Ok.frame frame (subst (λ (l : List Bool). 4194304 < entry_count (live_scenarios l c.args.stoch.now)) live excess) in
    (c.requires.timely, c.requires.few, vast_by_changes c.args.core.now c.args.periods.now c.args.stoch.now c.args.options.now many)

pub weighed-requires-clause-cells : goal.weighed-requires-clause-cells
weighed-requires-clause-cells c =
    let fm : FitsSigned w64 c.args.options.now.missing = search rules in
    let source = source_of c.args.core.now c.args.periods.now c.args.stoch.now c.args.options.now in
    let frame : c.in-Ok.frame ≡ frame_of source = simp to_z-of_z at c.in-Ok.ensures in
    let live : c.as_slice.result.now ≡ live_of c.in-Ok.frame.sides = c.as_slice.ensures.value ∙ c.in-Ok-live_columns.ensures in
    let listed : c.in-Ok-scenarios.listed ≡ live_scenarios (live_of c.in-Ok.frame.sides) c.args.stoch.now = c.in-Ok-scenarios.ensures.ok ∙ ap (λ (l : List Bool). live_scenarios l c.args.stoch.now) live in
    let few = few_changes c.args.core.now c.args.periods.now c.args.stoch.now c.args.options.now c.in-Ok.frame frame (subst (λ (l : List ScenarioData). entry_count l ≤ 4194304) listed c.in-Ok-scenarios.ensures.few) in
    let core = c.args.core.now in
    not_vast c.args.core.now c.args.periods.now c.args.stoch.now c.args.options.now (sym (cells_many c.args.core.now c.args.periods.now c.args.stoch.now c.args.options.now c.args.count (length core.columns) (length core.rows) c.args.nonleaf c.requires.count refl refl c.requires.nonleaf) ∙ c.requires.cells) few
