use Rattle.std.proofs.Common.{subst, sym, ◌∙◌, ap, ℕ, List}
use Rattle.smps_words.specs.Stages.{IsStageOf, stage_in}
use Rattle.smps_words.proofs.PeriodStages.{column_stage}
use Rattle.smps_words.proofs.periods.Periods.stage_of_column.Goals as goal

pub returns-clause-last : goal.returns-clause-last
returns-clause-last c =
    subst (λ n. IsStageOf c.args.self.now.columns c.args.column n)
    (sym (c.stage_in.ensures ∙ ap (λ (firsts : List ℕ). stage_in firsts c.args.column) c.as_slice.ensures))
    (column_stage c.args.self.now c.args.column)
