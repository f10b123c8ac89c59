use Rattle.std.proofs.Common.{subst, sym, ◌∙◌, ap, ℕ, List}
use Rattle.smps_words.specs.Stages.{IsStageOf, stage_in}
use Rattle.smps_words.proofs.PeriodStages.{row_stage}
use Rattle.smps_words.proofs.periods.Periods.stage_of_row.Goals as goal

pub returns-clause-last : goal.returns-clause-last
returns-clause-last c =
    subst (λ n. IsStageOf c.args.self.now.rows c.args.row n)
    (sym (c.stage_in.ensures ∙ ap (λ (firsts : List ℕ). stage_in firsts c.args.row) c.as_slice.ensures))
    (row_stage c.args.self.now c.args.row)
