use Rattle.std.proofs.Common.{List, length, take, ap, sym, ◌∙◌}
use Rattle.std.proofs.lemmas.List.{take_more}
use Rattle.stoch_lines.specs.declared.entries.Owned.{Owned}
use Rattle.smps_stoch.specs.ElementSteps.{drafts_with}
use Rattle.smps_stoch.proofs.drafts.drafts_of.Goals as goal

pub loop-owned-preserved : goal.loop-owned-preserved
loop-owned-preserved c =
    let rs = c.args.realisations.now in
    let entries = c.args.entries.now in
    c.in_ok-add_entry.ensures rs (take c.loop-owned.owned-index entries) (length rs) c.loop-owned.invariant
    ∙ ap (λ (es : List Owned). drafts_with rs es (length rs)) (sym (take_more entries c.loop-owned.owned-index _ c.loop-owned-test.true))
