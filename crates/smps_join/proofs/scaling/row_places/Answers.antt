use Rattle.std.proofs.Common.{rules, sym, subst, ap, ◌≡◌, ◌≤◌, ◌∙◌, length, List, ℕ, FitsSigned}
use Rattle.std.proofs.lemmas.Int.{to_z-of_z}
use Rattle.std.specs.Int.{w64}
use Rattle.std.specs.List.{All}
use Rattle.join_words.specs.Framing.{frame_of}
use Rattle.join_words.specs.Joining.{source_of}
use Rattle.join_words.specs.declared.frame.Frame.{Frame}
use Rattle.smps_join.proofs.FrameIs.{frame_facts}
use Rattle.smps_join.proofs.Refusing.{all_named}
use Rattle.smps_join.proofs.scaling.row_places.Goals as goal

pub frame-requires-clause-named : goal.frame-requires-clause-named
frame-requires-clause-named c = all_named c.args.core.now c.args.periods.now c.args.stoch.now c.args.options.now (record { options_fit = c.requires.options; some_columns = c.requires.columns; stoch_fits = c.requires.stoch })

pub returns-clause-few : goal.returns-clause-few
returns-clause-few c =
    let fm : FitsSigned w64 c.args.options.now.missing = search rules in
    let is : c.in_ok-frame.frame ≡ frame_of (source_of c.args.core.now c.args.periods.now c.args.stoch.now c.args.options.now) = simp to_z-of_z at c.in_ok-frame.ensures in
    let rows : c.places_of.result ≡ (frame_of (source_of c.args.core.now c.args.periods.now c.args.stoch.now c.args.options.now)).row_places = c.places_of.ensures ∙ ap (λ (f : Frame). f.row_places) is in
    subst (λ (l : List ℕ). All (λ n. n ≤ 9) l) (sym rows) (frame_facts c.args.core.now c.args.periods.now c.args.stoch.now c.args.options.now (record { options_fit = c.requires.options; some_columns = c.requires.columns; stoch_fits = c.requires.stoch })).row_places

pub returns-clause-whole : goal.returns-clause-whole
returns-clause-whole c =
    let fm : FitsSigned w64 c.args.options.now.missing = search rules in
    let is : c.in_ok-frame.frame ≡ frame_of (source_of c.args.core.now c.args.periods.now c.args.stoch.now c.args.options.now) = simp to_z-of_z at c.in_ok-frame.ensures in
    let rows : c.places_of.result ≡ (frame_of (source_of c.args.core.now c.args.periods.now c.args.stoch.now c.args.options.now)).row_places = c.places_of.ensures ∙ ap (λ (f : Frame). f.row_places) is in
    ap length rows ∙ (frame_facts c.args.core.now c.args.periods.now c.args.stoch.now c.args.options.now (record { options_fit = c.requires.options; some_columns = c.requires.columns; stoch_fits = c.requires.stoch })).rows
