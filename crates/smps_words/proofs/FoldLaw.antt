-- A fold over states gives what the look-ups into the lines before say.
use Rattle.std.proofs.Common.{◌≡◌, refl, ap, ◌∙◌, sym, Bool, true, false, List, [], ◌∷◌, ◌++◌}
use Rattle.std.specs.Prelude.{Option, Some, None}
use Rattle.smps_words.specs.Outcomes.{Outcome, judged, outcome, folded, seen_by, GoesOn}
use Rattle.smps_words.specs.Outcomes.Outcome.{Ended}

judge_is : {L K B : Type 0} (of : List L → B) (f : Option K) (e : Bool) (line : L) (after : List L) (state : B) (later : Outcome L K B) (later_lines : Outcome L K (List L)) → state ≡ of after → later ≡ seen_by of later_lines → judged f e line state later ≡ seen_by of (judged f e line after later_lines)
judge_is of (Some kind) e line after state later later_lines same tail = refl
judge_is of None true line after state later later_lines same tail = ap (λ b. Ended b) same
judge_is of None false line after state later later_lines same tail = tail

-- the lines from a place on, judged by a state, and by the lines before
fold_from : {L K B : Type 0} (of : List L → B) (fault : B → L → Option K) (ends : L → Bool) (next : B → L → B) → GoesOn of next → (before rest : List L) (state : B) → state ≡ of before → folded fault ends next state rest ≡ seen_by of (outcome (λ b l. fault (of b) l) ends before rest)
fold_from of fault ends next on before [] state same = refl
fold_from of fault ends next on before (line ∷ rest) state same =
    let after : next state line ≡ of (before ++ line ∷ []) = ap (λ s. next s line) same ∙ sym (on.more before line) in
    let tail = fold_from of fault ends next on (before ++ line ∷ []) rest (next state line) after in
    ap (λ s. judged (fault s line) (ends line) line (next state line) (folded fault ends next (next state line) rest)) same
    ∙ judge_is of (fault (of before) line) (ends line) line (before ++ line ∷ []) (next state line) (folded fault ends next (next state line) rest) (outcome (λ b l. fault (of b) l) ends (before ++ line ∷ []) rest) after tail

-- from the state of no lines on
pub fold_is : {L K B : Type 0} (of : List L → B) (fault : B → L → Option K) (ends : L → Bool) (next : B → L → B) → GoesOn of next → (lines : List L) → folded fault ends next (of []) lines ≡ seen_by of (outcome (λ b l. fault (of b) l) ends [] lines)
fold_is of fault ends next on lines = fold_from of fault ends next on [] lines (of []) refl
