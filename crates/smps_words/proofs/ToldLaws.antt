-- What one more line tells to what the lines before it have said.
use Rattle.std.proofs.Common.{◌≡◌, ap, ◌∙◌, sym, List, [], ◌∷◌, ◌++◌, append_assoc}
use Rattle.std.proofs.lemmas.List.{append-nil}
use Rattle.smps_words.specs.Outcomes.{all_told}

told_from : {L X : Type 0} (tells : List L → L → List X) (before xs : List L) (x : L) → all_told tells before (xs ++ x ∷ []) ≡ all_told tells before xs ++ tells (before ++ xs) x
told_from tells before [] x = append-nil (tells before x) ∙ ap (λ b. tells b x) (sym (append-nil before))
told_from tells before (y ∷ xs) x =
    ap (λ r. tells before y ++ r) (told_from tells (before ++ y ∷ []) xs x ∙ ap (λ b. all_told tells (before ++ y ∷ []) xs ++ tells b x) (append_assoc before (y ∷ []) xs))
    ∙ sym (append_assoc (tells before y) (all_told tells (before ++ y ∷ []) xs) (tells (before ++ y ∷ xs) x))

pub told_push : {L X : Type 0} (tells : List L → L → List X) (xs : List L) (x : L) → all_told tells [] (xs ++ x ∷ []) ≡ all_told tells [] xs ++ tells xs x
told_push tells xs x = told_from tells [] xs x
