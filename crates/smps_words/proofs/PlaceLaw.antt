-- The outcome of a file is what the places of its lines say.
use Rattle.std.proofs.Common.{◌≡◌, refl, ap, ◌∙◌, sym, subst, ℕ, ◌+◌, Bool, true, false, List, [], ◌∷◌, ◌++◌, length, take, get_or, append_assoc, arith, length-append, below_more}
use Rattle.std.proofs.lemmas.List.{append-nil, take_at, take_more, get_or_at}
use Rattle.std.specs.Prelude.{Option, Some, None}
use Rattle.smps_words.specs.Outcomes.{Outcome, judged, outcome}
use Rattle.smps_words.specs.FirstPlaces.{IsAt, CleanTo, Says}

-- a list of lines with one of them between the lines before it and those behind it
there : {L : Type 0} (before : List L) (line : L) (rest : List L) → IsAt (before ++ line ∷ rest) (length before) line
there before line rest = (rw length-append (omega arith), get_or_at before line rest line (length before) refl)

front : {L : Type 0} (before : List L) (line : L) (rest : List L) → take (length before) (before ++ line ∷ rest) ≡ before
front before line rest = take_at before (line ∷ rest) (length before) refl

front_more : {L : Type 0} (before : List L) (line : L) (rest : List L) → before ++ line ∷ [] ≡ take (length before + 1) (before ++ line ∷ rest)
front_more before line rest =
    let at = there before line rest in
    sym (take_more (before ++ line ∷ rest) (length before) line at.0 ∙ ap (λ b. b ++ get_or (before ++ line ∷ rest) (length before) line ∷ []) (front before line rest) ∙ ap (λ l. before ++ l ∷ []) at.1)

clean_more : {L K : Type 0} (fault : List L → L → Option K) (ends : L → Bool) (before : List L) (line : L) (rest : List L) → fault before line ≡ None → ends line ≡ false → CleanTo fault ends (before ++ line ∷ rest) (length before) → CleanTo fault ends (before ++ line ∷ rest) (length before + 1)
clean_more {L} fault ends before line rest none on clean =
    let xs = before ++ line ∷ rest in
    let P : ℕ → Type 0 = λ m. (d : L) → (fault (take m xs) (get_or xs m d) ≡ None) × (ends (get_or xs m d) ≡ false) in
    below_more P (length before) clean (λ d.
    let at = get_or_at before line rest d (length before) refl in
    (ap (λ b. fault b (get_or xs (length before) d)) (front before line rest) ∙ ap (λ l. fault before l) at ∙ none, ap ends at ∙ on))

one : {L K : Type 0} (fault : List L → L → Option K) (ends : L → Bool) (before : List L) (line : L) (rest : List L) (later : Outcome L K (List L)) (f : Option K) (e : Bool) → fault before line ≡ f → ends line ≡ e → CleanTo fault ends (before ++ line ∷ rest) (length before) → (CleanTo fault ends (before ++ line ∷ rest) (length before + 1) → Says fault ends (before ++ line ∷ rest) later) → Says fault ends (before ++ line ∷ rest) (judged f e line (before ++ line ∷ []) later)
one fault ends before line rest later (Some kind) e is on clean tail = (length before, there before line rest, ap (λ b. fault b line) (front before line rest) ∙ is, clean)
one fault ends before line rest later None true is on clean tail = (length before, line, there before line rest, front_more before line rest, ap (λ b. fault b line) (front before line rest) ∙ is, on, clean)
one fault ends before line rest later None false is on clean tail = tail (clean_more fault ends before line rest is on clean)

says_from : {L K : Type 0} (fault : List L → L → Option K) (ends : L → Bool) (before rest : List L) → CleanTo fault ends (before ++ rest) (length before) → Says fault ends (before ++ rest) (outcome fault ends before rest)
says_from fault ends before [] clean = subst (λ n. CleanTo fault ends (before ++ []) n) (sym (ap (λ b. length b) (append-nil before))) clean
says_from {L} fault ends before (line ∷ rest) clean =
    let same : (before ++ line ∷ []) ++ rest ≡ before ++ line ∷ rest = append_assoc before (line ∷ []) rest in
    let len : length (before ++ line ∷ []) ≡ length before + 1 = length-append before (line ∷ []) in
    one fault ends before line rest (outcome fault ends (before ++ line ∷ []) rest) (fault before line) (ends line) refl refl clean (λ more.
    subst (λ (xs : List L). Says fault ends xs (outcome fault ends (before ++ line ∷ []) rest)) same
    (says_from fault ends (before ++ line ∷ []) rest
    (subst (λ (xs : List L). CleanTo fault ends xs (length (before ++ line ∷ []))) (sym same) (subst (λ n. CleanTo fault ends (before ++ line ∷ rest) n) (sym len) more))))

-- what stands at the places decides the outcome
pub says : {L K : Type 0} (fault : List L → L → Option K) (ends : L → Bool) (xs : List L) → Says fault ends xs (outcome fault ends [] xs)
says fault ends xs = says_from fault ends [] xs (λ m lt. absurd (omega (arith, lt)))
