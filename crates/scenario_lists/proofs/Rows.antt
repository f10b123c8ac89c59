-- Lists made number after number, and rows of marks.
use Rattle.std.proofs.Common.{refl, ◌≡◌, ◌<◌, ◌+◌, ℕ, ◌∙◌, ap, get_or, take, List, [], ◌∷◌, ◌++◌, length, map, subst, sym}
use Rattle.std.specs.List.{fold, range_with_len}
use Rattle.std.proofs.lemmas.List.Elements.{All-push}
use Rattle.std.proofs.lemmas.List.FromFn.{length-map-range_with_len}
use Rattle.std.proofs.lemmas.List.Sums.{fold_more}
use Rattle.scenario_lists.specs.ScenarioList.{AreRows}

-- one more row of as many marks
pub rows_push : (f : ℕ → ℕ) (stages : ℕ) (old new : List (List ℕ)) (row : List ℕ) → new ≡ old ++ row ∷ [] → row ≡ map f (range_with_len 1 stages) → AreRows stages old → AreRows stages new
rows_push f stages old new row pushed is rows =
    let P : List (List ℕ) → Type 0 = AreRows stages in
    subst P (sym pushed) (All-push (λ marks. length marks ≡ stages) old row rows (ap length is ∙ length-map-range_with_len f 1 stages))

-- one more item of a list that is read by number
pub next_folded : {A B : Type 0} (f : B → A → B) (start : B) (xs : List A) (k : ℕ) (old new : B) (x : A) → k < length xs → x ≡ get_or xs k x → new ≡ f old x → old ≡ fold f start (take k xs) → new ≡ fold f start (take (k + 1) xs)
next_folded f start xs k old new x lt at step made =
    step ∙ (ap (λ o. f o x) made ∙ (ap (f (fold f start (take k xs))) at ∙ sym (fold_more f start xs k x lt)))

-- a list that is mapped twice
pub map_twice : {X Y Z : Type 0} (g : Y → Z) (f : X → Y) (xs : List X) → map g (map f xs) ≡ map (λ x. g (f x)) xs
map_twice g f [] = refl
map_twice g f (x ∷ xs) = ap (λ l. g (f x) ∷ l) (map_twice g f xs)
