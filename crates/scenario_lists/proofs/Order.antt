-- The combinations, number after number, are all choices in their order.
use mathlib.Core.Path.{fun_ext}
use Rattle.std.proofs.Common.{arith, refl, ◌≡◌, ◌<◌, ◌+◌, ◌*◌, ◌%◌, ℕ, zero, suc, ap, ◌∙◌, sym, length, List, [], ◌∷◌, ◌++◌, map, append_assoc, append-nil}
use Rattle.std.specs.List.{flat_map, range_with_len}
use Rattle.std.proofs.lemmas.Grind.{flat_map-append}
use Rattle.std.proofs.lemmas.List.{map-append}
use Rattle.std.proofs.lemmas.Nat.{div-mul-add, mod-mul-add}
use Rattle.base_words.proofs.ListSumsByNumber.{range_more}
use Rattle.scenario_lists.proofs.Rows.{map_twice}
use Rattle.smps_stoch.specs.declared.stoch.Element.{Element}
use Rattle.scenario_lists.specs.Combinations.{all_choices, choices_of, combinations}

-- one number more
map_more : {X : Type 0} (F : ℕ → X) (a n : ℕ) → map F (range_with_len a (suc n)) ≡ map F (range_with_len a n) ++ F (a + n) ∷ []
map_more F a n = ap (map F) (range_more a n) ∙ map-append F (range_with_len a n) ((a + n) ∷ [])

-- the same values behind one another
map_shift : {X : Type 0} (F G : ℕ → X) (a n : ℕ) → ((r : ℕ) → r < n → F (a + r) ≡ G r) → map F (range_with_len a n) ≡ map G (range_with_len 0 n)
map_shift F G a zero same = refl
map_shift F G a (suc n) same =
    let e : 0 + n ≡ n = omega arith in
    map_more F a n
    ∙ (ap (λ xs. xs ++ F (a + n) ∷ []) (map_shift F G a n (λ r lt. same r (omega arith)))
    ∙ (ap (λ x. map G (range_with_len 0 n) ++ x ∷ []) (same n (omega arith) ∙ ap G (sym e))
    ∙ sym (map_more G 0 n)))

-- the numbers below a sum
map_split : {X : Type 0} (F : ℕ → X) (a n : ℕ) → map F (range_with_len 0 (a + n)) ≡ map F (range_with_len 0 a) ++ map F (range_with_len a n)
map_split F a zero =
    let e : a + zero ≡ a = omega arith in
    ap (λ k. map F (range_with_len 0 k)) e ∙ sym (append-nil (map F (range_with_len 0 a)))
map_split F a (suc n) =
    let e : a + suc n ≡ suc (a + n) = omega arith in
    let z : 0 + (a + n) ≡ a + n = omega arith in
    ap (λ k. map F (range_with_len 0 k)) e
    ∙ (map_more F 0 (a + n)
    ∙ (ap (λ k. map F (range_with_len 0 (a + n)) ++ F k ∷ []) z
    ∙ (ap (λ xs. xs ++ F (a + n) ∷ []) (map_split F a n)
    ∙ (append_assoc (map F (range_with_len 0 a)) (map F (range_with_len a n)) (F (a + n) ∷ [])
    ∙ ap (λ xs. map F (range_with_len 0 a) ++ xs) (sym (map_more F a n))))))

-- the numbers below a product, row after row
rows : {X : Type 0} (G : ℕ → ℕ → X) (F : ℕ → X) (m n : ℕ) → ((c r : ℕ) → r < m → F (c * m + r) ≡ G c r) → flat_map (λ c. map (G c) (range_with_len 0 m)) (range_with_len 0 n) ≡ map F (range_with_len 0 (n * m))
rows G F m zero same = let e : 0 ≡ zero * m = omega arith in ap (λ k. map F (range_with_len 0 k)) e
rows G F m (suc n) same =
    let row = λ (c : ℕ). map (G c) (range_with_len 0 m) in
    let z : 0 + n ≡ n = omega arith in
    let e : n * m + m ≡ suc n * m = omega arith in
    ap (flat_map row) (range_more 0 n ∙ ap (λ k. range_with_len 0 n ++ k ∷ []) z)
    ∙ (flat_map-append row (range_with_len 0 n) (n ∷ [])
    ∙ (ap (λ xs. flat_map row (range_with_len 0 n) ++ xs) (append-nil (row n))
    ∙ (ap (λ xs. xs ++ row n) (rows G F m n same)
    ∙ (ap (λ xs. map F (range_with_len 0 (n * m)) ++ xs) (sym (map_shift F (G n) (n * m) m (same n)))
    ∙ (sym (map_split F (n * m) m)
    ∙ ap (λ k. map F (range_with_len 0 k)) e)))))

-- all combinations in order
pub in_order : (es : List Element) → map (choices_of es) (range_with_len 0 (combinations es)) ≡ all_choices es
in_order [] = refl
in_order (e ∷ es) =
    let m = combinations es in
    let n = length e.realisations in
    let same : (c r : ℕ) → r < m → choices_of (e ∷ es) (c * m + r) ≡ c ∷ choices_of es r = λ c r lt. ap (λ q. q ∷ choices_of es ((c * m + r) % m)) (div-mul-add c m r lt) ∙ ap (λ q. c ∷ choices_of es q) (mod-mul-add c m r lt) in
    let each : (c : ℕ) → map (λ r. c ∷ choices_of es r) (range_with_len 0 m) ≡ map (λ rest. c ∷ rest) (all_choices es) = λ c. sym (map_twice (λ rest. c ∷ rest) (choices_of es) (range_with_len 0 m)) ∙ ap (map (λ rest. c ∷ rest)) (in_order es) in
    sym (rows (λ c r. c ∷ choices_of es r) (choices_of (e ∷ es)) m n same) ∙ ap (λ (f : ℕ → List (List ℕ)). flat_map f (range_with_len 0 n)) (fun_ext each)
