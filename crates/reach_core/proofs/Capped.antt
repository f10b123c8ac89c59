-- Parts of sums and products may be capped before or after; sums over columns, one more at a time.
use Rattle.std.proofs.Common.{arith, refl, sym, ◌≡◌, ℕ, ◌+◌, ◌*◌, ◌^◌, max, ap, ◌∙◌, add-one, List, [], ◌∷◌, ◌++◌, map}
use Rattle.std.proofs.lemmas.List.Sums.{fold-append}
use Rattle.std.specs.List.{fold, range_with_len}
use Rattle.std.proofs.lemmas.List.{map-append}
use Rattle.std.proofs.Math.Nat.{mul_assoc, mul_comm}
use Rattle.base_words.specs.Sums.{size_below}
use Rattle.base_words.proofs.ListSumsByNumber.{range_more}
use Rattle.capped_num.proofs.Capping.{cap_factor, max_of_capped, sum_of_capped}
use Rattle.capped_num.specs.Capped.{capped}
use Rattle.sp_model.specs.Reaching.{greatest}

-- a factor or a part that isn't capped
pub product_with : (a b x y : ℕ) → x ≡ capped a → y ≡ b → capped (x * y) ≡ capped (a * b)
product_with a b x y p q = ap (λ n. capped (x * n)) q ∙ cap_left a b x p
  where
    cap_left : (a b x : ℕ) → x ≡ capped a → capped (x * b) ≡ capped (a * b)
    cap_left a b x p = ap (λ n. capped (n * b)) p ∙ cap_factor a b (2 ^ 127)

pub sum_with : (a b x y : ℕ) → x ≡ capped a → y ≡ b → capped (x + y) ≡ capped (a + b)
sum_with a b x y p q = omega (arith, p, q)

pub triple : (a b c x y z : ℕ) → a ≡ x → b ≡ y → c ≡ z → capped (a * b * c) ≡ capped (x * y * z)
triple a b c x y z p q r = ap (λ n. capped (n * b * c)) p ∙ (ap (λ n. capped (x * n * c)) q ∙ ap (λ n. capped (x * y * n)) r)

pub square_capped : (a x : ℕ) → a ≡ x → capped (a * a) ≡ capped (x * x)
square_capped a x p = ap (λ n. capped (n * n)) p

-- one number more of a sum
pub sum_next : (f : ℕ → ℕ) (j sum part after : ℕ) → sum ≡ capped (size_below j f) → part ≡ capped (f j) → after ≡ capped (sum + part) → after ≡ capped (size_below (j + 1) f)
sum_next f j sum part after was is step = step ∙ (sum_of_capped (size_below j f) (f j) sum part was is ∙ ap (λ n. capped (size_below n f)) (sym (add-one j)))

-- one item more of those among which the greatest is
pub greatest_push : {X : Type 0} (f : X → ℕ) (xs : List X) (x : X) → greatest (map f (xs ++ x ∷ [])) ≡ max (greatest (map f xs)) (f x)
greatest_push f xs x = ap greatest (map-append f xs (x ∷ [])) ∙ fold-append max 0 (map f xs) (f x ∷ [])

pub greatest_more : (f : ℕ → ℕ) (j : ℕ) → greatest (map f (range_with_len 0 (j + 1))) ≡ max (greatest (map f (range_with_len 0 j))) (f j)
greatest_more f j =
    let z : 0 + j ≡ j = omega arith in
    ap (λ n. greatest (map f (range_with_len 0 n))) (add-one j)
    ∙ (ap (λ l. greatest (map f l)) (range_more 0 j)
    ∙ (ap (λ n. greatest (map f (range_with_len 0 j ++ n ∷ []))) z
    ∙ greatest_push f (range_with_len 0 j) j))

pub greatest_next : (f : ℕ → ℕ) (j most one after : ℕ) → most ≡ greatest (map f (range_with_len 0 j)) → one ≡ f j → after ≡ max most one → after ≡ greatest (map f (range_with_len 0 (j + 1)))
greatest_next f j most one after was is step = step ∙ (ap (λ n. max n one) was ∙ (ap (λ n. max (greatest (map f (range_with_len 0 j))) n) is ∙ sym (greatest_more f j)))

pub greatest_capped : (f : ℕ → ℕ) (j most one after : ℕ) → most ≡ capped (greatest (map f (range_with_len 0 j))) → one ≡ capped (f j) → after ≡ max most one → after ≡ capped (greatest (map f (range_with_len 0 (j + 1))))
greatest_capped f j most one after was is step = step ∙ (max_of_capped (greatest (map f (range_with_len 0 j))) (f j) most one was is ∙ ap capped (sym (greatest_more f j)))

-- a factor that isn't capped, and one that is
pub product_by : (a b y : ℕ) → y ≡ capped b → capped (a * y) ≡ capped (a * b)
product_by a b y q = ap capped (mul_comm a y) ∙ (product_with b a y a q refl ∙ ap capped (mul_comm b a))

-- twice a number, times another
pub doubled_capped : (n m x : ℕ) → x ≡ capped n → capped (2 * x * m) ≡ capped (2 * n * m)
doubled_capped n m x p =
    ap capped (mul_assoc 2 x m)
    ∙ (ap capped (mul_comm 2 (x * m))
    ∙ (ap capped (mul_assoc x m 2)
    ∙ (product_with n (m * 2) x (m * 2) p refl
    ∙ ap capped (sym (mul_assoc n m 2) ∙ (mul_comm (n * m) 2 ∙ sym (mul_assoc 2 n m))))))
