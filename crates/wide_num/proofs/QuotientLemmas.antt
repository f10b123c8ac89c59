-- quotients rounded down and up, from those with a remainder
use Rattle.std.proofs.Common.{◌≡◌, refl, ap, ◌∙◌, arith, ℕ, zero, suc, ◌+◌, ◌*◌, ◌<◌, ℤ, pos, negsuc, ◌+ℤ◌, ◌*ℤ◌, ◌<ℤ◌}
use Rattle.std.proofs.lemmas.Int.{ints}
use Rattle.std.specs.Int.{int_div_euclid, int_rem_euclid}
use Rattle.std.proofs.Math.IntN.{suc_ℤ, suc_ℤ-*ℤ}
use Rattle.base_words.proofs.Quotients.{quotient}
use Rattle.wide_num.specs.Quotients.{IsFloor, IsCeiling}

-- std's quotient with a remainder from 0 on is the one rounded down
pub floor_from_euclid : (a b q : ℤ) → pos 0 <ℤ b → q ≡ int_div_euclid a b → IsFloor a b q
floor_from_euclid (pos a) (pos b) q h e =
    let above : 0 < b = omega (arith, ints) in
    let bounds = quotient a b above in
    rw e (omega (arith, ints), omega (arith, ints))
floor_from_euclid (negsuc a) (pos b) q h e =
    let above : 0 < b = omega (arith, ints) in
    let bounds = quotient a b above in
    rw e (omega (arith, ints), omega (arith, ints))
floor_from_euclid (pos a) (negsuc b) q h e = absurd (omega (arith, ints))
floor_from_euclid (negsuc a) (negsuc b) q h e = absurd (omega (arith, ints))

-- the quotient times the divisor, and the remainder, are the number
quotient_and_rest : (a b : ℤ) → pos 0 <ℤ b → ((int_div_euclid a b *ℤ b) +ℤ int_rem_euclid a b) ≡ a
quotient_and_rest (pos a) (pos b) h =
    let above : 0 < b = omega (arith, ints) in
    let bounds = quotient a b above in
    omega (arith, ints)
quotient_and_rest (negsuc a) (pos b) h =
    let above : 0 < b = omega (arith, ints) in
    let bounds = quotient a b above in
    omega (arith, ints)
quotient_and_rest (pos a) (negsuc b) h = absurd (omega (arith, ints))
quotient_and_rest (negsuc a) (negsuc b) h = absurd (omega (arith, ints))

add_one : (n : ℕ) → n + 1 ≡ suc n
add_one n = omega arith

next : (q : ℤ) → (q +ℤ pos 1) ≡ suc_ℤ q
next (pos n) = ap pos (add_one n)
next (negsuc zero) = refl
next (negsuc (suc n)) = grind (arith, ints)

-- one more times b is one b more
next_product : (q b : ℤ) → ((q +ℤ pos 1) *ℤ b) ≡ ((q *ℤ b) +ℤ b)
next_product q b = ap (λ n. n *ℤ b) (next q) ∙ suc_ℤ-*ℤ q b

-- where nothing is left over, the quotient is rounded up too
pub ceiling_at : (a b q : ℤ) → pos 0 <ℤ b → q ≡ int_div_euclid a b → int_rem_euclid a b ≡ pos 0 → IsCeiling a b q
ceiling_at a b q h e none =
    let whole = quotient_and_rest a b h in
    rw e (omega (arith, ints), omega (arith, ints))

-- where something is left over, one more is rounded up
pub ceiling_above : (a b q : ℤ) → pos 0 <ℤ b → q ≡ int_div_euclid a b → pos 0 <ℤ int_rem_euclid a b → int_rem_euclid a b <ℤ b → IsCeiling a b (q +ℤ pos 1)
ceiling_above a b q h e some less =
    let whole = quotient_and_rest a b h in
    rw (next_product q b, e) (omega (arith, ints), omega (arith, ints))
