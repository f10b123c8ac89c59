-- What disjunctions and conjunctions of tests come to.

use Rattle.std.proofs.Common.{refl, sym, ◌∙◌, ◌≡◌, Bool, true, false, ◌&&◌, ◌||◌}

pub or_true : (b : Bool) → (b || true) ≡ true
or_true true = refl
or_true false = refl

pub or_false : (b : Bool) → (b || false) ≡ b
or_false true = refl
or_false false = refl

pub and_true : (b : Bool) → (b && true) ≡ b
and_true true = refl
and_true false = refl

pub and_false : (b : Bool) → (b && false) ≡ false
and_false true = refl
and_false false = refl

-- where neither holds, the first doesn't
pub or_left : (a b : Bool) → (a || b) ≡ false → a ≡ false
or_left true b h = h
or_left false b h = refl

-- nor does the second
pub or_right : (a b : Bool) → (a || b) ≡ false → b ≡ false
or_right true b h = absurd cc
or_right false b h = h

-- where the second holds, one of both does
pub or_right_true : (a b : Bool) → b ≡ true → (a || b) ≡ true
or_right_true true b h = refl
or_right_true false b h = h

-- no test holds and fails
pub not_both : (b : Bool) → b ≡ true → b ≡ false → ⊥
not_both b on off = let g = sym on ∙ off in cc
