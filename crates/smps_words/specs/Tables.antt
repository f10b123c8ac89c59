-- Tables of tests in the order in which the faults of a line are told.
use Rattle.std.specs.Prelude.{◌≡◌, Bool, cond, List, [], ◌∷◌, Option, Some, None, Result, MatchResult}

-- the kind beside the first test that is true
abbrev pub first_true : {K : Type 0} → List (Bool × K) → Option K
first_true [] = None
first_true ((test, kind) ∷ rest) = cond test (Some kind) (first_true rest)

-- the first of two, where the second is asked only if there is no first
infixr 10 ◌or◌
abbrev pub ◌or◌ : {K : Type 0} → Option K → Option K → Option K
None or second = second
(Some kind) or second = Some kind

-- a call that tests answers the fault exactly, and without one a value with this property
abbrev pub Passes : {X K : Type 0} → Option K → Result X K → (X → Type 0) → Type 0
Passes fault result P = MatchResult result (λ x. (fault ≡ None) × P x) (λ kind. fault ≡ Some kind)
