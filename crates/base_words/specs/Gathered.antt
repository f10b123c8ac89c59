-- lists made by an index

use Rattle.std.specs.Prelude.{ℕ, zero, suc, List, [], ◌++◌}

-- the lists that f gives for the places below n, one after another
abbrev pub gathered : {X : Type 0} → ℕ → (ℕ → List X) → List X
gathered zero f = []
gathered (suc n) f = gathered n f ++ f n
