-- tests that are asked one after another

use Rattle.std.specs.Prelude.{List, [], ◌∷◌, Bool, true, false, if◌then◌else◌}

-- all of these tests hold
abbrev pub all_true : List Bool → Bool
all_true [] = true
all_true (test ∷ rest) = if test then all_true rest else false
