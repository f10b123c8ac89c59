-- What a room shows, and how much it holds.
use Rattle.std.specs.Prelude.{ℕ, ◌+◌, List, [], length, refl}
use Rattle.std.specs.Coded.{Coded, code_by, coded×, coded_list, coded_ℕ}

-- what a room shows: its items, and how many more it has memory for
pub record Contents (X : Type 0) : Type 0 where
  pub items : List X
  pub spare : ℕ

-- contents are stored as the pair of their fields
abbrev pub contents_code : {X : Type 0} → Coded X → Coded (Contents X)
contents_code {X} code =
    code_by (List X × ℕ) (coded× (coded_list code) coded_ℕ) (λ r. (r.items, r.spare))
    (λ p. record { items = p.0; spare = p.1 }) (λ _. refl)

-- no words, and room for so many
abbrev pub with_room : ℕ → Contents ℕ
with_room n = record { items = []; spare = n }

-- how many words there are and are left
abbrev pub room_of : Contents ℕ → ℕ
room_of c = length c.items + c.spare
