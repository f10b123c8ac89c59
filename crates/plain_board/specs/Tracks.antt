-- What a track holds, and an empty one.
use Rattle.std.specs.Prelude.{ℕ, List}
use Rattle.wide_num.specs.RoomContents.{Contents, with_room}

abbrev pub items_of : Contents ℕ → List ℕ
items_of c = c.items

-- no numbers, and room for none
abbrev pub empty : Contents ℕ
empty = with_room 0
