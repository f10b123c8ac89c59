-- The words of the entries that tests write.
use Rattle.std.specs.Prelude.{ℕ, ◌+◌, ◌*◌, ◌%◌, List, map}
use Rattle.std.specs.List.{range_with_len}

-- a word tells its entry, its window and its place there
abbrev pub word_at : ℕ → ℕ → ℕ → ℕ
word_at w k i = (k % 1000000) * 10000 + (w % 100) * 100 + i % 100

-- the words of entry k of window w
abbrev pub words_at : ℕ → ℕ → ℕ → List ℕ
words_at width w k = map (word_at w k) (range_with_len 0 width)
