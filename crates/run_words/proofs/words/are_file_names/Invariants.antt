use Rattle.std.proofs.Common.{◌≡◌, ◌+◌, map, true}
use Rattle.std.specs.List.{list_all, range_with_len}
use Rattle.std.specs.Prelude.{string_bytes}
use Rattle.run_words.specs.Settings.{word_at}
use Rattle.run_words.specs.Words.{is_file_name}
use Rattle.run_words.proofs.words.are_file_names.Given as goal

abbrev pub invariant-loop-k : goal.invariant-loop-k
invariant-loop-k l = list_all (λ k. is_file_name (word_at (map string_bytes l.words) (k + 1))) (range_with_len 0 l.k) ≡ true
