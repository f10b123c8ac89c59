use Rattle.std.proofs.Common.{◌≡◌, map, true}
use Rattle.std.specs.List.{list_all, range_with_len}
use Rattle.std.specs.Prelude.{string_bytes}
use Rattle.run_words.specs.Settings.{is_option, name_of}
use Rattle.run_words.proofs.settings.are_options.Given as goal

abbrev pub invariant-loop-pair : goal.invariant-loop-pair
invariant-loop-pair l = list_all (λ k. is_option (name_of (map string_bytes l.words) k)) (range_with_len 0 l.pair) ≡ true
