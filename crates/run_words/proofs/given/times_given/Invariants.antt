use Rattle.std.proofs.Common.{◌≡◌, map}
use Rattle.std.specs.Prelude.{string_bytes}
use Rattle.run_words.specs.Settings.{IsBelow, given_by, pairs_before}
use Rattle.run_words.proofs.given.times_given.Given as goal

abbrev pub invariant-loop-pair : goal.invariant-loop-pair
invariant-loop-pair l = record {
  exact : l.given ≡ given_by (pairs_before l.name (map string_bytes l.words) l.pair);
  below : IsBelow l.given l.pair;
}
