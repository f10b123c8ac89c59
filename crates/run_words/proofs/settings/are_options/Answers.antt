use Rattle.std.proofs.Common.{arith, ◌≡◌, ◌<◌, sym, map, true, false}
use Rattle.std.specs.Prelude.{string_bytes}
use Rattle.run_words.specs.Settings.{is_option, name_of, pair_count}
use Rattle.run_words.proofs.PairLaws.{all_more, one_fails}
use Rattle.run_words.proofs.settings.are_options.Goals as goal

pub returns-then-not-is_option : goal.returns-then-not-is_option
returns-then-not-is_option c =
    let words = map string_bytes c.args.words.now in
    let fails : is_option (name_of words c.loop-pair.pair) ≡ false = let a = c.if-not-is_option.true in let b = c.is_option.ensures in let d = c.name_of.ensures in cc in
    let there : c.loop-pair.pair < pair_count words = omega (arith, c.loop-pair-test.true, c.pair_count-pair-end.ensures) in
    sym (one_fails (λ k. is_option (name_of words k)) (pair_count words) c.loop-pair.pair there fails)

pub loop-pair-preserved : goal.loop-pair-preserved
loop-pair-preserved c =
    let words = map string_bytes c.args.words.now in
    let passes : is_option (name_of words c.loop-pair.pair) ≡ true = let a = c.if-not-is_option.false in let b = c.is_option.ensures in let d = c.name_of.ensures in cc in
    all_more (λ k. is_option (name_of words k)) c.loop-pair.pair c.loop-pair.invariant passes
