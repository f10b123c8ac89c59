use Rattle.std.proofs.Common.{◌≡◌, ◌+◌, sym, map, true, false}
use Rattle.std.specs.Prelude.{string_bytes}
use Rattle.run_words.specs.Settings.{word_at}
use Rattle.run_words.specs.Words.{is_file_name}
use Rattle.run_words.proofs.PairLaws.{all_more, one_fails}
use Rattle.run_words.proofs.words.are_file_names.Goals as goal

pub returns-then-not-is_file_name : goal.returns-then-not-is_file_name
returns-then-not-is_file_name c =
    let words = map string_bytes c.args.words.now in
    let fails : is_file_name (word_at words (c.loop-k.k + 1)) ≡ false = let a = c.if-not-is_file_name.true in let b = c.is_file_name.ensures in let d = c.word.ensures in cc in
    sym (one_fails (λ k. is_file_name (word_at words (k + 1))) c.args.files c.loop-k.k c.loop-k-test.true fails)

pub loop-k-preserved : goal.loop-k-preserved
loop-k-preserved c =
    let words = map string_bytes c.args.words.now in
    let passes : is_file_name (word_at words (c.loop-k.k + 1)) ≡ true = let a = c.if-not-is_file_name.false in let b = c.is_file_name.ensures in let d = c.word.ensures in cc in
    all_more (λ k. is_file_name (word_at words (k + 1))) c.loop-k.k c.loop-k.invariant passes
