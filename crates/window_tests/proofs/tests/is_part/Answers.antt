use Rattle.std.proofs.Common.{arith, ◌≡◌, ℕ, length, nat_eq}
use Rattle.std.specs.Prelude.{IsTrue}
use Rattle.std.proofs.lemmas.List.FromFn.{fill_by_all}
use Rattle.window_tests.specs.Words.{word_at}
use Rattle.window_tests.proofs.tests.is_part.Goals as goal

as_long : (n width : ℕ) → IsTrue (nat_eq n width) → n ≡ width
as_long n width t = grind (arith, t)

pub returns : goal.returns
returns c = λ t.
    let e : length c.args.words.now ≡ c.args.width = as_long (length c.args.words.now) c.args.width t in
    fill_by_all (word_at c.args.rank c.args.put) c.args.words.now c.args.width 0 e (λ i l. c.loop-place.invariant i 0 (omega (arith, l, e, c.loop-place-test.false)))
