use Rattle.std.proofs.Common.{◌≡◌, ◌∙◌, ◌+◌, ap, sym, subst, map, true, false}
use Rattle.std.specs.Prelude.{string_bytes}
use Rattle.std.specs.Str.{bytes_eq}
use Rattle.run_words.specs.Settings.{IsBelow, name_of, with_one}
use Rattle.run_words.proofs.PairLaws.{below_more, below_with, named_more, other_more}
use Rattle.run_words.proofs.given.step.Goals as goal

pub returns-then-same-clause-exact : goal.returns-then-same-clause-exact
returns-then-same-clause-exact c =
    let words = map string_bytes c.args.words.now in
    let named : bytes_eq (name_of words c.args.pair) c.args.name.now ≡ true = let a = c.if-same.true in let b = c.same.ensures in let d = c.name_of.ensures in cc in
    c.with.ensures ∙ ap (λ given. with_one given c.args.pair) c.requires.so_far ∙ sym (named_more c.args.name.now words c.args.pair named)

pub returns-else-same-clause-exact : goal.returns-else-same-clause-exact
returns-else-same-clause-exact c =
    let words = map string_bytes c.args.words.now in
    let other : bytes_eq (name_of words c.args.pair) c.args.name.now ≡ false = let a = c.if-same.false in let b = c.same.ensures in let d = c.name_of.ensures in cc in
    c.requires.so_far ∙ sym (other_more c.args.name.now words c.args.pair other)

pub returns-then-same-clause-below : goal.returns-then-same-clause-below
returns-then-same-clause-below c = subst (λ given. IsBelow given (c.args.pair + 1)) (sym c.with.ensures) (below_with c.args.given c.args.pair)

pub returns-else-same-clause-below : goal.returns-else-same-clause-below
returns-else-same-clause-below c = below_more c.args.given c.args.pair c.requires.below
