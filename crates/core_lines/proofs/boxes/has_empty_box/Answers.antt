use Rattle.std.proofs.Common.{◌∙◌, ap, get_or}
use Rattle.std.specs.Prelude.{ℕ, Bool, None}
use Rattle.smps_words.specs.CoreFacts.{is_empty_box}
use Rattle.core_lines.specs.Boxes.{any_below, lower_of, upper_of}
use Rattle.core_lines.proofs.AnyBelow.{any_same}
use Rattle.core_lines.proofs.boxes.has_empty_box.Goals as goal

pub returns : goal.returns
returns c =
    let lowers = c.in_ok-lowers.lowers in
    let uppers = c.in_ok-uppers.uppers in
    let p : ℕ → Bool = λ j. is_empty_box (get_or lowers j None) (get_or uppers j None) in
    let q : ℕ → Bool = λ j. is_empty_box (lower_of c.args.bounds.now j) (upper_of c.args.bounds.now j) in
    c.is_pair_empty.ensures ∙ ap (λ n. any_below n p) c.in_ok-lowers.ensures.counted
    ∙ any_same c.args.count p q (λ j lt. ap (λ e. is_empty_box e (get_or uppers j None)) (c.in_ok-lowers.ensures.each j lt) ∙ ap (λ e. is_empty_box (lower_of c.args.bounds.now j) e) (c.in_ok-uppers.ensures.each j lt))
