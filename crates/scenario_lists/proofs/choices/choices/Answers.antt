use Rattle.std.proofs.Common.{arith, ◌≡◌, ◌<◌, ◌+◌, ◌/◌, ◌%◌, ◌++◌, ◌∙◌, sym, ap, subst, drop, length, List, ℕ}
use Rattle.std.proofs.Math.Nat.{mod-lt}
use Rattle.scenario_lists.specs.Combinations.{AreChoices, choices_of, combinations}
use Rattle.scenario_lists.proofs.Digits.{all_made, are_choices, choices_step, size_step, turn}
use Rattle.scenario_lists.proofs.choices.choices.Goals as goal

pub loop-k-preserved : goal.loop-k-preserved
loop-k-preserved c =
    let es = c.args.elements.now in
    let k = c.loop-k.k in
    let rest = c.loop-k.rest in
    let inv = c.loop-k.invariant in
    let lt : k < length es = omega arith in
    let now = turn es k rest c.loop-k.size lt inv.size inv.there in
    let n = length c.realisations_at.result.now in
    let size : c.loop-k.size / n ≡ combinations (drop (k + 1) es) = ap (λ n. c.loop-k.size / n) (ap length c.realisations_at.ensures) ∙ size_step es k c.loop-k.size lt now.some inv.size in
    let positive : 0 < c.loop-k.size / n = omega (arith, size, now.behind) in
    record {
      choices = choices_step es (choices_of es c.args.number) c.loop-k.choices.items k rest (c.loop-k.size / n) lt size inv.choices ∙ ap (λ made. made ++ choices_of (drop (k + 1) es) (rest % (c.loop-k.size / n))) (sym c.in_ok-push.ensures.items);
      size = size;
      there = mod-lt rest positive;
    }

pub returns-clause-choices : goal.returns-clause-choices
returns-clause-choices c = all_made c.args.elements.now (choices_of c.args.elements.now c.args.number) c.loop-k.choices.items c.loop-k.k c.loop-k.rest (omega arith) c.loop-k.invariant.choices

pub returns-clause-there : goal.returns-clause-there
returns-clause-there c =
    let es = c.args.elements.now in
    let P : List ℕ → Type 0 = AreChoices es in
    subst P (sym (returns-clause-choices c)) (are_choices es c.args.number (omega (arith, c.requires.there, c.requires.all)))
