use Rattle.std.proofs.Common.{arith, sym, ◌≡◌, false, length, get_or}
use Rattle.std.proofs.lemmas.List.Sums.{prefix_len_is}
use Rattle.boxed_problem.specs.BoxedFacts.{no_entry}
use Rattle.sp_model.specs.Changes.{is_before}
use Rattle.sp_model.proofs.placing.place_of.Goals as goal

pub returns-then-not-is_before : goal.returns-then-not-is_before
returns-then-not-is_before c =
    let entries = c.args.entries.now in
    let entry = c.args.entry.now in
    let stops : is_before (get_or entries c.loop-i.i no_entry) entry ≡ false = grind (arith, c.is_before.ensures, c.if-not-is_before.true) in
    sym (prefix_len_is (λ f. is_before f entry) entries c.loop-i.i no_entry (omega arith) (λ k l. c.loop-i.invariant k no_entry l) (λ l. stops))

pub returns : goal.returns
returns c =
    let entries = c.args.entries.now in
    let entry = c.args.entry.now in
    sym (prefix_len_is (λ f. is_before f entry) entries (length entries) no_entry (omega arith) (λ k l. c.loop-i.invariant k no_entry (omega arith)) (λ l. absurd (omega arith)))
