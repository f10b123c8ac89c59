use Rattle.std.proofs.Common.{◌≡◌, ◌↔◌, ℕ, IsTrue, List, get_or, subst}
use Rattle.std.specs.List.{All}
use Rattle.put_words.specs.NodeSums.{value_at}
use Rattle.agreement.proofs.agreeing.are_one.Goals as goal

pub returns : goal.returns
returns c =
    let run = c.args.run.now in let x = c.args.x.now in
    subst (λ (ns : List ℕ). IsTrue c.all_have.result ↔ All (λ s. value_at run x s c.args.column ≡ value_at run x (get_or ns 0 0) c.args.column) ns) c.members-items.ensures.value c.all_have.ensures
