use Rattle.std.proofs.Common.{ℕ, Vec, Global}
use Rattle.line_core.proofs.Numbered.{are_distinct}
use Rattle.line_core.proofs.name_list.Names.len.Goals as goal

pub returns-clause-distinct : goal.returns-clause-distinct
returns-clause-distinct c = are_distinct (λ (v : Vec ℕ Global). v.items) c.self.inside.set.keys c.args.self.now c.self.view_is c.self.invariant.1
