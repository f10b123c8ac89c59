use Rattle.std.proofs.Common.{ℕ, length, ap, sym, Vec, Global, arith}
use Rattle.std.proofs.lemmas.Grind.{common_steps}
use Rattle.line_core.proofs.Numbered.{add_new}
use Rattle.line_core.proofs.name_list.Names.add.Goals as goal

pub returns : goal.returns
returns c =
    let none = sym c.in_default.ensures in
    let added = add_new (λ (v : Vec ℕ Global). v.items) c.self.inside.set.keys c.insert.new.self.keys c.in-Ok.copy c.args.name.now c.args.self.now c.in-Ok.ensures.items c.self.view_is none c.in-Ok-insert.ensures.keys in
    let many = ap length c.self.view_is in
    (none, grind (arith, common_steps, c.len-number.ensures.len), added)
