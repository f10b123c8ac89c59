use Rattle.std.proofs.Common.{rules, refl, sym, ap, ◌∙◌, subst, FitsSigned, Some}
use Rattle.std.specs.Int.{w128}
use Rattle.std.proofs.lemmas.Int.{to_z-of_z}
use Rattle.dual_value.specs.Duals.{DualFails}
use Rattle.lagrangian_spoke.proofs.Valuing.{long_read, never_none, sized_read, spent_is, value_is}
use Rattle.lagrangian_spoke.proofs.spoke.LagrangianSpoke.work_out.Goals as goal

pub dual-requires-clause-long : goal.dual-requires-clause-long
dual-requires-clause-long c = let h = c.requires in long_read c.args.run.now c.args.put h.made c.args.self.now.reader.put.multipliers h.made_is h.multipliers h.is_put

pub dual-requires-clause-sized : goal.dual-requires-clause-sized
dual-requires-clause-sized c = let h = c.requires in sized_read c.args.run.now c.args.put h.made c.args.self.now.reader.put.multipliers h.made_is h.multipliers h.is_put

pub returns-in-Ok-clause-ok : goal.returns-in-Ok-clause-ok
returns-in-Ok-clause-ok c = let h = c.requires in let fits : FitsSigned w128 c.in-Ok.value = search rules in (
  record { number = refl; reader = refl; best = refl },
  record {
    phase = refl;
    answers = refl;
    value = value_is c.args.run.now c.args.put h.made c.args.self.now.reader.put.multipliers h.made_is h.multipliers h.is_put c.args.self.now.number c.in-Ok.value h.kind c.in-Ok.ensures.ok ∙ ap (λ v. Some v) (sym (to_z-of_z w128 c.in-Ok.value fits));
  },
)

pub returns-in-Err-Spent-clause-ok : goal.returns-in-Err-Spent-clause-ok
returns-in-Err-Spent-clause-ok c = let h = c.requires in let run = c.args.run.now in let m = c.args.self.now.reader.put.multipliers in (
  record { number = refl; reader = refl; best = refl },
  record {
    phase = refl;
    scenario = c.in-Err-Spent.scenario;
    opened = c.in-Err-Spent.opened;
    answers = c.push.ensures.items;
    spare = c.push.ensures.spare;
    spent = spent_is run c.args.put h.made m h.made_is h.multipliers h.is_put c.in-Err-Spent.scenario c.in-Err-Spent.opened
        (subst (DualFails run m run.options.budget) c.in-Err-Spent.field-0-is c.in-Err-Spent.ensures.err);
  },
)

pub unreachable-requires : goal.unreachable-requires
unreachable-requires c = let h = c.requires in let run = c.args.run.now in let m = c.args.self.now.reader.put.multipliers in
    never_none run c.args.put h.made m h.made_is h.multipliers h.is_put c.in-Err-NoPoint.field-0-0 (subst (DualFails run m run.options.budget) c.in-Err-NoPoint.field-0-is c.in-Err-NoPoint.ensures.err)
