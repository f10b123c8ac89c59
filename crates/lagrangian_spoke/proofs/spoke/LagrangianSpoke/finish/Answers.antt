use Rattle.std.proofs.Common.{arith, ap, subst, ◌≡◌, ◌∙◌}
use Rattle.sp_model.specs.declared.plan.Multipliers.{Multipliers}
use Rattle.lagrangian_spoke.specs.Answering.{last_put}
use Rattle.lagrangian_spoke.specs.Spokes.{IsWorkedOut}
use Rattle.lagrangian_spoke.proofs.FinishingSpoke.{found_finishes, given, may_finish, same_finishes, skip_finishes}
use Rattle.lagrangian_spoke.proofs.Valuing.{long_read}
use Rattle.lagrangian_spoke.proofs.spoke.LagrangianSpoke.finish.Goals as goal

pub returns-then-last_answered-put-clause-ok : goal.returns-then-last_answered-put-clause-ok
returns-then-last_answered-put-clause-ok c = same_finishes c.args.run.now c.args.self.now c.args.put.now.number c.requires.spoke c.requires.ended (omega (arith, ap last_put c.items.ensures))

pub work_out-requires : goal.work_out-requires
work_out-requires c = may_finish c.args.run.now c.args.self.now c.args.put.now c.requires.spoke c.requires.put (omega (arith, ap last_put c.items.ensures)) (record { values = c.in_ok-values.values }) (ap (λ values. record { values = values }) (c.in_ok-values.ensures.copy ∙ c.as_slice.ensures))

pub returns-then-not-found-clause-ok : goal.returns-then-not-found-clause-ok
returns-then-not-found-clause-ok c =
    let run = c.args.run.now in let s = c.args.self.now in let put = c.args.put.now in
    let m : Multipliers = record { values = c.in_ok-values.values } in
    let same : m ≡ put.multipliers = ap (λ values. record { values = values }) (c.in_ok-values.ensures.copy ∙ c.as_slice.ensures) in
    let worked = subst (IsWorkedOut run (given s m) c.work_out.new.self put.number) c.if-not-found.true c.in_ok-found.ensures.ok in
    skip_finishes run s put c.requires.spoke c.requires.put (omega (arith, ap last_put c.items.ensures)) m same c.work_out.new.self worked.0 worked.1

pub returns-clause-ok : goal.returns-clause-ok
returns-clause-ok c =
    let run = c.args.run.now in let s = c.args.self.now in let put = c.args.put.now in
    let m : Multipliers = record { values = c.in_ok-values.values } in
    let same : m ≡ put.multipliers = ap (λ values. record { values = values }) (c.in_ok-values.ensures.copy ∙ c.as_slice.ensures) in
    let worked = subst (IsWorkedOut run (given s m) c.work_out.new.self put.number) c.if-not-found.false c.in_ok-found.ensures.ok in
    let is = c.requires.put in
    let long = long_read run put.number is.made m is.made_is (same ∙ ap (λ z. z.multipliers) is.put_is) is.number in
    found_finishes run s put c.requires.spoke is (omega (arith, ap last_put c.items.ensures)) m same c.work_out.new.self c.record.new.self long worked.0 worked.1 c.record.ensures
