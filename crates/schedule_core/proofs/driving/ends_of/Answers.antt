use Rattle.std.proofs.Common.{arith, refl, sym, ap, subst, ◌∙◌, ◌≡◌, ℕ, ◌+◌, ◌<◌, zero, suc, List, [], ◌∷◌, ◌++◌, drop, get_or, length, take}
use Rattle.std.specs.List.{AllZip, remove}
use Rattle.std.proofs.Math.Seq.{take-suc}
use Rattle.std.proofs.lemmas.List.{get_or-drop}
use Rattle.lagrangian_spoke.specs.declared.spoke.LagrangianSpoke.{LagrangianSpoke}
use Rattle.log_words.specs.declared.log.SpokeEnd.{SpokeEnd}
use Rattle.schedule_core.proofs.Closing.{zip_push}
use Rattle.schedule_core.specs.Ends.{IsLeft, MayFinish}
use Rattle.schedule_core.proofs.driving.ends_of.Goals as goal

-- the spoke that stands first in the rest
first_of_rest : (xs rest : List LagrangianSpoke) (t : ℕ) (s : LagrangianSpoke) → rest ≡ drop t xs → s ≡ get_or rest 0 s → get_or xs t s ≡ s
first_of_rest xs rest t s e is =
    let o : t + 0 ≡ t = omega arith in
    sym (is ∙ (ap (λ ys. get_or ys 0 s) e ∙ (get_or-drop t xs 0 s ∙ ap (λ n. get_or xs n s) o)))

-- and what is left behind it
rest_behind : (t : ℕ) (xs : List LagrangianSpoke) → remove (drop t xs) 0 ≡ drop (suc t) xs
rest_behind zero [] = refl
rest_behind zero (x ∷ xs) = refl
rest_behind (suc t) [] = refl
rest_behind (suc t) (x ∷ xs) = rest_behind t xs

pub end_of-requires-clause-may : goal.end_of-requires-clause-may
end_of-requires-clause-may c =
    subst (MayFinish c.args.run.now c.args.put.now.number) (first_of_rest c.args.spokes.items c.loop-turn.rest.items c.loop-turn.turn c.remove-spoke.result c.loop-turn.invariant.rest c.remove-spoke.ensures.value)
    (c.requires.may c.loop-turn.turn c.remove-spoke.result (omega (arith, c.loop-turn-test.true, c.len-count.ensures)))

pub loop-turn-preserved : goal.loop-turn-preserved
loop-turn-preserved c =
    let l : c.loop-turn.turn < length c.args.spokes.items = omega (arith, c.loop-turn-test.true, c.len-count.ensures) in
    let o : c.loop-turn.turn + 1 ≡ suc c.loop-turn.turn = omega arith in
    let longer : take (c.loop-turn.turn + 1) c.args.spokes.items ≡ take c.loop-turn.turn c.args.spokes.items ++ c.remove-spoke.result ∷ [] =
    ap (λ n. take n c.args.spokes.items) o
    ∙ (take-suc c.args.spokes.items c.loop-turn.turn c.remove-spoke.result l
    ∙ ap (λ (s : LagrangianSpoke). take c.loop-turn.turn c.args.spokes.items ++ s ∷ []) (first_of_rest c.args.spokes.items c.loop-turn.rest.items c.loop-turn.turn c.remove-spoke.result c.loop-turn.invariant.rest c.remove-spoke.ensures.value)) in
    record {
      within = omega (arith, l);
      rest = c.remove-spoke.ensures.items ∙ (ap (λ (ys : List LagrangianSpoke). remove ys 0) c.loop-turn.invariant.rest ∙ (rest_behind c.loop-turn.turn c.args.spokes.items ∙ ap (λ n. drop n c.args.spokes.items) (sym o)));
      left = subst (λ (z : List LagrangianSpoke × List SpokeEnd). AllZip (IsLeft c.args.run.now c.args.put.now.number) z.0 z.1) (λ j. (sym longer j, sym c.in_ok-push.ensures.ok j))
          (zip_push (IsLeft c.args.run.now c.args.put.now.number) (take c.loop-turn.turn c.args.spokes.items) c.loop-turn.ends c.remove-spoke.result c.in_ok-end.end c.loop-turn.invariant.left c.in_ok-end.ensures);
    }
