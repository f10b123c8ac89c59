use Rattle.std.proofs.Common.{arith, ◌≡◌, sym, ap, ◌∙◌, nat_eq, [], ◌∷◌, ◌++◌, length, get_or, set}
use Rattle.std.specs.HashMap.{get}
use Rattle.tree_core.specs.Marks.{groups, mark_of}
use Rattle.tree_core.proofs.FirstOnes.{step_new, step_old}
use Rattle.tree_core.proofs.grouping.groups_at.Goals as goal
use Rattle.tree_core.proofs.grouping.groups_at.Goals.{in-Some+in_ok-join-in-Some, in-None+in_ok-insert-in-None+in_ok-single-in-None+in_ok-push-in-None}

pub loop-s-preserved : goal.loop-s-preserved
loop-s-preserved c =
    let mark = mark_of c.args.owners.now c.args.stage in
    let key = c.mark_of-mark.result in
    let s = c.loop-s.s in
    let answer : c.copied.result ≡ get nat_eq c.loop-s.places key = c.copied.ensures ∙ c.get.ensures.value in
    elim c.match-copied.branch [
      | in-Some+in_ok-join-in-Some w ↦
          let step = step_old mark s key w.in-Some.place (get nat_eq c.loop-s.places) c.mark_of-mark.ensures c.loop-s.invariant.places (sym answer ∙ w.in-Some.is) in
          record {
            places = λ q. ap (λ m. get nat_eq m q) w.places-is ∙ step.0 q;
            made = ap (λ gs. gs.items) w.groups-is ∙ w.in_ok-join-in-Some.ensures ∙ ap (λ gs. set gs w.in-Some.place (get_or gs w.in-Some.place [] ++ s ∷ [])) c.loop-s.invariant.made ∙ sym step.1;
          }
      | in-None+in_ok-insert-in-None+in_ok-single-in-None+in_ok-push-in-None w ↦
          let many : w.len.result ≡ length (groups mark s) = omega (arith, w.len.ensures, ap length c.loop-s.invariant.made) in
          let step = step_new mark s key w.len.result (get nat_eq c.loop-s.places) (get nat_eq w.insert.new.self) c.mark_of-mark.ensures c.loop-s.invariant.places (sym answer ∙ w.in-None.is) many w.in_ok-insert-in-None.ensures.updates.0 in
          record {
            places = λ q. ap (λ m. get nat_eq m q) w.places-is ∙ step.0 q;
            made = ap (λ gs. gs.items) w.groups-is ∙ w.in_ok-push-in-None.ensures.items ∙ ap (λ one. c.loop-s.groups.items ++ one ∷ []) w.in_ok-single-in-None.ensures ∙ ap (λ gs. gs ++ (s ∷ []) ∷ []) c.loop-s.invariant.made ∙ sym step.1;
          }
    ]
