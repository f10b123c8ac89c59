-- There is room for each event that may come.

use Rattle.std.proofs.Common.{arith, refl, ap, ◌∙◌, ◌≡◌, ℕ, suc, ◌+◌, ◌*◌, ◌<◌, ◌≤◌, List, [], ◌∷◌, ◌++◌, length, ℤ, Option}
use Rattle.std.proofs.Math.Nat.{mul-le-mul_right, mul_comm, suc-mul}
use Rattle.sp_model.specs.declared.run.Run.{Run}
use Rattle.run_log.specs.Events.{next_spoke, present}
use Rattle.run_log.specs.declared.log.Event.{Event}
use Rattle.run_log.specs.declared.log.Event.TheVariants.{Put, Take}
use Rattle.run_log.specs.declared.log.Source.TheVariants.{Spoke}
use Rattle.log_closing.specs.Marks.{puts_of, spokes_of}
use Rattle.hub_cylinder.specs.Hubs.{HaveRoom, closing_most, polled_most}
use Rattle.log_closing.proofs.Pushing.{length_more, next_more, present_more}

module _ (run : Run) (events : List Event) (spare : ℕ) (have : HaveRoom run events spare) where
  most : (n : ℕ) → n ≤ puts_of run → n * (spokes_of run + 1) ≤ polled_most run
  most n l = mul-le-mul_right (spokes_of run + 1) l

  -- room for a take
  pub room_take : (i : ℕ) → i < spokes_of run → next_spoke events ≤ i → present events ≤ puts_of run → closing_most run < spare
  room_take i l order within = omega (arith, have.few, have.room, have.asked, most (present events) within)

  pub roomy_take : (i k spare' : ℕ) (value : Option ℤ) (lower : ℤ) (upper : Option ℤ) → i < spokes_of run → next_spoke events ≤ i → spare' + 1 ≡ spare → HaveRoom run (events ++ Take (Spoke i) k value lower upper ∷ []) spare'
  roomy_take i k spare' value lower upper l order less =
      let e = Take (Spoke i) k value lower upper in
      let next : next_spoke (events ++ e ∷ []) ≡ i + 1 = next_more events e in
      let long : length (events ++ e ∷ []) ≡ length events + 1 = length_more events e in
      let now : present (events ++ e ∷ []) ≡ present events = present_more events e in
      record {
        asked = omega (arith, next);
        few = omega (arith, have.few, have.asked, next, long, ap (λ n. n * (spokes_of run + 1)) now);
        room = omega (arith, have.room, long, less);
      }

  -- room for a put
  pub room_put : present events ≤ run.options.iterations → closing_most run < spare
  room_put l =
      let more : (present events + 1) * (spokes_of run + 1) ≤ polled_most run = most (present events + 1) (omega arith) in
      let one : (present events + 1) * (spokes_of run + 1) ≡ present events * (spokes_of run + 1) + (spokes_of run + 1) = ap (λ (n : ℕ). n * (spokes_of run + 1)) (let s : present events + 1 ≡ suc (present events) = omega arith in s) ∙ suc-mul (present events) (spokes_of run + 1) in
      omega (arith, have.few, have.room, have.asked, more, one)

  pub roomy_put : (spare' : ℕ) → spare' + 1 ≡ spare → HaveRoom run (events ++ Put (present events + 1) ∷ []) spare'
  roomy_put spare' less =
      let e = Put (present events + 1) in
      let next : next_spoke (events ++ e ∷ []) ≡ 0 = next_more events e in
      let long : length (events ++ e ∷ []) ≡ length events + 1 = length_more events e in
      let now : present (events ++ e ∷ []) ≡ present events + 1 = present_more events e in
      let one : (present events + 1) * (spokes_of run + 1) ≡ present events * (spokes_of run + 1) + (spokes_of run + 1) = ap (λ (n : ℕ). n * (spokes_of run + 1)) (let s : present events + 1 ≡ suc (present events) = omega arith in s) ∙ suc-mul (present events) (spokes_of run + 1) in
      record {
        asked = omega (arith, next);
        few = omega (arith, have.few, have.asked, next, long, ap (λ n. n * (spokes_of run + 1)) now, one);
        room = omega (arith, have.room, long, less);
      }

  -- room for what is taken behind the last polling: the hub's own take, and then each reply
  pub room_closing : present events ≤ puts_of run → closing_most run ≤ spare
  room_closing within = omega (arith, have.few, have.room, most (present events) within)

  pub room_left : (spare' claims n m : ℕ) → present events ≤ puts_of run → claims ≤ 1 → spare' + claims ≡ spare → n ≡ spokes_of run → m ≡ puts_of run → n * m ≤ spare'
  room_left spare' claims n m within one less is puts =
      let same : n * m ≡ puts_of run * spokes_of run = ap (λ (x : ℕ × ℕ). x.0 * x.1) (λ i. (is i, puts i)) ∙ mul_comm (spokes_of run) (puts_of run) in
      omega (arith, same, less, one, room_closing within)

-- room for all behind the first put
pub roomy_first : (run : Run) (spare : ℕ) → spare + 1 ≡ polled_most run + closing_most run → HaveRoom run (Put 1 ∷ []) spare
roomy_first run spare is =
    let next : next_spoke (Put 1 ∷ []) ≡ 0 = refl in
    let now : present (Put 1 ∷ []) ≡ 1 = refl in
    let long : length (Put 1 ∷ []) ≡ 1 = refl in
    let one : present (Put 1 ∷ []) * (spokes_of run + 1) ≡ spokes_of run + 1 = ap (λ (n : ℕ). n * (spokes_of run + 1)) now ∙ (let o : 1 * (spokes_of run + 1) ≡ spokes_of run + 1 = omega arith in o) in
    record {
      asked = omega (arith, next);
      few = omega (arith, next, long, one);
      room = omega (arith, is, long);
    }
