-- Puts that a run makes, and what its spoke has answered.
use Rattle.std.proofs.Common.{arith, ap, ◌∙◌, ◌≡◌, ℕ, ◌+◌, ◌-◌, ◌≤◌, List, [], ◌∷◌, length, map, Some}
use Rattle.std.specs.List.{All}
use Rattle.std.proofs.lemmas.List.Elements.{All-append, All-cons, All-head, All-nil, All-tail}
use Rattle.std.proofs.Common.{◌++◌, refl, subst, sym}
use Rattle.window_words.specs.Views.{last_of}
use Rattle.sp_model.specs.declared.run.Run.{Run}
use Rattle.run_calls.specs.declared.put.Put.{Put}
use Rattle.put_words.specs.Puts.{put_of}
use Rattle.put_words.proofs.Inside.{put_number}
use Rattle.hedging.specs.Hedges.{made_of}
use Rattle.hedging.specs.declared.hedge.Hedge.{Hedge}
use Rattle.log_words.specs.declared.log.Answer.{Answer}
use Rattle.log_words.specs.declared.log.Answer.TheVariants.{Reply, Skip}
use Rattle.lagrangian_spoke.specs.Answering.{AreAnswers, IsAnswer, last_put, put_in}
use Rattle.lagrangian_spoke.specs.Spokes.{IsPutOf}

-- a hedge's put, also as a copy
pub hedge_put : (run : Run) (hedge : Hedge) (put : Put) → put ≡ hedge.put → put_of run hedge.put.number ≡ Some (made_of hedge) → 1 ≤ hedge.put.number → hedge.put.number ≤ run.options.iterations + 1 → IsPutOf run put
hedge_put run hedge put same e first few = subst (IsPutOf run) (sym same) (record {
  made = made_of hedge;
  made_is = e;
  put_is = refl;
  number = record { first = first; last = few };
})

pub puts_more : (run : Run) (puts puts' : List Put) (put : Put) → All (IsPutOf run) puts → IsPutOf run put → puts' ≡ puts ++ put ∷ [] → All (IsPutOf run) puts'
puts_more run puts puts' put all is e = subst (All (IsPutOf run)) (sym e) (All-append (IsPutOf run) puts (put ∷ []) all (All-cons (IsPutOf run) put [] is (All-nil (IsPutOf run))))

-- the first put has the number 1
pub first_number : (run : Run) (hedge : Hedge) → put_of run 1 ≡ Some (made_of hedge) → hedge.put.number ≡ 1
first_number run hedge e = put_number run 1 (made_of hedge) e

pub first_put : (run : Run) (hedge : Hedge) → put_of run 1 ≡ Some (made_of hedge) → put_of run hedge.put.number ≡ Some (made_of hedge)
first_put run hedge e = ap (λ k. put_of run k) (first_number run hedge e) ∙ e

-- an answer is to a put that the run may make, and so is the last one
put_few : (run : Run) (i : ℕ) (a : Answer) → IsAnswer run i a → put_in a ≤ run.options.iterations + 1
put_few run i (Reply k value) h = h.0.last
put_few run i (Skip k s opened) h = h.0.last

puts_few : (run : Run) (i : ℕ) (answers : List Answer) → All (IsAnswer run i) answers → All (λ k. k ≤ run.options.iterations + 1) (map put_in answers)
puts_few run i [] h = All-nil (λ k. k ≤ run.options.iterations + 1)
puts_few run i (a ∷ answers) h = All-cons (λ k. k ≤ run.options.iterations + 1) (put_in a) (map put_in answers) (put_few run i a (All-head (IsAnswer run i) a answers h)) (puts_few run i answers (All-tail (IsAnswer run i) a answers h))

last_below : (n : ℕ) (ks : List ℕ) → All (λ k. k ≤ n) ks → last_of ks ≤ n
last_below n [] h = omega arith
last_below n (k ∷ ks) h = h (length (k ∷ ks) - 1) 0 (omega arith)

pub last_few : (run : Run) (i : ℕ) (answers : List Answer) → AreAnswers run i answers → last_put answers ≤ run.options.iterations + 1
last_few run i answers h = last_below (run.options.iterations + 1) (map put_in answers) (puts_few run i answers h.right)
