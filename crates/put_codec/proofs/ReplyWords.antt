-- The replies of a run fit 128 bits, and each has words that no other has.
use Rattle.std.proofs.Common.{arith, refl, sym, ap, ◌∙◌, ◌≡◌, ℕ, ◌+◌, ◌-◌, ◌*◌, ◌^◌, ◌<◌, ◌≤◌, nat_lt, Bool, true, false, List, get_or, ℤ, unsigned_abs, Option, Some, None, FitsSigned, if◌then◌else◌}
use Rattle.std.specs.Int.{cast_signed, w128}
use Rattle.std.specs.Option.{IfSome, option_and_then}
use Rattle.std.proofs.lemmas.Int.{to_z-of_z}
use Rattle.std.proofs.lemmas.Nat.{div-add-mod'}
use Rattle.base_words.proofs.Magnitudes.{fits_from_abs}
use Rattle.base_words.proofs.NumberTests.{test_from_less, test_from_not_less}
use Rattle.word_codec.specs.Spelling.{bits_of, high_of, low_of, reply_words}
use Rattle.sp_model.specs.Plans.{dual_of, multiplier_of, with_prices}
use Rattle.sp_model.specs.Problems.{least_of, problem_in, scenarios}
use Rattle.sp_model.specs.ScenarioPoints.{HavePoints}
use Rattle.sp_model.specs.declared.plan.Multipliers.{Multipliers}
use Rattle.sp_model.specs.declared.run.Run.{Run}
use Rattle.sp_model.proofs.Duality.{none_feasible}
use Rattle.sp_model.proofs.ScenarioPoints.{run_filled}
use Rattle.sp_model.proofs.SumSome.{sum_some-none}
use Rattle.run_calls.specs.MultiplierTests.{AreSized}
use Rattle.put_words.specs.Puts.{Made, put_of}
use Rattle.put_words.proofs.Bounded.{dual_small}
use Rattle.put_words.proofs.Inside.{put_inside}
use Rattle.put_words.proofs.Rises.{put_sized}
use Rattle.log_words.specs.Replies.{least_price, reply_of, reply_to, tried}
use Rattle.put_codec.specs.Entries.{entry_of, part_of}
use Rattle.put_codec.proofs.Existing.{put_there}
use Rattle.put_codec.proofs.PriceSizes.{least_price_small}

-- a dual value of sized multipliers
dual_fits : (run : Run) (m : Multipliers) (v : ℤ) → AreSized run m → dual_of run m ≡ Some v → unsigned_abs v ≤ 2 ^ 121
unfolding dual_of
dual_fits run m v sized e = let all : scenarios run ≤ scenarios run = omega arith in dual_small run m (scenarios run) v sized all e

some_fits : (o : Option ℤ) → ((v : ℤ) → o ≡ Some v → unsigned_abs v ≤ 2 ^ 121) → IfSome o (FitsSigned w128)
some_fits None small = tt
some_fits (Some v) small = fits_from_abs v (omega (arith, small v refl))

-- what a spoke replies to a put
to_put_fits : (run : Run) (i k : ℕ) (made : Made) → k ≤ run.options.iterations + 1 → put_of run k ≡ Some made → IfSome (reply_to run i made) (FitsSigned w128)
to_put_fits run i k made few is = by_kind (nat_lt i run.options.lagrangian)
  where
    by_kind : (t : Bool) → IfSome (if t then dual_of run made.put.multipliers else least_price run (tried run made.put.x (i - run.options.lagrangian))) (FitsSigned w128)
    by_kind true = some_fits (dual_of run made.put.multipliers) (λ v e. dual_fits run made.put.multipliers v (put_sized run k made few is) e)
    by_kind false = some_fits (least_price run (tried run made.put.x (i - run.options.lagrangian))) (λ v e. omega (arith, least_price_small run made.put.x (i - run.options.lagrangian) v (put_inside run k made is) e))

pub reply_fits : (run : Run) (i k : ℕ) → k ≤ run.options.iterations + 1 → IfSome (reply_of run i k) (FitsSigned w128)
reply_fits run i k few = by_put (put_of run k) refl
  where
    by_put : (o : Option Made) → put_of run k ≡ o → IfSome (option_and_then (reply_to run i) o) (FitsSigned w128)
    by_put None e = tt
    by_put (Some made) e = to_put_fits run i k made few e

-- where each scenario has a point, a Lagrangian spoke has a reply
not_none : (run : Run) (m : Multipliers) → HavePoints run (scenarios run) → dual_of run m ≡ None → ⊥
unfolding dual_of
not_none run m points e =
    let found = sum_some-none (scenarios run) (λ s. least_of (with_prices (problem_in run s) (multiplier_of run m s))) e in
    let has = points found.0 found.1 in
    none_feasible (with_prices (problem_in run found.0) (multiplier_of run m found.0)) (run_filled run) found.2 has.0 (record { inside = has.1.inside; rows = has.1.rows })

dual_there : (run : Run) (m : Multipliers) → HavePoints run (scenarios run) → (v : ℤ) × (dual_of run m ≡ Some v)
dual_there run m points = by_dual (dual_of run m) refl
  where
    by_dual : (o : Option ℤ) → dual_of run m ≡ o → (v : ℤ) × (dual_of run m ≡ Some v)
    by_dual None e = absurd (not_none run m points e)
    by_dual (Some v) e = (v, e)

pub reply_there : (run : Run) (i k : ℕ) → HavePoints run (scenarios run) → i < run.options.lagrangian → 1 ≤ k → (v : ℤ) × (reply_of run i k ≡ Some v)
reply_there run i k points kind l =
    let put = put_there run k points l in
    let m = put.0.put.multipliers in
    let dual = dual_there run m points in (
      dual.0,
      ap (λ o. option_and_then (reply_to run i) o) put.1
          ∙ (ap (λ (b : Bool). if b then dual_of run m else least_price run (tried run put.0.put.x (i - run.options.lagrangian))) (test_from_less i run.options.lagrangian kind) ∙ dual.1),
    )

-- the entry of a spoke's window
pub reply_entry : (run : Run) (i k : ℕ) → entry_of run (run.options.ranks + i) k ≡ reply_words (reply_of run i k)
unfolding entry_of
reply_entry run i k =
    let ranks = run.options.ranks in
    let at : ranks + i - ranks ≡ i = omega arith in
    ap (λ (b : Bool). if b then part_of run (ranks + i) k else reply_words (reply_of run (ranks + i - ranks) k)) (test_from_not_less (ranks + i) ranks (omega arith))
    ∙ ap (λ n. reply_words (reply_of run n k)) at

-- one spelling for one reply
bits_once : (a b : ℤ) → FitsSigned w128 a → FitsSigned w128 b → bits_of a ≡ bits_of b → a ≡ b
bits_once a b f g e = sym (to_z-of_z w128 a f) ∙ (ap (cast_signed w128) e ∙ to_z-of_z w128 b g)

halves_once : (a b : ℤ) → high_of a ≡ high_of b → low_of a ≡ low_of b → bits_of a ≡ bits_of b
halves_once a b h l = sym (div-add-mod' (bits_of a) (2 ^ 64)) ∙ ((λ i. h i * 2 ^ 64 + l i) ∙ div-add-mod' (bits_of b) (2 ^ 64))

pub reply_once : (o p : Option ℤ) → IfSome o (FitsSigned w128) → IfSome p (FitsSigned w128) → reply_words o ≡ reply_words p → o ≡ p
reply_once None None f g e = refl
reply_once None (Some b) f g e = absurd (let first = ap (λ (ws : List ℕ). get_or ws 0 0) e in omega arith)
reply_once (Some a) None f g e = absurd (let first = ap (λ (ws : List ℕ). get_or ws 0 0) e in omega arith)
reply_once (Some a) (Some b) f g e = ap (λ v. Some v) (bits_once a b f g (halves_once a b (ap (λ (ws : List ℕ). get_or ws 1 0) e) (ap (λ (ws : List ℕ). get_or ws 2 0) e)))

pub reply_decodes : (run : Run) (i k : ℕ) (given : Option ℤ) → k ≤ run.options.iterations + 1 → IfSome given (FitsSigned w128) → entry_of run (run.options.ranks + i) k ≡ reply_words given → given ≡ reply_of run i k
reply_decodes run i k given few fits e = reply_once given (reply_of run i k) fits (reply_fits run i k few) (sym e ∙ reply_entry run i k)
