-- The entries of a run's windows have the width of their windows, and the cells of each put can be spelled.
use Rattle.std.proofs.Common.{arith, refl, sym, ap, ◌∙◌, ◌≡◌, ℕ, ◌+◌, ◌*◌, ◌-◌, ◌≤◌, nat_lt, Bool, true, false, [], length, ℤ, Option, Some, None, if◌then◌else◌}
use Rattle.std.specs.Option.{option_map_or}
use Rattle.word_codec.specs.Spelling.{reply_words}
use Rattle.sp_model.specs.Problems.{scenarios}
use Rattle.sp_model.specs.ScenarioPoints.{HavePoints}
use Rattle.sp_model.specs.declared.run.Run.{Run}
use Rattle.put_words.specs.Puts.{Made, put_of}
use Rattle.log_words.specs.Replies.{reply_of}
use Rattle.put_codec.specs.declared.layout.Layout.{Layout}
use Rattle.put_codec.specs.Entries.{MeansRun, entry_of, part_of, part_words, words_at}
use Rattle.put_codec.specs.Layouts.{cells_of, layout_in, start_of, width_of}
use Rattle.put_codec.proofs.Existing.{put_there}
use Rattle.put_codec.proofs.Pieces.{pieces_length}

pub part_length : (layout : Layout) (i : ℕ) (put : _) → length (part_words layout i put) ≡ 3 * cells_of layout i
part_length layout i put = omega (arith, pieces_length 3 (λ c. words_at put (start_of layout i + c)) (λ c. refl) (cells_of layout i))

pub reply_length : (o : Option ℤ) → length (reply_words o) ≡ 3
reply_length None = refl
reply_length (Some v) = refl

-- an entry of a window
entry_wide : (run : Run) (w k : ℕ) → HavePoints run (scenarios run) → 1 ≤ k → length (entry_of run w k) ≡ width_of (layout_in run) w
unfolding entry_of
entry_wide run w k points l = by_test (nat_lt w run.options.ranks)
  where
    by_test : (t : Bool) → length (if t then part_of run w k else reply_words (reply_of run (w - run.options.ranks) k)) ≡ (if t then 3 * cells_of (layout_in run) w else 3)
    by_test true =
        let there = put_there run k points l in
        ap (λ o. length (option_map_or (λ (made : Made). part_words (layout_in run) w made.put) o [])) there.1 ∙ part_length (layout_in run) w there.0.put
    by_test false = reply_length (reply_of run (w - run.options.ranks) k)

some_there : (run : Run) (k : ℕ) (made : Made) → put_of run k ≡ Some made → put_of run k ≡ None → ⊥
some_there run k made e none = let x = sym e ∙ none in absurd (cc)

-- what the meaning of a run keeps
pub run_means : (run : Run) (layout : Layout) (most : ℕ) → layout ≡ layout_in run → most ≡ run.options.iterations + 1 → HavePoints run (scenarios run) → MeansRun run layout most
run_means run layout most is last points = record {
  layout_is = is;
  most_is = last;
  there = λ k l none. let there = put_there run k points l in some_there run k there.0 there.1 none;
  wide = λ w k l low high. entry_wide run w k points low ∙ ap (λ (z : Layout). width_of z w) (sym is);
  few = let few = run.facts.options_fit.iterations in omega (arith, last);
  led = omega arith;
}
