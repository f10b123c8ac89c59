-- The join makes a run or refuses, and refuses for one reason.
use Rattle.std.proofs.Common.{arith, ◌≡◌, ◌∙◌, ℕ, ◌≤◌, List, Some, None, refl, sym, ap}
use Rattle.std.specs.Prelude.{◌≢◌}
use Rattle.base_words.proofs.Booleans.{not_both}
use Rattle.join_words.specs.Joining.{IsJoined, IsRefused}
use Rattle.join_words.specs.Parts.{Firsts, IsFirstEarly, is_early}
use Rattle.join_words.specs.Framing.{Source}
use Rattle.join_words.specs.RunOf.{is_crowded, is_too_large, is_wide}
use Rattle.join_words.specs.declared.fault.JoinFault.{JoinFault}
use Rattle.join_words.specs.declared.fault.JoinFault.TheVariants.{Anticipates, TooManyScenarios, TooManyCells, Wide, Memory}
use Rattle.smps_words.specs.declared.core_data.CoreEntry.{CoreEntry}
use Rattle.sp_model.specs.declared.program.Options.{Options}
use Rattle.sp_model.specs.declared.run.Run.{Run}

-- an early entry is there, or none
never_timely : (firsts : Firsts) (entries : List CoreEntry) (line : ℕ) → IsFirstEarly firsts entries None → IsFirstEarly firsts entries (Some line) → ⊥
never_timely firsts entries line none ((k, e, there, is, (early, at)), least) =
    not_both (is_early firsts e) early (ap (is_early firsts) (sym is) ∙ none k e there)

-- and one line is the least
least_lines : (firsts : Firsts) (entries : List CoreEntry) (line other : ℕ) → IsFirstEarly firsts entries (Some line) → IsFirstEarly firsts entries (Some other) → other ≤ line
least_lines firsts entries line other ((k, e, there, is, (early, at)), least) (found, lowest) =
    let low = lowest k e there (ap (is_early firsts) is ∙ early) in
    let same = ap (λ (f : CoreEntry). f.line) is in
    omega (arith, low, same, at)

one_line : (firsts : Firsts) (entries : List CoreEntry) (line other : ℕ) → IsFirstEarly firsts entries (Some line) → IsFirstEarly firsts entries (Some other) → line ≡ other
one_line firsts entries line other is also = omega (arith, least_lines firsts entries line other is also, least_lines firsts entries other line also is)

-- a run or a refusal
pub run_or_refusal : (source : Source) (options : Options) (run : Run) (fault : JoinFault) → IsJoined source options run → IsRefused source options fault → fault ≢ Memory → ⊥
run_or_refusal source options run (Anticipates line) joined refused other = never_timely source.firsts source.parts.entries line joined.timely refused
run_or_refusal source options run TooManyScenarios joined (timely, crowded) other = not_both (is_crowded source) crowded joined.few_scenarios
run_or_refusal source options run TooManyCells joined (timely, few, vast) other = not_both (is_too_large source) vast joined.few_cells
run_or_refusal source options run (Wide reach) joined (timely, few, less, wide, told) other = not_both (is_wide source options) wide joined.narrow
run_or_refusal source options run Memory joined refused other = other refl

-- one refusal
pub one_refusal : (source : Source) (options : Options) (f g : JoinFault) → IsRefused source options f → IsRefused source options g → f ≢ Memory → g ≢ Memory → f ≡ g
one_refusal source options (Anticipates line) (Anticipates other) a b m n = ap Anticipates (one_line source.firsts source.parts.entries line other a b)
one_refusal source options (Anticipates line) TooManyScenarios a (timely, crowded) m n = absurd (never_timely source.firsts source.parts.entries line timely a)
one_refusal source options (Anticipates line) TooManyCells a (timely, few, vast) m n = absurd (never_timely source.firsts source.parts.entries line timely a)
one_refusal source options (Anticipates line) (Wide reach) a (timely, few, slight, wide, told) m n = absurd (never_timely source.firsts source.parts.entries line timely a)
one_refusal source options TooManyScenarios (Anticipates line) (timely, crowded) a m n = absurd (never_timely source.firsts source.parts.entries line timely a)
one_refusal source options TooManyScenarios TooManyScenarios a b m n = refl
one_refusal source options TooManyScenarios TooManyCells (timely, crowded) (also, few, vast) m n = absurd (not_both (is_crowded source) crowded few)
one_refusal source options TooManyScenarios (Wide reach) (timely, crowded) (also, few, slight, wide, told) m n = absurd (not_both (is_crowded source) crowded few)
one_refusal source options TooManyCells (Anticipates line) (timely, few, vast) a m n = absurd (never_timely source.firsts source.parts.entries line timely a)
one_refusal source options TooManyCells TooManyScenarios (timely, few, vast) (also, crowded) m n = absurd (not_both (is_crowded source) crowded few)
one_refusal source options TooManyCells TooManyCells a b m n = refl
one_refusal source options TooManyCells (Wide reach) (timely, few, vast) (also, less, slight, wide, told) m n = absurd (not_both (is_too_large source) vast slight)
one_refusal source options (Wide reach) (Anticipates line) (timely, few, slight, wide, told) a m n = absurd (never_timely source.firsts source.parts.entries line timely a)
one_refusal source options (Wide reach) TooManyScenarios (timely, few, slight, wide, told) (also, crowded) m n = absurd (not_both (is_crowded source) crowded few)
one_refusal source options (Wide reach) TooManyCells (timely, few, slight, wide, told) (also, less, vast) m n = absurd (not_both (is_too_large source) vast slight)
one_refusal source options (Wide reach) (Wide other) (timely, few, slight, wide, told) (a, b, c, d, also) m n = ap Wide (told ∙ sym also)
one_refusal source options Memory g a b m n = absurd (m refl)
one_refusal source options (Anticipates line) Memory a b m n = absurd (n refl)
one_refusal source options TooManyScenarios Memory a b m n = absurd (n refl)
one_refusal source options TooManyCells Memory a b m n = absurd (n refl)
one_refusal source options (Wide reach) Memory a b m n = absurd (n refl)
