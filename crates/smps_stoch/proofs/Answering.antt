-- The reader's answer, by what the lines come to.
use Rattle.std.proofs.Common.{◌≡◌, ℕ, Bool, List, length, Ok, Err, ap, sym, subst, eq-eqb}
use Rattle.std.specs.Prelude.{if◌then◌else◌}
use Rattle.smps_words.specs.Memory.{MayRefuse}
use Rattle.smps_words.specs.declared.core_file.Core.{Core}
use Rattle.smps_words.specs.declared.periods.Periods.{Periods}
use Rattle.stoch_lines.specs.Before.{Before}
use Rattle.stoch_lines.specs.StochOutcome.{said_meaning, Fails}
use Rattle.stoch_lines.specs.declared.kinds.StochFault.{StochFault}
use Rattle.stoch_lines.specs.declared.kinds.StochFault.TheVariants.{At, Memory}
use Rattle.smps_stoch.specs.declared.stoch.Element.{Element}
use Rattle.smps_stoch.specs.declared.stoch.Stoch.{Stoch}
use Rattle.smps_stoch.specs.declared.stoch.Stoch.TheVariants.{Product, Scenarios}
use Rattle.smps_stoch.specs.StochData.{branches_of, drafts_of, elements_of, stoch_of}
use Rattle.smps_stoch.specs.StochFacts.{StochFacts}
use Rattle.smps_stoch.specs.StochMeaning.{data_of, stoch_meaning, Gives}
use Rattle.smps_stoch.proofs.SaidLaws.{said_well}
use Rattle.smps_stoch.proofs.StochLaws.{stoch_well}

-- without a scenario line the data are the elements
pub product_is : (b : Before) (elements : List Element) → length b.scenarios ≡ 0 → elements ≡ elements_of b.periods (drafts_of b.realisations b.entries) → Product elements ≡ stoch_of b
product_is b elements none same =
    let P : Bool → Type 0 = λ product. Product elements ≡ (if product then Product (elements_of b.periods (drafts_of b.realisations b.entries)) else Scenarios (branches_of b.scenarios b.entries)) in
    subst P (sym (eq-eqb (length b.scenarios) 0 none)) (ap (λ (xs : List Element). Product xs) same)

-- the facts of the data of all that the file says
pub facts_are : (core : Core) (periods : Periods) (bytes : List ℕ) (b : Before) (stoch : Stoch) → said_meaning core periods bytes ≡ Ok b → stoch ≡ stoch_of b → StochFacts core periods stoch
facts_are core periods bytes b stoch is same =
    subst (StochFacts core periods) (sym same) (stoch_well core periods b (said_well core periods bytes b is))

-- the fault of the lines is that of the data
pub fails_so : (core : Core) (periods : Periods) (bytes : List ℕ) (fault : StochFault) → Fails (MayRefuse bytes) fault (said_meaning core periods bytes) → Gives (MayRefuse bytes) (Err fault) (stoch_meaning core periods bytes)
fails_so core periods bytes (At line kind) fails = ap data_of fails
fails_so core periods bytes Memory fails = fails
