-- What joining a core, its periods and a stoch file answers: the run, or the first cause why there
-- is none.
use Rattle.std.specs.Prelude.{◌≡◌, true, false, None, Some, Result, Ok, Err}
use Rattle.smps_words.specs.declared.core_file.Core.{Core}
use Rattle.smps_words.specs.declared.periods.Periods.{Periods}
use Rattle.smps_stoch.specs.declared.stoch.Stoch.{Stoch}
use Rattle.sp_model.specs.declared.program.Options.{Options}
use Rattle.sp_model.specs.declared.run.Run.{Run}
use Rattle.join_words.specs.Parts.{IsFirstEarly}
use Rattle.join_words.specs.Framing.{Source, joined}
use Rattle.join_words.specs.RunOf.{has_many_listed, is_crowded, is_too_large, is_wide, nonleaf_of, options_of, program_of, told_reach, total_of}
use Rattle.join_words.specs.declared.fault.JoinFault.{JoinFault}
use Rattle.join_words.specs.declared.fault.JoinFault.TheVariants.{Anticipates, TooManyScenarios, TooManyCells, Wide, Memory}

-- what is joined: missing ends of boxes are filled in by the option `--box`
abbrev pub source_of : Core → Periods → Stoch → Options → Source
source_of core periods stoch options = joined core periods stoch options.missing

-- no entry of the core is early
abbrev pub IsTimely : Source → Type 0
IsTimely source = IsFirstEarly source.firsts source.parts.entries None

-- a run is made exactly where none of the causes holds, and it is the defined one
pub record IsJoined (source : Source) (options : Options) (run : Run) : Type 0 where
  pub timely : IsTimely source
  pub few_scenarios : is_crowded source ≡ false
  pub few_cells : is_too_large source ≡ false
  pub narrow : is_wide source options ≡ false
  pub program : run.program ≡ program_of source
  pub options_are : run.options ≡ options_of source options
  pub total : run.total ≡ total_of source
  pub nonleaf : run.nonleaf ≡ nonleaf_of source

-- a refusal has its own cause, and none of those before it; memory is asked for only behind the
-- causes that can be told without a list
abbrev pub IsRefused : Source → Options → JoinFault → Type 0
IsRefused source options (Anticipates line) =
    IsFirstEarly source.firsts source.parts.entries (Some line)
IsRefused source options TooManyScenarios = IsTimely source × (is_crowded source ≡ true)
IsRefused source options TooManyCells =
    IsTimely source × (is_crowded source ≡ false) × (is_too_large source ≡ true)
IsRefused source options (Wide reach) = IsTimely source × (is_crowded source ≡ false)
    × (is_too_large source ≡ false) × (is_wide source options ≡ true)
    × (reach ≡ told_reach source options)
IsRefused source options Memory =
    IsTimely source × (is_crowded source ≡ false) × (has_many_listed source ≡ false)

-- what the join answers
abbrev pub Joins : Result Run JoinFault → Source → Options → Type 0
Joins (Ok run) source options = IsJoined source options run
Joins (Err fault) source options = IsRefused source options fault
