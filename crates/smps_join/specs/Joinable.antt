-- What is asked of what is joined: options in their ranges, and the data that the three readers
-- answer.
use Rattle.std.specs.Prelude.{◌<◌, length}
use Rattle.smps_words.specs.declared.core_file.Core.{Core}
use Rattle.smps_words.specs.declared.periods.Periods.{Periods}
use Rattle.smps_stoch.specs.StochFacts.{StochFacts}
use Rattle.smps_stoch.specs.declared.stoch.Stoch.{Stoch}
use Rattle.sp_model.specs.RunFacts.{OptionFacts}
use Rattle.sp_model.specs.declared.program.Options.{Options}

-- options in their ranges, a core with a column, and a stoch file beside it
pub record CanJoin (core : Core) (periods : Periods) (stoch : Stoch)
    (options : Options) : Type 0 where
  pub options_fit : OptionFacts options
  pub some_columns : 0 < length core.columns
  pub stoch_fits : StochFacts core periods stoch
