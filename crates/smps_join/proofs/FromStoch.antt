-- What the facts of a stoch file say of all its entries, weights, parents and periods.
use Rattle.std.proofs.Common.{arith, ◌<◌, length}
use Rattle.smps_words.specs.CoreFacts.{IsShort}
use Rattle.smps_words.specs.declared.core_file.Core.{Core}
use Rattle.smps_words.specs.declared.periods.Periods.{Periods}
use Rattle.smps_stoch.specs.StochFacts.{IsPlace, StochFacts}
use Rattle.smps_stoch.specs.declared.stoch.Stoch.{Stoch}
use Rattle.smps_stoch.specs.declared.stoch.Stoch.TheVariants.{Product, Scenarios}
use Rattle.stoch_lines.specs.declared.places.StochEntry.{StochEntry}
use Rattle.scenario_lists.specs.Nesting.{HavePeriods}
use Rattle.scenario_lists.specs.ScenarioList.{HaveAllParents, count_of}
use Rattle.scenario_lists.specs.Combinations.{no_element}
use Rattle.scenario_lists.proofs.Digits.{some_combination}
use Rattle.smps_join.proofs.Listed.{EachEntry, EachWeight}

-- an entry of a row and a column that are there, with a short value
abbrev pub IsGood : Core → StochEntry → Type 0
IsGood core e = IsPlace core e.place × IsShort e.value

pub each_entry : (core : Core) (periods : Periods) (stoch : Stoch) → StochFacts core periods stoch → EachEntry (IsGood core) stoch
each_entry core periods (Product es) facts = λ k e lt i r i_lt n x n_lt. let entry = ((facts.each k e lt).entries i r i_lt).each n x n_lt in (entry.place, entry.short)
each_entry core periods (Scenarios bs) facts = λ k b lt n x n_lt. let entry = (facts.entries k b lt).each n x n_lt in (entry.place, entry.short)

pub each_weight : (core : Core) (periods : Periods) (stoch : Stoch) → StochFacts core periods stoch → EachWeight stoch
each_weight core periods (Product es) facts = λ k e lt. (facts.each k e lt).weights
each_weight core periods (Scenarios bs) facts = facts.weights

pub all_parents : (core : Core) (periods : Periods) (stoch : Stoch) → StochFacts core periods stoch → HaveAllParents stoch
all_parents core periods (Product es) facts = tt
all_parents core periods (Scenarios bs) facts = facts.parents

pub all_periods : (core : Core) (periods : Periods) (stoch : Stoch) → StochFacts core periods stoch → HavePeriods (length periods.columns) stoch
all_periods core periods (Product es) facts = λ k e lt. let period = (facts.each k e lt).period.1 in omega (arith, period, periods.facts.with_columns)
all_periods core periods (Scenarios bs) facts = λ k b lt. let period = (facts.period k b lt).1 in let some = periods.facts.some in omega (arith, period, some, periods.facts.with_columns)

-- there is a scenario
pub count_some : (core : Core) (periods : Periods) (stoch : Stoch) → StochFacts core periods stoch → 0 < count_of stoch
count_some core periods (Product es) facts = some_combination es (λ k lt. (facts.each k no_element lt).some)
count_some core periods (Scenarios bs) facts = facts.some
