use Rattle.std.proofs.Common.{ap}
use Rattle.std.specs.Prelude.{Option}
use Rattle.std.specs.Option.{option_or}
use Rattle.dec_core.specs.declared.decimal.Decimal.{Decimal}
use Rattle.smps_stoch.proofs.AnyEntry.{no_value, own_value}
use Rattle.smps_stoch.specs.LawWords.{first_entries, value_at_place}
use Rattle.smps_stoch.proofs.laws.values_are_own_or_first.Goals as goal

pub returns-clause-own : goal.returns-clause-own
returns-clause-own c = λ core entries entry facts has. own_value entries entry facts.once has

pub returns-clause-none : goal.returns-clause-none
returns-clause-none c = no_value

pub returns-clause-given : goal.returns-clause-given
returns-clause-given c = λ element realisation place value is. ap (λ (own : Option Decimal). option_or own (value_at_place place (first_entries element))) is

pub returns-clause-first : goal.returns-clause-first
returns-clause-first c = λ element realisation place none. ap (λ (own : Option Decimal). option_or own (value_at_place place (first_entries element))) none
