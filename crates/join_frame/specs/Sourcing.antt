-- The entries of a stoch file name rows and columns of the core.
use Rattle.std.specs.List.{All}
use Rattle.smps_words.specs.declared.core_file.Core.{Core}
use Rattle.smps_stoch.specs.StochFacts.{IsPlace}
use Rattle.smps_stoch.specs.declared.stoch.Stoch.{Stoch}
use Rattle.stoch_lines.specs.declared.places.StochEntry.{StochEntry}
use Rattle.join_words.specs.Parts.{all_entries}

-- the rows and columns of all places are there
abbrev pub AreNamed : Core → Stoch → Type 0
AreNamed core stoch = All (λ (e : StochEntry). IsPlace core e.place) (all_entries stoch)
