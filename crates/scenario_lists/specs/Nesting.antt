-- Elements and scenarios whose periods are among some stages.
use Rattle.std.specs.Prelude.{ℕ, ◌≤◌, max}
use Rattle.std.specs.List.{All}
use Rattle.smps_stoch.specs.declared.stoch.Branch.{Branch}
use Rattle.smps_stoch.specs.declared.stoch.Element.{Element}
use Rattle.smps_stoch.specs.declared.stoch.Stoch.{Stoch}
use Rattle.smps_stoch.specs.declared.stoch.Stoch.TheVariants.{Product, Scenarios}

-- no period is after the last stage; that of a listed scenario counts as the second at least
abbrev pub HavePeriods : ℕ → Stoch → Type 0
HavePeriods stages (Product elements) = All (λ (e : Element). e.period ≤ stages) elements
HavePeriods stages (Scenarios branches) = All (λ (b : Branch). max 2 b.period ≤ stages) branches
