-- What a spoke's step asks of what holds between two steps.

use Rattle.std.proofs.Common.{arith, refl, ◌≡◌, ℕ, ◌+◌, ◌<◌, length, get_or}
use Rattle.std.specs.Prelude.{slice_get, Some}
use Rattle.std.proofs.lemmas.Option.{slice_get_read}
use Rattle.lagrangian_spoke.specs.Spokes.{StandsFor}
use Rattle.lagrangian_spoke.specs.declared.spoke.LagrangianSpoke.{LagrangianSpoke}
use Rattle.sp_model.specs.declared.run.Run.{Run}
use Rattle.schedule_core.specs.Drivers.{IsDriver}
use Rattle.schedule_core.specs.Seats.{viewed}
use Rattle.schedule_core.specs.declared.driver.Driver.{Driver}

module _ (run : Run) (d : Driver) (is : IsDriver run d) (i : ℕ) (there : i < run.options.lagrangian) where
  there_is : i < length d.spokes.items
  there_is = let many = is.many_spokes in omega (arith, there, many)

  -- the spoke that is found
  module _ (s : LagrangianSpoke) (found : s ≡ get_or d.spokes.items i s) where
    pub spoke_found : slice_get d.spokes.items i ≡ Some s
    spoke_found = slice_get_read d.spokes.items (length d.spokes.items) i s refl there_is found

    pub spoke_stands : StandsFor run (viewed d.board (run.options.ranks + 1 + i)) s
    spoke_stands = (is.spokes i s spoke_found).stands
