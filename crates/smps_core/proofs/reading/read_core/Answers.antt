use Rattle.smps_core.proofs.Accepted.{accepted_asks, fits_together}
use Rattle.smps_core.proofs.reading.read_core.Goals as goal

pub core_of-requires : goal.core_of-requires
core_of-requires c = fits_together c.args.bytes.now _ c.in-Ok.ensures

pub returns-in-Err-core_of : goal.returns-in-Err-core_of
returns-in-Err-core_of c = accepted_asks c.args.bytes.now _ c.in-Ok.ensures
