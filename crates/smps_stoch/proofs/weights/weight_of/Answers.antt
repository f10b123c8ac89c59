use Rattle.std.proofs.Common.{arith}
use Rattle.smps_stoch.proofs.Weighing.{weight_fits}
use Rattle.smps_stoch.proofs.weights.weight_of.Goals as goal

pub unwrap-requires : goal.unwrap-requires
unwrap-requires c =
    let fits = weight_fits c.args.probability c.args.places c.requires.probable c.requires.enough c.requires.most in
    grind (arith, fits)
