use Rattle.stoch_lines.proofs.Answering.{asks}
use Rattle.stoch_lines.specs.Turns.{before_in}
use Rattle.smps_stoch.proofs.Answering.{facts_are, fails_so}
use Rattle.smps_stoch.proofs.SaidLaws.{said_well}
use Rattle.smps_stoch.proofs.StochLaws.{heads_probable}
use Rattle.smps_stoch.proofs.reading.read_stoch.Goals as goal

pub stoch_of-requires-clause-chosen : goal.stoch_of-requires-clause-chosen
stoch_of-requires-clause-chosen c =
    (said_well c.args.core.now c.args.periods.now c.args.bytes.now (before_in c.in-Ok.state) c.in-Ok.ensures).elements.probable

pub stoch_of-requires-clause-heads : goal.stoch_of-requires-clause-heads
stoch_of-requires-clause-heads c =
    heads_probable c.args.periods.now c.in-Ok.state.scenarios (said_well c.args.core.now c.args.periods.now c.args.bytes.now (before_in c.in-Ok.state) c.in-Ok.ensures).heads.heads

pub returns-in-Ok-stoch_of-clause-facts : goal.returns-in-Ok-stoch_of-clause-facts
returns-in-Ok-stoch_of-clause-facts c =
    facts_are c.args.core.now c.args.periods.now c.args.bytes.now (before_in c.in-Ok.state) c.in-Ok-stoch_of.stoch c.in-Ok.ensures c.in-Ok-stoch_of.ensures

pub returns-in-Err-clause-meaning : goal.returns-in-Err-clause-meaning
returns-in-Err-clause-meaning c =
    fails_so c.args.core.now c.args.periods.now c.args.bytes.now c.in-Err.fault c.in-Err.ensures

pub returns-in-Err-stoch_of-clause-meaning : goal.returns-in-Err-stoch_of-clause-meaning
returns-in-Err-stoch_of-clause-meaning c =
    asks c.args.core.now c.args.periods.now c.args.bytes.now (before_in c.in-Ok.state) c.in-Ok.ensures
