use Rattle.line_core.proofs.Runs.{each_field, every_field, fields_rise}
use Rattle.line_core.proofs.field_runs.fields_are_runs.Goals as goal

pub returns : goal.returns
returns c = record { each = each_field; every = every_field; rise = fields_rise }
