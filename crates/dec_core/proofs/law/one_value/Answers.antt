use Rattle.dec_core.specs.DecimalValue.{mantissa_of, places_of}
use Rattle.dec_core.proofs.ReadLaws.{normal_read}
use Rattle.dec_core.proofs.ValueLaws.{one_value, value_found, value_of_zero}
use Rattle.dec_core.proofs.law.one_value.Goals as goal

pub returns : goal.returns
returns c = record {
  found = value_found;
  only = λ s m p h. one_value s m p (mantissa_of s) (places_of s) h (value_found s);
  zero = value_of_zero;
  normal = normal_read;
}
