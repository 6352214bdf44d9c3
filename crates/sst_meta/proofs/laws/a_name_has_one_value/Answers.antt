use Rattle.sst_meta.proofs.Named.{value-found, value-shown, value-missing}
use Rattle.sst_meta.proofs.laws.a_name_has_one_value.Goals as goal

pub returns : goal.returns
returns c = record {
  found = λ pairs pair ordered has. value-found pairs has.0 pair ordered has.1;
  shown = λ pairs name value is. value-shown name pairs value is;
  none = λ pairs name is pair has same. value-missing name pairs has.0 pair is has.1 same;
}
