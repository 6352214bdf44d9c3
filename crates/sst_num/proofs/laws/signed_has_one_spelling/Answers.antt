use Rattle.sst_num.proofs.Signed.{signed-spells, signed-only, zigzag-one, zigzag-each, signed-prefix}
use Rattle.sst_num.proofs.laws.signed_has_one_spelling.Goals as goal

pub returns : goal.returns
returns c = record {
  spelling = signed-spells;
  only = signed-only;
  one = zigzag-one;
  each = zigzag-each;
  begins_none = signed-prefix;
}
