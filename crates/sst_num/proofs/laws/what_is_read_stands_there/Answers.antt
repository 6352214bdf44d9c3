use Rattle.sst_num.proofs.Standing.{varint_at-stands, varint32_at-stands, signed_at-stands, handle_at-stands, fixed_at-stands}
use Rattle.sst_num.proofs.laws.what_is_read_stands_there.Goals as goal

pub returns : goal.returns
returns c = record {
  varint = varint_at-stands;
  varint32 = varint32_at-stands;
  signed = signed_at-stands;
  handle = handle_at-stands;
  fixed = fixed_at-stands;
}
