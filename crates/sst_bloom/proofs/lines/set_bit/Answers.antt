use Rattle.std.proofs.Common.{◌/◌, ◌%◌, arith}
use Rattle.sst_bloom.proofs.Bits.{bit_is_set, set_are_bytes}
use Rattle.sst_bloom.proofs.lines.set_bit.Goals as goal

pub returns-clause-bits : goal.returns-clause-bits
returns-clause-bits c = λ p. bit_is_set c.args.body.now c.args.at p c.requires

pub returns-clause-bytes : goal.returns-clause-bytes
returns-clause-bytes c = set_are_bytes c.args.body.now (c.args.at / 8) (c.args.at % 8) (omega arith)
