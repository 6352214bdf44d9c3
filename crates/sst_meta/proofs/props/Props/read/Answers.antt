use Rattle.std.proofs.Common.{◌≡◌, Ok, Err, inl, inr, ap}
use Rattle.sst_num.specs.declared.stops.Refused.TheVariants.{Cause}
use Rattle.sst_meta.proofs.PairsRead.{counted, all_read, all_stand, all_ordered, same_pairs, only_memory}
use Rattle.sst_meta.proofs.props.Props.read.Goals as goal

pub pairs_of-requires : goal.pairs_of-requires
pairs_of-requires c = record { short = c.requires; read = counted c.args.block.now c.in-Ok.count c.in-Ok.ensures.exact }

pub invariant_of-result : goal.invariant_of-result
invariant_of-result c =
    let reads = all_read c.args.block.now c.in-Ok.count _ c.in-Ok.ensures.exact c.in_ok-pairs-in-Ok.ensures in
    all_ordered c.args.block.now _ c.requires reads

pub returns-in_ok-pairs-in-Ok-clause-accepts : goal.returns-in_ok-pairs-in-Ok-clause-accepts
returns-in_ok-pairs-in-Ok-clause-accepts c =
    let reads = all_read c.args.block.now c.in-Ok.count _ c.in-Ok.ensures.exact c.in_ok-pairs-in-Ok.ensures in
    all_stand c.args.block.now _ c.requires reads

pub returns-in_ok-pairs-in-Ok-clause-exact : goal.returns-in_ok-pairs-in-Ok-clause-exact
returns-in_ok-pairs-in-Ok-clause-exact c = all_read c.args.block.now c.in-Ok.count _ c.in-Ok.ensures.exact c.in_ok-pairs-in-Ok.ensures

pub returns-in-Err-clause-refuses : goal.returns-in-Err-clause-refuses
returns-in-Err-clause-refuses c = λ fault is.
    let same : c.in-Err.refused ≡ Cause fault = cc in
    c.in-Err.ensures.refuses fault (ap Err same)

pub returns-in_ok-pairs-in-Ok-clause-back : goal.returns-in_ok-pairs-in-Ok-clause-back
returns-in_ok-pairs-in-Ok-clause-back c = λ pairs stands.
    let reads = all_read c.args.block.now c.in-Ok.count _ c.in-Ok.ensures.exact c.in_ok-pairs-in-Ok.ensures in
    inl (ap Ok (same_pairs c.args.block.now _ pairs c.requires reads stands))

pub returns-in-Err-clause-back : goal.returns-in-Err-clause-back
returns-in-Err-clause-back c = λ pairs stands. inr (ap Err (only_memory c.args.block.now c.in-Err.refused pairs c.in-Err.ensures.exact stands))
