use Rattle.sst_key.proofs.KeyParts.{internal_cmp-tied}
use Rattle.sst_key.proofs.keys.cmp_internal.Goals as goal

pub returns-in-Equal : goal.returns-in-Equal
returns-in-Equal c =
    let ua = c.split_at.ensures.front in
    let ub = c.split_at-2.ensures.front in
    let ta = c.split_at.ensures.back in
    let tb = c.split_at-2.ensures.back in
    internal_cmp-tied _ _ _ _ _ _ _ ua ub ta tb c.requires.first c.requires.second c.in-Equal.ensures c.read_u64-in-Equal.result c.read_u64.result c.read_u64-in-Equal.ensures c.read_u64.ensures c.cmp-in-Equal.ensures
