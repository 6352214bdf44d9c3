use Rattle.std.proofs.Common.{◌*◌, ◌+◌, arith}
use Rattle.sst_index.specs.Index.{kept_pairs}
use Rattle.sst_index.proofs.PartsPut.{kept-length, next_end}
use Rattle.sst_index.proofs.TopKeys.{whole_key, whole_within, part_within, part_key}
use Rattle.sst_index.proofs.builder.IndexBuilder.top_key.Goals as goal

pub pair-requires-clause-row : goal.pair-requires-clause-row
pair-requires-clause-row c =
    let b = c.args.self.now in
    let pairs = kept_pairs c.args.user_key b in
    omega (arith, whole_within b.parts c.args.row pairs c.if-self-eq0.true c.requires.row, kept-length c.args.user_key b)

pub returns-then-self-eq0 : goal.returns-then-self-eq0
returns-then-self-eq0 c =
    let b = c.args.self.now in
    whole_key b.parts c.args.row (kept_pairs c.args.user_key b) c.pair.result.0.now _ c.if-self-eq0.true c.pair.ensures

pub overflow_mul-from : goal.overflow_mul-from
overflow_mul-from c =
    let b = c.args.self.now in
    let within = part_within b.parts c.args.row (kept_pairs c.args.user_key b) (omega (arith, c.if-self-eq0.false)) c.requires.row in
    omega (arith, within, kept-length c.args.user_key b, b.rows.ok, b.rows.small)

pub overflow_sub-len : goal.overflow_sub-len
overflow_sub-len c =
    let b = c.args.self.now in
    let within = part_within b.parts c.args.row (kept_pairs c.args.user_key b) (omega (arith, c.if-self-eq0.false)) c.requires.row in
    omega (arith, within, kept-length c.args.user_key b, c.len.ensures)

pub overflow_add-to : goal.overflow_add-to
overflow_add-to c =
    let b = c.args.self.now in
    let within = part_within b.parts c.args.row (kept_pairs c.args.user_key b) (omega (arith, c.if-self-eq0.false)) c.requires.row in
    omega (arith, within, kept-length c.args.user_key b, c.len.ensures, c.min.ensures, b.rows.ok, b.rows.small)

pub pair-requires-2-clause-row : goal.pair-requires-2-clause-row
pair-requires-2-clause-row c =
    let b = c.args.self.now in
    let within = part_within b.parts c.args.row (kept_pairs c.args.user_key b) (omega (arith, c.if-self-eq0.false)) c.requires.row in
    omega (arith, within, kept-length c.args.user_key b, c.len.ensures, c.min.ensures)

pub returns : goal.returns
returns c =
    let b = c.args.self.now in
    let u = c.args.user_key in
    let from = c.args.row * b.parts in
    part_key b.parts c.args.row (from + c.min.result) (kept_pairs u b) c.pair-2.result.0.now _ (omega (arith, c.if-self-eq0.false)) c.requires.row
    (next_end u b c.len.result from c.min.result b.parts (omega (arith, c.len.ensures)) c.min.ensures) c.pair-2.ensures
