-- How long stored data blocks are, beside what their entries weigh.
use Rattle.std.proofs.Common.{◌≡◌, ℕ, ◌+◌, ◌*◌, ◌^◌, ◌<◌, ◌≤◌, List, [], ◌∷◌, ◌++◌, length, length-append, All, ap, ◌∙◌, arith}
use Rattle.std.proofs.lemmas.Grind.{flat_map-append}
use Rattle.std.proofs.lemmas.List.{append-nil}
use Rattle.std.proofs.lemmas.List.Elements.{All-nil, All-cons, All-head, All-tail}
use Rattle.std.proofs.lemmas.List.Sums.{sum_by-cons, sum_by-append}
use Rattle.sst_key.specs.declared.entries.Entry.{Entry}
use Rattle.sst_key.specs.Entry.{entry_weight, weight}
use Rattle.sst_block.specs.declared.row_form.RowForm.TheVariants.{Entries}
use Rattle.sst_block.proofs.Size.{block_of-le}
use Rattle.sst_device.specs.Framed.{frame_of}
use Rattle.sst_meta.proofs.FramedParts.{length-frame}
use Rattle.sst_bbt_spec.specs.Rows.{rows_of}
use Rattle.sst_bbt_write.specs.Cut.{data_block, entries_in}
use Rattle.sst_bbt_write.specs.Keeps.{HasEntry}
use Rattle.sst_bbt_write.specs.Written.{Fits, data_part, stored_length}
use Rattle.sst_bbt_write.proofs.FullBlocks.{HaveEntries}
use Rattle.sst_bbt_write.proofs.Rows.{rows_of-room}
use Rattle.sst_bbt_write.specs.declared.bbt_options.BbtOptions.{BbtOptions}

-- blocks that have entries, as the writer says it
pub filled : (blocks : List (List Entry)) → HaveEntries blocks → All HasEntry blocks
filled [] some = All-nil HasEntry
filled (block ∷ rest) some = All-cons HasEntry block rest some.0 (filled rest some.1)

pub weight-both : (front back : List Entry) → weight (front ++ back) ≡ weight front + weight back
weight-both front back = sum_by-append entry_weight front back

-- a data block takes no more than it weighs, and eight bytes
pub data-le : (options : BbtOptions) (block : List Entry) → length (data_block options block) ≤ weight block + 8
data-le options block = omega (arith, block_of-le Entries options.restart (rows_of block), rows_of-room block)

pub data_block-short : (options : BbtOptions) (entries : List Entry) → Fits entries → length (data_block options entries) < 2 ^ 29
data_block-short options entries fits = omega (arith, data-le options entries, fits.light)

-- the stored data blocks, and one more before them or behind them
pub length-data_part : (options : BbtOptions) (block : List Entry) (rest : List (List Entry)) → length (data_part options (block ∷ rest)) ≡ stored_length (data_block options block) + length (data_part options rest)
length-data_part options block rest = length-append (frame_of (data_block options block)) (data_part options rest) ∙ ap (λ (n : ℕ). n + length (data_part options rest)) (length-frame (data_block options block))

pub data_part-more : (options : BbtOptions) (blocks : List (List Entry)) (block : List Entry) → data_part options (blocks ++ block ∷ []) ≡ data_part options blocks ++ frame_of (data_block options block)
data_part-more options blocks block =
    flat_map-append (λ (b : List Entry). frame_of (data_block options b)) blocks (block ∷ []) ∙ ap (λ (l : List ℕ). data_part options blocks ++ l) (append-nil (frame_of (data_block options block)))

-- a block with an entry weighs 64 at least
pub some-weight : (block : List Entry) → 0 < length block → 64 ≤ weight block
some-weight [] some = absurd (omega arith)
some-weight (e ∷ rest) some = omega (arith, sum_by-cons entry_weight e rest)

-- the stored data blocks take at most twice what their entries weigh
pub data_part-le : (options : BbtOptions) (blocks : List (List Entry)) → All HasEntry blocks → length (data_part options blocks) ≤ 2 * weight (entries_in blocks)
data_part-le options [] filled = omega arith
data_part-le options (block ∷ rest) filled =
    let more = data_part-le options rest (All-tail HasEntry block rest filled) in
    let here = some-weight block (All-head HasEntry block rest filled) in
    omega (arith, more, here, data-le options block, length-data_part options block rest, weight-both block (entries_in rest))

-- so many blocks weigh so much
pub blocks-few : (blocks : List (List Entry)) → All HasEntry blocks → length blocks ≤ weight (entries_in blocks)
blocks-few [] filled = omega arith
blocks-few (block ∷ rest) filled =
    let more = blocks-few rest (All-tail HasEntry block rest filled) in
    let here = some-weight block (All-head HasEntry block rest filled) in
    omega (arith, more, here, weight-both block (entries_in rest))
