-- The pairs of an index lead to the data blocks of a list.
use Rattle.std.proofs.Common.{◌≡◌, ℕ, ◌+◌, ◌<◌, ◌≤◌, Bool, None, List, [], ◌∷◌, ◌++◌, length, length-append, map, refl, sym, ap, ◌∙◌, append_assoc, arith}
use Rattle.std.proofs.lemmas.List.Elements.{All-weaker}
use Rattle.sst_key.specs.declared.entries.Entry.{Entry}
use Rattle.sst_block.specs.declared.row_form.RowForm.TheVariants.{Entries}
use Rattle.sst_block.specs.Block.{Block}
use Rattle.sst_block.proofs.BlockLaws.{block_of_is_block}
use Rattle.sst_device.specs.Framed.{frame_of}
use Rattle.sst_index.specs.Ends.{pair_of}
use Rattle.sst_meta.proofs.FramedParts.{length-frame, framed-at}
use Rattle.sst_bbt_spec.specs.IndexLeads.{HoldsEntries, LeadToBlocks}
use Rattle.sst_bbt_spec.specs.Rows.{HasSeq, rows_of}
use Rattle.sst_bbt_write.specs.Cut.{data_block, entries_in}
use Rattle.sst_bbt_write.specs.Written.{MayBeChosen, IsInLimits, Fits, stored_length, data_part, ends_from}
use Rattle.sst_bbt_write.proofs.DataRoom.{data_block-short, length-data_part}
use Rattle.sst_bbt_write.proofs.FullBlocks.{HaveEntries}
use Rattle.sst_bbt_write.proofs.IndexedBlocks.{indexed}
use Rattle.sst_bbt_write.proofs.ListParts.{fits-front, fits-back}
use Rattle.sst_bbt_write.proofs.Rows.{rows_of-forms, rows_of-ordered}
use Rattle.sst_bbt_write.specs.declared.bbt_options.BbtOptions.{BbtOptions}

-- a data block stands for its entries
data_block-is : (options : BbtOptions) (entries : List Entry) → MayBeChosen options → Fits entries → Block Entries (data_block options entries) (rows_of entries)
data_block-is options entries chosen fits =
    block_of_is_block Entries options.restart (rows_of entries) (let least = chosen.restart_least in omega (arith, least)) (rows_of-forms entries fits.limits)
    (rows_of-ordered entries fits.limits fits.ordered) tt (omega (arith, data_block-short options entries fits))

-- a data block that stands in a file
block-held : (options : BbtOptions) (file front rest : List ℕ) (at end : ℕ) (block : List Entry) → MayBeChosen options → 0 < length block → Fits block
    → file ≡ front ++ (frame_of (data_block options block) ++ rest) → at ≡ length front → at + stored_length (data_block options block) ≤ end
    → HoldsEntries file end (record { offset = at; size = length (data_block options block) }) block
block-held options file front rest at end block chosen some fits is place within =
    record {
      block = data_block options block;
      framed = framed-at file front (data_block options block) rest at end is place (omega (arith, data_block-short options block fits)) (omega (arith, within));
      rows = data_block-is options block chosen fits;
      some = some;
      seqs = All-weaker IsInLimits HasSeq (λ x within. within.seq) block fits.limits;
    }

-- the pairs of blocks that stand one after the other lead to them
pub pairs-lead : (options : BbtOptions) (user_key : Bool) (file front tail : List ℕ) (at end : ℕ) (blocks : List (List Entry)) → MayBeChosen options → HaveEntries blocks
    → Fits (entries_in blocks) → file ≡ front ++ (data_part options blocks ++ tail) → at ≡ length front → at + length (data_part options blocks) ≤ end
    → LeadToBlocks file end user_key (map (pair_of user_key) (ends_from options at blocks None)) (indexed user_key blocks)
pairs-lead options user_key file front tail at end [] chosen some fits is place within = refl
pairs-lead options user_key file front tail at end (block ∷ rest) chosen some fits is place within =
    let frame = frame_of (data_block options block) in
    let behind = data_part options rest ++ tail in
    let parted : file ≡ front ++ (frame ++ behind) = is ∙ ap (λ (l : List ℕ). front ++ l) (append_assoc frame (data_part options rest) tail) in
    let long = length-data_part options block rest in
    let next : at + stored_length (data_block options block) ≡ length (front ++ frame) = omega (arith, place, length-append front frame, length-frame (data_block options block)) in (
      refl,
      block-held options file front behind at end block chosen some.0 (fits-front block (entries_in rest) fits) parted place (omega (arith, within, long)),
      pairs-lead options user_key file (front ++ frame) tail (at + stored_length (data_block options block)) end rest chosen some.1 (fits-back block (entries_in rest) fits)
          (parted ∙ sym (append_assoc front frame behind)) next (omega (arith, within, long)),
    )
