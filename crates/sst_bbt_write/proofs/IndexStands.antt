-- The index of the file of some data blocks: its top block says its pairs, and these lead to the parts of the index.
use Rattle.std.proofs.Common.{ℕ, List, [], ◌++◌, length, refl, sym, subst, arith}
use Rattle.sst_key.specs.declared.entries.Entry.{Entry}
use Rattle.sst_block.specs.IndexRows.{IndexPair}
use Rattle.sst_device.specs.Framed.{Framed}
use Rattle.sst_index.specs.Ends.{pairs_of}
use Rattle.sst_index.specs.IndexBytes.{parts_of, top_block, top_pairs}
use Rattle.sst_index.specs.Partitions.{LeadToPartitions}
use Rattle.sst_index.proofs.Says.{top-says}
use Rattle.sst_index.proofs.Stand.{partitions-stand, top-stands}
use Rattle.sst_meta.specs.BlockFooter.{footer_start}
use Rattle.sst_bbt_spec.specs.IndexLeads.{SaysPairs, LeadToParts}
use Rattle.sst_bbt_write.specs.Written.{data_part, ends_of, flags_for, index_options, index_part, index_place}
use Rattle.sst_bbt_write.proofs.CutParts.{parts_for}
use Rattle.sst_bbt_write.proofs.DataBlocks.{pairs-lead}
use Rattle.sst_bbt_write.proofs.IndexedBlocks.{indexed}
use Rattle.sst_bbt_write.proofs.PartsLead.{form_with, parts-lead}
use Rattle.sst_bbt_write.proofs.WrittenParts.{rest_of, file_of, parted, AreWritten, index-within}
use Rattle.sst_bbt_write.specs.declared.bbt_options.BbtOptions.{BbtOptions}
use Rattle.sst_bbt_write.specs.declared.properties.Sizes.{Sizes}

-- the pairs of its top block
abbrev pub tops_of : BbtOptions → List (List Entry) → List IndexPair
tops_of options blocks =
    top_pairs (flags_for options blocks) options.index_restart options.parts (length (data_part options blocks)) (pairs_of options.version (ends_of options blocks))

-- its top block says them
pub top-says_pairs : (options : BbtOptions) (blocks : List (List Entry)) (sizes : Sizes) → AreWritten options blocks
    → SaysPairs (file_of options blocks sizes) (footer_start (file_of options blocks sizes)) (form_with options.parts (flags_for options blocks)) (index_place options blocks) (tops_of options blocks)
top-says_pairs options blocks sizes are =
    let o = index_options options in
    let ends = ends_of options blocks in
    let stored = data_part options blocks in
    let block = top_block (flags_for options blocks) options.index_restart options.parts (length stored) (pairs_of options.version ends) in
    let end = footer_start (file_of options blocks sizes) in
    record {
      block = block;
      framed = subst (λ (file : List ℕ). Framed file end (index_place options blocks) block) (sym (parted options blocks sizes))
          (top-stands o stored (rest_of options blocks sizes) end ends are.ends_are (index-within options blocks sizes));
      rows = top-says o (length stored) ends are.options_are are.ends_are (omega (arith, are.data_short));
    }

-- and they lead to the parts of the index
pub tops-lead : (options : BbtOptions) (blocks : List (List Entry)) (sizes : Sizes) → AreWritten options blocks
    → LeadToParts (file_of options blocks sizes) (footer_start (file_of options blocks sizes)) (form_with options.parts (flags_for options blocks)) (tops_of options blocks)
    (parts_for options.parts (indexed (flags_for options blocks).user_key blocks))
tops-lead options blocks sizes are =
    let o = index_options options in
    let flags = flags_for options blocks in
    let ends = ends_of options blocks in
    let stored = data_part options blocks in
    let rest = rest_of options blocks sizes in
    let file = file_of options blocks sizes in
    let end = footer_start file in
    let within = index-within options blocks sizes in
    let is = parted options blocks sizes in
    parts-lead file end options.index_restart (length stored) flags options.parts (pairs_of options.version ends) (indexed flags.user_key blocks)
    (λ some. subst (λ (f : List ℕ). LeadToPartitions f end flags options.index_restart (tops_of options blocks) (parts_of options.parts (pairs_of options.version ends))) (sym is)
    (partitions-stand o stored rest end ends are.options_are are.ends_are some within))
    (pairs-lead options flags.user_key file [] (index_part options blocks ++ rest) 0 end blocks are.chosen are.some are.fits is refl (omega (arith, within)))
