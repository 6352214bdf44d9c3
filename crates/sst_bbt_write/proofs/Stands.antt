-- The file that is written for a list stands for that list.
use Rattle.std.proofs.Common.{◌≡◌, ℕ, List, refl, sym, ◌∙◌, subst}
use Rattle.sst_key.specs.declared.entries.Entry.{Entry}
use Rattle.sst_meta.specs.BlockFooter.{footer_start}
use Rattle.sst_meta.specs.Put.{loaded_with}
use Rattle.sst_meta.specs.declared.index_form.IndexForm.{IndexForm}
use Rattle.sst_bbt_spec.specs.BlockBased.{Opens, BlockBased}
use Rattle.sst_bbt_spec.specs.IndexLeads.{SaysPairs, LeadToParts}
use Rattle.sst_bbt_spec.specs.PartRuns.{PartsRun}
use Rattle.sst_bbt_write.specs.Cut.{blocks_for, entries_in}
use Rattle.sst_bbt_write.specs.Written.{MayBeChosen, Fits, Written, ends_of, flags_for, index_place, properties, sizes_of, file_of_blocks, table_of}
use Rattle.sst_bbt_write.proofs.CutParts.{parts_for, parts-separated, parts-stored}
use Rattle.sst_bbt_write.proofs.FormTold.{form-told}
use Rattle.sst_bbt_write.proofs.FullBlocks.{HaveEntries, blocks_for-entries, blocks_for-some}
use Rattle.sst_bbt_write.proofs.IndexedBlocks.{indexed, indexed-joined, indexed-separated, indexed-some, flags-apart}
use Rattle.sst_bbt_write.proofs.IndexStands.{tops_of, top-says_pairs, tops-lead}
use Rattle.sst_bbt_write.proofs.WrittenParts.{front_of, file_of, end-put, AreWritten, are-written, written-meta}
use Rattle.sst_bbt_write.specs.declared.bbt_options.BbtOptions.{BbtOptions}
use Rattle.sst_bbt_write.specs.declared.properties.Sizes.{Sizes}

-- the file of a list that was cut into blocks opens to these, in the parts of its index
blocks-open : (options : BbtOptions) (blocks : List (List Entry)) (sizes : Sizes) → AreWritten options blocks
    → Opens (file_of options blocks sizes) (parts_for options.parts (indexed (flags_for options blocks).user_key blocks))
blocks-open options blocks sizes are =
    let flags = flags_for options blocks in
    let at = index_place options blocks in
    let file = file_of options blocks sizes in
    let end = footer_start file in
    let tops = tops_of options blocks in
    let told = sym (form-told options flags sizes) in
    record {
      loaded = loaded_with (front_of options blocks) options.version at (properties options flags sizes);
      meta = written-meta options blocks sizes are;
      pairs = tops;
      top = subst (λ (form : IndexForm). SaysPairs file end form at tops) told (top-says_pairs options blocks sizes are);
      lead = subst (λ (form : IndexForm). LeadToParts file end form tops (parts_for options.parts (indexed flags.user_key blocks))) told (tops-lead options blocks sizes are);
    }

-- through which their entries run
blocks-run : (options : BbtOptions) (blocks : List (List Entry)) → AreWritten options blocks
    → PartsRun (parts_for options.parts (indexed (flags_for options blocks).user_key blocks)) (entries_in blocks)
blocks-run options blocks are =
    let u = (flags_for options blocks).user_key in
    record {
      separated = parts-separated options.parts (indexed u blocks) (indexed-some u blocks are.some)
          (indexed-separated options u 0 blocks are.some are.fits (flags-apart options.version (ends_of options blocks)));
      joined_is = parts-stored options.parts (indexed u blocks) ∙ indexed-joined u blocks;
    }

-- so it stands for their entries
blocks-stand : (options : BbtOptions) (blocks : List (List Entry)) (entries : List Entry) → MayBeChosen options → HaveEntries blocks → Fits entries → entries_in blocks ≡ entries
    → BlockBased (file_of_blocks options blocks entries) entries
blocks-stand options blocks entries chosen some fits is =
    let are = are-written options blocks chosen some (subst Fits (sym is) fits) in
    let sizes = sizes_of options blocks entries in
    let parts = parts_for options.parts (indexed (flags_for options blocks).user_key blocks) in
    record {
      parts = parts;
      opens = subst (λ (file : List ℕ). Opens file parts) (sym (end-put options blocks sizes refl refl)) (blocks-open options blocks sizes are);
      runs = subst (λ (l : List Entry). PartsRun parts l) is (blocks-run options blocks are);
    }

pub stands : (options : BbtOptions) (entries : List Entry) → MayBeChosen options → Fits entries → BlockBased (table_of options entries) entries
unfolding table_of
stands options entries chosen fits =
    blocks-stand options (blocks_for options entries) entries chosen (blocks_for-some options entries) fits (blocks_for-entries options entries)

pub table_is_written : (options : BbtOptions) (entries : List Entry) → MayBeChosen options → Fits entries → Written options (table_of options entries) entries
table_is_written options entries chosen fits = record { bytes = refl; stands = stands options entries chosen fits }
