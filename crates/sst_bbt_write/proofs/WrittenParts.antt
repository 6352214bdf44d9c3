-- The parts of the file of some data blocks, what is known of them, and what the file says of itself.
use Rattle.std.proofs.Common.{◌≡◌, ℕ, ◌+◌, ◌^◌, ◌<◌, ◌≤◌, List, [], ◌++◌, length, length-append, sym, ap, ◌∙◌, subst, append_assoc, arith}
use Rattle.std.proofs.lemmas.List.{append-nil}
use Rattle.sst_key.specs.declared.entries.Entry.{Entry}
use Rattle.sst_index.specs.Ends.{AreEnds}
use Rattle.sst_index.specs.Index.{AreOptions}
use Rattle.sst_index.proofs.Stand.{top-stands}
use Rattle.sst_meta.specs.BlockFooter.{footer_start}
use Rattle.sst_meta.specs.Meta.{Meta}
use Rattle.sst_meta.specs.Put.{ending_of, file_with, loaded_with}
use Rattle.sst_meta.proofs.FooterPut.{IsSpelled}
use Rattle.sst_meta.proofs.PutLoads.{front-within, file_with-le, put-meta}
use Rattle.sst_bbt_write.specs.Cut.{entries_in}
use Rattle.sst_bbt_write.specs.Written.{MayBeChosen, Fits, data_part, ends_of, flags_for, index_options, index_part, index_place, properties, end_part}
use Rattle.sst_bbt_write.proofs.DataRoom.{data_part-le, filled}
use Rattle.sst_bbt_write.proofs.BlockEnds.{ends-are}
use Rattle.sst_bbt_write.proofs.FullBlocks.{HaveEntries}
use Rattle.sst_bbt_write.proofs.IndexSize.{index_bytes-short}
use Rattle.sst_bbt_write.proofs.PropertyRows.{properties-short, properties-are}
use Rattle.sst_bbt_write.specs.declared.bbt_options.BbtOptions.{BbtOptions}
use Rattle.sst_bbt_write.specs.declared.properties.Sizes.{Sizes}

-- what stands before the properties block: the stored data blocks, and the stored index
abbrev pub front_of : BbtOptions → List (List Entry) → List ℕ
front_of options blocks = data_part options blocks ++ index_part options blocks

-- the end of the file, and the file
abbrev pub rest_of : BbtOptions → List (List Entry) → Sizes → List ℕ
rest_of options blocks sizes = ending_of (length (front_of options blocks)) options.version (index_place options blocks) (properties options (flags_for options blocks) sizes)

abbrev pub file_of : BbtOptions → List (List Entry) → Sizes → List ℕ
file_of options blocks sizes = file_with (front_of options blocks) options.version (index_place options blocks) (properties options (flags_for options blocks) sizes)

length-front : (options : BbtOptions) (blocks : List (List Entry)) → length (front_of options blocks) ≡ length (data_part options blocks) + length (index_part options blocks)
length-front options blocks = length-append (data_part options blocks) (index_part options blocks)

pub parted : (options : BbtOptions) (blocks : List (List Entry)) (sizes : Sizes)
    → file_of options blocks sizes ≡ data_part options blocks ++ (index_part options blocks ++ rest_of options blocks sizes)
parted options blocks sizes = append_assoc (data_part options blocks) (index_part options blocks) (rest_of options blocks sizes)

-- the rest is the end of a file, which is put behind the data blocks
pub end-put : (options : BbtOptions) (blocks : List (List Entry)) (sizes : Sizes) → sizes.data_size ≡ length (data_part options blocks) → sizes.index_size ≡ length (index_part options blocks)
    → data_part options blocks ++ end_part options blocks sizes ≡ file_of options blocks sizes
end-put options blocks sizes first second =
    let at = index_place options blocks in
    let rows = properties options (flags_for options blocks) sizes in
    let place : sizes.data_size + sizes.index_size ≡ length (front_of options blocks) = omega (arith, first, second, length-front options blocks) in
    sym (append_assoc (data_part options blocks) (index_part options blocks) (ending_of (sizes.data_size + sizes.index_size) options.version at rows))
    ∙ ap (λ (n : ℕ). front_of options blocks ++ ending_of n options.version at rows) place

-- what is known of some blocks that are written
pub record AreWritten (options : BbtOptions) (blocks : List (List Entry)) : Type 0 where
  pub chosen : MayBeChosen options
  pub some : HaveEntries blocks
  pub fits : Fits (entries_in blocks)
  pub data_short : length (data_part options blocks) ≤ 2 ^ 29
  pub index_short : length (index_part options blocks) < 2 ^ 31
  pub options_are : AreOptions (index_options options)
  pub ends_are : AreEnds (ends_of options blocks)

pub are-written : (options : BbtOptions) (blocks : List (List Entry)) → MayBeChosen options → HaveEntries blocks → Fits (entries_in blocks) → AreWritten options blocks
are-written options blocks chosen some fits =
    let stored : length (data_part options blocks) ≤ 2 ^ 29 = omega (arith, data_part-le options blocks (filled blocks some), fits.light) in
    let ends = ends-are options blocks [] (filled blocks some) (subst Fits (sym (append-nil (entries_in blocks))) fits) in
    record {
      chosen = chosen;
      some = some;
      fits = fits;
      data_short = stored;
      index_short = index_bytes-short (index_options options) (length (data_part options blocks)) (ends_of options blocks) ends;
      options_are = record { version_least = chosen.version_least; version_most = chosen.version_most; least = chosen.index_restart_least; most = chosen.index_restart_most };
      ends_are = ends;
    }

-- the index stands before the footer
pub index-within : (options : BbtOptions) (blocks : List (List Entry)) (sizes : Sizes)
    → length (data_part options blocks) + length (index_part options blocks) ≤ footer_start (file_of options blocks sizes)
index-within options blocks sizes =
    omega (arith, length-front options blocks, front-within (front_of options blocks) options.version (index_place options blocks) (properties options (flags_for options blocks) sizes))

-- its place can be spelled
place-spelled : (options : BbtOptions) (blocks : List (List Entry)) → AreWritten options blocks → IsSpelled (index_place options blocks)
place-spelled options blocks are =
    let stored = data_part options blocks in
    let index = index_part options blocks in
    let stands = top-stands (index_options options) stored [] (length stored + length index) (ends_of options blocks) are.ends_are (omega arith) in
    (omega (arith, stands.within, are.data_short, are.index_short), omega (arith, stands.within, are.data_short, are.index_short))

-- what the file says of itself
pub written-meta : (options : BbtOptions) (blocks : List (List Entry)) (sizes : Sizes) → AreWritten options blocks
    → Meta (file_of options blocks sizes) (loaded_with (front_of options blocks) options.version (index_place options blocks) (properties options (flags_for options blocks) sizes))
written-meta options blocks sizes are =
    let front = front_of options blocks in
    let at = index_place options blocks in
    let flags = flags_for options blocks in
    put-meta front options.version at (properties options flags sizes) (are.chosen.version_least, are.chosen.version_most) (place-spelled options blocks are)
    (properties-are options flags sizes)
    (omega (arith, file_with-le front options.version at (properties options flags sizes), length-front options blocks, properties-short options flags sizes, are.data_short, are.index_short))
