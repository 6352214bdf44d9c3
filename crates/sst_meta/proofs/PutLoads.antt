-- A file that ends in a properties block, a metaindex block that leads to it, and a footer says this of itself.
use Rattle.std.proofs.Common.{◌≡◌, ℕ, ◌+◌, ◌^◌, ◌<◌, ◌≤◌, List, [], ◌++◌, length, length-append, Ok, refl, sym, ap, ◌∙◌, append_assoc, arith}
use Rattle.std.proofs.lemmas.List.Elements.{All-nil, All-cons}
use Rattle.sst_num.specs.Spelling.{handle_spelling}
use Rattle.sst_num.specs.declared.block_handle.Handle.{Handle}
use Rattle.sst_block.specs.declared.row_form.RowForm.TheVariants.{Names}
use Rattle.sst_block.specs.Block.{Row, Block, IsRow}
use Rattle.sst_block.proofs.BlockLaws.{block_of_is_block}
use Rattle.sst_block.proofs.Size.{block_of-le}
use Rattle.sst_device.specs.Framed.{frame_of}
use Rattle.sst_meta.specs.BlockFooter.{IsBuilt, block_footer, footer_start}
use Rattle.sst_meta.specs.Footer.{footer_spelling}
use Rattle.sst_meta.specs.LoadReading.{load_read}
use Rattle.sst_meta.specs.Meta.{HasPairs, Meta}
use Rattle.sst_meta.specs.Names.{name_bytes}
use Rattle.sst_meta.specs.declared.name.Name.TheVariants as name
use Rattle.sst_meta.specs.Put.{props_for, metaindex_for, metaindex_block, metaindex_place, footer_for, file_with, loaded_with, AreProps}
use Rattle.sst_meta.proofs.Footers.{length-handle}
use Rattle.sst_meta.proofs.FooterPut.{IsSpelled, length-footed, footer_start-is, footer-leads, footer-version}
use Rattle.sst_meta.proofs.FramedParts.{length-frame, framed-at}
use Rattle.sst_meta.proofs.LoadsRead.{load-complete}

-- the metaindex block is short
metaindex-le : (at : ℕ) (pairs : List Row) → length (metaindex_block at pairs) ≤ 200
metaindex-le at pairs =
    let handle : Handle = record { offset = at; size = length (props_for pairs) } in
    omega (arith, block_of-le Names 1 (metaindex_for at pairs), length-handle handle)

-- it stands for its row
metaindex-is : (at : ℕ) (pairs : List Row) → Block Names (metaindex_block at pairs) (metaindex_for at pairs)
metaindex-is at pairs =
    let row : Row = (record { key = name_bytes name.Properties; value = handle_spelling (record { offset = at; size = length (props_for pairs) }) }) in
    block_of_is_block Names 1 (metaindex_for at pairs) (omega arith) (All-cons (IsRow Names) row [] (omega arith, tt) (All-nil (IsRow Names))) tt tt
    (omega (arith, metaindex-le at pairs))

-- the properties block stands for the properties
props-are : (pairs : List Row) → AreProps pairs → Block Names (props_for pairs) pairs
props-are pairs p = block_of_is_block Names 65536 pairs (omega arith) p.forms p.ordered tt p.short

-- what is before the metaindex block, and what is before the footer
before_metaindex : List ℕ → List Row → List ℕ
before_metaindex front pairs = front ++ frame_of (props_for pairs)

before_footer : List ℕ → List Row → List ℕ
before_footer front pairs = before_metaindex front pairs ++ frame_of (metaindex_block (length front) pairs)

length-before_metaindex : (front : List ℕ) (pairs : List Row) → length front + length (props_for pairs) + 5 ≡ length (before_metaindex front pairs)
unfolding before_metaindex
length-before_metaindex front pairs = omega (arith, length-append front (frame_of (props_for pairs)), length-frame (props_for pairs))

length-before_footer : (front : List ℕ) (pairs : List Row)
    → length (before_footer front pairs) ≡ length front + length (props_for pairs) + 5 + length (metaindex_block (length front) pairs) + 5
unfolding before_footer
length-before_footer front pairs =
    let block = metaindex_block (length front) pairs in
    omega (arith, length-before_metaindex front pairs, length-append (before_metaindex front pairs) (frame_of block), length-frame block)

-- the file, parted at the metaindex block and at the footer
parted-metaindex : (front : List ℕ) (version : ℕ) (index : Handle) (pairs : List Row)
    → file_with front version index pairs
    ≡ before_metaindex front pairs ++ (frame_of (metaindex_block (length front) pairs) ++ footer_spelling (footer_for (length front) version index pairs))
unfolding before_metaindex
parted-metaindex front version index pairs =
    sym (append_assoc front (frame_of (props_for pairs)) (frame_of (metaindex_block (length front) pairs) ++ footer_spelling (footer_for (length front) version index pairs)))

parted-footer : (front : List ℕ) (version : ℕ) (index : Handle) (pairs : List Row)
    → file_with front version index pairs ≡ before_footer front pairs ++ footer_spelling (footer_for (length front) version index pairs)
unfolding before_footer
parted-footer front version index pairs =
    parted-metaindex front version index pairs
    ∙ sym (append_assoc (before_metaindex front pairs) (frame_of (metaindex_block (length front) pairs)) (footer_spelling (footer_for (length front) version index pairs)))

-- the footer begins behind the stored metaindex block
footer-place : (front : List ℕ) (version : ℕ) (index : Handle) (pairs : List Row) → footer_start (file_with front version index pairs) ≡ length (before_footer front pairs)
footer-place front version index pairs =
    footer_start-is (file_with front version index pairs) (before_footer front pairs) version (metaindex_place (length front) pairs) index (parted-footer front version index pairs)

-- the blocks stand there
metaindex-stands : (front : List ℕ) (version : ℕ) (index : Handle) (pairs : List Row)
    → HasPairs (file_with front version index pairs) (footer_start (file_with front version index pairs)) (metaindex_place (length front) pairs) (metaindex_for (length front) pairs)
metaindex-stands front version index pairs =
    let file = file_with front version index pairs in
    let block = metaindex_block (length front) pairs in
    record {
      block = block;
      framed = framed-at file (before_metaindex front pairs) block (footer_spelling (footer_for (length front) version index pairs)) (length front + length (props_for pairs) + 5)
          (footer_start file) (parted-metaindex front version index pairs) (length-before_metaindex front pairs) (omega (arith, metaindex-le (length front) pairs))
          (omega (arith, footer-place front version index pairs, length-before_footer front pairs));
      is = metaindex-is (length front) pairs;
    }

props-stand : (front : List ℕ) (version : ℕ) (index : Handle) (pairs : List Row) → AreProps pairs
    → HasPairs (file_with front version index pairs) (footer_start (file_with front version index pairs)) (record { offset = length front; size = length (props_for pairs) }) pairs
props-stand front version index pairs p =
    let file = file_with front version index pairs in
    record {
      block = props_for pairs;
      framed = framed-at file front (props_for pairs) (frame_of (metaindex_block (length front) pairs) ++ footer_spelling (footer_for (length front) version index pairs)) (length front)
          (footer_start file) refl refl p.short (omega (arith, footer-place front version index pairs, length-before_footer front pairs));
      is = props-are pairs p;
    }

-- the handle of the metaindex can be spelled
metaindex-spelled : (front : List ℕ) (version : ℕ) (index : Handle) (pairs : List Row) → AreProps pairs → length (file_with front version index pairs) < 2 ^ 40
    → IsSpelled (metaindex_place (length front) pairs)
metaindex-spelled front version index pairs p short =
    let at = metaindex_place (length front) pairs in
    let long = length-footed (file_with front version index pairs) (before_footer front pairs) version at index (parted-footer front version index pairs) in
    let first = length-before_footer front pairs in
    (omega (arith, long, first, short), omega (arith, metaindex-le (length front) pairs))

-- what stands before the properties block ends before the footer
pub front-within : (front : List ℕ) (version : ℕ) (index : Handle) (pairs : List Row) → length front ≤ footer_start (file_with front version index pairs)
front-within front version index pairs = omega (arith, footer-place front version index pairs, length-before_footer front pairs)

-- metaindex and footer are short
pub file_with-le : (front : List ℕ) (version : ℕ) (index : Handle) (pairs : List Row)
    → length (file_with front version index pairs) ≤ length front + length (props_for pairs) + 263
file_with-le front version index pairs =
    let at = metaindex_place (length front) pairs in
    let long = length-footed (file_with front version index pairs) (before_footer front pairs) version at index (parted-footer front version index pairs) in
    omega (arith, long, length-before_footer front pairs, metaindex-le (length front) pairs)

-- what the file says of itself
pub put-meta : (front : List ℕ) (version : ℕ) (index : Handle) (pairs : List Row) → IsBuilt version → IsSpelled index → AreProps pairs
    → length (file_with front version index pairs) < 2 ^ 40 → Meta (file_with front version index pairs) (loaded_with front version index pairs)
put-meta front version index pairs built spelled p short =
    let file = file_with front version index pairs in
    let before = before_footer front pairs in
    let at = metaindex_place (length front) pairs in
    let is = parted-footer front version index pairs in
    let first = metaindex-spelled front version index pairs p short in
    record {
      limited = short;
      len = refl;
      leads = footer-leads file before version at index is built first spelled;
      footer = ap (λ (v : ℕ). block_footer v at index) (sym (footer-version file before version at index is built first spelled));
      names = metaindex-stands front version index pairs;
      no_tombstones = refl;
      props = (record { offset = length front; size = length (props_for pairs) }, refl, props-stand front version index pairs p);
      good = p.good;
    }

-- and so it is loaded
pub put-loads : (front : List ℕ) (version : ℕ) (index : Handle) (pairs : List Row) → IsBuilt version → index.offset < 2 ^ 64 → index.size < 2 ^ 64
    → AreProps pairs → length (file_with front version index pairs) < 2 ^ 40
    → load_read (file_with front version index pairs) ≡ Ok (loaded_with front version index pairs)
put-loads front version index pairs built offset size p short =
    load-complete (file_with front version index pairs) (loaded_with front version index pairs) (put-meta front version index pairs built (offset, size) p short)
