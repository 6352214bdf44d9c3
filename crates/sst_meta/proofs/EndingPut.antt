-- What is put after what stands before the properties block is the end of a file.
use Rattle.std.proofs.Common.{◌≡◌, ℕ, ◌+◌, ◌-◌, List, ◌++◌, length, length-append, ap, ◌∙◌, append_assoc, arith}
use Rattle.sst_num.specs.declared.block_handle.Handle.{Handle}
use Rattle.sst_block.specs.Block.{Row}
use Rattle.sst_device.specs.Framed.{frame_of}
use Rattle.sst_meta.specs.BlockFooter.{block_footer}
use Rattle.sst_meta.specs.Footer.{footer_spelling}
use Rattle.sst_meta.specs.Put.{props_for, metaindex_block, metaindex_place, footer_for, ending_of}
use Rattle.sst_meta.proofs.FramedParts.{length-frame}

-- three parts after one another
joined_three : (old a b c first second new : List ℕ) → first ≡ old ++ a → second ≡ first ++ b → new ≡ second ++ c → new ≡ old ++ (a ++ (b ++ c))
joined_three old a b c first second new ea eb ec = rw (ec, eb, ea) (simp append_assoc)

-- so many bytes were appended with a stored block
pub stored_is : (old new block : List ℕ) → new ≡ old ++ frame_of block → length new - length old ≡ length block + 5
stored_is old new block put = omega (arith, ap length put, length-append old (frame_of block), length-frame block)

-- where the properties block stands, by its length
pub props_at : (at n : ℕ) (pairs : List Row) → n ≡ length (props_for pairs)
    → ◌≡◌ {A = Handle} (record { offset = at; size = n }) (record { offset = at; size = length (props_for pairs) })
props_at at n pairs long = ap (λ (k : ℕ). record { offset = at; size = k }) long

-- where the metaindex block stands, by the bytes that were appended before it, and its length
pub metaindex_at : (at stored n : ℕ) (pairs : List Row) → stored ≡ length (props_for pairs) + 5 → n ≡ length (metaindex_block at pairs)
    → ◌≡◌ {A = Handle} (record { offset = at + stored; size = n }) (metaindex_place at pairs)
metaindex_at at stored n pairs long names =
    let place : at + stored ≡ at + length (props_for pairs) + 5 = omega arith in
    ap (λ (k : ℕ). record { offset = k; size = n }) place ∙ ap (λ (k : ℕ). record { offset = at + length (props_for pairs) + 5; size = k }) names

-- the end, part by part
pub ending_joined : (old first second new block names : List ℕ) (at version : ℕ) (metaindex index : Handle) (pairs : List Row)
    → first ≡ old ++ frame_of block → second ≡ first ++ frame_of names → new ≡ second ++ footer_spelling (block_footer version metaindex index)
    → block ≡ props_for pairs → names ≡ metaindex_block at pairs → metaindex ≡ metaindex_place at pairs
    → new ≡ old ++ ending_of at version index pairs
ending_joined old first second new block names at version metaindex index pairs ea eb ec block_is names_are place =
    joined_three old (frame_of (props_for pairs)) (frame_of (metaindex_block at pairs)) (footer_spelling (footer_for at version index pairs)) first second new
    (ea ∙ ap (λ (l : List ℕ). old ++ frame_of l) block_is) (eb ∙ ap (λ (l : List ℕ). first ++ frame_of l) names_are)
    (ec ∙ ap (λ (h : Handle). second ++ footer_spelling (block_footer version h index)) place)
