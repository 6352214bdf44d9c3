-- A stored block, in a file and as it is put together.
use Rattle.std.proofs.Common.{◌≡◌, ℕ, ◌+◌, ◌^◌, ◌≤◌, List, [], ◌∷◌, ◌++◌, length, take, drop, refl, ap, ◌∙◌, append_assoc, arith}
use Rattle.std.proofs.Math.Seq.{take-append_seam, drop-append_seam, drop-append-add}
use Rattle.sst_num.specs.Spelling.{fixed}
use Rattle.sst_sums.specs.Sums.{mask, crc32c}
use Rattle.sst_device.specs.Framed.{Framed, frame_of, trailer_of, stored_checksum, bytes_at}

-- the bytes of a file from a place in what follows the front
bytes_at-after : (front rest : List ℕ) (at n : ℕ) → bytes_at (front ++ rest) (length front + at) n ≡ bytes_at rest at n
bytes_at-after front rest at n = ap (take n) (drop-append-add front rest at)

trailer_type : (block rest : List ℕ) → take 1 (trailer_of block ++ rest) ≡ 0 ∷ []
unfolding trailer_of
trailer_type block rest = refl

trailer_checksum : (block rest : List ℕ) → take 4 (drop 1 (trailer_of block ++ rest)) ≡ stored_checksum block
unfolding trailer_of
trailer_checksum block rest = refl

pub frame-framed : (front block rest : List ℕ) (end : ℕ) → length block ≤ 2 ^ 29 → length front + length block + 5 ≤ end
    → Framed (front ++ (frame_of block ++ rest)) end (record { offset = length front; size = length block }) block
frame-framed front block rest end small fits =
    let tail = trailer_of block ++ rest in
    let file = append_assoc block (trailer_of block) rest in
    let last : length front + length block + 1 ≡ length front + (length block + 1) = omega arith in
    record {
      within = fits;
      limited = small;
      stands = ap (take (length block)) (drop-append_seam front (frame_of block ++ rest) ∙ file) ∙ take-append_seam block tail;
      uncompressed = bytes_at-after front (frame_of block ++ rest) (length block) 1
          ∙ ap (λ l. take 1 (drop (length block) l)) file ∙ ap (take 1) (drop-append_seam block tail) ∙ trailer_type block rest;
      checksum = ap (λ at. bytes_at (front ++ (frame_of block ++ rest)) at 4) last ∙ bytes_at-after front (frame_of block ++ rest) (length block + 1) 4
          ∙ ap (λ l. take 4 (drop (length block + 1) l)) file ∙ ap (take 4) (drop-append-add block tail 1) ∙ trailer_checksum block rest;
    }

framed_part : (before block : List ℕ) → drop (length before) ((before ++ block) ++ 0 ∷ []) ≡ block ++ 0 ∷ []
framed_part before block = ap (drop (length before)) (append_assoc before block (0 ∷ [])) ∙ drop-append_seam before (block ++ 0 ∷ [])

frame-joined : (before block : List ℕ) → ((before ++ block) ++ 0 ∷ []) ++ stored_checksum block ≡ before ++ frame_of block
unfolding trailer_of
frame-joined before block =
    append_assoc (before ++ block) (0 ∷ []) (stored_checksum block) ∙ append_assoc before block (0 ∷ stored_checksum block)

-- what the steps of putting a frame give: a block after `before`, the type byte, and the checksum over both
pub frame-put : (before block with_block with_type framed whole : List ℕ) (start sum : ℕ) → with_block ≡ before ++ block → with_type ≡ with_block ++ 0 ∷ []
    → start ≡ length before → framed ≡ drop start with_type → sum ≡ mask (crc32c framed) → whole ≡ with_type ++ fixed 4 sum → whole ≡ before ++ frame_of block
frame-put before block with_block with_type framed whole start sum a b at part checked last =
    let typed : with_type ≡ (before ++ block) ++ 0 ∷ [] = b ∙ ap (λ l. l ++ 0 ∷ []) a in
    let over : framed ≡ block ++ 0 ∷ [] = part ∙ ap (λ n. drop n with_type) at ∙ ap (drop (length before)) typed ∙ framed_part before block in
    last ∙ ap (λ l. l ++ fixed 4 sum) typed ∙ ap (λ n. ((before ++ block) ++ 0 ∷ []) ++ fixed 4 n) (checked ∙ ap (λ l. mask (crc32c l)) over)
    ∙ frame-joined before block
