-- The blocks of an index stand in a file at their handles.
use Rattle.std.proofs.Common.{◌≡◌, ℕ, zero, suc, ◌+◌, ◌^◌, ◌<◌, ◌≤◌, List, [], ◌∷◌, ◌++◌, length, length-append, length-take, take, drop, sum_by, refl, sym, ap, ◌∙◌, subst, append_assoc, arith}
use Rattle.sst_block.specs.IndexRows.{IndexPair}
use Rattle.sst_device.specs.Framed.{Framed, frame_of}
use Rattle.sst_device.proofs.Frames.{frame-framed}
use Rattle.sst_index.specs.declared.flags.IndexFlags.{IndexFlags}
use Rattle.sst_index.specs.Ends.{BlockEnd, AreEnds, flags_of, pairs_of}
use Rattle.sst_index.specs.Index.{AreOptions, pair_room}
use Rattle.sst_index.specs.IndexBlock.{index_block}
use Rattle.sst_index.specs.IndexBytes.{IndexOptions, in_parts, parts_of, part_pairs, stored_parts, below_top, top_pairs, top_block, whole_bytes, whole_handle, index_bytes, top_handle}
use Rattle.sst_index.specs.Partitions.{LeadToPartitions}
use Rattle.sst_index.proofs.Kept.{Standing, pairs-stand}
use Rattle.sst_index.proofs.Parts.{length-frame, tops-room}
use Rattle.sst_index.proofs.Room.{block-room}
use Rattle.sst_index.proofs.Says.{standing-take, standing-drop, standing-says}

-- a stored block stands behind what is before it
stands-behind : (file before block behind : List ℕ) (at end : ℕ) → file ≡ before ++ (frame_of block ++ behind) → at ≡ length before → length block ≤ 2 ^ 29
    → at + length block + 5 ≤ end → Framed file end (record { offset = at; size = length block }) block
stands-behind file before block behind at end parted place small within =
    subst (λ (f : List ℕ). Framed f end (record { offset = at; size = length block }) block) (sym parted)
    (subst (λ (n : ℕ). Framed (before ++ (frame_of block ++ behind)) end (record { offset = n; size = length block }) block) (sym place)
    (frame-framed before block behind end small (omega (arith, place, within))))

-- a block of pairs that stand is no longer than a block may be
standing-small : (flags : IndexFlags) (interval : ℕ) (pairs : List IndexPair) → sum_by pair_room pairs + 8 < 2 ^ 29 → length (index_block flags interval pairs) ≤ 2 ^ 29
standing-small flags interval pairs room = omega (arith, block-room flags interval pairs, room)

-- partitions that stand one behind the other
parts-lead : (flags : IndexFlags) (interval : ℕ) (file before behind : List ℕ) (at end most k : ℕ) (pairs : List IndexPair) → 0 < interval → 1 ≤ k → Standing flags.user_key pairs
    → file ≡ before ++ (stored_parts flags interval (in_parts most k pairs) ++ behind) → at ≡ length before
    → at + length (stored_parts flags interval (in_parts most k pairs)) ≤ end
    → LeadToPartitions file end flags interval (part_pairs flags interval at (in_parts most k pairs)) (in_parts most k pairs)
parts-lead flags interval file before behind at end zero k pairs positive some s parted place within = refl
parts-lead flags interval file before behind at end (suc most) k [] positive some s parted place within = refl
parts-lead flags interval file before behind at end (suc most) k (p ∷ pairs) positive some s parted place within =
    let part = take k (p ∷ pairs) in
    let left = drop k (p ∷ pairs) in
    let block = index_block flags interval part in
    let frame = frame_of block in
    let rest = stored_parts flags interval (in_parts most k left) in
    let first = standing-take flags.user_key k (p ∷ pairs) s in
    let here : file ≡ before ++ (frame ++ (rest ++ behind)) = parted ∙ ap (λ (l : List ℕ). before ++ l) (append_assoc frame rest behind) in
    let all = length-append frame rest in
    let long = length-frame block in (
      record {
        separator = refl;
        framed = stands-behind file before block (rest ++ behind) at end here place (standing-small flags interval part first.room) (omega (arith, within, all, long));
        says = standing-says flags interval part positive first;
        some = omega (arith, some, length-take k (p ∷ pairs));
      },
      parts-lead flags interval file (before ++ frame) behind (at + length block + 5) end most k left positive some (standing-drop flags.user_key k (p ∷ pairs) s)
          (here ∙ sym (append_assoc before frame (rest ++ behind))) (omega (arith, place, length-append before frame, long)) (omega (arith, within, all, long)),
    )

-- the partitions of an index in a file
whole-parts : (flags : IndexFlags) (interval parts : ℕ) (front rest : List ℕ) (end : ℕ) (pairs : List IndexPair) → 0 < interval → 0 < parts → Standing flags.user_key pairs
    → length front + length (whole_bytes flags interval parts (length front) pairs) ≤ end
    → LeadToPartitions (front ++ (whole_bytes flags interval parts (length front) pairs ++ rest)) end flags interval
    (top_pairs flags interval parts (length front) pairs) (parts_of parts pairs)
whole-parts flags interval zero front rest end pairs positive some s within = absurd (omega (arith, some))
whole-parts flags interval (suc k) front rest end pairs positive some s within =
    let below = below_top flags interval (suc k) pairs in
    let top = frame_of (top_block flags interval (suc k) (length front) pairs) in
    parts-lead flags interval (front ++ ((below ++ top) ++ rest)) front (top ++ rest) (length front) end (length pairs) (suc k) pairs positive (omega arith) s
    (ap (λ (l : List ℕ). front ++ l) (append_assoc below top rest)) refl (omega (arith, within, length-append below top))

-- its top block
top-small : (flags : IndexFlags) (interval parts base : ℕ) (pairs : List IndexPair) → sum_by pair_room pairs + 8 < 2 ^ 29
    → length (top_block flags interval parts base pairs) ≤ 2 ^ 29
top-small flags interval zero base pairs room = standing-small flags interval pairs room
top-small flags interval (suc k) base pairs room =
    standing-small flags interval (part_pairs flags interval base (parts_of (suc k) pairs))
    (omega (arith, tops-room flags interval base (length pairs) (suc k) pairs (omega arith), room))

whole-top : (flags : IndexFlags) (interval parts : ℕ) (front rest : List ℕ) (end : ℕ) (pairs : List IndexPair) → Standing flags.user_key pairs
    → length front + length (whole_bytes flags interval parts (length front) pairs) ≤ end
    → Framed (front ++ (whole_bytes flags interval parts (length front) pairs ++ rest)) end (whole_handle flags interval parts (length front) pairs)
    (top_block flags interval parts (length front) pairs)
whole-top flags interval parts front rest end pairs s within =
    let below = below_top flags interval parts pairs in
    let block = top_block flags interval parts (length front) pairs in
    let frame = frame_of block in
    stands-behind (front ++ ((below ++ frame) ++ rest)) (front ++ below) block rest (length front + length below) end
    (ap (λ (l : List ℕ). front ++ l) (append_assoc below frame rest) ∙ sym (append_assoc front below (frame ++ rest)))
    (sym (length-append front below)) (top-small flags interval parts (length front) pairs s.room)
    (omega (arith, within, length-append below frame, length-frame block))

pub partitions-stand : (o : IndexOptions) (front rest : List ℕ) (end : ℕ) (ends : List BlockEnd) → AreOptions o → AreEnds ends → 0 < o.parts
    → length front + length (index_bytes o (length front) ends) ≤ end
    → LeadToPartitions (front ++ (index_bytes o (length front) ends ++ rest)) end (flags_of o.version ends) o.interval
    (top_pairs (flags_of o.version ends) o.interval o.parts (length front) (pairs_of o.version ends)) (parts_of o.parts (pairs_of o.version ends))
partitions-stand o front rest end ends options stand some within =
    whole-parts (flags_of o.version ends) o.interval o.parts front rest end (pairs_of o.version ends) (omega (arith, options.least)) some (pairs-stand o.version ends stand) within

pub top-stands : (o : IndexOptions) (front rest : List ℕ) (end : ℕ) (ends : List BlockEnd) → AreEnds ends
    → length front + length (index_bytes o (length front) ends) ≤ end
    → Framed (front ++ (index_bytes o (length front) ends ++ rest)) end (top_handle o (length front) ends)
    (top_block (flags_of o.version ends) o.interval o.parts (length front) (pairs_of o.version ends))
top-stands o front rest end ends stand within =
    whole-top (flags_of o.version ends) o.interval o.parts front rest end (pairs_of o.version ends) (pairs-stand o.version ends stand) within
