-- The keys of the top block, by the rows of a builder.
use Rattle.std.proofs.Common.{◌≡◌, ℕ, zero, suc, ◌+◌, ◌-◌, ◌*◌, ◌<◌, ◌≤◌, min, Option, Some, List, [], ◌∷◌, length, length-drop, take, drop, slice_get, refl, sym, ap, ◌∙◌, arith}
use Rattle.std.specs.Option.{option_map}
use Rattle.std.proofs.lemmas.List.{length-map, drop-drop}
use Rattle.std.proofs.lemmas.Option.{slice_get-map}
use Rattle.sst_num.specs.declared.block_handle.Handle.{Handle}
use Rattle.sst_block.specs.IndexRows.{IndexPair}
use Rattle.sst_index.specs.IndexBytes.{in_parts, parts_of, last_separator, top_separators}
use Rattle.sst_index.proofs.PartsPut.{next_part}
use Rattle.sst_index.proofs.Ready.{last_between}

times-next : (n k : ℕ) → suc n * k ≡ k + n * k
times-next n k = omega arith

-- the part with a number begins at so many times its length
part_at : (most k row : ℕ) (pairs : List IndexPair) → row < length (in_parts most k pairs)
    → (slice_get (in_parts most k pairs) row ≡ Some (take k (drop (row * k) pairs))) × (row * k < length pairs)
part_at zero k row pairs within = absurd (omega arith)
part_at (suc most) k row [] within = absurd (omega arith)
part_at (suc most) k zero (p ∷ pairs) within = let none : 0 * k ≡ 0 = omega arith in (rw none refl, omega (arith, none))
part_at (suc most) k (suc row) (p ∷ pairs) within =
    let rest = part_at most k row (drop k (p ∷ pairs)) (omega arith) in
    let next = times-next row k in (
      rest.0 ∙ ap (λ (l : List IndexPair). Some (take k l)) (drop-drop (row * k) k (p ∷ pairs) ∙ ap (λ (n : ℕ). drop n (p ∷ pairs)) (sym next)),
      omega (arith, rest.1, next, length-drop k (p ∷ pairs)),
    )

-- where there are no parts, the keys are all separators
pub whole_key : (parts row : ℕ) (pairs : List IndexPair) (separator : List ℕ) (handle : Handle) → parts ≡ 0
    → slice_get pairs row ≡ Some (record { separator = separator; handle = handle }) → slice_get (top_separators parts pairs) row ≡ Some separator
whole_key zero row pairs separator handle e at =
    slice_get-map (λ (pair : IndexPair). pair.separator) pairs row ∙ ap (λ (o : Option IndexPair). option_map (λ (pair : IndexPair). pair.separator) o) at
whole_key (suc k) row pairs separator handle e at = absurd (omega arith)

pub whole_within : (parts row : ℕ) (pairs : List IndexPair) → parts ≡ 0 → row < length (top_separators parts pairs) → row < length pairs
whole_within zero row pairs e within = omega (arith, within, length-map pairs (λ (pair : IndexPair). pair.separator))
whole_within (suc k) row pairs e within = absurd (omega arith)

-- where there are parts, the last of each
pub part_within : (parts row : ℕ) (pairs : List IndexPair) → 1 ≤ parts → row < length (top_separators parts pairs) → row * parts < length pairs
part_within zero row pairs e within = absurd (omega arith)
part_within (suc k) row pairs e within =
    (part_at (length pairs) (suc k) row pairs (omega (arith, within, length-map (parts_of (suc k) pairs) (last_separator [])))).1

pub part_key : (parts row to : ℕ) (pairs : List IndexPair) (separator : List ℕ) (handle : Handle) → 1 ≤ parts → row < length (top_separators parts pairs)
    → to ≡ row * parts + min (length pairs - row * parts) parts
    → slice_get pairs (to - 1) ≡ Some (record { separator = separator; handle = handle }) → slice_get (top_separators parts pairs) row ≡ Some separator
part_key zero row to pairs separator handle e within goes at = absurd (omega arith)
part_key (suc k) row to pairs separator handle e within goes at =
    let parts = parts_of (suc k) pairs in
    let from = row * suc k in
    let there = part_at (length pairs) (suc k) row pairs (omega (arith, within, length-map parts (last_separator []))) in
    let last = last_between pairs from to (record { separator = separator; handle = handle }) (omega (arith, goes, there.1)) at in
    slice_get-map (last_separator []) parts row ∙ ap (λ (o : Option (List IndexPair)). option_map (last_separator []) o) there.0
    ∙ ap Some (ap (λ (l : List IndexPair). last_separator [] l) (sym (next_part (suc k) pairs from to goes)) ∙ last)
