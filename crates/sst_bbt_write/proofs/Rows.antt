-- The rows of a list of entries, and a list that is written with one entry more.
use Rattle.std.proofs.Common.{◌≡◌, ◌⊎◌, inl, inr, ℕ, ◌+◌, ◌^◌, ◌<◌, ◌≤◌, ◌*◌, List, [], ◌∷◌, ◌++◌, length, All, refl, sym, ap, ◌∙◌, subst, sum_by, arith}
use Rattle.std.proofs.lemmas.List.Elements.{All-nil, All-cons, All-head, All-tail, All-push, All-weaker}
use Rattle.std.proofs.lemmas.List.Sums.{sum_by-cons, sum_by_push}
use Rattle.std.specs.declared.cmp.Ordering.TheVariants.{Less}
use Rattle.sst_key.specs.declared.entries.Entry.{Entry}
use Rattle.sst_key.specs.Entry.{key_of, IsBefore, IsOrdered, entry_weight, weight}
use Rattle.sst_key.specs.InternalKey.{internal_cmp}
use Rattle.sst_key.proofs.KeyParts.{internal_cmp-entries, less-from_IsBefore}
use Rattle.sst_block.specs.declared.row_form.RowForm.TheVariants.{Entries}
use Rattle.sst_block.specs.Block.{IsRow, AreOrdered}
use Rattle.sst_block.specs.Builder.{last_key, row_room}
use Rattle.sst_block.specs.Chosen.{block_of}
use Rattle.sst_block.proofs.Size.{block_of-le}
use Rattle.sst_block.proofs.Steps.{last_key-more, ordered-more, ordered-last}
use Rattle.sst_bbt_spec.specs.Rows.{HasSeq, row_of, rows_of}
use Rattle.sst_bbt_write.specs.Written.{IsInLimits, Fits}
use Rattle.sst_bbt_spec.proofs.EntriesOfRows.{entries-ordered}
use Rattle.sst_bbt_spec.proofs.RowsOf.{rows_of-append, length-key_of}

pub row_of-is_row : (e : Entry) → IsInLimits e → IsRow Entries (row_of e)
row_of-is_row e limits =
    let size : length (key_of e) ≤ 65544 = omega (arith, length-key_of e, limits.key) in
    (size, (e.user, e.seq, e.kind, limits.seq, refl))

pub rows_of-forms : (entries : List Entry) → All IsInLimits entries → All (IsRow Entries) (rows_of entries)
rows_of-forms [] limits = All-nil (IsRow Entries)
rows_of-forms (e ∷ rest) limits =
    All-cons (IsRow Entries) (row_of e) (rows_of rest) (row_of-is_row e (All-head IsInLimits e rest limits)) (rows_of-forms rest (All-tail IsInLimits e rest limits))

-- entries in order have keys in order
pub less-keys : (a b : Entry) → IsInLimits a → IsInLimits b → IsBefore a b → internal_cmp (key_of a) (key_of b) ≡ Less
less-keys a b la lb before = internal_cmp-entries a b la.seq lb.seq ∙ less-from_IsBefore a b before

pub rows_of-ordered : (entries : List Entry) → All IsInLimits entries → IsOrdered entries → AreOrdered Entries (rows_of entries)
rows_of-ordered [] limits ordered = tt
rows_of-ordered (a ∷ []) limits ordered = tt
rows_of-ordered (a ∷ b ∷ rest) limits ordered =
    let more = All-tail IsInLimits a (b ∷ rest) limits in
    (less-keys a b (All-head IsInLimits a (b ∷ rest) limits) (All-head IsInLimits b rest more) ordered.0, rows_of-ordered (b ∷ rest) more ordered.1)

pub IsOrdered-from_rows : (entries : List Entry) → All IsInLimits entries → AreOrdered Entries (rows_of entries) → IsOrdered entries
IsOrdered-from_rows entries limits ordered = entries-ordered entries (All-weaker IsInLimits HasSeq (λ x within. within.seq) entries limits) ordered

-- the key of the last row is a key of an entry, and so long
last_key-limits : (before : List ℕ) (entries : List Entry) → 8 ≤ length before → length before ≤ 65544 → All IsInLimits entries
    → (8 ≤ length (last_key before (rows_of entries))) × (length (last_key before (rows_of entries)) ≤ 65544)
last_key-limits before [] least most limits = (least, most)
last_key-limits before (e ∷ rest) least most limits =
    let here = (All-head IsInLimits e rest limits).key in
    last_key-limits (key_of e) rest (omega (arith, length-key_of e)) (omega (arith, length-key_of e, here)) (All-tail IsInLimits e rest limits)

pub last_key-of_some : (e : Entry) (rest : List Entry) → All IsInLimits (e ∷ rest)
    → (8 ≤ length (last_key [] (rows_of (e ∷ rest)))) × (length (last_key [] (rows_of (e ∷ rest))) ≤ 65544)
last_key-of_some e rest limits =
    let here = (All-head IsInLimits e rest limits).key in
    last_key-limits (key_of e) rest (omega (arith, length-key_of e)) (omega (arith, length-key_of e, here)) (All-tail IsInLimits e rest limits)

pub last_key-append : (entries : List Entry) (e : Entry) → last_key [] (rows_of (entries ++ e ∷ [])) ≡ key_of e
last_key-append entries e = ap (last_key []) (rows_of-append entries e) ∙ last_key-more [] (rows_of entries) (row_of e)

-- each row takes at most the weight of its entry
pub rows_of-room : (entries : List Entry) → sum_by row_room (rows_of entries) ≤ weight entries
rows_of-room [] = omega arith
rows_of-room (e ∷ rest) =
    omega (arith, rows_of-room rest, length-key_of e, sum_by-cons row_room (row_of e) (rows_of rest), sum_by-cons entry_weight e rest)

pub rows_of-short : (interval : ℕ) (entries : List Entry) → weight entries ≤ 2 ^ 28 → length (block_of Entries interval (rows_of entries)) < 2 ^ 29
rows_of-short interval entries light = omega (arith, block_of-le Entries interval (rows_of entries), rows_of-room entries, light)

pub weight-append : (entries : List Entry) (e : Entry) → weight (entries ++ e ∷ []) ≡ weight entries + entry_weight e
weight-append entries e = sum_by_push entry_weight entries e

-- the entry may come after the list: the list is empty, or the key of its last row is before the entry's key
abbrev pub ComesAfter : Entry → List Entry → Type 0
ComesAfter e entries = (entries ≡ []) ⊎ (internal_cmp (last_key [] (rows_of entries)) (key_of e) ≡ Less)

-- the rows with one more are in order
rows-ordered-more : (entries : List Entry) (e : Entry) → AreOrdered Entries (rows_of entries) → ComesAfter e entries → AreOrdered Entries (rows_of entries ++ row_of e ∷ [])
rows-ordered-more [] e ordered after = tt
rows-ordered-more (a ∷ rest) e ordered (inl none) = absurd (cc)
rows-ordered-more (a ∷ rest) e ordered (inr less) = ordered-more Entries (row_of a) (rows_of rest) (row_of e) ordered less

-- a list that is written, and one entry more that may come next
pub Fits-append : (entries : List Entry) (e : Entry) → Fits entries → IsInLimits e → weight entries + entry_weight e ≤ 2 ^ 28 → ComesAfter e entries → Fits (entries ++ e ∷ [])
Fits-append entries e fits within light after =
    let limits = All-push IsInLimits entries e fits.limits within in
    let rows = rows-ordered-more entries e (rows_of-ordered entries fits.limits fits.ordered) after in
    record {
      ordered = IsOrdered-from_rows (entries ++ e ∷ []) limits (subst (λ rs. AreOrdered Entries rs) (sym (rows_of-append entries e)) rows);
      limits = limits;
      light = omega (arith, weight-append entries e, light);
    }

-- the last of an ordered list comes after the others
pub IsOrdered-last : (entries : List Entry) (e : Entry) → IsOrdered (entries ++ e ∷ []) → All IsInLimits (entries ++ e ∷ []) → ComesAfter e entries
IsOrdered-last [] e ordered limits = inl refl
IsOrdered-last (a ∷ rest) e ordered limits =
    let rows = rows_of-ordered (a ∷ rest ++ e ∷ []) limits ordered in
    inr (ordered-last Entries (row_of a) (rows_of rest) (row_of e) (subst (λ rs. AreOrdered Entries rs) (rows_of-append (a ∷ rest) e) rows))

-- the list with no entry is written
pub Fits-nil : Fits []
Fits-nil = record { ordered = tt; limits = All-nil IsInLimits; light = omega arith }

-- each entry weighs 64 at least
pub weight-many : (entries : List Entry) → 64 * length entries ≤ weight entries
weight-many [] = omega arith
weight-many (e ∷ rest) = omega (arith, weight-many rest, sum_by-cons entry_weight e rest)
