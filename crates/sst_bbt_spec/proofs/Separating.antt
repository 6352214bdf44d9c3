-- Separators that separate stand between the ends of the blocks; and a key between the last key of one block and the first
-- of the next separates the two.
use Rattle.std.proofs.Common.{◌≡◌, ◌≢◌, ℕ, ◌<◌, List, [], ◌∷◌, ◌++◌, length, All, sym, ap, ◌∙◌, subst, append_assoc, arith}
use Rattle.std.proofs.lemmas.List.{append-nil, map-append}
use Rattle.std.proofs.lemmas.List.Elements.{All-nil, All-head}
use Rattle.std.specs.declared.cmp.Ordering.TheVariants.{Less, Greater}
use Rattle.sst_key.specs.declared.entries.Entry.{Entry}
use Rattle.sst_key.specs.Entry.{key_of, IsOrdered}
use Rattle.sst_key.specs.InternalKey.{internal_cmp}
use Rattle.sst_block.specs.Builder.{last_key}
use Rattle.sst_block.proofs.Steps.{last_key-more}
use Rattle.sst_bbt_spec.specs.Rows.{HasSeq, row_of, rows_of}
use Rattle.sst_bbt_spec.specs.Runs.{AreSeparated, BeginsAfter, IsAfterAll}
use Rattle.sst_bbt_spec.specs.Way.{IndexedBlock, IsUpToSeparator, IsAfterSeparator, Separate, joined}
use Rattle.sst_bbt_spec.proofs.SeparatedBlocks.{AreSound}
use Rattle.sst_bbt_spec.proofs.UpToSeparator.{all-upto, all-after}
use Rattle.sst_bbt_spec.proofs.WayLaws.{All-front, All-back}

-- the key of the last row of some entries is that of the last of them
last_key-push : (front : List Entry) (last : Entry) → last_key [] (rows_of (front ++ last ∷ [])) ≡ key_of last
last_key-push front last = ap (last_key []) (map-append row_of front (last ∷ [])) ∙ last_key-more [] (rows_of front) (row_of last)

-- ---- what separates stands between the ends

-- the last entry of a block that is up to a separator
last-upto : (separator : List ℕ) (e : Entry) (rest : List Entry) → All (IsUpToSeparator separator) (e ∷ rest)
    → internal_cmp (last_key [] (rows_of (e ∷ rest))) separator ≢ Greater
last-upto separator e [] up = All-head (IsUpToSeparator separator) e [] up
last-upto separator e (next ∷ rest) up = last-upto separator next rest (All-back (IsUpToSeparator separator) (e ∷ []) (next ∷ rest) up)

some-upto : (separator : List ℕ) (entries : List Entry) → 0 < length entries → All (IsUpToSeparator separator) entries
    → internal_cmp (last_key [] (rows_of entries)) separator ≢ Greater
some-upto separator [] some up = absurd (omega (arith, some))
some-upto separator (e ∷ rest) some up = last-upto separator e rest up

-- the first of entries that are after it
begins-from_all : (separator : List ℕ) (entries : List Entry) → All (IsAfterSeparator separator) entries → BeginsAfter separator entries
begins-from_all separator [] after = tt
begins-from_all separator (e ∷ rest) after = All-head (IsAfterSeparator separator) e rest after

pub after-from_all : (separator : List ℕ) (blocks : List IndexedBlock) → All (IsAfterSeparator separator) (joined blocks) → IsAfterAll separator blocks
after-from_all separator [] after = tt
after-from_all separator (block ∷ rest) after =
    begins-from_all separator block.entries (All-front (IsAfterSeparator separator) block.entries (joined rest) after)

pub separated-from_separate : (blocks : List IndexedBlock) → AreSound blocks → Separate blocks → AreSeparated blocks
separated-from_separate [] sound apart = tt
separated-from_separate (block ∷ rest) sound apart =
    (some-upto block.separator block.entries sound.0.some apart.0, after-from_all block.separator rest apart.1, separated-from_separate rest sound.1 apart.2)

-- ---- a key between two blocks

ordered-tail : (e : Entry) (rest : List Entry) → IsOrdered (e ∷ rest) → IsOrdered rest
ordered-tail e [] ordered = tt
ordered-tail e (next ∷ rest) ordered = ordered.1

pub ordered-front : (front back : List Entry) → IsOrdered (front ++ back) → IsOrdered front
ordered-front [] back ordered = tt
ordered-front (e ∷ []) back ordered = tt
ordered-front (e ∷ next ∷ front) back ordered = (ordered.0, ordered-front (next ∷ front) back ordered.1)

pub ordered-back : (front back : List Entry) → IsOrdered (front ++ back) → IsOrdered back
ordered-back [] back ordered = ordered
ordered-back (e ∷ front) back ordered = ordered-back front back (ordered-tail e (front ++ back) ordered)

pub between-separates : (front back : List Entry) (last first : Entry) (separator end : List ℕ)
    → IsOrdered (front ++ last ∷ first ∷ back) → All HasSeq (front ++ last ∷ first ∷ back)
    → internal_cmp (key_of last) separator ≢ Greater → internal_cmp separator (key_of first) ≡ Less
    → All (IsUpToSeparator end) (first ∷ back)
    → Separate (record { separator = separator; entries = front ++ last ∷ [] } ∷ record { separator = end; entries = first ∷ back } ∷ [])
between-separates front back last first separator end ordered seqs up after ends =
    let parts : ◌≡◌ {A = List Entry} ((front ++ last ∷ []) ++ (first ∷ back)) (front ++ last ∷ first ∷ back) = append_assoc front (last ∷ []) (first ∷ back) in
    let in_order = subst IsOrdered (sym parts) ordered in
    let in_range = subst (λ (es : List Entry). All HasSeq es) (sym parts) seqs in
    let upto =
    all-upto separator (front ++ last ∷ []) (ordered-front (front ++ last ∷ []) (first ∷ back) in_order)
    (All-front HasSeq (front ++ last ∷ []) (first ∷ back) in_range)
    (subst (λ (key : List ℕ). internal_cmp key separator ≢ Greater) (sym (last_key-push front last)) up) in
    let behind =
    all-after separator (first ∷ back) (ordered-back (front ++ last ∷ []) (first ∷ back) in_order)
    (All-back HasSeq (front ++ last ∷ []) (first ∷ back) in_range) after in
    let rest = subst (λ (es : List Entry). All (IsAfterSeparator separator) es) (sym (append-nil (first ∷ back))) behind in
    (upto, rest, (ends, All-nil (IsAfterSeparator end), tt))
