-- The rows of a block as a walk over them gives them, and the entries that they are.
use Rattle.std.proofs.Common.{◌≡◌, ℕ, ◌≤◌, ◌+◌, List, [], ◌∷◌, ◌++◌, length, take, All, sym, ap, ◌∙◌, subst, arith}
use Rattle.std.proofs.lemmas.List.{take_all, append_assoc}
use Rattle.std.proofs.lemmas.List.Elements.{All-nil, All-cons, All-head, All-tail, All-get_or}
use Rattle.std.proofs.lemmas.Option.{slice_get_within, get_or_from_slice_get}
use Rattle.sst_key.specs.declared.entries.Entry.{Entry}
use Rattle.sst_key.specs.Entry.{key_of}
use Rattle.sst_block.specs.declared.iter.BlockIter.{BlockIter}
use Rattle.sst_block.specs.declared.row_form.RowForm.TheVariants.{Entries}
use Rattle.sst_block.specs.Block.{Row, Block, IsRow, IsInternalKey, AreOrdered}
use Rattle.sst_block.specs.Iter.{Walks, place_of}
use Rattle.sst_block.proofs.RowsCopied.{KeyAt, ValueAt, same_row, one_more}
use Rattle.sst_bbt_spec.specs.Rows.{row_of, rows_of, HasSeq}
use Rattle.sst_bbt_spec.proofs.EntriesOfRows.{entries-ordered}
use Rattle.sst_bbt_read.specs.TableBlocks.{AreEntries}
use Rattle.sst_bbt_spec.proofs.RowsOf.{rows_of-append, length-key_of}

-- a walk over a data block of so many rows stands at the n-th, and the rows before it were copied
pub record Copied (block : List ℕ) (count : ℕ) (walk : BlockIter) (n : ℕ) (entries : List Entry) : Type 0 where
  pub walks : (rows : List Row) → Block Entries block rows → length rows ≡ count → Walks walk rows (place_of rows n)
  pub copied : (rows : List Row) → Block Entries block rows → length rows ≡ count → rows_of entries ≡ take n rows
  pub seqs : All HasSeq entries

-- a row of a data block has an internal key
pub internal_at : (block : List ℕ) (rows : List Row) (i : ℕ) (key : List ℕ) → Block Entries block rows → KeyAt rows i key → IsInternalKey key
internal_at block rows i key is (row, at, same) =
    let within = slice_get_within rows i row at in
    let form : IsRow Entries row =
    subst (λ (r : Row). IsRow Entries r) (get_or_from_slice_get rows i row row at) (All-get_or (IsRow Entries) rows i row within is.forms) in
    subst (λ (k : List ℕ). IsInternalKey k) (sym same) form.1

-- one entry more
pub copied_more : (block : List ℕ) (rows : List Row) (n : ℕ) (key value : List ℕ) (entries : List Entry) (e : Entry) → rows_of entries ≡ take n rows
    → KeyAt rows n key → ValueAt rows n value → row_of e ≡ record { key = key; value = value }
    → rows_of (entries ++ e ∷ []) ≡ take (n + 1) rows
copied_more block rows n key value entries e front k v is =
    rows_of-append entries e ∙ ap (λ (xs : List Row). xs ++ row_of e ∷ []) front
    ∙ one_more rows n (row_of e) (same_row rows n key value (row_of e) k v is)

-- entries whose rows stand in a data block
users-from_rows : (entries : List Entry) → All (IsRow Entries) (rows_of entries) → All (λ (e : Entry). length e.user ≤ 65536) entries
users-from_rows [] forms = All-nil (λ (e : Entry). length e.user ≤ 65536)
users-from_rows (e ∷ rest) forms =
    let here : length (key_of e) ≤ 65544 = (All-head (IsRow Entries) (row_of e) (rows_of rest) forms).0 in
    All-cons (λ (e : Entry). length e.user ≤ 65536) e rest (omega (arith, length-key_of e)) (users-from_rows rest (All-tail (IsRow Entries) (row_of e) (rows_of rest) forms))

pub entries_are : (block : List ℕ) (rows : List Row) (entries : List Entry) → Block Entries block rows → rows ≡ rows_of entries → All HasSeq entries
    → AreEntries entries
entries_are block rows entries is same seqs =
    record {
      ordered = entries-ordered entries seqs (subst (λ (rs : List Row). AreOrdered Entries rs) same is.ordered);
      seqs = seqs;
      users = users-from_rows entries (subst (λ (rs : List Row). All (IsRow Entries) rs) same is.forms);
    }

-- all rows were copied
pub copied_all : (rows : List Row) (n : ℕ) (entries : List Entry) → rows_of entries ≡ take n rows → length rows ≤ n → rows ≡ rows_of entries
copied_all rows n entries front all = sym (front ∙ take_all n rows all)

-- such a walk, whose rows are copied behind the entries before
pub record Added (block : List ℕ) (count : ℕ) (before : List Entry) (walk : BlockIter) (n : ℕ) (entries : List Entry) : Type 0 where
  pub added : List Entry
  pub appended : entries ≡ before ++ added
  pub front : Copied block count walk n added

-- one entry more behind
pub appended_more : (before added entries now : List Entry) (e : Entry) → now ≡ entries ++ e ∷ [] → entries ≡ before ++ added → now ≡ before ++ (added ++ e ∷ [])
appended_more before added entries now e is behind = is ∙ ap (λ (es : List Entry). es ++ e ∷ []) behind ∙ append_assoc before added (e ∷ [])
