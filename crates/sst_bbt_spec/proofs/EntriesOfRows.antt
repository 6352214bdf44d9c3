-- The rows of a data block are those of one list of entries, which is in order.
use Rattle.std.proofs.Common.{◌≡◌, ℕ, ◌<◌, List, [], ◌∷◌, All, Some, refl, sym, ap, ◌∙◌, arith}
use Rattle.std.proofs.lemmas.List.Elements.{All-nil, All-cons, All-head, All-tail}
use Rattle.sst_key.specs.declared.entries.Entry.{Entry}
use Rattle.sst_key.specs.declared.entries.Kind.{Kind}
use Rattle.sst_key.specs.declared.entries.Kind.TheVariants.{Deletion, Value, Merge, SingleDeletion}
use Rattle.sst_key.specs.Entry.{kind_number, tag, key_of, IsOrdered}
use Rattle.sst_key.specs.InternalKey.{user_of, tag_of, kind_numbered}
use Rattle.sst_key.proofs.KeyParts.{user_of-key, tag_of-key, tag-fits, internal_cmp-entries, IsBefore-from_less}
use Rattle.sst_block.specs.declared.row_form.RowForm.TheVariants.{Entries}
use Rattle.sst_block.specs.Block.{Row, IsRow, AreOrdered}
use Rattle.sst_bbt_spec.specs.Rows.{HasSeq, row_of, rows_of}

-- a kind by its number
kind-numbered : (k : Kind) → kind_numbered (kind_number k) ≡ Some k
kind-numbered Deletion = refl
kind-numbered Value = refl
kind-numbered Merge = refl
kind-numbered SingleDeletion = refl

pub kind-small : (k : Kind) → kind_number k < 256
kind-small Deletion = omega arith
kind-small Value = omega arith
kind-small Merge = omega arith
kind-small SingleDeletion = omega arith

kind-one : (k l : Kind) → kind_number k ≡ kind_number l → k ≡ l
kind-one k l same = let named : Some k ≡ Some l = sym (kind-numbered k) ∙ ap kind_numbered same ∙ kind-numbered l in cc

-- an entry from its parts
entry-made : (user user2 : List ℕ) (seq seq2 : ℕ) (kind kind2 : Kind) (value value2 : List ℕ) → user ≡ user2 → seq ≡ seq2 → kind ≡ kind2 → value ≡ value2
    → ◌≡◌ {A = Entry} (record { user = user; seq = seq; kind = kind; value = value }) (record { user = user2; seq = seq2; kind = kind2; value = value2 })
entry-made user user2 seq seq2 kind kind2 value value2 a b c d = rw (a, b, c, d) refl

-- the row tells the entry
entry-one : (x y : Entry) → HasSeq x → HasSeq y → row_of x ≡ row_of y → x ≡ y
entry-one x y low_x low_y same =
    let key : key_of x ≡ key_of y = ap (λ (r : Row). r.key) same in
    let value : x.value ≡ y.value = ap (λ (r : Row). r.value) same in
    let tag_x = tag-fits x.seq x.kind low_x in
    let tag_y = tag-fits y.seq y.kind low_y in
    let user : x.user ≡ y.user = sym (user_of-key x.user (tag x.seq x.kind)) ∙ ap user_of key ∙ user_of-key y.user (tag y.seq y.kind) in
    let tags : tag x.seq x.kind ≡ tag y.seq y.kind = sym (tag_of-key x.user (tag x.seq x.kind) tag_x) ∙ ap tag_of key ∙ tag_of-key y.user (tag y.seq y.kind) tag_y in
    let small_x = kind-small x.kind in
    let small_y = kind-small y.kind in
    let seq : x.seq ≡ y.seq = omega arith in
    let number : kind_number x.kind ≡ kind_number y.kind = omega arith in
    entry-made x.user y.user x.seq y.seq x.kind y.kind x.value y.value user seq (kind-one x.kind y.kind number) value

-- the rows tell the entries
pub rows_of-one : (a b : List Entry) → All HasSeq a → All HasSeq b → rows_of a ≡ rows_of b → a ≡ b
rows_of-one [] [] seqs_a seqs_b same = refl
rows_of-one [] (y ∷ b) seqs_a seqs_b same = cc
rows_of-one (x ∷ a) [] seqs_a seqs_b same = cc
rows_of-one (x ∷ a) (y ∷ b) seqs_a seqs_b same =
    let first : row_of x ≡ row_of y = cc in
    let others : rows_of a ≡ rows_of b = cc in
    let head = entry-one x y (All-head HasSeq x a seqs_a) (All-head HasSeq y b seqs_b) first in
    let tail = rows_of-one a b (All-tail HasSeq x a seqs_a) (All-tail HasSeq y b seqs_b) others in
    ap (λ (e : Entry). e ∷ a) head ∙ ap (λ (l : List Entry). y ∷ l) tail

-- rows whose keys are internal keys are those of entries
pub record EntriesOf (rows : List Row) : Type 0 where
  pub entries : List Entry
  pub are : rows ≡ rows_of entries
  pub seqs : All HasSeq entries

pub entries-of_rows : (rows : List Row) → All (IsRow Entries) rows → EntriesOf rows
entries-of_rows [] forms = record { entries = []; are = refl; seqs = All-nil HasSeq }
entries-of_rows (row ∷ rest) forms =
    let key = (All-head (IsRow Entries) row rest forms).1 in
    let e : Entry = record { user = key.0; seq = key.1; kind = key.2; value = row.value } in
    let more = entries-of_rows rest (All-tail (IsRow Entries) row rest forms) in
    let first : row ≡ row_of e = ap (λ (k : List ℕ). record { key = k; value = row.value }) key.4 in
    record {
      entries = e ∷ more.entries;
      are = ap (λ (r : Row). r ∷ rest) first ∙ ap (λ (l : List Row). row_of e ∷ l) more.are;
      seqs = All-cons HasSeq e more.entries key.3 more.seqs;
    }

-- rows in order are of entries in order
pub entries-ordered : (entries : List Entry) → All HasSeq entries → AreOrdered Entries (rows_of entries) → IsOrdered entries
entries-ordered [] seqs ordered = tt
entries-ordered (a ∷ []) seqs ordered = tt
entries-ordered (a ∷ b ∷ rest) seqs ordered =
    let more = All-tail HasSeq a (b ∷ rest) seqs in
    let less = sym (internal_cmp-entries a b (All-head HasSeq a (b ∷ rest) seqs) (All-head HasSeq b rest more)) ∙ ordered.0 in
    (IsBefore-from_less a b less, entries-ordered (b ∷ rest) more ordered.1)
