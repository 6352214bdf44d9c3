-- The parts of a table, one after another, hold its entries.
use Rattle.std.proofs.Common.{◌≡◌, ℕ, zero, suc, ◌+◌, ◌-◌, ◌<◌, ◌≤◌, List, [], ◌∷◌, ◌++◌, length, length-append, take, drop, All, None, refl, sym, ap, ◌∙◌, subst, arith}
use Rattle.std.proofs.lemmas.List.{drop-drop, drop_all, take-append-drop, append_assoc}
use Rattle.std.proofs.lemmas.List.Elements.{All-nil, All-head, All-tail, All-append}
use Rattle.sst_key.specs.declared.entries.Entry.{Entry}
use Rattle.sst_bbt_spec.specs.Rows.{HasSeq}
use Rattle.sst_bbt_spec.specs.Way.{IndexedBlock, joined}
use Rattle.sst_bbt_spec.specs.Mark.{shown_in}
use Rattle.sst_bbt_spec.specs.Parts.{stored_in}
use Rattle.sst_bbt_spec.proofs.PartLaws.{shown-none}
use Rattle.sst_bbt_read.specs.TableBlocks.{OpenTable, IsOpenTable, AreEnds, AreEntries, blocks_from, blocks_of, parts_from, parts_of, start_at}
use Rattle.sst_bbt_read.specs.declared.kept_table.RunEnd.{RunEnd}
use Rattle.sst_bbt_read.proofs.RunEnds.{between, length-between, ends-between, start-within}

-- what lies behind a run is what lies behind its end
behind : {A : Type 0} (start end : ℕ) (xs : List A) → start < end → drop (end - start) (drop start xs) ≡ drop end xs
behind {A} start end xs low =
    let whole : start + (end - start) ≡ end = omega arith in
    drop-drop (end - start) start xs ∙ ap (λ (n : ℕ). drop n xs) whole

-- the blocks from a start on hold the entries from there on
joined-from : (start : ℕ) (ends : List RunEnd) (entries : List Entry) → AreEnds start ends (length entries)
    → joined (blocks_from start ends entries) ≡ drop start entries
joined-from start [] entries last = sym (drop_all start entries (omega (arith, last)))
joined-from start (b ∷ rest) entries (low, within, more) =
    ap (λ (es : List Entry). between entries start b.end ++ es) (joined-from b.end rest entries more ∙ sym (behind start b.end entries low))
    ∙ take-append-drop (b.end - start) (drop start entries)

-- the blocks of a table hold its entries
pub joined-table : (table : OpenTable) → IsOpenTable table → joined (blocks_of table) ≡ table.entries
joined-table table is = joined-from 0 table.ends table.entries is.ends

pub joined-append : (xs ys : List IndexedBlock) → joined (xs ++ ys) ≡ joined xs ++ joined ys
joined-append [] ys = refl
joined-append (x ∷ xs) ys = ap (λ (es : List Entry). x.entries ++ es) (joined-append xs ys) ∙ sym (append_assoc x.entries (joined xs) (joined ys))

pub length-blocks : (start : ℕ) (ends : List RunEnd) (entries : List Entry) → length (blocks_from start ends entries) ≡ length ends
length-blocks start [] entries = refl
length-blocks start (b ∷ rest) entries = ap suc (length-blocks b.end rest entries)

-- the parts from a start on hold the entries of the blocks from there on
stored-from : (start : ℕ) (tops : List RunEnd) (blocks : List IndexedBlock) → AreEnds start tops (length blocks)
    → stored_in (parts_from start tops blocks) ≡ joined (drop start blocks)
stored-from start [] blocks last = sym (ap joined (drop_all start blocks (omega (arith, last))))
stored-from start (t ∷ rest) blocks (low, within, more) =
    ap (λ (es : List Entry). joined (between blocks start t.end) ++ es) (stored-from t.end rest blocks more ∙ sym (ap joined (behind start t.end blocks low)))
    ∙ sym (joined-append (between blocks start t.end) (drop (t.end - start) (drop start blocks)))
    ∙ ap joined (take-append-drop (t.end - start) (drop start blocks))

-- the parts of a table hold its entries
pub stored-table : (table : OpenTable) → IsOpenTable table → stored_in (parts_of table) ≡ table.entries
stored-table table is =
    let tops : AreEnds 0 table.tops (length (blocks_of table)) = subst (AreEnds 0 table.tops) (sym (length-blocks 0 table.ends table.entries)) is.tops in
    stored-from 0 table.tops (blocks_of table) tops ∙ joined-table table is

-- and show them so
pub shown-table : (table : OpenTable) → IsOpenTable table → shown_in None (parts_of table) ≡ table.entries
shown-table table is = shown-none (stored_in (parts_of table)) ∙ stored-table table is

-- the sequence numbers of all blocks are in range where those of each are
pub joined-seqs : (blocks : List IndexedBlock) → All (λ (block : IndexedBlock). AreEntries block.entries) blocks → All HasSeq (joined blocks)
joined-seqs [] all = All-nil HasSeq
joined-seqs (block ∷ rest) all =
    let here = All-head (λ (block : IndexedBlock). AreEntries block.entries) block rest all in
    let more = joined-seqs rest (All-tail (λ (block : IndexedBlock). AreEntries block.entries) block rest all) in
    All-append HasSeq block.entries (joined rest) here.seqs more

-- and so are those of a table
pub table-seqs : (table : OpenTable) → IsOpenTable table → All HasSeq (stored_in (parts_of table))
table-seqs table is = subst (All HasSeq) (joined-table table is ∙ sym (stored-table table is)) (joined-seqs (blocks_of table) is.blocks)

-- ---- some blocks in a row

blocks-drop : (start : ℕ) (ends : List RunEnd) (entries : List Entry) (k : ℕ)
    → drop k (blocks_from start ends entries) ≡ blocks_from (start_at start ends k) (drop k ends) entries
blocks-drop start ends entries zero = refl
blocks-drop start [] entries (suc k) = refl
blocks-drop start (b ∷ rest) entries (suc k) = blocks-drop b.end rest entries k

blocks-take : (start : ℕ) (ends : List RunEnd) (entries : List Entry) (k : ℕ) → take k (blocks_from start ends entries) ≡ blocks_from start (take k ends) entries
blocks-take start ends entries zero = refl
blocks-take start [] entries (suc k) = refl
blocks-take start (b ∷ rest) entries (suc k) =
    ap (λ (bs : List IndexedBlock). record { separator = b.separator; entries = between entries start b.end } ∷ bs) (blocks-take b.end rest entries k)

-- they are the blocks with these ends
pub blocks-between : (start : ℕ) (ends : List RunEnd) (entries : List Entry) (i j : ℕ)
    → between (blocks_from start ends entries) i j ≡ blocks_from (start_at start ends i) (between ends i j) entries
blocks-between start ends entries i j =
    ap (take (j - i)) (blocks-drop start ends entries i) ∙ blocks-take (start_at start ends i) (drop i ends) entries (j - i)

-- they hold the entries from where they begin to where they end
pub joined-length : (start : ℕ) (ends : List RunEnd) (entries : List Entry) (count : ℕ) → AreEnds start ends count → count ≤ length entries
    → start + length (joined (blocks_from start ends entries)) ≡ count
joined-length start [] entries count are within = omega (arith, are)
joined-length start (b ∷ rest) entries count (low, most, more) within =
    let here = length-between entries start b.end (omega (arith, low)) (omega (arith, most, within)) in
    let later = joined-length b.end rest entries count more within in
    let both = length-append (between entries start b.end) (joined (blocks_from b.end rest entries)) in
    omega (arith, here, later, both, low)

pub joined-between : (table : OpenTable) (i j : ℕ) → IsOpenTable table → i ≤ j → j ≤ length table.ends
    → start_at 0 table.ends i + length (joined (between (blocks_of table) i j)) ≡ start_at 0 table.ends j
joined-between table i j is low within =
    ap (λ (bs : List IndexedBlock). start_at 0 table.ends i + length (joined bs)) (blocks-between 0 table.ends table.entries i j)
    ∙ joined-length (start_at 0 table.ends i) (between table.ends i j) table.entries (start_at 0 table.ends j)
    (ends-between 0 table.ends (length table.entries) i j is.ends low within) (start-within 0 table.ends (length table.entries) j is.ends within)
