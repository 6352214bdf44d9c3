-- What the code of a reader reads of its table: where its runs begin, and what stands in them.
use Rattle.std.proofs.Common.{◌≡◌, ℕ, suc, ◌+◌, ◌<◌, ◌≤◌, List, length, slice_get, slice_index_or, nat_lt, true, Some, refl, sym, ap, ◌∙◌, subst, inl, inr, arith}
use Rattle.std.proofs.lemmas.Bool.{cases_lt, le-ltb}
use Rattle.std.proofs.lemmas.Option.{same_Some, slice_get_read}
use Rattle.sst_key.specs.declared.entries.Entry.{Entry}
use Rattle.sst_key.specs.Entry.{IsOrdered}
use Rattle.sst_bbt_read.specs.TableBlocks.{OpenTable, IsOpenTable, AreEnds, AreEntries, start_at}
use Rattle.sst_bbt_read.specs.declared.kept_table.RunEnd.{RunEnd}
use Rattle.sst_bbt_read.proofs.RunEnds.{between, length-between, behind-at, run-within, start-within}
use Rattle.sst_bbt_read.proofs.WayOfParts.{block-has}

-- a run begins where the one before ends
pub begins-behind : (runs : List RunEnd) (i before : ℕ) (b : RunEnd) → i ≤ length runs → i ≡ suc before → b ≡ slice_index_or runs before b
    → (slice_index_or runs before b).end ≡ start_at 0 runs i
begins-behind runs i before b low next at =
    ap (λ (b : RunEnd). b.end) (sym at) ∙ behind-at 0 runs before b (slice_get_read runs (length runs) before b refl (omega (arith, low, next)) at)
    ∙ ap (start_at 0 runs) (sym next)

-- its bounds are those of a part of the list
pub bounds : (runs all : List RunEnd) (count start i : ℕ) (b : RunEnd) → AreEnds 0 all count → runs ≡ all → start ≡ start_at 0 runs i → slice_get all i ≡ Some b
    → (start ≤ b.end) × (b.end ≤ count)
bounds runs all count start i b are same begins at =
    let within = run-within 0 all count i b are at in
    let here : start ≡ start_at 0 all i = begins ∙ ap (λ (rs : List RunEnd). start_at 0 rs i) same in
    (omega (arith, within.1, here), within.2)

-- the data block of this number
pub block-read : (table now : OpenTable) (i : ℕ) (b : RunEnd) → table ≡ now → i < length now.ends → b ≡ slice_index_or table.ends i b
    → slice_get table.ends i ≡ Some b
block-read table now i b same low at =
    slice_get_read table.ends (length table.ends) i b refl (subst (λ (t : OpenTable). i < length t.ends) (sym same) low) at

-- its entries are what stands between its bounds
pub entries-read : (table now : OpenTable) (items : List Entry) (start i : ℕ) (end b : RunEnd) → table ≡ now → items ≡ table.entries
    → slice_get table.ends i ≡ Some end → slice_get now.ends i ≡ Some b → between items start end.end ≡ between now.entries start b.end
entries-read table now items start i end b same is at there =
    let one : end ≡ b = same_Some end b (sym at ∙ ap (λ (t : OpenTable). slice_get t.ends i) same ∙ there) in
    ap (λ (e : RunEnd). between items start e.end) one
    ∙ ap (λ (es : List Entry). between es start b.end) (is ∙ ap (λ (t : OpenTable). t.entries) same)

-- what is told of the part of this number
pub part-read : (table now : OpenTable) (tops ends : List RunEnd) (first i : ℕ) (top : RunEnd) → table ≡ now → tops ≡ table.tops → ends ≡ table.ends
    → first ≡ start_at 0 tops i → slice_get table.tops i ≡ Some top
    → (x : RunEnd) × (slice_get now.tops i ≡ Some x) × (first ≡ start_at 0 now.tops i) × (between ends first top.end ≡ between now.ends first x.end)
part-read table now tops ends first i top same tops_are ends_are begins at = (
  top,
  ap (λ (t : OpenTable). slice_get t.tops i) (sym same) ∙ at,
  begins ∙ ap (λ (rs : List RunEnd). start_at 0 rs i) (tops_are ∙ ap (λ (t : OpenTable). t.tops) same),
  ap (λ (rs : List RunEnd). between rs first top.end) (ends_are ∙ ap (λ (t : OpenTable). t.ends) same),
)

-- the part that was looked up
pub top-read : (tops items : List RunEnd) (i : ℕ) (top : RunEnd) → items ≡ tops → true ≡ nat_lt i (length items) → top ≡ slice_index_or items i top
    → slice_get tops i ≡ Some top
top-read tops items i top same low at =
    elim (cases_lt i (length items)) [
      | inl less ↦ ap (λ (rs : List RunEnd). slice_get rs i) (sym same) ∙ slice_get_read items (length items) i top refl less at
      | inr high ↦ let not = le-ltb i (length items) high in absurd (cc)
    ]

-- the entries of a block are in order, and end within those of all
pub entries-ordered : (table : OpenTable) (i start : ℕ) (b : RunEnd) (runs : List RunEnd) (items : List Entry) → IsOpenTable table → runs ≡ table.ends
    → start ≡ start_at 0 runs i → items ≡ table.entries → slice_get table.ends i ≡ Some b → IsOrdered (between items start b.end)
entries-ordered table i start b runs items is same begins are at =
    let from : start ≡ start_at 0 table.ends i = begins ∙ ap (λ (rs : List RunEnd). start_at 0 rs i) same in
    let all = ap (λ (n : ℕ). between items n b.end) from ∙ ap (λ (es : List Entry). between es (start_at 0 table.ends i) b.end) are in
    subst IsOrdered (sym all) (block-has AreEntries 0 table.ends table.entries i b is.blocks at).ordered

pub entries-within : (table now : OpenTable) (i start : ℕ) (b : RunEnd) (runs : List RunEnd) (items : List Entry) → table ≡ now → IsOpenTable table → runs ≡ table.ends
    → start ≡ start_at 0 runs i → items ≡ table.entries → slice_get table.ends i ≡ Some b → start + length (between items start b.end) ≤ length now.entries
entries-within table now i start b runs items same is runs_are begins are at =
    let ends = bounds runs table.ends (length table.entries) start i b is.ends runs_are begins at in
    let many = ap length are in
    let all = ap (λ (t : OpenTable). length t.entries) same in
    let long = length-between items start b.end ends.0 (omega (arith, ends.1, many)) in
    omega (arith, long, ends.0, ends.1, all)

-- what stands at the end of a block does too
pub start-read : (table now : OpenTable) (runs : List RunEnd) (start i : ℕ) → table ≡ now → IsOpenTable table → runs ≡ table.ends → start ≡ start_at 0 runs i
    → i ≤ length now.ends → start ≤ length now.entries
start-read table now runs start i same is runs_are begins low =
    let own = subst IsOpenTable same is in
    let from : start ≡ start_at 0 now.ends i = begins ∙ ap (λ (rs : List RunEnd). start_at 0 rs i) (runs_are ∙ ap (λ (t : OpenTable). t.ends) same) in
    let within = start-within 0 now.ends (length now.entries) i own.ends low in
    omega (arith, from, within)
