-- How many entries the code of a reader finds to be passed on the way to a target: what halving its separators and its entries
-- gives.
use Rattle.std.proofs.Common.{◌≡◌, ℕ, ◌+◌, ◌-◌, ◌<◌, ◌≤◌, Bool, true, false, List, [], ◌∷◌, length, take, drop, count_by, slice_get, None, Some, sym, ap, ◌∙◌, subst, arith}
use Rattle.std.proofs.lemmas.List.Sums.{count_by-le-length}
use Rattle.sst_key.specs.declared.entries.Entry.{Entry}
use Rattle.sst_bbt_spec.specs.Way.{is_separator_before}
use Rattle.sst_bbt_spec.specs.PartWay.{passed_in}
use Rattle.sst_bbt_read.specs.TableBlocks.{OpenTable, IsOpenTable, IsAlone, parts_of, start_at}
use Rattle.sst_bbt_read.specs.declared.kept_table.RunEnd.{RunEnd}
use Rattle.sst_bbt_read.proofs.PartLandings.{InBlock, in_part, ends-alone, ends-separate, passes, passes-none}
use Rattle.sst_bbt_read.proofs.RunSearch.{before-falls, count-no, here-fails}
use Rattle.sst_bbt_read.proofs.WayOfParts.{test_of, before}

-- how many separators of the top block are before is counted on the table
counted : (table now : OpenTable) (tops : List RunEnd) (user : List ℕ) (t p : ℕ) → table ≡ now → tops ≡ table.tops
    → p ≡ before (is_separator_before user t) tops → p ≡ before (is_separator_before user t) now.tops
counted table now tops user t p same are count =
    count ∙ ap (before (is_separator_before user t)) (are ∙ ap (λ (t : OpenTable). t.tops) same)

-- all separators of the top block are before
pub passed-all : (table now : OpenTable) (tops : List RunEnd) (user : List ℕ) (t : ℕ) (test : Entry → Bool) (p : ℕ) → table ≡ now → tops ≡ table.tops
    → p ≡ before (is_separator_before user t) tops → length now.tops ≤ p → None ≡ passed_in (is_separator_before user t) test (parts_of now)
passed-all table now tops user t test p same are count past =
    passes-none (is_separator_before user t) test now p (counted table now tops user t p same are count) past

-- the one data block of a part isn't before where the part isn't
one-not : (is_before : List ℕ → Bool) (top : RunEnd) (ends : List RunEnd) → IsAlone top ends → is_before top.separator ≡ false → before is_before ends ≡ 0
one-not is_before top [] alone fails = absurd (cc)
one-not is_before top (b ∷ []) alone fails =
    let same : b.separator ≡ top.separator = cc in
    count-no (test_of is_before) b [] (ap is_before same ∙ fails)
one-not is_before top (b ∷ c ∷ rest) alone fails = absurd (cc)

-- in a whole index the data block of the part is the way's
pub alone-not : (table now : OpenTable) (tops : List RunEnd) (user : List ℕ) (t p first : ℕ) (ends : List RunEnd) → table ≡ now → IsOpenTable table → tops ≡ table.tops
    → p ≡ before (is_separator_before user t) tops
    → (top : RunEnd) × (slice_get now.tops p ≡ Some top) × (first ≡ start_at 0 now.tops p) × (ends ≡ take (top.end - first) (drop first now.ends))
    → table.whole ≡ true → before (is_separator_before user t) ends ≡ 0
alone-not table now tops user t p first ends same is_one are many told whole =
    let is = subst IsOpenTable same is_one in
    let part = in_part now p first ends told in
    let fails = here-fails (test_of (is_separator_before user t)) now.tops p part.top (before-falls user t now.tops is.separators.ordered)
    (counted table now tops user t p same are many) part.at in
    one-not (is_separator_before user t) part.top ends (ends-alone now p first ends is part (ap (λ (t : OpenTable). t.whole) (sym same) ∙ whole)) fails

-- the way leads to the p-th part of the table, to the i-th block there, and to some of its entries
pub passed-some : (table now : OpenTable) (tops : List RunEnd) (user : List ℕ) (t : ℕ) (test : Entry → Bool) (p first i start : ℕ) (ends : List RunEnd) (items : List Entry)
    → table ≡ now → IsOpenTable table → tops ≡ table.tops → p ≡ before (is_separator_before user t) tops
    → (top : RunEnd) × (slice_get now.tops p ≡ Some top) × (first ≡ start_at 0 now.tops p) × (ends ≡ take (top.end - first) (drop first now.ends))
    → i ≡ before (is_separator_before user t) ends → start ≡ start_at 0 now.ends (first + i)
    → (i < length ends → (b : RunEnd) → slice_get now.ends (first + i) ≡ Some b → items ≡ take (b.end - start) (drop start now.entries))
    → (length ends ≤ i → items ≡ []) → Some (start + count_by test items) ≡ passed_in (is_separator_before user t) test (parts_of now)
passed-some table now tops user t test p first i start ends items same is_one are many told count begins entries none =
    let is = subst IsOpenTable same is_one in
    let part = in_part now p first ends told in
    let low : i ≤ length ends = omega (arith, count, count_by-le-length (test_of (is_separator_before user t)) ends) in
    let block : InBlock now first (length ends) i start items = record { low = low; begins = begins; are = entries; none = none } in
    passes (is_separator_before user t) test now p first i start ends items is part block (before-falls user t now.tops is.separators.ordered)
    (counted table now tops user t p same are many) (before-falls user t ends (ends-separate now p first ends is part).ordered) count
