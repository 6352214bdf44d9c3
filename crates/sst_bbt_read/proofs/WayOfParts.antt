-- The way of the index over the parts of a table and the data blocks of a part, by how many separators are before the target.
use Rattle.std.proofs.Common.{◌≡◌, ℕ, zero, suc, ◌+◌, ◌<◌, ◌≤◌, Bool, true, false, cond, List, [], ◌∷◌, length, count_by, slice_get, All, Option, None, Some, refl, ap, subst, arith}
use Rattle.std.specs.Option.{option_map}
use Rattle.std.proofs.lemmas.List.Elements.{All-head, All-tail}
use Rattle.std.proofs.lemmas.List.Sums.{count_by-le-length}
use Rattle.std.proofs.lemmas.Option.{same_Some}
use Rattle.sst_key.specs.declared.entries.Entry.{Entry}
use Rattle.sst_bbt_spec.specs.Way.{IndexedBlock, joined, passed}
use Rattle.sst_bbt_spec.specs.PartWay.{or_all, passed_in}
use Rattle.sst_bbt_read.specs.TableBlocks.{AreEnds, EachPart, blocks_from, parts_from, start_at}
use Rattle.sst_bbt_read.specs.declared.kept_table.RunEnd.{RunEnd}
use Rattle.sst_bbt_read.proofs.RunEnds.{between, length-between}
use Rattle.sst_bbt_read.proofs.RunSearch.{Falls, tail-falls, count-yes, count-no, none-behind}

-- the separator is before
abbrev pub test_of : (List ℕ → Bool) → RunEnd → Bool
test_of is_before r = is_before r.separator

-- how many separators are before
abbrev pub before : (List ℕ → Bool) → List RunEnd → ℕ
before is_before ends = count_by (test_of is_before) ends

-- what holds of the entries of each block holds of those from its start to its end
pub block-has : (P : List Entry → Type 0) (start : ℕ) (ends : List RunEnd) (entries : List Entry) (i : ℕ) (b : RunEnd)
    → All (λ (block : IndexedBlock). P block.entries) (blocks_from start ends entries) → slice_get ends i ≡ Some b
    → P (between entries (start_at start ends i) b.end)
block-has P start [] entries i b all at = cc
block-has P start (x ∷ rest) entries zero b all at =
    subst (λ (b : RunEnd). P (between entries start b.end)) (same_Some x b at)
    (All-head (λ (block : IndexedBlock). P block.entries) _ (blocks_from x.end rest entries) all)
block-has P start (x ∷ rest) entries (suc i) b all at =
    block-has P x.end rest entries i b (All-tail (λ (block : IndexedBlock). P block.entries) _ (blocks_from x.end rest entries) all) at

-- what holds of each part holds of this one
pub part-has : (P : RunEnd → List RunEnd → Type 0) (start : ℕ) (tops ends : List RunEnd) (i : ℕ) (t : RunEnd) → EachPart P start tops ends → slice_get tops i ≡ Some t
    → P t (between ends (start_at start tops i) t.end)
part-has P start [] ends i t each at = cc
part-has P start (x ∷ rest) ends zero t each at = subst (λ (t : RunEnd). P t (between ends start t.end)) (same_Some x t at) each.0
part-has P start (x ∷ rest) ends (suc i) t each at = part-has P x.end rest ends i t each.1 at

-- ---- one step: the separator is before, or it isn't

option-step : (v : Bool) (f : ℕ → ℕ) (x : Option ℕ) (m n : ℕ) → v ≡ true → x ≡ Some m → cond v (option_map f x) (Some n) ≡ Some (f m)
option-step true f x m n is same = ap (option_map f) same
option-step false f x m n is same = cc

none-step : (v : Bool) (f : ℕ → ℕ) (x : Option ℕ) (n : ℕ) → v ≡ true → x ≡ None → cond v (option_map f x) (Some n) ≡ None
none-step true f x n is same = ap (option_map f) same
none-step false f x n is same = cc

last-step : (v : Bool) (x : Option ℕ) (n : ℕ) → v ≡ false → cond v x (Some n) ≡ Some n
last-step true x n is = cc
last-step false x n is = refl

-- ---- data blocks

-- the way leads to the i-th block: what is passed is what lies before it, and what passes of its entries
pub record LeadsInto (is_before : List ℕ → Bool) (test : Entry → Bool) (start : ℕ) (ends : List RunEnd) (entries : List Entry) (i : ℕ) (b : RunEnd) : Type 0 where
  pub n : ℕ
  pub is : passed is_before test (blocks_from start ends entries) ≡ Some n
  pub sum : start + n ≡ start_at start ends i + count_by test (between entries (start_at start ends i) b.end)

leads-by : (is_before : List ℕ → Bool) (test : Entry → Bool) (start : ℕ) (x : RunEnd) (rest : List RunEnd) (entries : List Entry) (i : ℕ) (b : RunEnd) (v : Bool)
    → is_before x.separator ≡ v → start < x.end → x.end ≤ length entries → (is_before x.separator ≡ false → before is_before rest ≡ 0)
    → ((k : ℕ) → k ≡ before is_before rest → slice_get rest k ≡ Some b → LeadsInto is_before test x.end rest entries k b)
    → i ≡ before is_before (x ∷ rest) → slice_get (x ∷ rest) i ≡ Some b → LeadsInto is_before test start (x ∷ rest) entries i b
leads-by is_before test start x rest entries zero b true passes low within last later count at =
    let more = count-yes (test_of is_before) x rest passes in absurd (omega (arith, count, more))
leads-by is_before test start x rest entries (suc k) b true passes low within last later count at =
    let counted = count-yes (test_of is_before) x rest passes in
    let led = later k (omega (arith, count, counted)) at in
    let long = length-between entries start x.end (omega (arith, low)) within in
    let sum = led.sum in
    record {
      n = length (between entries start x.end) + led.n;
      is = option-step (is_before x.separator) (λ n. length (between entries start x.end) + n) _ led.n _ passes led.is;
      sum = omega (arith, long, sum, low);
    }
leads-by is_before test start x rest entries zero b false fails low within last later count at =
    record {
      n = count_by test (between entries start x.end);
      is = last-step (is_before x.separator) _ _ fails;
      sum = ap (λ (b : RunEnd). start + count_by test (between entries start b.end)) (same_Some x b at);
    }
leads-by is_before test start x rest entries (suc k) b false fails low within last later count at =
    let counted = count-no (test_of is_before) x rest fails in
    let none = last fails in
    absurd (omega (arith, count, counted, none))

-- the block behind those whose separators are before
pub leads-into : (is_before : List ℕ → Bool) (test : Entry → Bool) (start : ℕ) (ends : List RunEnd) (entries : List Entry) (most i : ℕ) (b : RunEnd)
    → AreEnds start ends most → most ≤ length entries → Falls (test_of is_before) ends
    → i ≡ before is_before ends → slice_get ends i ≡ Some b → LeadsInto is_before test start ends entries i b
leads-into is_before test start [] entries most i b are short falls count at = cc
leads-into is_before test start (x ∷ rest) entries most i b are short falls count at =
    leads-by is_before test start x rest entries i b (is_before x.separator) refl are.0 (omega (arith, are.1, short)) (none-behind (test_of is_before) x rest falls)
    (λ k counted there. leads-into is_before test x.end rest entries most k b are.2 short (tail-falls (test_of is_before) x rest falls) counted there) count at

-- ---- a step past all

past-head : (is_before : List ℕ → Bool) (x : RunEnd) (rest : List RunEnd) (v : Bool) → is_before x.separator ≡ v
    → length (x ∷ rest) ≤ before is_before (x ∷ rest) → (is_before x.separator ≡ true) × (length rest ≤ before is_before rest)
past-head is_before x rest true passes all =
    let counted = count-yes (test_of is_before) x rest passes in
    (passes, omega (arith, counted, all))
past-head is_before x rest false fails all =
    let counted = count-no (test_of is_before) x rest fails in
    let most = count_by-le-length (test_of is_before) rest in
    absurd (omega (arith, counted, most, all))

-- where all separators are before, the way leads to no block
pub blocks-past : (is_before : List ℕ → Bool) (test : Entry → Bool) (start : ℕ) (ends : List RunEnd) (entries : List Entry)
    → length ends ≤ before is_before ends → passed is_before test (blocks_from start ends entries) ≡ None
blocks-past is_before test start [] entries all = refl
blocks-past is_before test start (x ∷ rest) entries all =
    let head = past-head is_before x rest (is_before x.separator) refl all in
    none-step (is_before x.separator) (λ n. length (between entries start x.end) + n) _ _ head.0 (blocks-past is_before test x.end rest entries head.1)

-- and to no part
pub parts-past : (is_before : List ℕ → Bool) (test : Entry → Bool) (start : ℕ) (tops : List RunEnd) (blocks : List IndexedBlock)
    → length tops ≤ before is_before tops → passed_in is_before test (parts_from start tops blocks) ≡ None
parts-past is_before test start [] blocks all = refl
parts-past is_before test start (x ∷ rest) blocks all =
    let head = past-head is_before x rest (is_before x.separator) refl all in
    none-step (is_before x.separator) (λ n. length (joined (between blocks start x.end)) + n) _ _ head.0 (parts-past is_before test x.end rest blocks head.1)

-- ---- parts

-- what is passed in the blocks from a place up to another
abbrev pub passed_between : (List ℕ → Bool) → (Entry → Bool) → List IndexedBlock → ℕ → ℕ → ℕ
passed_between is_before test blocks start end = or_all (joined (between blocks start end)) (passed is_before test (between blocks start end))

-- `weight` tells how many entries there are before a block
abbrev pub IsWeight : (ℕ → ℕ) → List IndexedBlock → Type 0
IsWeight weight blocks = (i j : ℕ) → i ≤ j → j ≤ length blocks → weight i + length (joined (between blocks i j)) ≡ weight j

-- the way leads to the i-th part: what is passed is what lies before it, and what is passed in it
pub record LeadsToPart (is_before : List ℕ → Bool) (test : Entry → Bool) (weight : ℕ → ℕ) (start : ℕ) (tops : List RunEnd) (blocks : List IndexedBlock) (i : ℕ) (t : RunEnd) : Type 0 where
  pub n : ℕ
  pub is : passed_in is_before test (parts_from start tops blocks) ≡ Some n
  pub sum : weight start + n ≡ weight (start_at start tops i) + passed_between is_before test blocks (start_at start tops i) t.end

part-by : (is_before : List ℕ → Bool) (test : Entry → Bool) (weight : ℕ → ℕ) (start : ℕ) (x : RunEnd) (rest : List RunEnd) (blocks : List IndexedBlock) (i : ℕ) (t : RunEnd) (v : Bool)
    → is_before x.separator ≡ v → IsWeight weight blocks → start < x.end → x.end ≤ length blocks → (is_before x.separator ≡ false → before is_before rest ≡ 0)
    → ((k : ℕ) → k ≡ before is_before rest → slice_get rest k ≡ Some t → LeadsToPart is_before test weight x.end rest blocks k t)
    → i ≡ before is_before (x ∷ rest) → slice_get (x ∷ rest) i ≡ Some t → LeadsToPart is_before test weight start (x ∷ rest) blocks i t
part-by is_before test weight start x rest blocks zero t true passes weighs low within last later count at =
    let more = count-yes (test_of is_before) x rest passes in absurd (omega (arith, count, more))
part-by is_before test weight start x rest blocks (suc k) t true passes weighs low within last later count at =
    let counted = count-yes (test_of is_before) x rest passes in
    let led = later k (omega (arith, count, counted)) at in
    let long = weighs start x.end (omega (arith, low)) within in
    let sum = led.sum in
    record {
      n = length (joined (between blocks start x.end)) + led.n;
      is = option-step (is_before x.separator) (λ n. length (joined (between blocks start x.end)) + n) _ led.n _ passes led.is;
      sum = omega (arith, long, sum);
    }
part-by is_before test weight start x rest blocks zero t false fails weighs low within last later count at =
    record {
      n = passed_between is_before test blocks start x.end;
      is = last-step (is_before x.separator) _ _ fails;
      sum = ap (λ (t : RunEnd). weight start + passed_between is_before test blocks start t.end) (same_Some x t at);
    }
part-by is_before test weight start x rest blocks (suc k) t false fails weighs low within last later count at =
    let counted = count-no (test_of is_before) x rest fails in
    let none = last fails in
    absurd (omega (arith, count, counted, none))

-- the part behind those whose separators are before
pub leads-to_part : (is_before : List ℕ → Bool) (test : Entry → Bool) (weight : ℕ → ℕ) (start : ℕ) (tops : List RunEnd) (blocks : List IndexedBlock) (i : ℕ) (t : RunEnd)
    → IsWeight weight blocks → AreEnds start tops (length blocks) → Falls (test_of is_before) tops
    → i ≡ before is_before tops → slice_get tops i ≡ Some t → LeadsToPart is_before test weight start tops blocks i t
leads-to_part is_before test weight start [] blocks i t weighs are falls count at = cc
leads-to_part is_before test weight start (x ∷ rest) blocks i t weighs are falls count at =
    part-by is_before test weight start x rest blocks i t (is_before x.separator) refl weighs are.0 are.1 (none-behind (test_of is_before) x rest falls)
    (λ k counted there. leads-to_part is_before test weight x.end rest blocks k t weighs are.2 (tail-falls (test_of is_before) x rest falls) counted there) count at
