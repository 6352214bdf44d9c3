-- On a tree that is found without a fault, a way back ends at the entry of the counted number.
use Rattle.std.proofs.Common.{◌≡◌, ℕ, zero, suc, ◌+◌, ◌<◌, Bool, true, false, cond, List, [], ◌∷◌, ◌++◌, length, take, slice_get, count_by, Option, Some, Ok, length-append, refl, sym, ap, ◌∙◌, arith}
use Rattle.std.specs.Option.{option_map}
use Rattle.std.proofs.lemmas.Option.{same_Some}
use Rattle.sst_key.specs.declared.entries.Entry.{Entry}
use Rattle.sst_key.specs.ListMachine.{place_before}
use Rattle.sst_key.proofs.Counting.{count-in_length}
use Rattle.sst_bbt_spec.specs.Way.{IndexedBlock, joined, passed}
use Rattle.sst_bbt_spec.specs.Parts.{Part, stored_in}
use Rattle.sst_bbt_spec.specs.PartWay.{or_all, passed_in}
use Rattle.sst_bbt_spec.specs.FoundParts.{FoundBlock, FoundPart, Landing, then_open, AreFound, IsFound, AllFound}
use Rattle.sst_bbt_spec.specs.Landings.{row_or_before, last_in_blocks, last_from, prev_in_blocks, prev_from, back_in_blocks, back_from}
use Rattle.sst_bbt_spec.proofs.PlacesNumbered.{Lands, lands-as, NumberBlocks, NumberParts, row-lands_before}
use Rattle.sst_bbt_spec.proofs.FoundForward.{opens-found, if-same, or_all-on}

-- ---- the last row

-- the last row of a block that is found
block-last : {F : Type 0} (IsAt : ℕ → ℕ → ℕ → ℕ → Type 0) (part block base : ℕ) (f : FoundBlock F) (b : IndexedBlock) (blocks : List IndexedBlock) (before : Landing F)
    → NumberBlocks IsAt part block base (b ∷ blocks) → f.entries ≡ Ok b.entries → Lands IsAt before (place_before base)
    → Lands IsAt (then_open f.entries (λ entries. row_or_before part block (length entries) before)) (place_before (base + length b.entries))
block-last IsAt part block base f b blocks before numbers is lands =
    lands-as IsAt _ _ _ _ (opens-found f.entries b.entries (λ entries. row_or_before part block (length entries) before) is) refl
    (row-lands_before IsAt part block (length b.entries) base b.entries before numbers.0 (omega arith) lands)

pub last-blocks : {F : Type 0} (IsAt : ℕ → ℕ → ℕ → ℕ → Type 0) (part block base end : ℕ) (found : List (FoundBlock F)) (blocks : List IndexedBlock) (before : Landing F)
    → AreFound found blocks → NumberBlocks IsAt part block base blocks → base + length (joined blocks) ≡ end
    → Lands IsAt before (place_before base) → Lands IsAt (last_in_blocks part block found before) (place_before end)
last-blocks IsAt part block base end [] [] before are numbers e lands =
    let same : end ≡ base = omega (arith, e) in
    lands-as IsAt before before _ _ refl (ap place_before same) lands
last-blocks IsAt part block base end [] (b ∷ blocks) before are numbers e lands = cc
last-blocks IsAt part block base end (f ∷ rest) [] before are numbers e lands = absurd are
last-blocks IsAt part block base end (f ∷ rest) (b ∷ blocks) before are numbers e lands =
    last-blocks IsAt part (suc block) (base + length b.entries) end rest blocks _ are.2 numbers.1
    (omega (arith, e, length-append b.entries (joined blocks))) (block-last IsAt part block base f b blocks before numbers are.1 lands)

-- the last row of a part that is found
part-last : {F : Type 0} (IsAt : ℕ → ℕ → ℕ → ℕ → Type 0) (part base : ℕ) (f : FoundPart F) (p : Part) (before : Landing F)
    → NumberBlocks IsAt part 0 base p.blocks → IsFound f p → Lands IsAt before (place_before base)
    → Lands IsAt (then_open f.blocks (λ blocks. last_in_blocks part 0 blocks before)) (place_before (base + length (joined p.blocks)))
part-last IsAt part base f p before numbers is lands =
    lands-as IsAt _ _ _ _ (opens-found f.blocks is.inside (λ blocks. last_in_blocks part 0 blocks before) is.is) refl
    (last-blocks IsAt part 0 base (base + length (joined p.blocks)) is.inside p.blocks before is.blocks numbers refl lands)

pub last-parts : {F : Type 0} (IsAt : ℕ → ℕ → ℕ → ℕ → Type 0) (part base end : ℕ) (found : List (FoundPart F)) (parts : List Part) (before : Landing F)
    → AllFound found parts → NumberParts IsAt part base parts → base + length (stored_in parts) ≡ end
    → Lands IsAt before (place_before base) → Lands IsAt (last_from part found before) (place_before end)
last-parts IsAt part base end [] [] before all numbers e lands =
    let same : end ≡ base = omega (arith, e) in
    lands-as IsAt before before _ _ refl (ap place_before same) lands
last-parts IsAt part base end [] (p ∷ parts) before all numbers e lands = cc
last-parts IsAt part base end (f ∷ rest) [] before all numbers e lands = absurd all
last-parts IsAt part base end (f ∷ rest) (p ∷ parts) before all numbers e lands =
    last-parts IsAt (suc part) (base + length (joined p.blocks)) end rest parts _ all.1 numbers.1
    (omega (arith, e, length-append (joined p.blocks) (stored_in parts))) (part-last IsAt part base f p before numbers.0 all.0 lands)

-- ---- SeekForPrev

prev-by : {F : Type 0} (IsAt : ℕ → ℕ → ℕ → ℕ → Type 0) (v : Bool) (base count : ℕ) (xs ys : List Entry) (n : Option ℕ) (l m : Landing F)
    → Lands IsAt l (place_before ((base + length xs) + or_all ys n)) → Lands IsAt m (place_before (base + count))
    → Lands IsAt (cond v l m) (place_before (base + or_all (xs ++ ys) (cond v (option_map (λ k. length xs + k) n) (Some count))))
prev-by IsAt true base count xs ys n l m on here =
    let same : base + or_all (xs ++ ys) (option_map (λ k. length xs + k) n) ≡ (base + length xs) + or_all ys n = omega (arith, or_all-on xs ys n) in
    lands-as IsAt l l _ _ refl (ap place_before same) on
prev-by IsAt false base count xs ys n l m on here = here

pub prev-blocks : {F : Type 0} (IsAt : ℕ → ℕ → ℕ → ℕ → Type 0) (is_before : List ℕ → Bool) (test : Entry → Bool) (part block base : ℕ)
    (found : List (FoundBlock F)) (blocks : List IndexedBlock) (before : Landing F)
    → AreFound found blocks → NumberBlocks IsAt part block base blocks → Lands IsAt before (place_before base)
    → Lands IsAt (prev_in_blocks is_before test part block found before) (place_before (base + or_all (joined blocks) (passed is_before test blocks)))
prev-blocks IsAt is_before test part block base [] [] before are numbers lands =
    let same : base + 0 ≡ base = omega arith in
    lands-as IsAt before before _ _ refl (ap place_before same) lands
prev-blocks IsAt is_before test part block base [] (b ∷ blocks) before are numbers lands = cc
prev-blocks IsAt is_before test part block base (f ∷ rest) [] before are numbers lands = absurd are
prev-blocks IsAt is_before test part block base (f ∷ rest) (b ∷ blocks) before are numbers lands =
    let last = block-last IsAt part block base f b blocks before numbers are.1 lands in
    let on = prev-blocks IsAt is_before test part (suc block) (base + length b.entries) rest blocks _ are.2 numbers.1 last in
    let row = row-lands_before IsAt part block (count_by test b.entries) base b.entries before numbers.0 (count-in_length test b.entries) lands in
    let here = lands-as IsAt _ _ _ _ (opens-found f.entries b.entries (λ entries. row_or_before part block (count_by test entries) before) are.1) refl row in
    let both = prev-by IsAt (is_before b.separator) base (count_by test b.entries) b.entries (joined blocks) (passed is_before test blocks) _ _ on here in
    lands-as IsAt _ _ _ _ (if-same (is_before f.separator) (is_before b.separator) _ _ (ap is_before are.0)) refl both

pub prev-parts : {F : Type 0} (IsAt : ℕ → ℕ → ℕ → ℕ → Type 0) (is_before : List ℕ → Bool) (test : Entry → Bool) (part base : ℕ)
    (found : List (FoundPart F)) (parts : List Part) (before : Landing F)
    → AllFound found parts → NumberParts IsAt part base parts → Lands IsAt before (place_before base)
    → Lands IsAt (prev_from is_before test part found before) (place_before (base + or_all (stored_in parts) (passed_in is_before test parts)))
prev-parts IsAt is_before test part base [] [] before all numbers lands =
    let same : base + 0 ≡ base = omega arith in
    lands-as IsAt before before _ _ refl (ap place_before same) lands
prev-parts IsAt is_before test part base [] (p ∷ parts) before all numbers lands = cc
prev-parts IsAt is_before test part base (f ∷ rest) [] before all numbers lands = absurd all
prev-parts IsAt is_before test part base (f ∷ rest) (p ∷ parts) before all numbers lands =
    let is = all.0 in
    let last = part-last IsAt part base f p before numbers.0 is lands in
    let on = prev-parts IsAt is_before test (suc part) (base + length (joined p.blocks)) rest parts _ all.1 numbers.1 last in
    let inside = prev-blocks IsAt is_before test part 0 base is.inside p.blocks before is.blocks numbers.0 lands in
    let here = lands-as IsAt _ _ _ _ (opens-found f.blocks is.inside (λ blocks. prev_in_blocks is_before test part 0 blocks before) is.is) refl inside in
    let both = prev-by IsAt (is_before p.separator) base (or_all (joined p.blocks) (passed is_before test p.blocks)) (joined p.blocks) (stored_in parts) (passed_in is_before test parts) _ _ on here in
    lands-as IsAt _ _ _ _ (if-same (is_before f.separator) (is_before p.separator) _ _ (ap is_before is.separator)) refl both

-- ---- Prev

pub back-blocks : {F : Type 0} (IsAt : ℕ → ℕ → ℕ → ℕ → Type 0) (part block base at row : ℕ) (bl : IndexedBlock)
    (found : List (FoundBlock F)) (blocks : List IndexedBlock) (before : Landing F)
    → AreFound found blocks → NumberBlocks IsAt part block base blocks
    → slice_get blocks at ≡ Some bl → row < length bl.entries → Lands IsAt before (place_before base)
    → Lands IsAt (back_in_blocks part block found at row before) (place_before (base + (length (joined (take at blocks)) + row)))
back-blocks IsAt part block base at row bl [] [] before are numbers stands low lands = cc
back-blocks IsAt part block base at row bl [] (b ∷ blocks) before are numbers stands low lands = cc
back-blocks IsAt part block base at row bl (f ∷ rest) [] before are numbers stands low lands = absurd are
back-blocks IsAt part block base zero row bl (f ∷ rest) (b ∷ blocks) before are numbers stands low lands =
    let size : length b.entries ≡ length bl.entries = ap (λ (x : IndexedBlock). length x.entries) (same_Some b bl stands) in
    let here = row-lands_before IsAt part block row base b.entries before numbers.0 (omega (arith, size, low)) lands in
    let same : base + (0 + row) ≡ base + row = omega arith in
    lands-as IsAt _ _ _ _ refl (ap place_before same) here
back-blocks IsAt part block base (suc at) row bl (f ∷ rest) (b ∷ blocks) before are numbers stands low lands =
    let last = block-last IsAt part block base f b blocks before numbers are.1 lands in
    let on = back-blocks IsAt part (suc block) (base + length b.entries) at row bl rest blocks _ are.2 numbers.1 stands low last in
    let same : base + (length (joined (take (suc at) (b ∷ blocks))) + row) ≡ (base + length b.entries) + (length (joined (take at blocks)) + row) =
    omega (arith, length-append b.entries (joined (take at blocks))) in
    lands-as IsAt _ _ _ _ refl (ap place_before same) on

pub back-parts : {F : Type 0} (IsAt : ℕ → ℕ → ℕ → ℕ → Type 0) (part base at block row : ℕ) (p : Part) (bl : IndexedBlock)
    (found : List (FoundPart F)) (parts : List Part) (before : Landing F) → AllFound found parts → NumberParts IsAt part base parts
    → slice_get parts at ≡ Some p → slice_get p.blocks block ≡ Some bl → row < length bl.entries → Lands IsAt before (place_before base)
    → Lands IsAt (back_from part found at block row before)
    (place_before (base + (length (stored_in (take at parts)) + (length (joined (take block p.blocks)) + row))))
back-parts IsAt part base at block row p bl [] [] before all numbers stands inside low lands = cc
back-parts IsAt part base at block row p bl [] (q ∷ parts) before all numbers stands inside low lands = cc
back-parts IsAt part base at block row p bl (f ∷ rest) [] before all numbers stands inside low lands = absurd all
back-parts IsAt part base zero block row p bl (f ∷ rest) (q ∷ parts) before all numbers stands inside low lands =
    let is = all.0 in
    let same_part = same_Some q p stands in
    let there : slice_get q.blocks block ≡ Some bl = ap (λ (x : Part). slice_get x.blocks block) same_part ∙ inside in
    let here = back-blocks IsAt part 0 base block row bl is.inside q.blocks before is.blocks numbers.0 there low lands in
    let counted : length (joined (take block p.blocks)) ≡ length (joined (take block q.blocks)) = ap (λ (x : Part). length (joined (take block x.blocks))) (sym same_part) in
    let same : base + (0 + (length (joined (take block p.blocks)) + row)) ≡ base + (length (joined (take block q.blocks)) + row) = omega (arith, counted) in
    lands-as IsAt _ _ _ _ (opens-found f.blocks is.inside (λ blocks. back_in_blocks part 0 blocks block row before) is.is) (ap place_before same) here
back-parts IsAt part base (suc at) block row p bl (f ∷ rest) (q ∷ parts) before all numbers stands inside low lands =
    let last = part-last IsAt part base f q before numbers.0 all.0 lands in
    let on = back-parts IsAt (suc part) (base + length (joined q.blocks)) at block row p bl rest parts _ all.1 numbers.1 stands inside low last in
    let same : base + (length (stored_in (take (suc at) (q ∷ parts))) + (length (joined (take block p.blocks)) + row))
    ≡ (base + length (joined q.blocks)) + (length (stored_in (take at parts)) + (length (joined (take block p.blocks)) + row)) =
    omega (arith, length-append (joined q.blocks) (stored_in (take at parts))) in
    lands-as IsAt _ _ _ _ refl (ap place_before same) on
