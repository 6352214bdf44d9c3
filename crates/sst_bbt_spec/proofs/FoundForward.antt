-- On a tree that is found without a fault, a way forward ends at the entry of the counted number.
use Rattle.std.proofs.Common.{◌≡◌, ℕ, zero, suc, ◌+◌, ◌<◌, ◌≤◌, Bool, true, false, cond, List, [], ◌∷◌, ◌++◌, length, take, slice_get, count_by, Option, None, Some, option_and_then, Result, Ok, length-append, refl, sym, ap, ◌∙◌, arith}
use Rattle.std.specs.Option.{option_map}
use Rattle.std.proofs.lemmas.Option.{same_Some}
use Rattle.sst_key.specs.declared.entries.Entry.{Entry}
use Rattle.sst_key.proofs.Counting.{count-in_length}
use Rattle.sst_bbt_spec.specs.Way.{IndexedBlock, joined, passed}
use Rattle.sst_bbt_spec.specs.Parts.{Part, stored_in}
use Rattle.sst_bbt_spec.specs.PartWay.{or_all, passed_in}
use Rattle.sst_bbt_spec.specs.FoundParts.{FoundBlock, FoundPart, Landing, then_open, AreFound, AllFound}
use Rattle.sst_bbt_spec.specs.Landings.{row_or_beyond, first_in_blocks, first_from, seek_in_blocks, seek_from, forward_in_blocks, forward_from}
use Rattle.sst_bbt_spec.proofs.PlacesNumbered.{Lands, lands-as, NumberBlocks, NumberParts, within, within-past, row-lands}

-- what is found is looked into
pub opens-found : {A B F : Type 0} (found : Result A F) (a : A) (look : A → Result B F) → found ≡ Ok a → then_open found look ≡ look a
opens-found found a look is = ap (λ (r : Result _ _). then_open r look) is

-- a choice by equal tests
pub if-same : {F : Type 0} (v w : Bool) (l m : Landing F) → v ≡ w → cond v l m ≡ cond w l m
if-same v w l m same = ap (λ (b : Bool). cond b l m) same

-- ---- the first row

pub first-blocks : {F : Type 0} (IsAt : ℕ → ℕ → ℕ → ℕ → Type 0) (part block base end total : ℕ) (found : List (FoundBlock F)) (blocks : List IndexedBlock) (beyond : Landing F)
    → AreFound found blocks → NumberBlocks IsAt part block base blocks → base + length (joined blocks) ≡ end → end ≤ total
    → Lands IsAt beyond (within total end) → Lands IsAt (first_in_blocks part block found beyond) (within total base)
first-blocks IsAt part block base end total [] [] beyond are numbers e fits lands =
    let same : base ≡ end = omega (arith, e) in
    lands-as IsAt beyond beyond _ _ refl (ap (within total) same) lands
first-blocks IsAt part block base end total [] (b ∷ blocks) beyond are numbers e fits lands = cc
first-blocks IsAt part block base end total (f ∷ rest) [] beyond are numbers e fits lands = absurd are
first-blocks IsAt part block base end total (f ∷ rest) (b ∷ blocks) beyond are numbers e fits lands =
    let more = length-append b.entries (joined blocks) in
    let others = first-blocks IsAt part (suc block) (base + length b.entries) end total rest blocks beyond are.2 numbers.1 (omega (arith, e, more)) fits lands in
    let here = row-lands IsAt part block 0 base total b.entries _ numbers.0 (omega arith) (omega (arith, e, more, fits)) others in
    let same : base ≡ base + 0 = omega arith in
    lands-as IsAt _ _ _ _ (opens-found f.entries b.entries _ are.1) (ap (within total) same) here

pub first-parts : {F : Type 0} (IsAt : ℕ → ℕ → ℕ → ℕ → Type 0) (part base total : ℕ) (found : List (FoundPart F)) (parts : List Part)
    → AllFound found parts → NumberParts IsAt part base parts → base + length (stored_in parts) ≡ total
    → Lands IsAt (first_from part found) (within total base)
first-parts IsAt part base total [] [] all numbers e =
    lands-as IsAt _ (Ok None) _ None refl (within-past total base (omega (arith, e))) refl
first-parts IsAt part base total [] (p ∷ parts) all numbers e = cc
first-parts IsAt part base total (f ∷ rest) [] all numbers e = absurd all
first-parts IsAt part base total (f ∷ rest) (p ∷ parts) all numbers e =
    let more = length-append (joined p.blocks) (stored_in parts) in
    let is = all.0 in
    let others = first-parts IsAt (suc part) (base + length (joined p.blocks)) total rest parts all.1 numbers.1 (omega (arith, e, more)) in
    let here = first-blocks IsAt part 0 base (base + length (joined p.blocks)) total is.inside p.blocks _ is.blocks numbers.0 refl (omega (arith, e, more)) others in
    lands-as IsAt _ _ _ _ (opens-found f.blocks is.inside _ is.is) refl here

-- ---- Seek

pub or_all-on : (xs ys : List Entry) (n : Option ℕ) → or_all (xs ++ ys) (option_map (λ m. length xs + m) n) ≡ length xs + or_all ys n
or_all-on xs ys None = length-append xs ys
or_all-on xs ys (Some n) = refl

-- a row of an index that is before the target, or that isn't
seek-by : {F : Type 0} (IsAt : ℕ → ℕ → ℕ → ℕ → Type 0) (v : Bool) (base total count : ℕ) (xs ys : List Entry) (n : Option ℕ) (l m : Landing F)
    → Lands IsAt l (within total ((base + length xs) + or_all ys n)) → Lands IsAt m (within total (base + count))
    → Lands IsAt (cond v l m) (within total (base + or_all (xs ++ ys) (cond v (option_map (λ k. length xs + k) n) (Some count))))
seek-by IsAt true base total count xs ys n l m on here =
    let same : base + or_all (xs ++ ys) (option_map (λ k. length xs + k) n) ≡ (base + length xs) + or_all ys n = omega (arith, or_all-on xs ys n) in
    lands-as IsAt l l _ _ refl (ap (within total) same) on
seek-by IsAt false base total count xs ys n l m on here = here

pub seek-blocks : {F : Type 0} (IsAt : ℕ → ℕ → ℕ → ℕ → Type 0) (is_before : List ℕ → Bool) (test : Entry → Bool) (part block base end total : ℕ)
    (found : List (FoundBlock F)) (blocks : List IndexedBlock) (beyond : Landing F)
    → AreFound found blocks → NumberBlocks IsAt part block base blocks → base + length (joined blocks) ≡ end → end ≤ total
    → Lands IsAt beyond (within total end)
    → Lands IsAt (seek_in_blocks is_before test part block found beyond) (within total (base + or_all (joined blocks) (passed is_before test blocks)))
seek-blocks IsAt is_before test part block base end total [] [] beyond are numbers e fits lands =
    let same : base + 0 ≡ end = omega (arith, e) in
    lands-as IsAt beyond beyond _ _ refl (ap (within total) same) lands
seek-blocks IsAt is_before test part block base end total [] (b ∷ blocks) beyond are numbers e fits lands = cc
seek-blocks IsAt is_before test part block base end total (f ∷ rest) [] beyond are numbers e fits lands = absurd are
seek-blocks IsAt is_before test part block base end total (f ∷ rest) (b ∷ blocks) beyond are numbers e fits lands =
    let more = length-append b.entries (joined blocks) in
    let next : (base + length b.entries) + length (joined blocks) ≡ end = omega (arith, e, more) in
    let on = seek-blocks IsAt is_before test part (suc block) (base + length b.entries) end total rest blocks beyond are.2 numbers.1 next fits lands in
    let others = first-blocks IsAt part (suc block) (base + length b.entries) end total rest blocks beyond are.2 numbers.1 next fits lands in
    let row = row-lands IsAt part block (count_by test b.entries) base total b.entries _ numbers.0 (count-in_length test b.entries) (omega (arith, e, more, fits)) others in
    let here = lands-as IsAt _ _ _ _ (opens-found f.entries b.entries (λ entries. row_or_beyond part block (count_by test entries) entries (first_in_blocks part (suc block) rest beyond)) are.1) refl row in
    let both = seek-by IsAt (is_before b.separator) base total (count_by test b.entries) b.entries (joined blocks) (passed is_before test blocks) _ _ on here in
    lands-as IsAt _ _ _ _ (if-same (is_before f.separator) (is_before b.separator) _ _ (ap is_before are.0)) refl both

part-by : {F : Type 0} (IsAt : ℕ → ℕ → ℕ → ℕ → Type 0) (v : Bool) (base total size inside : ℕ) (n : Option ℕ) (l m : Landing F)
    → Lands IsAt l (option_and_then (λ k. within total ((base + size) + k)) n) → Lands IsAt m (within total (base + inside))
    → Lands IsAt (cond v l m) (option_and_then (λ k. within total (base + k)) (cond v (option_map (λ k. size + k) n) (Some inside)))
part-by IsAt true base total size inside None l m on here = on
part-by IsAt true base total size inside (Some k) l m on here =
    let same : base + (size + k) ≡ (base + size) + k = omega arith in
    lands-as IsAt l l _ _ refl (ap (within total) same) on
part-by IsAt false base total size inside n l m on here = here

pub seek-parts : {F : Type 0} (IsAt : ℕ → ℕ → ℕ → ℕ → Type 0) (is_before : List ℕ → Bool) (test : Entry → Bool) (part base total : ℕ)
    (found : List (FoundPart F)) (parts : List Part) → AllFound found parts → NumberParts IsAt part base parts → base + length (stored_in parts) ≡ total
    → Lands IsAt (seek_from is_before test part found) (option_and_then (λ n. within total (base + n)) (passed_in is_before test parts))
seek-parts IsAt is_before test part base total [] [] all numbers e = refl
seek-parts IsAt is_before test part base total [] (p ∷ parts) all numbers e = cc
seek-parts IsAt is_before test part base total (f ∷ rest) [] all numbers e = absurd all
seek-parts IsAt is_before test part base total (f ∷ rest) (p ∷ parts) all numbers e =
    let more = length-append (joined p.blocks) (stored_in parts) in
    let is = all.0 in
    let next : (base + length (joined p.blocks)) + length (stored_in parts) ≡ total = omega (arith, e, more) in
    let on = seek-parts IsAt is_before test (suc part) (base + length (joined p.blocks)) total rest parts all.1 numbers.1 next in
    let others = first-parts IsAt (suc part) (base + length (joined p.blocks)) total rest parts all.1 numbers.1 next in
    let inside = seek-blocks IsAt is_before test part 0 base (base + length (joined p.blocks)) total is.inside p.blocks _ is.blocks numbers.0 refl (omega (arith, e, more)) others in
    let here = lands-as IsAt _ _ _ _ (opens-found f.blocks is.inside (λ blocks. seek_in_blocks is_before test part 0 blocks (first_from (suc part) rest)) is.is) refl inside in
    let both = part-by IsAt (is_before p.separator) base total (length (joined p.blocks)) (or_all (joined p.blocks) (passed is_before test p.blocks)) (passed_in is_before test parts) _ _ on here in
    lands-as IsAt _ _ _ _ (if-same (is_before f.separator) (is_before p.separator) _ _ (ap is_before is.separator)) refl both

-- ---- Next

pub forward-blocks : {F : Type 0} (IsAt : ℕ → ℕ → ℕ → ℕ → Type 0) (part block base end total at row : ℕ) (bl : IndexedBlock)
    (found : List (FoundBlock F)) (blocks : List IndexedBlock) (beyond : Landing F)
    → AreFound found blocks → NumberBlocks IsAt part block base blocks → base + length (joined blocks) ≡ end → end ≤ total
    → slice_get blocks at ≡ Some bl → row < length bl.entries → Lands IsAt beyond (within total end)
    → Lands IsAt (forward_in_blocks part block found at row beyond) (within total (base + suc (length (joined (take at blocks)) + row)))
forward-blocks IsAt part block base end total at row bl [] [] beyond are numbers e fits stands low lands = cc
forward-blocks IsAt part block base end total at row bl [] (b ∷ blocks) beyond are numbers e fits stands low lands = cc
forward-blocks IsAt part block base end total at row bl (f ∷ rest) [] beyond are numbers e fits stands low lands = absurd are
forward-blocks IsAt part block base end total zero row bl (f ∷ rest) (b ∷ blocks) beyond are numbers e fits stands low lands =
    let more = length-append b.entries (joined blocks) in
    let size : length b.entries ≡ length bl.entries = ap (λ (x : IndexedBlock). length x.entries) (same_Some b bl stands) in
    let others = first-blocks IsAt part (suc block) (base + length b.entries) end total rest blocks beyond are.2 numbers.1 (omega (arith, e, more)) fits lands in
    let here = row-lands IsAt part block (suc row) base total b.entries _ numbers.0 (omega (arith, size, low)) (omega (arith, e, more, fits)) others in
    let same : base + suc (0 + row) ≡ base + suc row = omega arith in
    lands-as IsAt _ _ _ _ (opens-found f.entries b.entries _ are.1) (ap (within total) same) here
forward-blocks IsAt part block base end total (suc at) row bl (f ∷ rest) (b ∷ blocks) beyond are numbers e fits stands low lands =
    let more = length-append b.entries (joined blocks) in
    let on = forward-blocks IsAt part (suc block) (base + length b.entries) end total at row bl rest blocks beyond are.2 numbers.1 (omega (arith, e, more)) fits stands low lands in
    let same : base + suc (length (joined (take (suc at) (b ∷ blocks))) + row) ≡ (base + length b.entries) + suc (length (joined (take at blocks)) + row) =
    omega (arith, length-append b.entries (joined (take at blocks))) in
    lands-as IsAt _ _ _ _ refl (ap (within total) same) on

pub forward-parts : {F : Type 0} (IsAt : ℕ → ℕ → ℕ → ℕ → Type 0) (part base total at block row : ℕ) (p : Part) (bl : IndexedBlock)
    (found : List (FoundPart F)) (parts : List Part) → AllFound found parts → NumberParts IsAt part base parts → base + length (stored_in parts) ≡ total
    → slice_get parts at ≡ Some p → slice_get p.blocks block ≡ Some bl → row < length bl.entries
    → Lands IsAt (forward_from part found at block row)
    (within total (base + suc (length (stored_in (take at parts)) + (length (joined (take block p.blocks)) + row))))
forward-parts IsAt part base total at block row p bl [] [] all numbers e stands inside low = cc
forward-parts IsAt part base total at block row p bl [] (q ∷ parts) all numbers e stands inside low = cc
forward-parts IsAt part base total at block row p bl (f ∷ rest) [] all numbers e stands inside low = absurd all
forward-parts IsAt part base total zero block row p bl (f ∷ rest) (q ∷ parts) all numbers e stands inside low =
    let more = length-append (joined q.blocks) (stored_in parts) in
    let is = all.0 in
    let same_part = same_Some q p stands in
    let there : slice_get q.blocks block ≡ Some bl = ap (λ (x : Part). slice_get x.blocks block) same_part ∙ inside in
    let others = first-parts IsAt (suc part) (base + length (joined q.blocks)) total rest parts all.1 numbers.1 (omega (arith, e, more)) in
    let here = forward-blocks IsAt part 0 base (base + length (joined q.blocks)) total block row bl is.inside q.blocks _ is.blocks numbers.0 refl (omega (arith, e, more)) there low others in
    let counted : length (joined (take block p.blocks)) ≡ length (joined (take block q.blocks)) = ap (λ (x : Part). length (joined (take block x.blocks))) (sym same_part) in
    let same : base + suc (0 + (length (joined (take block p.blocks)) + row)) ≡ base + suc (length (joined (take block q.blocks)) + row) = omega (arith, counted) in
    lands-as IsAt _ _ _ _ (opens-found f.blocks is.inside _ is.is) (ap (within total) same) here
forward-parts IsAt part base total (suc at) block row p bl (f ∷ rest) (q ∷ parts) all numbers e stands inside low =
    let more = length-append (joined q.blocks) (stored_in parts) in
    let on = forward-parts IsAt (suc part) (base + length (joined q.blocks)) total at block row p bl rest parts all.1 numbers.1 (omega (arith, e, more)) stands inside low in
    let same : base + suc (length (stored_in (take (suc at) (q ∷ parts))) + (length (joined (take block p.blocks)) + row))
    ≡ (base + length (joined q.blocks)) + suc (length (stored_in (take at parts)) + (length (joined (take block p.blocks)) + row)) =
    omega (arith, length-append (joined q.blocks) (stored_in (take at parts))) in
    lands-as IsAt _ _ _ _ refl (ap (within total) same) on
