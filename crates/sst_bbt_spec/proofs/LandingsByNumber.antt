-- The rules of a way by the numbers of the rows of an index: what they come to at a part or a block of this number, with
-- what lies behind it or before it. A reader that finds that row by halving goes so.
use Rattle.std.proofs.Common.{◌≡◌, ℕ, zero, suc, ◌+◌, ◌<◌, ◌≤◌, Bool, true, false, cond, List, [], ◌∷◌, length, take, drop, slice_get, count_by, None, Some, Ok, refl, ap, ◌∙◌, arith}
use Rattle.std.proofs.lemmas.Option.{same_Some}
use Rattle.sst_key.specs.declared.entries.Entry.{Entry}
use Rattle.sst_bbt_spec.specs.FoundParts.{FoundBlock, FoundPart, Landing, then_open}
use Rattle.sst_bbt_spec.specs.Landings.{row_or_beyond, row_or_before, first_in_blocks, first_from, last_in_blocks, last_from, seek_in_blocks, seek_from, prev_in_blocks, prev_from, forward_in_blocks, forward_from, back_in_blocks, back_from}

-- the parts ahead of this number are before the target
abbrev pub PartsAhead : {F : Type 0} → (List ℕ → Bool) → List (FoundPart F) → ℕ → Type 0
PartsAhead {F} is_before found j = (i : ℕ) (x : FoundPart F) → i < j → slice_get found i ≡ Some x → is_before x.separator ≡ true

-- and the blocks
abbrev pub BlocksAhead : {F : Type 0} → (List ℕ → Bool) → List (FoundBlock F) → ℕ → Type 0
BlocksAhead {F} is_before found j = (i : ℕ) (x : FoundBlock F) → i < j → slice_get found i ≡ Some x → is_before x.separator ≡ true

parts-tail : {F : Type 0} (is_before : List ℕ → Bool) (x : FoundPart F) (rest : List (FoundPart F)) (j : ℕ) → PartsAhead is_before (x ∷ rest) (suc j)
    → PartsAhead is_before rest j
parts-tail is_before x rest j ahead = λ i y low at. ahead (suc i) y (omega (arith, low)) at

blocks-tail : {F : Type 0} (is_before : List ℕ → Bool) (x : FoundBlock F) (rest : List (FoundBlock F)) (j : ℕ) → BlocksAhead is_before (x ∷ rest) (suc j)
    → BlocksAhead is_before rest j
blocks-tail is_before x rest j ahead = λ i y low at. ahead (suc i) y (omega (arith, low)) at

-- a choice whose test is known
taken : {F : Type 0} (v : Bool) (l m : Landing F) → v ≡ true → cond v l m ≡ l
taken v l m is = ap (λ (b : Bool). cond b l m) is

left-out : {F : Type 0} (v : Bool) (l m : Landing F) → v ≡ false → cond v l m ≡ m
left-out v l m is = ap (λ (b : Bool). cond b l m) is

-- the same at an equal node with an equal number
same-node : {X R : Type 0} (make : X → ℕ → R) (x y : X) (n m : ℕ) → x ≡ y → n ≡ m → make x n ≡ make y m
same-node make x y n m nodes numbers = ap (λ z. make z n) nodes ∙ ap (make y) numbers

here : (part k : ℕ) → k ≡ part + zero → part ≡ k
here part k e = omega (arith, e)

further : (part j k : ℕ) → k ≡ part + suc j → k ≡ suc part + j
further part j k e = omega (arith, e)

-- ---- the first row from a number on

pub first-part : {F : Type 0} (part j : ℕ) (found : List (FoundPart F)) (f : FoundPart F) → slice_get found j ≡ Some f
    → first_from part (drop j found) ≡ then_open f.blocks (λ blocks. first_in_blocks part 0 blocks (first_from (suc part) (drop (suc j) found)))
first-part part j [] f at = cc
first-part part zero (x ∷ rest) f at =
    ap (λ (y : FoundPart _). then_open y.blocks (λ blocks. first_in_blocks part 0 blocks (first_from (suc part) rest))) (same_Some x f at)
first-part part (suc j) (x ∷ rest) f at = first-part part j rest f at

pub first-no_part : {F : Type 0} (part j : ℕ) (found : List (FoundPart F)) → length found ≤ j → first_from part (drop j found) ≡ Ok None
first-no_part part zero [] past = refl
first-no_part part (suc j) [] past = refl
first-no_part part zero (x ∷ rest) past = absurd (omega (arith, past))
first-no_part part (suc j) (x ∷ rest) past = first-no_part part j rest (omega (arith, past))

pub first-block : {F : Type 0} (part block j : ℕ) (found : List (FoundBlock F)) (f : FoundBlock F) (beyond : Landing F) → slice_get found j ≡ Some f
    → first_in_blocks part block (drop j found) beyond
    ≡ then_open f.entries (λ entries. row_or_beyond part block 0 entries (first_in_blocks part (suc block) (drop (suc j) found) beyond))
first-block part block j [] f beyond at = cc
first-block part block zero (x ∷ rest) f beyond at =
    ap (λ (y : FoundBlock _). then_open y.entries (λ entries. row_or_beyond part block 0 entries (first_in_blocks part (suc block) rest beyond))) (same_Some x f at)
first-block part block (suc j) (x ∷ rest) f beyond at = first-block part block j rest f beyond at

pub first-no_block : {F : Type 0} (part block j : ℕ) (found : List (FoundBlock F)) (beyond : Landing F) → length found ≤ j
    → first_in_blocks part block (drop j found) beyond ≡ beyond
first-no_block part block zero [] beyond past = refl
first-no_block part block (suc j) [] beyond past = refl
first-no_block part block zero (x ∷ rest) beyond past = absurd (omega (arith, past))
first-no_block part block (suc j) (x ∷ rest) beyond past = first-no_block part block j rest beyond (omega (arith, past))

-- ---- the last row up to a number

pub last-part : {F : Type 0} (part j k : ℕ) (found : List (FoundPart F)) (f : FoundPart F) (before : Landing F) → k ≡ part + j → slice_get found j ≡ Some f
    → last_from part (take (suc j) found) before ≡ then_open f.blocks (λ blocks. last_in_blocks k 0 blocks (last_from part (take j found) before))
last-part part j k [] f before e at = cc
last-part part zero k (x ∷ rest) f before e at =
    same-node (λ (y : FoundPart _) n. then_open y.blocks (λ blocks. last_in_blocks n 0 blocks before)) x f part k (same_Some x f at) (here part k e)
last-part part (suc j) k (x ∷ rest) f before e at = last-part (suc part) j k rest f _ (further part j k e) at

pub last-block : {F : Type 0} (part block j k : ℕ) (found : List (FoundBlock F)) (f : FoundBlock F) (before : Landing F) → k ≡ block + j → slice_get found j ≡ Some f
    → last_in_blocks part block (take (suc j) found) before
    ≡ then_open f.entries (λ entries. row_or_before part k (length entries) (last_in_blocks part block (take j found) before))
last-block part block j k [] f before e at = cc
last-block part block zero k (x ∷ rest) f before e at =
    same-node (λ (y : FoundBlock _) n. then_open y.entries (λ entries. row_or_before part n (length entries) before)) x f block k (same_Some x f at) (here block k e)
last-block part block (suc j) k (x ∷ rest) f before e at = last-block part (suc block) j k rest f _ (further block j k e) at

-- ---- Seek

pub seek-part : {F : Type 0} (is_before : List ℕ → Bool) (test : Entry → Bool) (part j k : ℕ) (found : List (FoundPart F)) (f : FoundPart F) → k ≡ part + j
    → PartsAhead is_before found j → slice_get found j ≡ Some f → is_before f.separator ≡ false
    → seek_from is_before test part found
    ≡ then_open f.blocks (λ blocks. seek_in_blocks is_before test k 0 blocks (first_from (suc k) (drop (suc j) found)))
seek-part is_before test part j k [] f e ahead at is = cc
seek-part is_before test part zero k (x ∷ rest) f e ahead at is =
    let same = same_Some x f at in
    left-out (is_before x.separator) _ _ (ap (λ (y : FoundPart _). is_before y.separator) same ∙ is)
    ∙ same-node (λ (y : FoundPart _) n. then_open y.blocks (λ blocks. seek_in_blocks is_before test n 0 blocks (first_from (suc n) rest))) x f part k same (here part k e)
seek-part is_before test part (suc j) k (x ∷ rest) f e ahead at is =
    taken (is_before x.separator) _ _ (ahead 0 x (omega arith) refl)
    ∙ seek-part is_before test (suc part) j k rest f (further part j k e) (parts-tail is_before x rest j ahead) at is

pub seek-no_part : {F : Type 0} (is_before : List ℕ → Bool) (test : Entry → Bool) (part : ℕ) (found : List (FoundPart F))
    → PartsAhead is_before found (length found) → seek_from is_before test part found ≡ Ok None
seek-no_part is_before test part [] ahead = refl
seek-no_part is_before test part (x ∷ rest) ahead =
    taken (is_before x.separator) _ _ (ahead 0 x (omega arith) refl)
    ∙ seek-no_part is_before test (suc part) rest (parts-tail is_before x rest (length rest) ahead)

pub seek-block : {F : Type 0} (is_before : List ℕ → Bool) (test : Entry → Bool) (part block j k : ℕ) (found : List (FoundBlock F)) (f : FoundBlock F) (beyond : Landing F)
    → k ≡ block + j → BlocksAhead is_before found j → slice_get found j ≡ Some f → is_before f.separator ≡ false
    → seek_in_blocks is_before test part block found beyond
    ≡ then_open f.entries (λ entries. row_or_beyond part k (count_by test entries) entries (first_in_blocks part (suc k) (drop (suc j) found) beyond))
seek-block is_before test part block j k [] f beyond e ahead at is = cc
seek-block is_before test part block zero k (x ∷ rest) f beyond e ahead at is =
    let same = same_Some x f at in
    left-out (is_before x.separator) _ _ (ap (λ (y : FoundBlock _). is_before y.separator) same ∙ is)
    ∙ same-node (λ (y : FoundBlock _) n. then_open y.entries (λ entries. row_or_beyond part n (count_by test entries) entries (first_in_blocks part (suc n) rest beyond))) x f block k same (here block k e)
seek-block is_before test part block (suc j) k (x ∷ rest) f beyond e ahead at is =
    taken (is_before x.separator) _ _ (ahead 0 x (omega arith) refl)
    ∙ seek-block is_before test part (suc block) j k rest f beyond (further block j k e) (blocks-tail is_before x rest j ahead) at is

pub seek-no_block : {F : Type 0} (is_before : List ℕ → Bool) (test : Entry → Bool) (part block : ℕ) (found : List (FoundBlock F)) (beyond : Landing F)
    → BlocksAhead is_before found (length found) → seek_in_blocks is_before test part block found beyond ≡ beyond
seek-no_block is_before test part block [] beyond ahead = refl
seek-no_block is_before test part block (x ∷ rest) beyond ahead =
    taken (is_before x.separator) _ _ (ahead 0 x (omega arith) refl)
    ∙ seek-no_block is_before test part (suc block) rest beyond (blocks-tail is_before x rest (length rest) ahead)

-- ---- SeekForPrev

pub prev-part : {F : Type 0} (is_before : List ℕ → Bool) (test : Entry → Bool) (part j k : ℕ) (found : List (FoundPart F)) (f : FoundPart F) (before : Landing F)
    → k ≡ part + j → PartsAhead is_before found j → slice_get found j ≡ Some f → is_before f.separator ≡ false
    → prev_from is_before test part found before
    ≡ then_open f.blocks (λ blocks. prev_in_blocks is_before test k 0 blocks (last_from part (take j found) before))
prev-part is_before test part j k [] f before e ahead at is = cc
prev-part is_before test part zero k (x ∷ rest) f before e ahead at is =
    let same = same_Some x f at in
    left-out (is_before x.separator) _ _ (ap (λ (y : FoundPart _). is_before y.separator) same ∙ is)
    ∙ same-node (λ (y : FoundPart _) n. then_open y.blocks (λ blocks. prev_in_blocks is_before test n 0 blocks before)) x f part k same (here part k e)
prev-part is_before test part (suc j) k (x ∷ rest) f before e ahead at is =
    taken (is_before x.separator) _ _ (ahead 0 x (omega arith) refl)
    ∙ prev-part is_before test (suc part) j k rest f _ (further part j k e) (parts-tail is_before x rest j ahead) at is

pub prev-no_part : {F : Type 0} (is_before : List ℕ → Bool) (test : Entry → Bool) (part : ℕ) (found : List (FoundPart F)) (before : Landing F)
    → PartsAhead is_before found (length found) → prev_from is_before test part found before ≡ last_from part found before
prev-no_part is_before test part [] before ahead = refl
prev-no_part is_before test part (x ∷ rest) before ahead =
    taken (is_before x.separator) _ _ (ahead 0 x (omega arith) refl)
    ∙ prev-no_part is_before test (suc part) rest _ (parts-tail is_before x rest (length rest) ahead)

pub prev-block : {F : Type 0} (is_before : List ℕ → Bool) (test : Entry → Bool) (part block j k : ℕ) (found : List (FoundBlock F)) (f : FoundBlock F) (before : Landing F)
    → k ≡ block + j → BlocksAhead is_before found j → slice_get found j ≡ Some f → is_before f.separator ≡ false
    → prev_in_blocks is_before test part block found before
    ≡ then_open f.entries (λ entries. row_or_before part k (count_by test entries) (last_in_blocks part block (take j found) before))
prev-block is_before test part block j k [] f before e ahead at is = cc
prev-block is_before test part block zero k (x ∷ rest) f before e ahead at is =
    let same = same_Some x f at in
    left-out (is_before x.separator) _ _ (ap (λ (y : FoundBlock _). is_before y.separator) same ∙ is)
    ∙ same-node (λ (y : FoundBlock _) n. then_open y.entries (λ entries. row_or_before part n (count_by test entries) before)) x f block k same (here block k e)
prev-block is_before test part block (suc j) k (x ∷ rest) f before e ahead at is =
    taken (is_before x.separator) _ _ (ahead 0 x (omega arith) refl)
    ∙ prev-block is_before test part (suc block) j k rest f _ (further block j k e) (blocks-tail is_before x rest j ahead) at is

pub prev-no_block : {F : Type 0} (is_before : List ℕ → Bool) (test : Entry → Bool) (part block : ℕ) (found : List (FoundBlock F)) (before : Landing F)
    → BlocksAhead is_before found (length found) → prev_in_blocks is_before test part block found before ≡ last_in_blocks part block found before
prev-no_block is_before test part block [] before ahead = refl
prev-no_block is_before test part block (x ∷ rest) before ahead =
    taken (is_before x.separator) _ _ (ahead 0 x (omega arith) refl)
    ∙ prev-no_block is_before test part (suc block) rest _ (blocks-tail is_before x rest (length rest) ahead)

-- ---- Next and Prev

pub forward-part : {F : Type 0} (part j k block row : ℕ) (found : List (FoundPart F)) (f : FoundPart F) → k ≡ part + j → slice_get found j ≡ Some f
    → forward_from part found j block row
    ≡ then_open f.blocks (λ blocks. forward_in_blocks k 0 blocks block row (first_from (suc k) (drop (suc j) found)))
forward-part part j k block row [] f e at = cc
forward-part part zero k block row (x ∷ rest) f e at =
    same-node (λ (y : FoundPart _) n. then_open y.blocks (λ blocks. forward_in_blocks n 0 blocks block row (first_from (suc n) rest))) x f part k (same_Some x f at) (here part k e)
forward-part part (suc j) k block row (x ∷ rest) f e at = forward-part (suc part) j k block row rest f (further part j k e) at

pub forward-block : {F : Type 0} (part block j k row : ℕ) (found : List (FoundBlock F)) (f : FoundBlock F) (beyond : Landing F) → k ≡ block + j → slice_get found j ≡ Some f
    → forward_in_blocks part block found j row beyond
    ≡ then_open f.entries (λ entries. row_or_beyond part k (suc row) entries (first_in_blocks part (suc k) (drop (suc j) found) beyond))
forward-block part block j k row [] f beyond e at = cc
forward-block part block zero k row (x ∷ rest) f beyond e at =
    same-node (λ (y : FoundBlock _) n. then_open y.entries (λ entries. row_or_beyond part n (suc row) entries (first_in_blocks part (suc n) rest beyond))) x f block k (same_Some x f at) (here block k e)
forward-block part block (suc j) k row (x ∷ rest) f beyond e at = forward-block part (suc block) j k row rest f beyond (further block j k e) at

pub back-part : {F : Type 0} (part j k block row : ℕ) (found : List (FoundPart F)) (f : FoundPart F) (before : Landing F) → k ≡ part + j → slice_get found j ≡ Some f
    → back_from part found j block row before
    ≡ then_open f.blocks (λ blocks. back_in_blocks k 0 blocks block row (last_from part (take j found) before))
back-part part j k block row [] f before e at = cc
back-part part zero k block row (x ∷ rest) f before e at =
    same-node (λ (y : FoundPart _) n. then_open y.blocks (λ blocks. back_in_blocks n 0 blocks block row before)) x f part k (same_Some x f at) (here part k e)
back-part part (suc j) k block row (x ∷ rest) f before e at = back-part (suc part) j k block row rest f _ (further part j k e) at

pub back-block : {F : Type 0} (part block j k row : ℕ) (found : List (FoundBlock F)) (f : FoundBlock F) (before : Landing F) → k ≡ block + j → slice_get found j ≡ Some f
    → back_in_blocks part block found j row before ≡ row_or_before part k row (last_in_blocks part block (take j found) before)
back-block part block j k row [] f before e at = cc
back-block part block zero k row (x ∷ rest) f before e at =
    let same = here block k e in
    ap (λ (n : ℕ). row_or_before part n row before) same
back-block part block (suc j) k row (x ∷ rest) f before e at = back-block part (suc block) j k row rest f _ (further block j k e) at
