-- Places that are numbered in the list of all entries, and landings at them.
use Rattle.std.proofs.Common.{◌≡◌, ℕ, zero, suc, ◌+◌, ◌<◌, ◌≤◌, nat_lt, if◌then◌else◌, List, [], ◌∷◌, length, take, slice_get, Option, None, Some, Ok, length-append, refl, sym, ap, subst, inl, inr, arith}
use Rattle.std.proofs.lemmas.Bool.{cases_lt, lt-ltb, le-ltb}
use Rattle.sst_key.specs.declared.entries.Entry.{Entry}
use Rattle.sst_key.specs.ListMachine.{place_before}
use Rattle.sst_bbt_spec.specs.Way.{IndexedBlock, joined}
use Rattle.sst_bbt_spec.specs.Parts.{Part, stored_in}
use Rattle.sst_bbt_spec.specs.FoundParts.{Place, Landing, IsNumbered, LandsAt}
use Rattle.sst_bbt_spec.specs.Landings.{row_or_beyond, row_or_before}

-- a landing at the place of this number, or at none; `IsAt` says which part, block and row have which number
abbrev pub Lands : {F : Type 0} → (ℕ → ℕ → ℕ → ℕ → Type 0) → Landing F → Option ℕ → Type 0
Lands IsAt landing None = landing ≡ Ok None
Lands IsAt landing (Some n) = (place : Place) × (landing ≡ Ok (Some place)) × IsAt place.part place.block place.row n

pub lands-as : {F : Type 0} (IsAt : ℕ → ℕ → ℕ → ℕ → Type 0) (l m : Landing F) (n k : Option ℕ) → l ≡ m → n ≡ k → Lands IsAt m k → Lands IsAt l n
lands-as IsAt l m n k landings numbers lands =
    let same = subst (λ (o : Option ℕ). Lands IsAt m o) (sym numbers) lands in
    subst (λ (o : Landing _). Lands IsAt o n) (sym landings) same

-- the rows of blocks have the numbers from `base` on
abbrev pub NumberBlocks : (ℕ → ℕ → ℕ → ℕ → Type 0) → ℕ → ℕ → ℕ → List IndexedBlock → Type 0
NumberBlocks IsAt part block base [] = Unit {0}
NumberBlocks IsAt part block base (b ∷ rest) =
    ((row : ℕ) → row < length b.entries → IsAt part block row (base + row)) × NumberBlocks IsAt part (suc block) (base + length b.entries) rest

-- and those of parts
abbrev pub NumberParts : (ℕ → ℕ → ℕ → ℕ → Type 0) → ℕ → ℕ → List Part → Type 0
NumberParts IsAt part base [] = Unit {0}
NumberParts IsAt part base (p ∷ rest) =
    NumberBlocks IsAt part 0 base p.blocks × NumberParts IsAt (suc part) (base + length (joined p.blocks)) rest

-- ---- rows

-- the number, if there are more entries than that
abbrev pub within : ℕ → ℕ → Option ℕ
within total n = if nat_lt n total then Some n else None

pub within-past : (total n : ℕ) → total ≤ n → within total n ≡ None
within-past total n past = rw (le-ltb n total past) refl

within-here : (total n : ℕ) → n < total → within total n ≡ Some n
within-here total n low = rw (lt-ltb n total low) refl

row-here : {F : Type 0} (part block row : ℕ) (entries : List Entry) (beyond : Landing F) → row < length entries
    → row_or_beyond part block row entries beyond ≡ Ok (Some (record { part = part; block = block; row = row }))
row-here part block row entries beyond low = rw (lt-ltb row (length entries) low) refl

row-past : {F : Type 0} (part block row : ℕ) (entries : List Entry) (beyond : Landing F) → length entries ≤ row
    → row_or_beyond part block row entries beyond ≡ beyond
row-past part block row entries beyond past = rw (le-ltb row (length entries) past) refl

pub row-lands : {F : Type 0} (IsAt : ℕ → ℕ → ℕ → ℕ → Type 0) (part block row base total : ℕ) (entries : List Entry) (beyond : Landing F)
    → ((k : ℕ) → k < length entries → IsAt part block k (base + k)) → row ≤ length entries → base + length entries ≤ total
    → Lands IsAt beyond (within total (base + length entries)) → Lands IsAt (row_or_beyond part block row entries beyond) (within total (base + row))
row-lands IsAt part block row base total entries beyond numbers most fits lands =
    elim (cases_lt row (length entries)) [
      | inl low ↦ (
          lands-as IsAt _ (Ok (Some (record { part = part; block = block; row = row }))) _ (Some (base + row)) (row-here part block row entries beyond low)
          (within-here total (base + row) (omega (arith, low, fits))) (record { part = part; block = block; row = row }, refl, numbers row low))
      | inr past ↦ (
          let same : row ≡ length entries = omega (arith, most, past) in
          lands-as IsAt _ beyond _ (within total (base + length entries)) (row-past part block row entries beyond past)
          (ap (λ (n : ℕ). within total (base + n)) same) lands)
    ]

pub row-lands_before : {F : Type 0} (IsAt : ℕ → ℕ → ℕ → ℕ → Type 0) (part block n base : ℕ) (entries : List Entry) (before : Landing F)
    → ((k : ℕ) → k < length entries → IsAt part block k (base + k)) → n ≤ length entries
    → Lands IsAt before (place_before base) → Lands IsAt (row_or_before part block n before) (place_before (base + n))
row-lands_before IsAt part block zero base entries before numbers most lands =
    let same : base + zero ≡ base = omega arith in
    lands-as IsAt before before (place_before (base + zero)) (place_before base) refl (ap place_before same) lands
row-lands_before IsAt part block (suc row) base entries before numbers most lands =
    let same : base + suc row ≡ suc (base + row) = omega arith in
    let place : Place = record { part = part; block = block; row = row } in
    lands-as IsAt _ (Ok (Some place)) _ (Some (base + row)) refl (ap place_before same) (place, refl, numbers row (omega (arith, most)))

-- ---- the numbers of a tree

at-same : (IsAt : ℕ → ℕ → ℕ → ℕ → Type 0) (p q b c r n m : ℕ) → p ≡ q → b ≡ c → n ≡ m → IsAt p b r n → IsAt q c r m
at-same IsAt p q b c r n m parts blocks numbers at =
    let one = subst (λ (x : ℕ). IsAt x b r n) parts at in
    let two = subst (λ (x : ℕ). IsAt q x r n) blocks one in
    subst (λ (x : ℕ). IsAt q c r x) numbers two

number-blocks : (IsAt : ℕ → ℕ → ℕ → ℕ → Type 0) (part block base : ℕ) (blocks : List IndexedBlock)
    → ((b row : ℕ) (bl : IndexedBlock) → slice_get blocks b ≡ Some bl → row < length bl.entries
    → IsAt part (block + b) row (base + (length (joined (take b blocks)) + row)))
    → NumberBlocks IsAt part block base blocks
number-blocks IsAt part block base [] each = tt
number-blocks IsAt part block base (x ∷ rest) each = (
  λ row low. at-same IsAt part part (block + zero) block row _ (base + row) refl (omega arith) (omega arith) (each zero row x refl low),
  number-blocks IsAt part (suc block) (base + length x.entries) rest (λ b row bl at low.
      at-same IsAt part part (block + suc b) (suc block + b) row _ _ refl (omega arith)
      (omega (arith, length-append x.entries (joined (take b rest)))) (each (suc b) row bl at low)),
)

number-parts : (IsAt : ℕ → ℕ → ℕ → ℕ → Type 0) (part base : ℕ) (parts : List Part)
    → ((k b row : ℕ) (p : Part) (bl : IndexedBlock) → slice_get parts k ≡ Some p → slice_get p.blocks b ≡ Some bl → row < length bl.entries
    → IsAt (part + k) b row (base + (length (stored_in (take k parts)) + (length (joined (take b p.blocks)) + row))))
    → NumberParts IsAt part base parts
number-parts IsAt part base [] each = tt
number-parts IsAt part base (x ∷ rest) each = (
  number-blocks IsAt part 0 base x.blocks (λ b row bl at low.
      at-same IsAt (part + zero) part b (0 + b) row _ _ (omega arith) (omega arith) (omega arith) (each zero b row x bl refl at low)),
  number-parts IsAt (suc part) (base + length (joined x.blocks)) rest (λ k b row p bl at inside low.
      at-same IsAt (part + suc k) (suc part + k) b b row _ _ (omega arith) refl
      (omega (arith, length-append (joined x.blocks) (stored_in (take k rest)))) (each (suc k) b row p bl at inside low)),
)

-- which part, block and row of a tree have which number
abbrev pub At : List Part → ℕ → ℕ → ℕ → ℕ → Type 0
At parts part block row number = IsNumbered parts (record { part = part; block = block; row = row }) number

pub tree-numbers : (parts : List Part) → NumberParts (At parts) 0 0 parts
tree-numbers parts =
    number-parts (At parts) 0 0 parts (λ k b row p bl at inside low.
    at-same (At parts) k (0 + k) b b row (length (stored_in (take k parts)) + (length (joined (take b p.blocks)) + row)) _ (omega arith) refl (omega arith)
    (record { part = p; at_part = at; block = bl; at_block = inside; at_row = low; counts = refl }))

pub lands-at : {F : Type 0} (parts : List Part) (landing : Landing F) (number : Option ℕ) → Lands (At parts) landing number → LandsAt parts landing number
lands-at parts landing None lands = record { place = None; is = lands; numbered = tt }
lands-at parts landing (Some n) lands = record { place = Some lands.0; is = lands.1; numbered = lands.2 }
