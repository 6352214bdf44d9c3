-- The ends of the runs of a list: where each begins, and those of some runs in a row.
use Rattle.std.proofs.Common.{◌≡◌, ℕ, zero, suc, ◌+◌, ◌-◌, ◌<◌, ◌≤◌, List, [], ◌∷◌, length, take, drop, slice_get, Some, refl, sym, ap, ◌∙◌, subst, arith}
use Rattle.std.proofs.lemmas.List.{length-take-le, length-drop}
use Rattle.std.proofs.lemmas.Option.{same_Some, slice_get_past}
use Rattle.sst_bbt_read.specs.TableBlocks.{AreEnds, start_at}
use Rattle.sst_bbt_read.specs.declared.kept_table.RunEnd.{RunEnd}

-- what stands from a place up to another
abbrev pub between : {A : Type 0} → List A → ℕ → ℕ → List A
between xs start end = take (end - start) (drop start xs)

pub length-between : {A : Type 0} (xs : List A) (start end : ℕ) → start ≤ end → end ≤ length xs → length (between xs start end) ≡ end - start
length-between {A} xs start end low within = length-take-le (end - start) (drop start xs) (omega (arith, length-drop start xs))

slice_get-take : {A : Type 0} (xs : List A) (n i : ℕ) → i < n → slice_get (take n xs) i ≡ slice_get xs i
slice_get-take {A} xs zero i low = absurd (omega (arith, low))
slice_get-take {A} [] (suc n) i low = refl
slice_get-take {A} (x ∷ xs) (suc n) zero low = refl
slice_get-take {A} (x ∷ xs) (suc n) (suc i) low = slice_get-take xs n i (omega (arith, low))

slice_get-drop : {A : Type 0} (xs : List A) (n i k : ℕ) → k ≡ n + i → slice_get (drop n xs) i ≡ slice_get xs k
slice_get-drop {A} xs zero i k is = let same : i ≡ k = omega (arith, is) in ap (slice_get xs) same
slice_get-drop {A} [] (suc n) zero k is = sym (slice_get_past {X = A} [] k (omega arith))
slice_get-drop {A} [] (suc n) (suc i) k is = sym (slice_get_past {X = A} [] k (omega arith))
slice_get-drop {A} (x ∷ xs) (suc n) i zero is = absurd (omega (arith, is))
slice_get-drop {A} (x ∷ xs) (suc n) i (suc k) is = slice_get-drop xs n i k (omega (arith, is))

-- the i-th of those is the one that stands so far behind the start
pub between-at : {A : Type 0} (xs : List A) (start end i : ℕ) → start + i < end → slice_get (between xs start end) i ≡ slice_get xs (start + i)
between-at {A} xs start end i low =
    slice_get-take (drop start xs) (end - start) i (omega (arith, low)) ∙ slice_get-drop xs start i (start + i) refl

-- ---- where runs begin

start-none : (start i : ℕ) → start_at start [] i ≡ start
start-none start zero = refl
start-none start (suc i) = refl

pub start-drop : (start : ℕ) (ends : List RunEnd) (k j n : ℕ) → n ≡ k + j → start_at (start_at start ends k) (drop k ends) j ≡ start_at start ends n
start-drop start ends zero j n is = let same : j ≡ n = omega (arith, is) in ap (start_at start ends) same
start-drop start [] (suc k) j n is = start-none start j ∙ sym (start-none start n)
start-drop start (b ∷ rest) (suc k) j zero is = absurd (omega (arith, is))
start-drop start (b ∷ rest) (suc k) j (suc n) is = start-drop b.end rest k j n (omega (arith, is))

start-take : (start : ℕ) (ends : List RunEnd) (n k : ℕ) → k ≤ n → start_at start (take n ends) k ≡ start_at start ends k
start-take start ends n zero low = refl
start-take start ends zero (suc k) low = absurd (omega (arith, low))
start-take start [] (suc n) (suc k) low = refl
start-take start (b ∷ rest) (suc n) (suc k) low = start-take b.end rest n k (omega (arith, low))

-- where one of some runs in a row begins
pub start-between : (start : ℕ) (ends : List RunEnd) (i j k : ℕ) → i + k ≤ j → start_at (start_at start ends i) (between ends i j) k ≡ start_at start ends (i + k)
start-between start ends i j k low =
    start-take (start_at start ends i) (drop i ends) (j - i) k (omega (arith, low)) ∙ start-drop start ends i k (i + k) refl

-- each run ends where the next begins
pub behind-at : (start : ℕ) (ends : List RunEnd) (i : ℕ) (b : RunEnd) → slice_get ends i ≡ Some b → b.end ≡ start_at start ends (suc i)
behind-at start [] i b at = cc
behind-at start (x ∷ rest) zero b at = ap (λ (b : RunEnd). b.end) (sym (same_Some x b at))
behind-at start (x ∷ rest) (suc i) b at = behind-at x.end rest i b at

-- each run begins before it ends, and ends within the list
pub run-within : (start : ℕ) (ends : List RunEnd) (count i : ℕ) (b : RunEnd) → AreEnds start ends count → slice_get ends i ≡ Some b
    → (start ≤ start_at start ends i) × (start_at start ends i < b.end) × (b.end ≤ count)
run-within start [] count i b are at = cc
run-within start (x ∷ rest) count zero b (low, within, more) at =
    let same = ap (λ (b : RunEnd). b.end) (same_Some x b at) in
    (omega arith, omega (arith, low, same), omega (arith, within, same))
run-within start (x ∷ rest) count (suc i) b (low, within, more) at =
    let later = run-within x.end rest count i b more at in
    (omega (arith, low, later.0), later.1, later.2)

-- ---- some runs in a row

pub ends-over : (start : ℕ) (ends : List RunEnd) (count : ℕ) → AreEnds start ends count → start ≤ count
ends-over start [] count are = omega (arith, are)
ends-over start (b ∷ rest) count are = omega (arith, are.0, are.1)

ends-drop : (start : ℕ) (ends : List RunEnd) (count k : ℕ) → AreEnds start ends count → k ≤ length ends → AreEnds (start_at start ends k) (drop k ends) count
ends-drop start ends count zero are low = are
ends-drop start [] count (suc k) are low = absurd (omega (arith, low))
ends-drop start (b ∷ rest) count (suc k) are low = ends-drop b.end rest count k are.2 (omega (arith, low))

ends-take : (start : ℕ) (ends : List RunEnd) (count k : ℕ) → AreEnds start ends count → k ≤ length ends → AreEnds start (take k ends) (start_at start ends k)
ends-take start ends count zero are low = refl
ends-take start [] count (suc k) are low = absurd (omega (arith, low))
ends-take start (b ∷ rest) count (suc k) are low =
    let more = ends-take b.end rest count k are.2 (omega (arith, low)) in
    (are.0, ends-over b.end (take k rest) (start_at b.end rest k) more, more)

pub ends-between : (start : ℕ) (ends : List RunEnd) (count i j : ℕ) → AreEnds start ends count → i ≤ j → j ≤ length ends
    → AreEnds (start_at start ends i) (between ends i j) (start_at start ends j)
ends-between start ends count i j are low within =
    subst (AreEnds (start_at start ends i) (between ends i j)) (start-drop start ends i (j - i) j (omega (arith, low)))
    (ends-take (start_at start ends i) (drop i ends) count (j - i) (ends-drop start ends count i are (omega (arith, low, within))) (omega (arith, length-drop i ends, low, within)))

-- a run begins within the list
pub start-within : (start : ℕ) (ends : List RunEnd) (count k : ℕ) → AreEnds start ends count → k ≤ length ends → start_at start ends k ≤ count
start-within start ends count k are low = ends-over (start_at start ends k) (drop k ends) count (ends-drop start ends count k are low)
