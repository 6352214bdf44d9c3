-- A piece that was taken into the room after some bytes, and the room that it left cut off.
use Rattle.std.proofs.Common.{◌≡◌, ℕ, zero, suc, ◌+◌, ◌≤◌, List, [], ◌∷◌, ◌++◌, length, take, refl, ap, ◌∙◌, append_assoc, arith}
use Rattle.std.proofs.lemmas.List.{take-append-le, take_all}

-- a front and some of what follows it
pub take-past : (front rest : List ℕ) (n : ℕ) → take (length front + n) (front ++ rest) ≡ front ++ take n rest
take-past [] rest n = let none : 0 + n ≡ n = omega arith in rw none refl
take-past (x ∷ front) rest n =
    let next : suc (length front) + n ≡ suc (length front + n) = omega arith in
    rw next (ap (λ (r : List ℕ). x ∷ r) (take-past front rest n))

-- less of what is at most that much
pub take-take_less : (m n : ℕ) (xs : List ℕ) → m ≤ n → take m (take n xs) ≡ take m xs
take-take_less zero n xs h = refl
take-take_less (suc m) zero xs h = absurd (omega arith)
take-take_less (suc m) (suc n) [] h = refl
take-take_less (suc m) (suc n) (x ∷ xs) h = ap (λ (r : List ℕ). x ∷ r) (take-take_less m n xs (omega arith))

-- the bytes before the room are the old ones
pub before_room : (old room resized : List ℕ) (k more : ℕ) → k ≡ length old → resized ≡ take (k + more) old ++ room → take k resized ≡ old
before_room old room resized k more is e =
    let whole : take (k + more) old ≡ old = take_all (k + more) old (omega arith) in
    rw (e, whole) (take-append-le k old room (omega arith) ∙ take_all k old (omega arith))

-- what stands after the call: the old bytes and what was taken
pub refilled : (old front buf tail : List ℕ) (k n len : ℕ) → k ≡ length old → front ≡ old → n ≤ length buf → k + length buf ≡ len
    → take (k + n) (take len (front ++ buf ++ tail)) ≡ old ++ take n buf
refilled old front buf tail k n len is same within all =
    let kept : take n (buf ++ tail) ≡ take n buf = take-append-le n buf tail within in
    rw (take-take_less (k + n) len (front ++ buf ++ tail) (omega arith), same, append_assoc, is, take-past old (buf ++ tail) n, kept) refl
