-- The bytes of the fields of an entry's line: none of them is a blank or a line end. So a line is cut at the blanks
-- between its fields and at its end, and nowhere else.
use Rattle.std.proofs.Common.{◌≡◌, ◌≢◌, ℕ, suc, ◌+◌, ◌/◌, ◌%◌, ◌^◌, ◌<◌, List, [], ◌∷◌, ◌++◌, slice_index, All, Some, None, refl, ap, arith}
use Rattle.std.specs.Fmt.{decimal}
use Rattle.std.proofs.lemmas.Bool.{eq-eqb, ne_eqb}
use Rattle.std.proofs.lemmas.Fmt.{decimal_by_steps}
use Rattle.std.proofs.lemmas.List.Elements.{All-nil, All-cons, All-head, All-tail, All-push}
use Rattle.hex.specs.Hex.{IsBytes, encode_with, lower_digits, hex_digit_value}
use Rattle.hex.proofs.HexLemmas.{IsDigits-lower_digits}
use Rattle.sst_key.specs.declared.entries.Kind.{Kind}
use Rattle.sst_key.specs.declared.entries.Kind.TheVariants.{Deletion, Value, Merge, SingleDeletion}
use Rattle.sst_text.specs.Texts.{cut}
use Rattle.sst_text.specs.EntryText.{hex_text, kind_letter}

-- no byte of a text is this byte
abbrev pub Avoids : ℕ → List ℕ → Type 0
Avoids stop text = All (λ c. c ≢ stop) text

-- a byte that no field has: it stands before `-`, the digits and the letters
abbrev pub IsStop : ℕ → Type 0
IsStop stop = (stop < 45) × (hex_digit_value stop ≡ None)

digit-avoids : (stop d : ℕ) → IsStop stop → d < 16 → slice_index lower_digits d ≢ stop
digit-avoids stop d is low same = absurd (cc (IsDigits-lower_digits d low, ap hex_digit_value same, is.1))

hex-avoids : (stop : ℕ) (bytes : List ℕ) → IsStop stop → IsBytes bytes → Avoids stop (encode_with lower_digits bytes)
unfolding encode_with
hex-avoids stop [] is are = All-nil (λ c. c ≢ stop)
hex-avoids stop (b ∷ rest) is are =
    let small : b < 256 = are 0 in
    let high : b / 16 < 16 = omega arith in
    let low : b % 16 < 16 = omega arith in
    All-cons (λ c. c ≢ stop) (slice_index lower_digits (b / 16)) (slice_index lower_digits (b % 16) ∷ encode_with lower_digits rest) (digit-avoids stop (b / 16) is high)
    (All-cons (λ c. c ≢ stop) (slice_index lower_digits (b % 16)) (encode_with lower_digits rest) (digit-avoids stop (b % 16) is low) (hex-avoids stop rest is (λ k. are (suc k))))

pub hex_text-avoids : (stop : ℕ) (bytes : List ℕ) → IsStop stop → IsBytes bytes → Avoids stop (hex_text bytes)
hex_text-avoids stop [] is are = All-cons (λ c. c ≢ stop) 45 [] (λ e. omega (arith, is.0)) (All-nil (λ c. c ≢ stop))
hex_text-avoids stop (b ∷ rest) is are = hex-avoids stop (b ∷ rest) is are

pub decimal-avoids : (stop n : ℕ) → IsStop stop → n < 2 ^ 64 → Avoids stop (decimal n)
decimal-avoids stop n is h =
    decimal_by_steps (λ n digits. Avoids stop digits)
    (λ n low. All-cons (λ c. c ≢ stop) (48 + n) [] (λ e. omega (arith, is.0)) (All-nil (λ c. c ≢ stop)))
    (λ n digits large front. All-push (λ c. c ≢ stop) digits (48 + n % 10) front (λ e. omega (arith, is.0))) n h

letter-avoids : (stop : ℕ) (kind : Kind) → stop < 45 → kind_letter kind ≢ stop
letter-avoids stop Deletion low = λ e. omega arith
letter-avoids stop Value low = λ e. omega arith
letter-avoids stop Merge low = λ e. omega arith
letter-avoids stop SingleDeletion low = λ e. omega arith

pub letter_text-avoids : (stop : ℕ) (kind : Kind) → IsStop stop → Avoids stop (kind_letter kind ∷ [])
letter_text-avoids stop kind is = All-cons (λ c. c ≢ stop) (kind_letter kind) [] (letter-avoids stop kind is.0) (All-nil (λ c. c ≢ stop))

-- what stands before the first such byte, and what stands after it
pub cut-front : (stop : ℕ) (front rest : List ℕ) → Avoids stop front → cut stop (front ++ (stop ∷ rest)) ≡ Some (front, rest)
cut-front stop [] rest none = rw (eq-eqb stop stop refl) refl
cut-front stop (x ∷ front) rest none =
    let other = ne_eqb x stop (All-head (λ c. c ≢ stop) x front none) in
    let more = cut-front stop front rest (All-tail (λ c. c ≢ stop) x front none) in
    rw (other, more) refl
