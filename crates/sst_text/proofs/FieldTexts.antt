-- A field that reads is the text that is written for its value, but for the case of hex digits.
use Rattle.std.proofs.Common.{◌≡◌, ℕ, zero, suc, ◌+◌, ◌-◌, ◌*◌, ◌/◌, ◌%◌, ◌^◌, ◌<◌, ◌≤◌, ◌==◌, ◌&&◌, Bool, true, false, cond, List, [], ◌∷◌, ◌++◌, length, map, slice_index, Option, None, Some, option_and_then, Result, Ok, Err, inl, inr, refl, sym, ap, ◌∙◌, subst, append_assoc, arith}
use Rattle.std.specs.Char.{is_ascii_digit, to_ascii_lowercase}
use Rattle.std.specs.Fmt.{decimal}
use Rattle.std.specs.Option.{option_map}
use Rattle.std.specs.Result.{result_ok}
use Rattle.std.proofs.lemmas.Bool.{and_parts, cases_lt, eqb-true, eqb-false}
use Rattle.std.proofs.lemmas.Bool.Decides.{nat_tests}
use Rattle.std.proofs.lemmas.Fmt.{decimal_digit, decimal_step}
use Rattle.std.proofs.lemmas.List.{append-nil}
use Rattle.std.proofs.lemmas.Option.{cond_some}
use Rattle.hex.specs.Hex.{encode_with, lower_digits, hex_digit_value, digit_or_error, value_at, pair_value, decode_pairs, decode_of, ◌>>=◌}
use Rattle.hex.specs.declared.error.FromHexError.{FromHexError}
use Rattle.hex.proofs.HexLemmas.{decode_of-ok}
use Rattle.sst_key.specs.declared.entries.Kind.{Kind}
use Rattle.sst_key.specs.declared.entries.Kind.TheVariants.{Deletion, Value, Merge, SingleDeletion}
use Rattle.sst_text.specs.Texts.{cut, bytes_field, digits_from, in_range, seq_field, kind_of_letter, kind_field}
use Rattle.sst_text.specs.EntryText.{hex_text, kind_letter}
use Rattle.sst_text.proofs.Digits.{digits-past}

same_some : {A : Type 0} (x y : A) → Some x ≡ Some y → x ≡ y
same_some x y e = cc

-- ---- the blanks

cut_later : (byte x : ℕ) (rest : List ℕ) (found : Option (List ℕ × List ℕ)) (parts : List ℕ × List ℕ)
    → ((others : List ℕ × List ℕ) → found ≡ Some others → rest ≡ others.0 ++ (byte ∷ others.1))
    → option_map (λ p. (x ∷ p.0, p.1)) found ≡ Some parts → x ∷ rest ≡ parts.0 ++ (byte ∷ parts.1)
cut_later byte x rest None parts is e = absurd cc
cut_later byte x rest (Some others) parts is e =
    subst (λ (p : List ℕ × List ℕ). x ∷ rest ≡ p.0 ++ (byte ∷ p.1)) (same_some (x ∷ others.0, others.1) parts e) (ap (λ t. x ∷ t) (is others refl))

cut_here : (byte x : ℕ) (rest : List ℕ) (parts : List ℕ × List ℕ) → x ≡ byte → Some ([], rest) ≡ Some parts → x ∷ rest ≡ parts.0 ++ (byte ∷ parts.1)
cut_here byte x rest parts same e =
    subst (λ (p : List ℕ × List ℕ). x ∷ rest ≡ p.0 ++ (byte ∷ p.1)) (same_some ([], rest) parts e) (ap (λ c. c ∷ rest) same)

-- a text that is cut is what stood before the byte, the byte, and what stood after it
pub cut-some : (byte : ℕ) (text : List ℕ) (parts : List ℕ × List ℕ) → cut byte text ≡ Some parts → text ≡ parts.0 ++ (byte ∷ parts.1)
cut-some byte [] parts e = absurd cc
cut-some byte (x ∷ rest) parts e =
    elim (x == byte) as (λ t. ((x == byte) ≡ t) → cond t (Some ([], rest)) (option_map (λ p. (x ∷ p.0, p.1)) (cut byte rest)) ≡ Some parts → x ∷ rest ≡ parts.0 ++ (byte ∷ parts.1)) [
      | true ↦ λ test e. cut_here byte x rest parts (eqb-true x byte test) e
      | false ↦ λ test e. cut_later byte x rest (cut byte rest) parts (λ others is. cut-some byte rest others is) e
    ] refl e

-- ---- sequence numbers

in_range-same : (value n : ℕ) → in_range value ≡ Some n → value ≡ n
in_range-same value n e = (cond_some _ value n e).1

-- what reads as a number is in range so far
so_far : (value n : ℕ) (rest : List ℕ) → option_and_then in_range (digits_from value rest) ≡ Some n → value < 2 ^ 56
so_far value n rest e =
    elim (cases_lt value (2 ^ 56)) [
      | inl low ↦ low
      | inr past ↦ let none = digits-past value rest past in absurd (cc (none, e))
    ]

digit_is : (c : ℕ) → is_ascii_digit c ≡ true → (48 + (c - 48) ≡ c) × (c - 48 < 10)
digit_is c test = (grind (arith, nat_tests), grind (arith, nat_tests))

one_more : (value c : ℕ) → 0 < value → value * 10 + (c - 48) < 2 ^ 56 → (48 + (c - 48) ≡ c) × (c - 48 < 10) → decimal (value * 10 + (c - 48)) ≡ decimal value ++ (c ∷ [])
one_more value c some low digit =
    let front : (value * 10 + (c - 48)) / 10 ≡ value = omega (arith, digit.1) in
    let last : 48 + (value * 10 + (c - 48)) % 10 ≡ c = omega (arith, digit.0, digit.1) in
    decimal_step (value * 10 + (c - 48)) (omega arith) (omega arith)
    ∙ ap (λ v. decimal v ++ ((48 + (value * 10 + (c - 48)) % 10) ∷ [])) front ∙ ap (λ d. decimal value ++ (d ∷ [])) last

-- the digits after some number are the rest of its decimal digits
digits-decimal : (value n : ℕ) (rest : List ℕ) → 0 < value → option_and_then in_range (digits_from value rest) ≡ Some n → decimal value ++ rest ≡ decimal n
digits-decimal value n [] some e = append-nil (decimal value) ∙ ap decimal (in_range-same value n e)
digits-decimal value n (c ∷ rest) some e =
    elim (is_ascii_digit c) as (λ t. (is_ascii_digit c ≡ t) → option_and_then in_range (cond t (digits_from (value * 10 + (c - 48)) rest) None) ≡ Some n → decimal value ++ (c ∷ rest) ≡ decimal n) [
      | true ↦ λ test e.
          let low = so_far (value * 10 + (c - 48)) n rest e in
          let step = one_more value c some low (digit_is c test) in
          sym (append_assoc (decimal value) (c ∷ []) rest) ∙ ap (λ (ds : List ℕ). ds ++ rest) (sym step)
          ∙ digits-decimal (value * 10 + (c - 48)) n rest (omega arith) e
      | false ↦ λ test e. absurd cc
    ] refl e

first_digit : (c n : ℕ) (rest : List ℕ) → option_and_then in_range (digits_from 0 (c ∷ rest)) ≡ Some n → (is_ascii_digit c ≡ true) × (option_and_then in_range (digits_from (c - 48) rest) ≡ Some n)
first_digit c n rest e =
    elim (is_ascii_digit c) as (λ t. (is_ascii_digit c ≡ t) → option_and_then in_range (cond t (digits_from (0 * 10 + (c - 48)) rest) None) ≡ Some n → (t ≡ true) × (option_and_then in_range (digits_from (c - 48) rest) ≡ Some n)) [
      | true ↦ λ test e. let same : 0 * 10 + (c - 48) ≡ c - 48 = omega arith in (refl, rw same at e)
      | false ↦ λ test e. absurd cc
    ] refl e

one_digit : (c : ℕ) → is_ascii_digit c ≡ true → decimal (c - 48) ≡ c ∷ []
one_digit c test = let digit = digit_is c test in decimal_digit (c - 48) digit.1 ∙ ap (λ d. d ∷ []) digit.0

not_zero : (c : ℕ) → is_ascii_digit c ≡ true → (c == 48) ≡ false → 0 < c - 48
not_zero c test other = let far = eqb-false c 48 other in grind (arith, nat_tests)

-- a sequence field is the decimal digits of its number
pub seq_field-text : (field : List ℕ) (n : ℕ) → seq_field field ≡ Some n → field ≡ decimal n
seq_field-text [] n e = absurd cc
seq_field-text (c ∷ []) n e =
    let first = first_digit c n [] e in
    sym (one_digit c first.0) ∙ ap decimal (in_range-same (c - 48) n first.1)
seq_field-text (c ∷ d ∷ rest) n e =
    elim (c == 48) as (λ t. ((c == 48) ≡ t) → cond t None (option_and_then in_range (digits_from 0 (c ∷ d ∷ rest))) ≡ Some n → c ∷ d ∷ rest ≡ decimal n) [
      | true ↦ λ test e. absurd cc
      | false ↦ λ test e.
          let first = first_digit c n (d ∷ rest) e in
          ap (λ (ds : List ℕ). ds ++ (d ∷ rest)) (sym (one_digit c first.0))
          ∙ digits-decimal (c - 48) n (d ∷ rest) (not_zero c first.0 test) first.1
    ] refl e

-- ---- kinds

letter_choice : (c letter : ℕ) (kind other : Kind) (rest : Option Kind) → kind_letter kind ≡ letter → (rest ≡ Some other → c ≡ kind_letter other)
    → cond (c == letter) (Some kind) rest ≡ Some other → c ≡ kind_letter other
letter_choice c letter kind other rest is more e =
    elim (c == letter) as (λ t. ((c == letter) ≡ t) → cond t (Some kind) rest ≡ Some other → c ≡ kind_letter other) [
      | true ↦ λ test e. eqb-true c letter test ∙ sym is ∙ ap kind_letter (same_some kind other e)
      | false ↦ λ test e. more e
    ] refl e

kind_of_letter-some : (c : ℕ) (kind : Kind) → kind_of_letter c ≡ Some kind → c ≡ kind_letter kind
kind_of_letter-some c kind =
    letter_choice c 68 Deletion kind _ refl (letter_choice c 80 Value kind _ refl (letter_choice c 77 Merge kind _ refl (letter_choice c 83 SingleDeletion kind None refl (λ e. absurd cc))))

-- a kind is its letter
pub kind_field-text : (field : List ℕ) (kind : Kind) → kind_field field ≡ Some kind → field ≡ kind_letter kind ∷ []
kind_field-text [] kind e = absurd cc
kind_field-text (c ∷ []) kind e = ap (λ l. l ∷ []) (kind_of_letter-some c kind e)
kind_field-text (c ∷ d ∷ rest) kind e = absurd cc

-- ---- hex digits

-- a digit in lower case is the one at its value
abbrev shows_digit : ℕ → Option ℕ → Bool
shows_digit c None = true
shows_digit c (Some v) = to_ascii_lowercase c == slice_index lower_digits v

abbrev all_show : ℕ → Bool
all_show zero = true
all_show (suc n) = shows_digit n (hex_digit_value n) && all_show n

all_show-at : (n c : ℕ) → all_show n ≡ true → c < n → shows_digit c (hex_digit_value c) ≡ true
all_show-at zero c h low = absurd (omega arith)
all_show-at (suc n) c h low =
    let parts = and_parts (shows_digit n (hex_digit_value n)) (all_show n) h in
    elim (cases_lt c n) [
      | inl below ↦ all_show-at n c parts.1 below
      | inr top ↦ let e : c ≡ n = omega arith in rw e parts.0
    ]

past_digits : (c : ℕ) → 103 ≤ c → hex_digit_value c ≡ None
past_digits c past = grind (arith, nat_tests)

shown : (c v : ℕ) (o : Option ℕ) → shows_digit c o ≡ true → o ≡ Some v → to_ascii_lowercase c ≡ slice_index lower_digits v
shown c v None test e = absurd cc
shown c v (Some w) test e = eqb-true _ _ test ∙ ap (slice_index lower_digits) (same_some w v e)

digit-lower : (c v : ℕ) → hex_digit_value c ≡ Some v → to_ascii_lowercase c ≡ slice_index lower_digits v
digit-lower c v e =
    elim (cases_lt c 103) [
      | inl low ↦ shown c v (hex_digit_value c) (all_show-at 103 c refl low) e
      | inr past ↦ let none = past_digits c past in absurd (cc (none, e))
    ]

-- ---- hex texts

bind_ok : {A B : Type 0} (r : Result A FromHexError) (f : A → Result B FromHexError) (y : B)
    → (r >>= f) ≡ Ok y → (x : A) × (r ≡ Ok x) × (f x ≡ Ok y)
bind_ok (Ok x) f y h = (x, refl, h)
bind_ok (Err e) f y h = absurd cc

same_ok : {A : Type 0} (x y : A) → ◌≡◌ {A = Result A FromHexError} (Ok x) (Ok y) → x ≡ y
same_ok x y h = cc

digit_read : (c i : ℕ) (o : Option ℕ) (v : ℕ) → digit_or_error c i o ≡ Ok v → o ≡ Some v
digit_read c i (Some w) v h = ap Some (same_ok w v h)
digit_read c i None v h = absurd cc

value-small : (c v : ℕ) → hex_digit_value c ≡ Some v → v < 16
value-small c v h = grind (arith)

two_and_rest : (a b x y : ℕ) (rest others : List ℕ) → a ≡ x → b ≡ y → rest ≡ others → a ∷ b ∷ rest ≡ x ∷ y ∷ others
two_and_rest a b x y rest others first second more = cc

-- two digits and those after them
digits_of : (a b high low byte : ℕ) (rest bytes : List ℕ) → hex_digit_value a ≡ Some high → hex_digit_value b ≡ Some low → high * 16 + low ≡ byte
    → map to_ascii_lowercase rest ≡ encode_with lower_digits bytes → map to_ascii_lowercase (a ∷ b ∷ rest) ≡ encode_with lower_digits (byte ∷ bytes)
unfolding encode_with
digits_of a b high low byte rest bytes is_high is_low sum more =
    let small = value-small a high is_high in
    let few = value-small b low is_low in
    let first : high ≡ byte / 16 = omega arith in
    let second : low ≡ byte % 16 = omega arith in
    two_and_rest (to_ascii_lowercase a) (to_ascii_lowercase b) (slice_index lower_digits (byte / 16)) (slice_index lower_digits (byte % 16)) (map to_ascii_lowercase rest) (encode_with lower_digits bytes)
    (digit-lower a high is_high ∙ ap (slice_index lower_digits) first) (digit-lower b low is_low ∙ ap (slice_index lower_digits) second) more

decode_pairs-lower : (i : ℕ) (text bytes : List ℕ) → decode_pairs i text ≡ Ok bytes → map to_ascii_lowercase text ≡ encode_with lower_digits bytes
unfolding decode_pairs encode_with
decode_pairs-lower i [] bytes h = ap (encode_with lower_digits) (same_ok [] bytes h)
decode_pairs-lower i (a ∷ []) bytes h = absurd cc
decode_pairs-lower i (a ∷ b ∷ rest) bytes h =
    let p0 = bind_ok (pair_value a b i) _ bytes h in
    let p1 = bind_ok (value_at a i) _ p0.0 p0.1 in
    let p2 = bind_ok (value_at b (i + 1)) _ p0.0 p1.2 in
    let p3 = bind_ok (decode_pairs (i + 2) rest) _ bytes p0.2 in
    subst (λ (bs : List ℕ). map to_ascii_lowercase (a ∷ b ∷ rest) ≡ encode_with lower_digits bs) (same_ok (p0.0 ∷ p3.0) bytes p3.2)
    (digits_of a b p1.0 p2.0 p0.0 rest p3.0 (digit_read a i (hex_digit_value a) p1.0 p1.1) (digit_read b (i + 1) (hex_digit_value b) p2.0 p2.1) (same_ok _ p0.0 p2.2)
    (decode_pairs-lower (i + 2) rest p3.0 p3.1))

decode_of-pairs : (text : List ℕ) → length text % 2 ≡ 0 → decode_of text ≡ decode_pairs 0 text
decode_of-pairs text even = grind (arith)

ok_value : (r : Result (List ℕ) FromHexError) (bytes : List ℕ) → result_ok r ≡ Some bytes → r ≡ Ok bytes
ok_value (Ok some) bytes e = ap Ok (same_some some bytes e)
ok_value (Err error) bytes e = absurd cc

-- a text that isn't empty is of some bytes
of_some_bytes : (c : ℕ) (rest bytes : List ℕ) → map to_ascii_lowercase (c ∷ rest) ≡ encode_with lower_digits bytes → map to_ascii_lowercase (c ∷ rest) ≡ hex_text bytes
unfolding encode_with
of_some_bytes c rest [] e = absurd cc
of_some_bytes c rest (b ∷ bytes) e = e

-- a field of bytes, in lower case, is the text of the bytes
pub bytes_field-text : (field bytes : List ℕ) → bytes_field field ≡ Some bytes → map to_ascii_lowercase field ≡ hex_text bytes
bytes_field-text [] bytes e = absurd cc
bytes_field-text (c ∷ []) bytes e =
    let parts = cond_some (c == 45) [] bytes e in
    let dash = eqb-true c 45 parts.0 in
    ap (λ c. map to_ascii_lowercase (c ∷ [])) dash ∙ ap hex_text parts.1
bytes_field-text (c ∷ d ∷ rest) bytes e =
    let reads = ok_value (decode_of (c ∷ d ∷ rest)) bytes e in
    let even = (decode_of-ok (c ∷ d ∷ rest) bytes reads).0 in
    of_some_bytes c (d ∷ rest) bytes (decode_pairs-lower 0 (c ∷ d ∷ rest) bytes (sym (decode_of-pairs (c ∷ d ∷ rest) even) ∙ reads))
