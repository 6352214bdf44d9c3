-- The line that is written for an entry reads back as the entry.
use Rattle.std.proofs.Common.{◌≡◌, ◌≢◌, ℕ, zero, suc, ◌+◌, ◌-◌, ◌*◌, ◌/◌, ◌%◌, ◌^◌, ◌<◌, ◌≤◌, true, false, cond, List, [], ◌∷◌, ◌++◌, length, get_or, Option, Some, None, option_and_then, refl, ap, ◌∙◌, arith}
use Rattle.std.specs.Result.{result_ok}
use Rattle.std.specs.Char.{is_ascii_digit}
use Rattle.std.specs.Fmt.{decimal}
use Rattle.std.proofs.lemmas.Fmt.{decimal_by_steps, decimal_digit, decimal_nonempty, first_decimal}
use Rattle.std.proofs.lemmas.Bool.{ne_eqb}
use Rattle.std.proofs.lemmas.Bool.Decides.{nat_tests}
use Rattle.hex.specs.Hex.{IsBytes, encode_with}
use Rattle.hex.proofs.HexLemmas.{decode_of-encode_lower}
use Rattle.sst_key.specs.declared.entries.Kind.{Kind}
use Rattle.sst_key.specs.declared.entries.Kind.TheVariants.{Deletion, Value, Merge, SingleDeletion}
use Rattle.sst_key.specs.declared.entries.Entry.{Entry}
use Rattle.sst_text.specs.Texts.{cut, bytes_field, digits_from, in_range, seq_field, kind_field, Fields, fields_of, entry_of_fields, entry_of_line}
use Rattle.sst_text.proofs.FieldBytes.{IsStop, hex_text-avoids, decimal-avoids, letter_text-avoids, cut-front}
use Rattle.sst_text.specs.EntryText.{hex_text, kind_letter, entry_line}

-- a user key or a value reads back
pub bytes_field-hex_text : (bytes : List ℕ) → IsBytes bytes → bytes_field (hex_text bytes) ≡ Some bytes
unfolding encode_with
bytes_field-hex_text [] are = refl
bytes_field-hex_text (b ∷ rest) are = ap result_ok (decode_of-encode_lower (b ∷ rest) are)

-- ---- sequence numbers

is_digit : (d : ℕ) → d < 10 → is_ascii_digit (48 + d) ≡ true
is_digit d low = grind (arith, nat_tests)

-- the number so far, and one digit more
abbrev with_digit : ℕ → ℕ → Option ℕ
with_digit c value = cond (is_ascii_digit c) (Some (value * 10 + (c - 48))) None

digits_from-push : (value : ℕ) (digits : List ℕ) (c : ℕ) → digits_from value (digits ++ c ∷ []) ≡ option_and_then (with_digit c) (digits_from value digits)
digits_from-push value [] c = refl
digits_from-push value (d ∷ digits) c =
    elim (is_ascii_digit d) as (λ t. cond t (digits_from (value * 10 + (d - 48)) (digits ++ c ∷ [])) None ≡ option_and_then (with_digit c) (cond t (digits_from (value * 10 + (d - 48)) digits) None)) [
      | true ↦ digits_from-push (value * 10 + (d - 48)) digits c
      | false ↦ refl
    ]

-- a text spells the number
abbrev Spells : ℕ → List ℕ → Type 0
Spells n text = digits_from 0 text ≡ Some n

Spells-one : (n : ℕ) → n < 10 → Spells n ((48 + n) ∷ [])
Spells-one n low =
    let digit = is_digit n low in
    let value : 0 * 10 + (48 + n - 48) ≡ n = omega arith in
    rw (digit, value) refl

Spells-more : (n : ℕ) (text : List ℕ) → 10 ≤ n → Spells (n / 10) text → Spells n (text ++ ((48 + n % 10) ∷ []))
Spells-more n text large front =
    let last : n % 10 < 10 = omega arith in
    let digit = is_digit (n % 10) last in
    let value : n / 10 * 10 + (48 + n % 10 - 48) ≡ n = omega arith in
    digits_from-push 0 text (48 + n % 10) ∙ rw (front, digit, value) refl

Spells-decimal : (n : ℕ) → n < 2 ^ 64 → Spells n (decimal n)
Spells-decimal n h = decimal_by_steps Spells Spells-one Spells-more n h

-- a text of more than one digit doesn't begin with 0
no_leading_zero : (n : ℕ) → n < 2 ^ 64 → 1 < length (decimal n) → get_or (decimal n) 0 0 ≢ 48
no_leading_zero zero h long = absurd (omega (arith, ap length (decimal_digit 0 (omega arith))))
no_leading_zero (suc n) h long = λ e. omega (arith, first_decimal (suc n) (omega arith) h, e)

in_range-some : (n : ℕ) → n < 2 ^ 56 → in_range n ≡ Some n
in_range-some n h = grind (arith, nat_tests)

seq_field-spelled : (n : ℕ) (text : List ℕ) → digits_from 0 text ≡ Some n → n < 2 ^ 56 → 0 < length text → (1 < length text → get_or text 0 0 ≢ 48) → seq_field text ≡ Some n
seq_field-spelled n [] reads h some no_zero = absurd (omega arith)
seq_field-spelled n (c ∷ []) reads h some no_zero = ap (option_and_then in_range) reads ∙ in_range-some n h
seq_field-spelled n (c ∷ d ∷ rest) reads h some no_zero =
    let other = ne_eqb c 48 (no_zero (omega arith)) in
    rw other (ap (option_and_then in_range) reads ∙ in_range-some n h)

pub seq_field-decimal : (n : ℕ) → n < 2 ^ 56 → seq_field (decimal n) ≡ Some n
seq_field-decimal n h =
    let fits : n < 2 ^ 64 = omega arith in
    seq_field-spelled n (decimal n) (Spells-decimal n fits) h (decimal_nonempty n fits) (no_leading_zero n fits)

-- ---- the line

kind_field-letter : (kind : Kind) → kind_field (kind_letter kind ∷ []) ≡ Some kind
kind_field-letter Deletion = refl
kind_field-letter Value = refl
kind_field-letter Merge = refl
kind_field-letter SingleDeletion = refl

-- the fields of a line that is cut three times
fields_of-parts : (line user after digits last letter value : List ℕ) (seq : ℕ) (kind : Kind)
    → cut 32 line ≡ Some (user, after) → cut 32 after ≡ Some (digits, last) → cut 32 last ≡ Some (letter, value)
    → seq_field digits ≡ Some seq → kind_field letter ≡ Some kind
    → fields_of line ≡ Some (record { user = user; seq = seq; kind = kind; value = value })
unfolding fields_of
fields_of-parts line user after digits last letter value seq kind first second third number kind_is =
    rw (first, second, third, number, kind_is) refl

fields_of-entry_line : (e : Entry) → IsBytes e.user → e.seq < 2 ^ 56
    → fields_of (entry_line e) ≡ Some (record { user = hex_text e.user; seq = e.seq; kind = e.kind; value = hex_text e.value })
fields_of-entry_line e user seq =
    let fits : e.seq < 2 ^ 64 = omega arith in
    let last = kind_letter e.kind ∷ 32 ∷ hex_text e.value in
    let stop : IsStop 32 = (omega arith, refl) in
    fields_of-parts (entry_line e) (hex_text e.user) (decimal e.seq ++ (32 ∷ last)) (decimal e.seq) last (kind_letter e.kind ∷ []) (hex_text e.value) e.seq e.kind
    (cut-front 32 (hex_text e.user) (decimal e.seq ++ (32 ∷ last)) (hex_text-avoids 32 e.user stop user))
    (cut-front 32 (decimal e.seq) last (decimal-avoids 32 e.seq stop fits))
    (cut-front 32 (kind_letter e.kind ∷ []) (hex_text e.value) (letter_text-avoids 32 e.kind stop))
    (seq_field-decimal e.seq seq) (kind_field-letter e.kind)

entry_of_fields-texts : (fields : Fields) (user value : List ℕ) → bytes_field fields.user ≡ Some user → bytes_field fields.value ≡ Some value
    → entry_of_fields fields ≡ Some (record { user = user; seq = fields.seq; kind = fields.kind; value = value })
unfolding entry_of_fields
entry_of_fields-texts fields user value is_user is_value = rw (is_user, is_value) refl

pub entry_of_line-entry_line : (e : Entry) → IsBytes e.user → IsBytes e.value → e.seq < 2 ^ 56 → entry_of_line (entry_line e) ≡ Some e
entry_of_line-entry_line e user value seq =
    let fields : Fields = record { user = hex_text e.user; seq = e.seq; kind = e.kind; value = hex_text e.value } in
    ap (option_and_then entry_of_fields) (fields_of-entry_line e user seq)
    ∙ entry_of_fields-texts fields e.user e.value (bytes_field-hex_text e.user user) (bytes_field-hex_text e.value value)
