-- The sequence number of an entry line is in its range, and its user key and value are bytes.
use Rattle.std.proofs.Common.{◌≡◌, ℕ, ◌^◌, ◌<◌, ◌==◌, true, false, cond, nat_lt, List, [], ◌∷◌, Some, None, option_and_then, Result, Ok, Err, sym, ap, subst, arith}
use Rattle.std.specs.Result.{result_ok}
use Rattle.std.proofs.lemmas.Bool.{ltb-true}
use Rattle.std.proofs.lemmas.Option.{option_and_then_some, cond_some}
use Rattle.hex.specs.Hex.{IsBytes, decode_of}
use Rattle.hex.specs.declared.error.FromHexError.{FromHexError}
use Rattle.hex.proofs.HexLemmas.{decode_of-ok}
use Rattle.sst_key.specs.declared.entries.Entry.{Entry}
use Rattle.sst_text.specs.Texts.{cut, digits_from, in_range, seq_field, kind_field, bytes_field, Fields, fields_of, entry_of_fields, entry_of_line}

-- a value is that value
same_some : {A : Type 0} (x y : A) → Some x ≡ Some y → x ≡ y
same_some x y e = cc

in_range-some : (n seq : ℕ) → in_range n ≡ Some seq → seq < 2 ^ 56
in_range-some n seq e =
    let parts = cond_some (nat_lt n (2 ^ 56)) n seq e in
    let low = ltb-true n (2 ^ 56) parts.0 in
    omega (arith, parts.1)

-- a sequence field gives a number in range
pub seq_field-some : (field : List ℕ) (seq : ℕ) → seq_field field ≡ Some seq → seq < 2 ^ 56
seq_field-some [] seq e = absurd cc
seq_field-some (c ∷ []) seq e = option_and_then_some in_range (digits_from 0 (c ∷ [])) seq e (λ n _ more. in_range-some n seq more)
seq_field-some (c ∷ d ∷ rest) seq e =
    elim (c == 48) as (λ t. cond t None (option_and_then in_range (digits_from 0 (c ∷ d ∷ rest))) ≡ Some seq → seq < 2 ^ 56) [
      | true ↦ λ e. absurd cc
      | false ↦ λ e. option_and_then_some in_range (digits_from 0 (c ∷ d ∷ rest)) seq e (λ n _ more. in_range-some n seq more)
    ] e

fields_of-some : (line : List ℕ) (fields : Fields) → fields_of line ≡ Some fields → fields.seq < 2 ^ 56
unfolding fields_of
fields_of-some line fields e =
    option_and_then_some _ (cut 32 line) fields e (λ a _ ea.
    option_and_then_some _ (cut 32 a.1) fields ea (λ b _ eb.
    option_and_then_some _ (cut 32 b.1) fields eb (λ c _ ec.
    option_and_then_some _ (seq_field b.0) fields ec (λ seq is es.
    option_and_then_some _ (kind_field c.0) fields es (λ kind _ ek.
    let made = same_some _ fields ek in
    let low = seq_field-some b.0 seq is in
    let same : seq ≡ fields.seq = ap (λ (f : Fields). f.seq) made in
    omega arith)))))

entry_of_fields-some : (fields : Fields) (e : Entry) → entry_of_fields fields ≡ Some e → e.seq ≡ fields.seq
unfolding entry_of_fields
entry_of_fields-some fields entry e =
    option_and_then_some _ (bytes_field fields.user) entry e (λ user _ eu.
    option_and_then_some _ (bytes_field fields.value) entry eu (λ value _ ev.
    sym (ap (λ (f : Entry). f.seq) (same_some _ entry ev))))

-- an entry line has a sequence number in range
pub entry_of_line-seq : (line : List ℕ) (e : Entry) → entry_of_line line ≡ Some e → e.seq < 2 ^ 56
entry_of_line-seq line entry e =
    option_and_then_some entry_of_fields (fields_of line) entry e (λ fields of made.
    let same = entry_of_fields-some fields entry made in
    let low = fields_of-some line fields of in
    omega arith)

-- ---- bytes

ok_of-some : (read : Result (List ℕ) FromHexError) (bytes : List ℕ) → result_ok read ≡ Some bytes → read ≡ Ok bytes
ok_of-some (Ok x) bytes e = ap Ok (same_some x bytes e)
ok_of-some (Err w) bytes e = absurd cc

-- a field of hex digits gives bytes
pub bytes_field-some : (field bytes : List ℕ) → bytes_field field ≡ Some bytes → IsBytes bytes
bytes_field-some [] bytes e = absurd cc
bytes_field-some (c ∷ []) bytes e = subst IsBytes (cond_some (c == 45) [] bytes e).1 (λ k. omega arith)
bytes_field-some (c ∷ d ∷ rest) bytes e = (decode_of-ok (c ∷ d ∷ rest) bytes (ok_of-some (decode_of (c ∷ d ∷ rest)) bytes e)).3

entry_of_fields-bytes : (fields : Fields) (e : Entry) → entry_of_fields fields ≡ Some e → IsBytes e.user × IsBytes e.value
unfolding entry_of_fields
entry_of_fields-bytes fields entry e =
    option_and_then_some _ (bytes_field fields.user) entry e (λ user reads eu.
    option_and_then_some _ (bytes_field fields.value) entry eu (λ value read ev.
    let made = same_some _ entry ev in (
      subst IsBytes (ap (λ (f : Entry). f.user) made) (bytes_field-some fields.user user reads),
      subst IsBytes (ap (λ (f : Entry). f.value) made) (bytes_field-some fields.value value read),
    )))

-- the user key and the value of an entry line are bytes
pub entry_of_line-bytes : (line : List ℕ) (e : Entry) → entry_of_line line ≡ Some e → IsBytes e.user × IsBytes e.value
entry_of_line-bytes line entry e =
    option_and_then_some entry_of_fields (fields_of line) entry e (λ fields _ made. entry_of_fields-bytes fields entry made)
