-- A line that reads as an entry is the line that is written for it, but for the case of hex digits.
use Rattle.std.proofs.Common.{◌≡◌, ℕ, List, [], ◌∷◌, ◌++◌, map, Some, refl, sym, ap, ◌∙◌, subst}
use Rattle.std.specs.Char.{to_ascii_lowercase}
use Rattle.std.specs.Fmt.{decimal}
use Rattle.std.proofs.lemmas.List.{map-append}
use Rattle.std.proofs.lemmas.Option.{option_and_then_some}
use Rattle.std.proofs.lemmas.Str.Ascii.{lowercase-lowercase}
use Rattle.sst_key.specs.declared.entries.Entry.{Entry}
use Rattle.sst_key.specs.declared.entries.Kind.{Kind}
use Rattle.sst_text.specs.Texts.{cut, bytes_field, seq_field, kind_field, Fields, fields_of, entry_of_fields, entry_of_line}
use Rattle.sst_text.specs.EntryText.{hex_text, kind_letter, entry_line}
use Rattle.sst_text.proofs.FieldTexts.{cut-some, seq_field-text, kind_field-text, bytes_field-text}

same_some : {A : Type 0} (x y : A) → Some x ≡ Some y → x ≡ y
same_some x y e = cc

-- ---- texts that differ in case alone

abbrev pub SameButCase : List ℕ → List ℕ → Type 0
SameButCase a b = map to_ascii_lowercase a ≡ map to_ascii_lowercase b

lower_again : (text : List ℕ) → map to_ascii_lowercase (map to_ascii_lowercase text) ≡ map to_ascii_lowercase text
lower_again [] = refl
lower_again (c ∷ rest) = let first = lowercase-lowercase c in let more = lower_again rest in cc

pub from_lower : (text other : List ℕ) → map to_ascii_lowercase text ≡ other → SameButCase text other
from_lower text other e = sym (lower_again text) ∙ ap (map to_ascii_lowercase) e

pub case-append : (a b c d : List ℕ) → SameButCase a b → SameButCase c d → SameButCase (a ++ c) (b ++ d)
case-append a b c d front rest =
    map-append to_ascii_lowercase a c ∙ ap (λ (t : List ℕ). t ++ map to_ascii_lowercase c) front
    ∙ ap (λ (t : List ℕ). map to_ascii_lowercase b ++ t) rest ∙ sym (map-append to_ascii_lowercase b d)

-- ---- an entry line

-- the line of a user key and a value in whatever case
abbrev line_of : Entry → List ℕ → List ℕ → List ℕ
line_of e user value = user ++ (32 ∷ (decimal e.seq ++ (32 ∷ kind_letter e.kind ∷ 32 ∷ value)))

joined_fields : (line user digits letter value after last : List ℕ) (seq : ℕ) (kind : Kind)
    → line ≡ user ++ (32 ∷ after) → after ≡ digits ++ (32 ∷ last) → last ≡ letter ++ (32 ∷ value) → digits ≡ decimal seq → letter ≡ kind_letter kind ∷ []
    → line ≡ user ++ (32 ∷ (decimal seq ++ (32 ∷ kind_letter kind ∷ 32 ∷ value)))
joined_fields line user digits letter value after last seq kind first second third number is_kind =
    let tail : last ≡ kind_letter kind ∷ 32 ∷ value = third ∙ ap (λ (t : List ℕ). t ++ (32 ∷ value)) is_kind in
    first ∙ ap (λ (t : List ℕ). user ++ (32 ∷ t)) (second ∙ ap (λ (t : List ℕ). t ++ (32 ∷ last)) number ∙ ap (λ (t : List ℕ). decimal seq ++ (32 ∷ t)) tail)

-- the line of four fields
abbrev FieldsLine : List ℕ → Fields → Type 0
FieldsLine line fields = line ≡ fields.user ++ (32 ∷ (decimal fields.seq ++ (32 ∷ kind_letter fields.kind ∷ 32 ∷ fields.value)))

fields_of-line : (line : List ℕ) (fields : Fields) → fields_of line ≡ Some fields → FieldsLine line fields
unfolding fields_of
fields_of-line line fields e =
    option_and_then_some _ (cut 32 line) fields e (λ a is_a ea.
    option_and_then_some _ (cut 32 a.1) fields ea (λ b is_b eb.
    option_and_then_some _ (cut 32 b.1) fields eb (λ c is_c ec.
    option_and_then_some _ (seq_field b.0) fields ec (λ seq is_seq es.
    option_and_then_some _ (kind_field c.0) fields es (λ kind is_kind ek.
    subst (FieldsLine line) (same_some _ fields ek)
    (joined_fields line a.0 b.0 c.0 c.1 a.1 b.1 seq kind (cut-some 32 line a is_a) (cut-some 32 a.1 b is_b) (cut-some 32 b.1 c is_c) (seq_field-text b.0 seq is_seq) (kind_field-text c.0 kind is_kind)))))))

-- the texts of the user key and of the value in a line
abbrev LineTexts : List ℕ → Entry → Type 0
LineTexts line e = (user value : List ℕ) × (line ≡ line_of e user value)
    × (map to_ascii_lowercase user ≡ hex_text e.user) × (map to_ascii_lowercase value ≡ hex_text e.value)

entry_of_fields-line : (line : List ℕ) (fields : Fields) (e : Entry) → FieldsLine line fields → entry_of_fields fields ≡ Some e → LineTexts line e
unfolding entry_of_fields
entry_of_fields-line line fields entry is e =
    option_and_then_some _ (bytes_field fields.user) entry e (λ user is_user eu.
    option_and_then_some _ (bytes_field fields.value) entry eu (λ value is_value ev.
    subst (LineTexts line) (same_some _ entry ev)
    (fields.user, fields.value, is, bytes_field-text fields.user user is_user, bytes_field-text fields.value value is_value)))

pub entry_of_line-texts : (line : List ℕ) (e : Entry) → entry_of_line line ≡ Some e → LineTexts line e
entry_of_line-texts line entry e =
    option_and_then_some entry_of_fields (fields_of line) entry e (λ fields is more. entry_of_fields-line line fields entry (fields_of-line line fields is) more)

pub entry_of_line-line : (line : List ℕ) (e : Entry) → entry_of_line line ≡ Some e → SameButCase line (entry_line e)
entry_of_line-line line entry e =
    let texts = entry_of_line-texts line entry e in
    ap (map to_ascii_lowercase) texts.2
    ∙ case-append texts.0 (hex_text entry.user) (32 ∷ (decimal entry.seq ++ (32 ∷ kind_letter entry.kind ∷ 32 ∷ texts.1))) (32 ∷ (decimal entry.seq ++ (32 ∷ kind_letter entry.kind ∷ 32 ∷ hex_text entry.value))) (from_lower texts.0 (hex_text entry.user) texts.3)
    (case-append (32 ∷ []) (32 ∷ []) (decimal entry.seq ++ (32 ∷ kind_letter entry.kind ∷ 32 ∷ texts.1)) (decimal entry.seq ++ (32 ∷ kind_letter entry.kind ∷ 32 ∷ hex_text entry.value)) refl
    (case-append (decimal entry.seq) (decimal entry.seq) (32 ∷ kind_letter entry.kind ∷ 32 ∷ texts.1) (32 ∷ kind_letter entry.kind ∷ 32 ∷ hex_text entry.value) refl
    (case-append (32 ∷ kind_letter entry.kind ∷ 32 ∷ []) (32 ∷ kind_letter entry.kind ∷ 32 ∷ []) texts.1 (hex_text entry.value) refl (from_lower texts.1 (hex_text entry.value) texts.4))))
