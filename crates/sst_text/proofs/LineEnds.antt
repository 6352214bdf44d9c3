-- Where the line of an entry ends, and how long its fields are.
use Rattle.std.proofs.Common.{◌≡◌, ◌≢◌, ℕ, ◌+◌, ◌*◌, ◌^◌, ◌<◌, ◌≤◌, List, [], ◌∷◌, ◌++◌, length, Some, refl, ap, ◌∙◌, append_assoc, length-append, arith}
use Rattle.std.specs.Fmt.{decimal}
use Rattle.std.proofs.lemmas.List.Elements.{All-cons, All-append}
use Rattle.hex.specs.Hex.{IsBytes, lower_digits}
use Rattle.hex.proofs.HexLemmas.{length-encode_with}
use Rattle.sst_key.specs.declared.entries.Entry.{Entry}
use Rattle.sst_text.specs.Texts.{cut}
use Rattle.sst_text.specs.EntryText.{hex_text, kind_letter, entry_line}
use Rattle.sst_text.proofs.FieldBytes.{Avoids, IsStop, hex_text-avoids, decimal-avoids, letter_text-avoids, cut-front}

-- ---- the line of an entry has no line end

-- a blank between two texts is no line end
pub blank-avoids : (front rest : List ℕ) → Avoids 10 front → Avoids 10 rest → Avoids 10 (front ++ (32 ∷ rest))
blank-avoids front rest before after =
    All-append (λ c. c ≢ 10) front (32 ∷ rest) before (All-cons (λ c. c ≢ 10) 32 rest (λ e. omega arith) after)

line-avoids : (e : Entry) → IsBytes e.user → IsBytes e.value → e.seq < 2 ^ 56 → Avoids 10 (entry_line e)
line-avoids e user value seq =
    let letter = kind_letter e.kind ∷ [] in
    let last = letter ++ (32 ∷ hex_text e.value) in
    let stop : IsStop 10 = (omega arith, refl) in
    let fits : e.seq < 2 ^ 64 = omega arith in
    blank-avoids (hex_text e.user) (decimal e.seq ++ (32 ∷ last)) (hex_text-avoids 10 e.user stop user)
    (blank-avoids (decimal e.seq) last (decimal-avoids 10 e.seq stop fits)
    (blank-avoids letter (hex_text e.value) (letter_text-avoids 10 e.kind stop) (hex_text-avoids 10 e.value stop value)))

-- the text after a line of an entry begins after its line end
pub entry_line-cut : (e : Entry) (text : List ℕ) → IsBytes e.user → IsBytes e.value → e.seq < 2 ^ 56
    → cut 10 ((entry_line e ++ 10 ∷ []) ++ text) ≡ Some (entry_line e, text)
entry_line-cut e text user value seq =
    ap (cut 10) (append_assoc (entry_line e) (10 ∷ []) text) ∙ cut-front 10 (entry_line e) text (line-avoids e user value seq)

-- ---- the line of an entry is short

pub length-hex_text : (bytes : List ℕ) → length (hex_text bytes) ≤ 2 * length bytes + 1
length-hex_text [] = omega arith
length-hex_text (b ∷ rest) = omega (arith, length-encode_with lower_digits (b ∷ rest))

pub length-blank : (front rest : List ℕ) → length (front ++ (32 ∷ rest)) ≡ length front + length rest + 1
length-blank front rest = omega (arith, length-append front (32 ∷ rest))
