-- The text of a list reads back as the list.
use Rattle.std.proofs.Common.{◌≡◌, inl, inr, ℕ, ◌+◌, ◌^◌, ◌<◌, ◌≤◌, true, List, [], ◌∷◌, ◌++◌, length, All, Some, None, Ok, refl, sym, ap, ◌∙◌, subst, append_assoc, arith}
use Rattle.std.specs.Fmt.{decimal}
use Rattle.std.specs.Ordering.{is_lt}
use Rattle.std.proofs.lemmas.Bool.{le-ltb}
use Rattle.std.proofs.lemmas.Fmt.{length-decimal-le}
use Rattle.std.proofs.lemmas.List.{append-nil}
use Rattle.std.proofs.lemmas.List.Elements.{All-nil, All-cons, All-head, All-tail, All-contains, Contains-push}
use Rattle.std.proofs.lemmas.List.Sums.{sum_by-append}
use Rattle.hex.specs.Hex.{IsBytes}
use Rattle.sst_key.specs.declared.entries.Entry.{Entry}
use Rattle.sst_key.specs.Entry.{IsOrdered, weight, entry_weight}
use Rattle.sst_text.specs.Texts.{entry_of_line}
use Rattle.sst_text.specs.EntryText.{hex_text, kind_letter, entry_line, lines_text, AreBytes}
use Rattle.sst_bbt_write.specs.Reasons.{is_after, reason}
use Rattle.sst_cli.specs.InputReading.{by_reason, by_entry, read_line, read_from, read_input}
use Rattle.sst_bbt_write.specs.Written.{IsInLimits, Fits}
use Rattle.sst_text.proofs.LineEnds.{entry_line-cut, length-hex_text, length-blank}
use Rattle.sst_text.proofs.LineRoundTrip.{entry_of_line-entry_line}
use Rattle.sst_cli.proofs.ReadFrom.{read_from-item, read_from-end}
use Rattle.sst_bbt_write.proofs.Rows.{ComesAfter, weight-append, IsOrdered-last}

-- ---- the line of an entry is short

pub length-entry_line : (e : Entry) → IsInLimits e → length (entry_line e) ≤ 40000000
length-entry_line e limits =
    let last = kind_letter e.kind ∷ 32 ∷ hex_text e.value in
    let fits : e.seq < 2 ^ 64 = omega (arith, limits.seq) in
    let digits : length (decimal e.seq) ≤ 20 = length-decimal-le 20 e.seq (omega arith) (omega arith) fits in
    omega (arith, length-blank (hex_text e.user) (decimal e.seq ++ (32 ∷ last)), length-blank (decimal e.seq) last, length-hex_text e.user, length-hex_text e.value, limits.key, limits.value)

-- ---- an entry of a list that is written has no reason to be refused

is_after-from_comes_after : (entries : List Entry) (e : Entry) → ComesAfter e entries → is_after entries e ≡ true
is_after-from_comes_after [] e after = refl
is_after-from_comes_after (first ∷ rest) e (inl none) = absurd (cc)
is_after-from_comes_after (first ∷ rest) e (inr less) = ap is_lt less

-- the limits of the last entry
limits-last : (entries : List Entry) (e : Entry) → Fits (entries ++ e ∷ []) → IsInLimits e
limits-last entries e fits = All-contains IsInLimits (entries ++ e ∷ []) e fits.limits (Contains-push entries e)

pub reason-none : (entries : List Entry) (e : Entry) → Fits (entries ++ e ∷ []) → reason entries e ≡ None
reason-none entries e fits =
    let limits = limits-last entries e fits in
    let after = is_after-from_comes_after entries e (IsOrdered-last entries e fits.ordered fits.limits) in
    let key = le-ltb 65536 (length e.user) limits.key in
    let value = le-ltb 16777216 (length e.value) limits.value in
    let light = le-ltb (2 ^ 28) (weight entries + entry_weight e) (omega (arith, weight-append entries e, fits.light)) in
    rw (after, key, value, light) refl

-- ---- the front of a list that is written

IsOrdered-front : (front rest : List Entry) → IsOrdered (front ++ rest) → IsOrdered front
IsOrdered-front [] rest ordered = tt
IsOrdered-front (a ∷ []) rest ordered = tt
IsOrdered-front (a ∷ b ∷ front) rest ordered = (ordered.0, IsOrdered-front (b ∷ front) rest ordered.1)

limits-front : (front rest : List Entry) → All IsInLimits (front ++ rest) → All IsInLimits front
limits-front [] rest limits = All-nil IsInLimits
limits-front (a ∷ front) rest limits =
    All-cons IsInLimits a front (All-head IsInLimits a (front ++ rest) limits) (limits-front front rest (All-tail IsInLimits a (front ++ rest) limits))

pub Fits-front : (front rest : List Entry) → Fits (front ++ rest) → Fits front
Fits-front front rest fits = record {
  ordered = IsOrdered-front front rest fits.ordered;
  limits = limits-front front rest fits.limits;
  light = omega (arith, sum_by-append entry_weight front rest, fits.light);
}

-- ---- reading

-- a line that is short, is the line of an entry, and has no reason to be refused
read_line-entry : (entries : List Entry) (line : List ℕ) (e : Entry) → length line ≤ 40000000 → entry_of_line line ≡ Some e → reason entries e ≡ None → read_line entries line ≡ Ok e
unfolding read_line
read_line-entry entries line e short reads none =
    let within = le-ltb 40000000 (length line) short in
    rw within (ap (by_entry entries) reads ∙ ap (by_reason e) none)

read_line-entry_line : (entries : List Entry) (e : Entry) → Fits (entries ++ e ∷ []) → IsBytes e.user → IsBytes e.value → read_line entries (entry_line e) ≡ Ok e
read_line-entry_line entries e fits user value =
    let limits = limits-last entries e fits in
    read_line-entry entries (entry_line e) e (length-entry_line e limits) (entry_of_line-entry_line e user value limits.seq) (reason-none entries e fits)

-- the lines of a list after the entries before it
read_from-lines : (number : ℕ) (before rest : List Entry) → Fits (before ++ rest) → AreBytes rest → read_from read_line number before (lines_text rest) ≡ Ok (before ++ rest)
read_from-lines number before [] fits are = read_from-end read_line number before ∙ ap Ok (sym (append-nil before))
read_from-lines number before (e ∷ rest) fits are =
    let bytes = All-head (λ (e : Entry). IsBytes e.user × IsBytes e.value) e rest are in
    let more = All-tail (λ (e : Entry). IsBytes e.user × IsBytes e.value) e rest are in
    let same : ◌≡◌ {A = List Entry} ((before ++ e ∷ []) ++ rest) (before ++ (e ∷ rest)) = append_assoc before (e ∷ []) rest in
    let whole : Fits ((before ++ e ∷ []) ++ rest) = subst Fits (sym same) fits in
    let front = Fits-front (before ++ e ∷ []) rest whole in
    let limits = limits-last before e front in
    read_from-item read_line number before (lines_text (e ∷ rest)) (entry_line e) (lines_text rest) e
    (entry_line-cut e (lines_text rest) bytes.0 bytes.1 limits.seq) (read_line-entry_line before e front bytes.0 bytes.1)
    ∙ read_from-lines (number + 1) (before ++ e ∷ []) rest whole more
    ∙ ap Ok same

pub read_input-lines : (entries : List Entry) → Fits entries → AreBytes entries → read_input (lines_text entries) ≡ Ok entries
read_input-lines entries fits are = read_from-lines 1 [] entries fits are
