-- What a text says fits: the entries of one are a list that is written, and the calls of one are within their limits.
use Rattle.std.proofs.Common.{◌≡◌, ℕ, ◌+◌, ◌<◌, ◌≤◌, nat_lt, nat_le, Bool, true, false, cond, List, [], ◌∷◌, ◌++◌, length, length-append, Option, Some, None, Result, Ok, Err, refl, sym, ap, ◌∙◌, subst, arith}
use Rattle.std.proofs.lemmas.Bool.{leb-false}
use Rattle.std.proofs.lemmas.List.Elements.{All-nil, All-push}
use Rattle.hex.specs.Hex.{IsBytes}
use Rattle.sst_key.specs.declared.calls.Call.{Call}
use Rattle.sst_key.specs.declared.entries.Entry.{Entry}
use Rattle.sst_key.specs.declared.faults.WriteFault.{WriteFault}
use Rattle.sst_cli.specs.declared.input.refusal.Reason.{Reason}
use Rattle.sst_cli.specs.declared.input.refusal.Reason.TheVariants as why
use Rattle.sst_cli.specs.declared.input.refusal.Refusal.{Refusal}
use Rattle.sst_text.specs.CallText.{call_of_line, IsInLimits, AreInLimits, IsOfBytes, AreOfBytes}
use Rattle.sst_text.specs.EntryText.{AreBytes}
use Rattle.sst_cli.specs.InputReading.{by_reason, by_entry, by_call, read_line, read_call, read_last, read_pieces, read_from, read_input, read_calls, pieces_of, refused_at, result_match}
use Rattle.sst_bbt_write.specs.Reasons.{reason}
use Rattle.sst_text.specs.Texts.{entry_of_line}
use Rattle.sst_bbt_write.specs.Written.{Fits}
use Rattle.sst_bbt_write.proofs.Added.{Fits-next}
use Rattle.sst_cli.proofs.CallLines.{call_of_line-some, call_of_line-bytes}
use Rattle.sst_text.proofs.EntryLines.{entry_of_line-seq, entry_of_line-bytes}
use Rattle.sst_cli.proofs.ReadFrom.{Says}
use Rattle.sst_bbt_write.proofs.Rows.{Fits-nil}

same_ok : {A B : Type 0} (x y : A) → ◌≡◌ {A = Result A B} (Ok x) (Ok y) → x ≡ y
same_ok x y e = cc

-- an answer that isn't the error of a test
past_test : {A B : Type 0} (test : Bool) (w : B) (rest : Result A B) (x : A) → cond test (Err w) rest ≡ Ok x → (test ≡ false) × (rest ≡ Ok x)
past_test true w rest x e = absurd cc
past_test false w rest x e = (refl, e)

-- ---- the lines of a text

-- what holds of the items before each line holds of them and what the line says
abbrev Lasts : {A : Type 0} → Says A → (List A → Type 0) → Type 0
Lasts {A} read P = (items : List A) (line : List ℕ) (x : A) → P items → read items line ≡ Ok x → P (items ++ x ∷ [])

read_last-keeps : {A : Type 0} (P : List A → Type 0) (number : ℕ) (items all : List A) (last : List ℕ) → P items
    → read_last number items last ≡ Ok all → P all
read_last-keeps P number items all [] holds e = subst P (same_ok items all e) holds
read_last-keeps P number items all (b ∷ rest) holds e =
    let later = past_test (nat_lt 40000000 (length (b ∷ rest))) (refused_at number why.LineLong) (Err (refused_at number why.Line)) all e in
    absurd (cc (later.1))

-- and so of all that the text says
read_pieces-keeps : {A : Type 0} (read : Says A) (P : List A → Type 0) → Lasts read P → (number : ℕ) (items all : List A) (pieces : List (List ℕ))
    → P items → read_pieces read number items pieces ≡ Ok all → P all
read_pieces-keeps read P lasts number items all [] holds e = subst P (same_ok items all e) holds
read_pieces-keeps read P lasts number items all (last ∷ []) holds e = read_last-keeps P number items all last holds e
read_pieces-keeps {A} read P lasts number items all (line ∷ next ∷ rest) holds e =
    elim (read items line) as (λ (r : Result A Reason). read items line ≡ r
    → ◌≡◌ {A = Result (List A) Refusal} (result_match r (λ x. read_pieces read (number + 1) (items ++ x ∷ []) (next ∷ rest)) (λ w. Err (refused_at number w))) (Ok all) → P all) [
      | Ok x ↦ λ is e. read_pieces-keeps read P lasts (number + 1) (items ++ x ∷ []) all (next ∷ rest) (lasts items line x holds is) e
      | Err w ↦ λ is e. absurd cc
    ] refl e

read_from-keeps : {A : Type 0} (read : Says A) (P : List A → Type 0) → Lasts read P → (number : ℕ) (items all : List A) (text : List ℕ)
    → P items → read_from read number items text ≡ Ok all → P all
unfolding read_from
read_from-keeps read P lasts number items all text holds e = read_pieces-keeps read P lasts number items all (pieces_of text) holds e

-- ---- entries

by_reason-ok : (e x : Entry) (fault : Option WriteFault) → by_reason e fault ≡ Ok x → (fault ≡ None) × (e ≡ x)
by_reason-ok e x None same = (refl, same_ok e x same)
by_reason-ok e x (Some fault) same = absurd cc

by_entry-ok : (entries : List Entry) (read : Option Entry) (x : Entry) → by_entry entries read ≡ Ok x → (read ≡ Some x) × (reason entries x ≡ None)
by_entry-ok entries None x e = absurd cc
by_entry-ok entries (Some y) x e =
    let parts = by_reason-ok y x (reason entries y) e in
    (ap Some parts.1, ap (reason entries) (sym parts.1) ∙ parts.0)

read_line-ok : (entries : List Entry) (line : List ℕ) (x : Entry) → read_line entries line ≡ Ok x → (entry_of_line line ≡ Some x) × (reason entries x ≡ None)
unfolding read_line
read_line-ok entries line x e =
    by_entry-ok entries (entry_of_line line) x
    (past_test (nat_lt 40000000 (length line)) why.LineLong (by_entry entries (entry_of_line line)) x e).1

-- the entries are a list that is written, of bytes
abbrev AreGood : List Entry → Type 0
AreGood entries = Fits entries × AreBytes entries

good-next : Lasts read_line AreGood
good-next entries line x good e =
    let is = read_line-ok entries line x e in (
      Fits-next entries x good.0 (entry_of_line-seq line x is.0) is.1,
      All-push (λ (e : Entry). IsBytes e.user × IsBytes e.value) entries x good.1 (entry_of_line-bytes line x is.0),
    )

pub read_input-fits : (text : List ℕ) (entries : List Entry) → read_input text ≡ Ok entries → Fits entries × AreBytes entries
read_input-fits text entries e =
    read_from-keeps read_line AreGood good-next 1 [] entries text (Fits-nil, All-nil (λ (e : Entry). IsBytes e.user × IsBytes e.value)) e

-- ---- calls

by_call-ok : (calls : List Call) (read : Option Call) (x : Call) → by_call calls read ≡ Ok x → (read ≡ Some x) × (length calls < 1048576)
by_call-ok calls None x e = absurd cc
by_call-ok calls (Some y) x e =
    let parts = past_test (nat_le 1048576 (length calls)) why.Many (Ok y) x e in
    (ap Some (same_ok y x parts.1), leb-false 1048576 (length calls) parts.0)

read_call-ok : (calls : List Call) (line : List ℕ) (x : Call) → read_call calls line ≡ Ok x → (call_of_line line ≡ Some x) × (length calls < 1048576)
unfolding read_call
read_call-ok calls line x e =
    by_call-ok calls (call_of_line line) x
    (past_test (nat_lt 40000000 (length line)) why.LineLong (by_call calls (call_of_line line)) x e).1

-- the calls are no more than an input has, and within their limits
abbrev AreTaken : List Call → Type 0
AreTaken calls = (length calls ≤ 1048576) × AreInLimits calls × AreOfBytes calls

taken-next : Lasts read_call AreTaken
taken-next calls line x taken e =
    let is = read_call-ok calls line x e in (
      omega (arith, is.1, length-append calls (x ∷ [])),
      All-push IsInLimits calls x taken.1 (call_of_line-some line x is.0),
      All-push IsOfBytes calls x taken.2 (call_of_line-bytes line x is.0),
    )

pub read_calls-fit : (text : List ℕ) (calls : List Call) → read_calls text ≡ Ok calls → (length calls ≤ 1048576) × AreInLimits calls × AreOfBytes calls
read_calls-fit text calls e =
    read_from-keeps read_call AreTaken taken-next 1 [] calls text (omega arith, All-nil IsInLimits, All-nil IsOfBytes) e
