-- What a call line says, the limits of its target, and that its user key is bytes.
use Rattle.std.proofs.Common.{◌≡◌, ℕ, ◌<◌, ◌≤◌, ◌^◌, nat_le, Bool, true, false, cond, List, length, codes, Option, Some, None, IfSome, Ok, refl, ap, ◌∙◌, subst, arith}
use Rattle.std.specs.Str.{bytes_eq}
use Rattle.std.proofs.lemmas.Bool.{le-ltb, lt-ltb, leb-true, le-leb, lt-leb}
use Rattle.std.proofs.lemmas.Option.{option_and_then_some, cond_some}
use Rattle.hex.specs.Hex.{IsBytes}
use Rattle.sst_key.specs.declared.calls.Target.{Target}
use Rattle.sst_key.specs.declared.calls.Call.{Call}
use Rattle.sst_key.specs.declared.calls.Call.TheVariants.{Get, First, Last, Seek, SeekForPrev, Next, Prev}
use Rattle.sst_cli.specs.declared.input.refusal.Refusal.{Refusal}
use Rattle.sst_cli.specs.declared.input.refusal.Reason.TheVariants as why
use Rattle.sst_cli.specs.declared.input.entries.InputStop.{InputStop}
use Rattle.sst_cli.specs.declared.input.entries.InputStop.TheVariants as stop
use Rattle.sst_text.specs.Texts.{cut, bytes_field, seq_field}
use Rattle.sst_text.specs.CallText.{target_of_user, target_of, plain_call, call_to, call_of_parts, call_of_line, target_in, IsTargetInLimits, IsInLimits, IsOfBytes}
use Rattle.sst_cli.specs.InputReading.{read_call, by_call, refused_at}
use Rattle.sst_cli.specs.ReadingResult.{IsRefused}
use Rattle.sst_text.proofs.EntryLines.{seq_field-some, bytes_field-some}
use Rattle.sst_cli.proofs.ReadFrom.{IsLimited}

-- a line past its limit is refused for that, whatever calls came before
pub read_call-limited : IsLimited read_call
unfolding read_call
read_call-limited calls line long = rw (lt-ltb 40000000 (length line) long) refl

-- what a line within its limit says
pub read_call-short : (calls : List Call) (line : List ℕ) → length line ≤ 40000000 → read_call calls line ≡ by_call calls (call_of_line line)
unfolding read_call
read_call-short calls line short = rw (le-ltb 40000000 (length line) short) refl

-- ---- the limits of a call

same_some : {A : Type 0} (x y : A) → Some x ≡ Some y → x ≡ y
same_some x y e = cc

target_of_user-some : (seq : ℕ) (user : List ℕ) (t : Target) → seq < 2 ^ 56 → target_of_user seq user ≡ Some t → IsTargetInLimits t
target_of_user-some seq user t low e =
    let parts = cond_some (nat_le (length user) 65536) (record { user = user; seq = seq }) t e in
    let short = leb-true (length user) 65536 parts.0 in
    let key = ap (λ (t : Target). length t.user) parts.1 in
    let same = ap (λ (t : Target). t.seq) parts.1 in
    record { key = omega arith; seq = omega arith }

target_of-some : (text : List ℕ) (t : Target) → target_of text ≡ Some t → IsTargetInLimits t
target_of-some text t e =
    option_and_then_some _ (cut 32 text) t e (λ fields _ ef.
    option_and_then_some _ (seq_field fields.1) t ef (λ seq is es.
    option_and_then_some _ (bytes_field fields.0) t es (λ user _ eu.
    target_of_user-some seq user t (seq_field-some fields.1 seq is) eu)))

target_of_user-is : (seq : ℕ) (user : List ℕ) (t : Target) → target_of_user seq user ≡ Some t → user ≡ t.user
target_of_user-is seq user t e = ap (λ (t : Target). t.user) (cond_some (nat_le (length user) 65536) (record { user = user; seq = seq }) t e).1

target_of-bytes : (text : List ℕ) (t : Target) → target_of text ≡ Some t → IsBytes t.user
target_of-bytes text t e =
    option_and_then_some _ (cut 32 text) t e (λ fields _ ef.
    option_and_then_some _ (seq_field fields.1) t ef (λ seq _ es.
    option_and_then_some _ (bytes_field fields.0) t es (λ user is eu.
    subst IsBytes (target_of_user-is seq user t eu) (bytes_field-some fields.0 user is))))

-- what holds of the target of a call, if it has one
abbrev Of : (Target → Type 0) → Call → Type 0
Of P call = IfSome (target_in call) P

-- a choice by tests, of which it holds of each answer but the last
choose : (P : Target → Type 0) (test : Bool) (call other : Call) (rest : Option Call) → Of P call → (rest ≡ Some other → Of P other)
    → cond test (Some call) rest ≡ Some other → Of P other
choose P true call other rest within more e = rw (← same_some call other e) within
choose P false call other rest within more e = more e

plain_call-some : (P : Target → Type 0) (name : List ℕ) (call : Call) → plain_call name ≡ Some call → Of P call
plain_call-some P name call =
    choose P (bytes_eq name (codes "first")) First call _ tt
    (choose P (bytes_eq name (codes "last")) Last call _ tt
    (choose P (bytes_eq name (codes "next")) Next call _ tt
    (choose P (bytes_eq name (codes "prev")) Prev call None tt (λ e. absurd cc))))

call_to-some : (P : Target → Type 0) (name : List ℕ) (t : Target) (call : Call) → P t → call_to name t ≡ Some call → Of P call
call_to-some P name t call within =
    choose P (bytes_eq name (codes "get")) (Get t) call _ within
    (choose P (bytes_eq name (codes "seek")) (Seek t) call _ within
    (choose P (bytes_eq name (codes "seek_for_prev")) (SeekForPrev t) call None within (λ e. absurd cc)))

-- what holds of each target that is read holds of that of a call line
call_of_parts-some : (P : Target → Type 0) → ((text : List ℕ) (t : Target) → target_of text ≡ Some t → P t)
    → (line : List ℕ) (parts : Option (List ℕ × List ℕ)) (call : Call) → call_of_parts line parts ≡ Some call → Of P call
call_of_parts-some P of line None call e = plain_call-some P line call e
call_of_parts-some P of line (Some parts) call e =
    option_and_then_some (call_to parts.0) (target_of parts.1) call e (λ t is more. call_to-some P parts.0 t call (of parts.1 t is) more)

-- the target of a call line is in its limits
pub call_of_line-some : (line : List ℕ) (call : Call) → call_of_line line ≡ Some call → IsInLimits call
call_of_line-some line call e = call_of_parts-some IsTargetInLimits target_of-some line (cut 32 line) call e

-- and its user key is bytes
pub call_of_line-bytes : (line : List ℕ) (call : Call) → call_of_line line ≡ Some call → IsOfBytes call
call_of_line-bytes line call e = call_of_parts-some (λ target. IsBytes target.user) target_of-bytes line (cut 32 line) call e

-- ---- what a line comes to

-- a call with room for it
pub call_read : (calls : List Call) (line : List ℕ) (call : Call) (count : ℕ) → length line ≤ 40000000 → call_of_line line ≡ Some call
    → count ≡ length calls → count < 1048576 → read_call calls line ≡ Ok call
call_read calls line call count short is counted few =
    let room : nat_le 1048576 (length calls) ≡ false = lt-leb 1048576 (length calls) (omega arith) in
    read_call-short calls line short ∙ ap (by_call calls) is ∙ rw room refl

-- a line that isn't a call line
pub line_not_call : (calls : List Call) (line : List ℕ) (number : ℕ) (answer : InputStop) (refusal : Refusal) → length line ≤ 40000000 → call_of_line line ≡ None
    → answer ≡ stop.Refused (refused_at number why.Line) → answer ≡ stop.Refused refusal → IsRefused (read_call calls line) number refusal
line_not_call calls line number answer refusal short none said is =
    record { why = why.Line; reads = read_call-short calls line short ∙ ap (by_call calls) none; said = cc }

-- a call with no room for it
pub call_too_many : (calls : List Call) (line : List ℕ) (call : Call) (count number : ℕ) (answer : InputStop) (refusal : Refusal) → length line ≤ 40000000 → call_of_line line ≡ Some call
    → count ≡ length calls → 1048576 ≤ count
    → answer ≡ stop.Refused (refused_at number why.Many) → answer ≡ stop.Refused refusal → IsRefused (read_call calls line) number refusal
call_too_many calls line call count number answer refusal short is counted full said given =
    let none : nat_le 1048576 (length calls) ≡ true = le-leb 1048576 (length calls) (omega arith) in
    record { why = why.Many; reads = read_call-short calls line short ∙ ap (by_call calls) is ∙ rw none refl; said = cc }
