-- The line of a call reads back as the call, and is short.
use Rattle.std.proofs.Common.{◌≡◌, ℕ, ◌^◌, ◌<◌, ◌≤◌, List, [], ◌∷◌, ◌++◌, length, codes, Some, option_and_then, refl, ap, ◌∙◌, append_assoc, arith}
use Rattle.std.specs.Fmt.{decimal}
use Rattle.std.proofs.lemmas.Bool.{le-leb}
use Rattle.std.proofs.lemmas.Fmt.{length-decimal-le}
use Rattle.hex.specs.Hex.{IsBytes}
use Rattle.sst_key.specs.declared.calls.Target.{Target}
use Rattle.sst_key.specs.declared.calls.Call.{Call}
use Rattle.sst_key.specs.declared.calls.Call.TheVariants.{Get, First, Last, Seek, SeekForPrev, Next, Prev}
use Rattle.sst_text.specs.Texts.{cut, bytes_field, seq_field}
use Rattle.sst_text.specs.EntryText.{hex_text}
use Rattle.sst_text.specs.CallText.{target_of_fields, target_of, call_to, call_of_line, call_line, ended_call, IsTargetInLimits, IsInLimits, IsOfBytes}
use Rattle.sst_text.proofs.FieldBytes.{IsStop, hex_text-avoids, decimal-avoids, cut-front}
use Rattle.sst_text.proofs.LineRoundTrip.{bytes_field-hex_text, seq_field-decimal}
use Rattle.sst_text.proofs.LineEnds.{blank-avoids, length-hex_text, length-blank}

-- ---- the target

-- the two fields of a target
abbrev fields_text : Target → List ℕ
fields_text t = hex_text t.user ++ (32 ∷ decimal t.seq)

-- the target of two fields that read back
target_of_fields-read : (user seq : List ℕ) (t : Target) → bytes_field user ≡ Some t.user → seq_field seq ≡ Some t.seq → length t.user ≤ 65536 → target_of_fields user seq ≡ Some t
target_of_fields-read user seq t key number short = let within = le-leb (length t.user) 65536 short in rw (number, key, within) refl

target_of-text : (t : Target) → IsTargetInLimits t → IsBytes t.user → target_of (fields_text t) ≡ Some t
target_of-text t limits bytes =
    let stop : IsStop 32 = (omega arith, refl) in
    ap (option_and_then (λ (fields : List ℕ × List ℕ). target_of_fields fields.0 fields.1)) (cut-front 32 (hex_text t.user) (decimal t.seq) (hex_text-avoids 32 t.user stop bytes))
    ∙ target_of_fields-read (hex_text t.user) (decimal t.seq) t (bytes_field-hex_text t.user bytes) (seq_field-decimal t.seq limits.seq) limits.key

-- ---- the line

pub call_of_line-call_line : (call : Call) → IsInLimits call → IsOfBytes call → call_of_line (call_line call) ≡ Some call
call_of_line-call_line (Get t) limits bytes = ap (option_and_then (call_to (codes "get"))) (target_of-text t limits bytes)
call_of_line-call_line First limits bytes = refl
call_of_line-call_line Last limits bytes = refl
call_of_line-call_line (Seek t) limits bytes = ap (option_and_then (call_to (codes "seek"))) (target_of-text t limits bytes)
call_of_line-call_line (SeekForPrev t) limits bytes = ap (option_and_then (call_to (codes "seek_for_prev"))) (target_of-text t limits bytes)
call_of_line-call_line Next limits bytes = refl
call_of_line-call_line Prev limits bytes = refl

-- the text after two fields and a line end begins there
fields_text-cut : (t : Target) (text : List ℕ) → IsTargetInLimits t → IsBytes t.user → cut 10 ((fields_text t ++ 10 ∷ []) ++ text) ≡ Some (fields_text t, text)
fields_text-cut t text limits bytes =
    let stop : IsStop 10 = (omega arith, refl) in
    let fits : t.seq < 2 ^ 64 = omega (arith, limits.seq) in
    ap (cut 10) (append_assoc (fields_text t) (10 ∷ []) text)
    ∙ cut-front 10 (fields_text t) text (blank-avoids (hex_text t.user) (decimal t.seq) (hex_text-avoids 10 t.user stop bytes) (decimal-avoids 10 t.seq stop fits))

-- the text after a call line begins after its line end
pub call_line-cut : (call : Call) (text : List ℕ) → IsInLimits call → IsOfBytes call → cut 10 (ended_call call ++ text) ≡ Some (call_line call, text)
call_line-cut (Get t) text limits bytes = rw (fields_text-cut t text limits bytes) refl
call_line-cut First text limits bytes = refl
call_line-cut Last text limits bytes = refl
call_line-cut (Seek t) text limits bytes = rw (fields_text-cut t text limits bytes) refl
call_line-cut (SeekForPrev t) text limits bytes = rw (fields_text-cut t text limits bytes) refl
call_line-cut Next text limits bytes = refl
call_line-cut Prev text limits bytes = refl

-- ---- a call line is short

length-fields_text : (t : Target) → IsTargetInLimits t → length (fields_text t) ≤ 131094
length-fields_text t limits =
    let fits : t.seq < 2 ^ 64 = omega (arith, limits.seq) in
    let digits : length (decimal t.seq) ≤ 20 = length-decimal-le 20 t.seq (omega arith) (omega arith) fits in
    omega (arith, length-blank (hex_text t.user) (decimal t.seq), length-hex_text t.user, limits.key)

pub length-call_line : (call : Call) → IsInLimits call → length (call_line call) ≤ 40000000
length-call_line (Get t) limits = omega (arith, length-fields_text t limits)
length-call_line First limits = omega arith
length-call_line Last limits = omega arith
length-call_line (Seek t) limits = omega (arith, length-fields_text t limits)
length-call_line (SeekForPrev t) limits = omega (arith, length-fields_text t limits)
length-call_line Next limits = omega arith
length-call_line Prev limits = omega arith
