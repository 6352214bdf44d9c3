-- The text of a list of calls reads back as the list.
use Rattle.std.proofs.Common.{◌≡◌, ℕ, ◌+◌, ◌<◌, ◌≤◌, List, [], ◌∷◌, ◌++◌, length, Ok, refl, sym, ap, ◌∙◌, append_assoc, length-append, arith}
use Rattle.std.proofs.lemmas.List.{append-nil}
use Rattle.std.proofs.lemmas.List.Elements.{All-head, All-tail}
use Rattle.sst_key.specs.declared.calls.Call.{Call}
use Rattle.sst_text.specs.CallText.{call_line, calls_text, IsInLimits, AreInLimits, IsOfBytes, AreOfBytes}
use Rattle.sst_text.proofs.CallRoundTrip.{call_of_line-call_line, call_line-cut, length-call_line}
use Rattle.sst_cli.specs.InputReading.{read_call, read_from, read_calls}
use Rattle.sst_cli.proofs.ReadFrom.{read_from-item, read_from-end}
use Rattle.sst_cli.proofs.CallLines.{call_read}

-- the lines of some calls after the calls before them
read_from-calls : (number : ℕ) (before rest : List Call) → length (before ++ rest) ≤ 1048576 → AreInLimits rest → AreOfBytes rest → read_from read_call number before (calls_text rest) ≡ Ok (before ++ rest)
read_from-calls number before [] few limits bytes = read_from-end read_call number before ∙ ap Ok (sym (append-nil before))
read_from-calls number before (call ∷ rest) few limits bytes =
    let within = All-head IsInLimits call rest limits in
    let of_bytes = All-head IsOfBytes call rest bytes in
    let same : ◌≡◌ {A = List Call} ((before ++ call ∷ []) ++ rest) (before ++ (call ∷ rest)) = append_assoc before (call ∷ []) rest in
    let room : length before < 1048576 = omega (arith, length-append before (call ∷ rest)) in
    let fewer : length ((before ++ call ∷ []) ++ rest) ≤ 1048576 = omega (arith, ap (λ (l : List Call). length l) same) in
    read_from-item read_call number before (calls_text (call ∷ rest)) (call_line call) (calls_text rest) call
    (call_line-cut call (calls_text rest) within of_bytes)
    (call_read before (call_line call) call (length before) (length-call_line call within) (call_of_line-call_line call within of_bytes) refl room)
    ∙ read_from-calls (number + 1) (before ++ call ∷ []) rest fewer (All-tail IsInLimits call rest limits) (All-tail IsOfBytes call rest bytes)
    ∙ ap Ok same

pub read_calls-text : (calls : List Call) → length calls ≤ 1048576 → AreInLimits calls → AreOfBytes calls → read_calls (calls_text calls) ≡ Ok calls
read_calls-text calls few limits bytes = read_from-calls 1 [] calls few limits bytes
