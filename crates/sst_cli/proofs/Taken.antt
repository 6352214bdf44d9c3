-- How much of a text was taken, line by line.
use Rattle.std.proofs.Common.{◌≡◌, inl, inr, ℕ, zero, suc, ◌+◌, ◌≤◌, List, ◌++◌, length, take, drop, Option, Some, None, refl, sym, ap, ◌∙◌, arith}
use Rattle.std.specs.Option.{option_map}
use Rattle.std.specs.Io.KnownBytes.{prepend_known}
use Rattle.sst_cli.specs.declared.input.refusal.Refusal.{Refusal}
use Rattle.sst_text.specs.Texts.{cut}
use Rattle.sst_cli.specs.NextLine.{IsNext, HasNoLine}
use Rattle.sst_text.specs.Taken.{past_line, past_lines, IsTakenTo}
use Rattle.sst_text.proofs.Cut.{cut-append_some}
use Rattle.sst_text.proofs.PastLine.{past_line-found, past_line-append}

-- the line that was found is passed
pub near_passed : (unread : List ℕ) (left : Option (List ℕ)) (n : ℕ) → IsNext (Some n) unread left → length (past_line unread) ≤ 65536
    → length (drop 1 (drop n unread)) ≤ 65536
near_passed unread left n next near =
    let past = past_line-found unread (take n unread) (drop 1 (drop n unread)) next.1 in
    rw past at near

-- ---- past some lines

-- what is left is what follows so many lines
abbrev pub IsPast : ℕ → Option (List ℕ) → Option (List ℕ) → Type 0
IsPast n start left = option_map (past_lines n) start ≡ left

past_lines-step : (n : ℕ) (text : List ℕ) → past_lines (n + 1) text ≡ past_line (past_lines n text)
past_lines-step zero text = refl
past_lines-step (suc n) text = let more : suc n + 1 ≡ suc (n + 1) = omega arith in rw more (past_lines-step n (past_line text))

-- a line more was passed
past_known : (n : ℕ) (text unread rest line after : List ℕ) → past_lines n text ≡ unread ++ rest → cut 10 unread ≡ Some (line, after)
    → past_lines (n + 1) text ≡ after ++ rest
past_known n text unread rest line after is found =
    past_lines-step n text ∙ ap past_line is ∙ past_line-found (unread ++ rest) line (after ++ rest) (cut-append_some 10 unread rest line after found)

pub past_next : (n k : ℕ) (start before left : Option (List ℕ)) (unread : List ℕ) → IsPast n start before → before ≡ prepend_known unread left → IsNext (Some k) unread left
    → IsPast (n + 1) start (prepend_known (drop 1 (drop k unread)) left)
past_next n k None before None unread past told next = refl
past_next n k None before (Some rest) unread past told next = let both = past ∙ told in absurd cc
past_next n k (Some text) before None unread past told next = let both = past ∙ told in absurd cc
past_next n k (Some text) before (Some rest) unread past told next =
    let both = past ∙ told in
    let is : past_lines n text ≡ unread ++ rest = cc in
    ap Some (past_known n text unread rest (take k unread) (drop 1 (drop k unread)) is next.1)

-- what was to come, where it is told what was to come at the start
past_told : (n : ℕ) (start before : Option (List ℕ)) (text : List ℕ) → IsPast n start before → start ≡ Some text → before ≡ Some (past_lines n text)
past_told n start before text past told = sym past ∙ ap (option_map (past_lines n)) told

-- ---- where the reading stopped

-- of what was to come at most a piece past its first line was taken
abbrev pub IsNear : Option (List ℕ) → Option (List ℕ) → Type 0
IsNear before left = (text : List ℕ) → before ≡ Some text → IsTakenTo 1 text left

pub near_read : (before left : Option (List ℕ)) (unread : List ℕ) → before ≡ prepend_known unread left → length (past_line unread) ≤ 65536 → IsNear before left
near_read before None unread told near = λ text is. let both = sym told ∙ is in absurd cc
near_read before (Some rest) unread told near = λ text is.
    let both = sym told ∙ is in
    let same : unread ++ rest ≡ text = cc in
    let most = past_line-append unread rest in
    record { rest = rest; told = refl; near = rw (← same) (omega arith) }

-- the same from the start on
pub near_on : (n lines : ℕ) (start before left : Option (List ℕ)) (text : List ℕ) → IsPast n start before → IsNear before left → lines ≡ n + 1 → start ≡ Some text
    → IsTakenTo lines text left
near_on n lines start before left text past near counted told =
    let taken = near (past_lines n text) (past_told n start before text past told) in
    let most : length (past_line (past_lines n text)) ≤ 65536 + length taken.rest = taken.near in
    record { rest = taken.rest; told = taken.told; near = rw (counted, past_lines-step n text) most }

-- no line can be read: the number of the line that is refused
no_line-number : (number : ℕ) (text : List ℕ) (refusal : Refusal) → HasNoLine number text refusal → refusal.line ≡ number
no_line-number number text refusal (inl long) = ap (λ (r : Refusal). r.line) long.1
no_line-number number text refusal (inr unended) = ap (λ (r : Refusal). r.line) unended.1

pub near_no_line : (n number : ℕ) (start before left : Option (List ℕ)) (text : List ℕ) (refusal : Refusal) → IsPast n start before → IsNear before left
    → number ≡ n → start ≡ Some text → ((rest : List ℕ) → before ≡ Some rest → HasNoLine (number + 1) rest refusal) → IsTakenTo refusal.line text left
near_no_line n number start before left text refusal past near counted told none =
    let line = no_line-number (number + 1) (past_lines n text) refusal (none (past_lines n text) (past_told n start before text past told)) in
    near_on n refusal.line start before left text past near (line ∙ ap (λ k. k + 1) counted) told
