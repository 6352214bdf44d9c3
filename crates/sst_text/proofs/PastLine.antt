-- What follows the first line of a text, and how much was read of it.
use Rattle.std.proofs.Common.{◌≡◌, ℕ, suc, ◌+◌, ◌≤◌, ◌==◌, true, false, cond, List, [], ◌∷◌, ◌++◌, length, Option, Some, None, refl, sym, ap, ◌∙◌, length-append, arith}
use Rattle.std.specs.Option.{option_map}
use Rattle.std.proofs.lemmas.List.{append-nil}
use Rattle.sst_text.specs.Texts.{cut}
use Rattle.sst_text.specs.Taken.{past_line}
use Rattle.sst_text.proofs.Cut.{cut-parts}

-- the first byte is no line end, and none is among the others
pub none_first : (x : ℕ) (front : List ℕ) → cut 10 (x ∷ front) ≡ None → ((x == 10) ≡ false) × (cut 10 front ≡ None)
none_first x front none =
    elim (x == 10) as (λ t. (x == 10) ≡ t → ◌≡◌ {A = Option (List ℕ × List ℕ)} (cond t (Some ([], front)) (option_map (λ (parts : List ℕ × List ℕ). (x ∷ parts.0, parts.1)) (cut 10 front))) None → ((x == 10) ≡ false) × (cut 10 front ≡ None)) [
      | true ↦ λ is e. absurd cc
      | false ↦ λ is e. (is, elim (cut 10 front) as (λ o. ◌≡◌ {A = Option (List ℕ × List ℕ)} (option_map (λ (parts : List ℕ × List ℕ). (x ∷ parts.0, parts.1)) o) None → o ≡ None) [ None ↦ λ _. refl | Some p ↦ λ e. absurd cc ] e)
    ] refl none

-- ---- past one line

-- some bytes without a line end don't count
pub past_line-after : (front text : List ℕ) → cut 10 front ≡ None → past_line (front ++ text) ≡ past_line text
past_line-after [] text none = refl
past_line-after (x ∷ front) text none =
    let parts = none_first x front none in
    rw parts.0 (past_line-after front text parts.1)

pub past_line-none : (text : List ℕ) → cut 10 text ≡ None → past_line text ≡ []
past_line-none text none = ap past_line (sym (append-nil text)) ∙ past_line-after text [] none

pub past_line-found : (text line after : List ℕ) → cut 10 text ≡ Some (line, after) → past_line text ≡ after
past_line-found text line after found =
    let parts = cut-parts 10 text line after found in
    ap past_line parts.0 ∙ past_line-after line (10 ∷ after) parts.1

pub past_line-shorter : (text : List ℕ) → length (past_line text) ≤ length text
past_line-shorter [] = omega arith
past_line-shorter (x ∷ text) =
    elim (x == 10) as (λ t. length (cond t text (past_line text)) ≤ suc (length text)) [
      | true ↦ omega arith
      | false ↦ omega (arith, past_line-shorter text)
    ]

pub past_line-append : (front rest : List ℕ) → length (past_line (front ++ rest)) ≤ length (past_line front) + length rest
past_line-append [] rest = omega (arith, past_line-shorter rest)
past_line-append (x ∷ front) rest =
    elim (x == 10) as (λ t. length (cond t (front ++ rest) (past_line (front ++ rest))) ≤ length (cond t front (past_line front)) + length rest) [
      | true ↦ omega (arith, length-append front rest)
      | false ↦ past_line-append front rest
    ]

-- ---- what was read and not passed

-- no line ends in it
pub near_none : (bytes : List ℕ) → cut 10 bytes ≡ None → length (past_line bytes) ≤ 65536
near_none bytes none = rw (past_line-none bytes none) (omega arith)

-- no line ends in it but in the last piece
pub near_piece : (bytes piece all : List ℕ) → cut 10 bytes ≡ None → all ≡ bytes ++ piece → length piece ≤ 65536 → length (past_line all) ≤ 65536
near_piece bytes piece all none is small =
    let past : past_line all ≡ past_line piece = ap past_line is ∙ past_line-after bytes piece none in
    rw past (omega (arith, past_line-shorter piece))

-- no more than a piece
pub near_short : (bytes : List ℕ) → length bytes ≤ 65536 → length (past_line bytes) ≤ 65536
near_short bytes short = omega (arith, past_line-shorter bytes)
