-- A search for the first place of a byte cuts a text there.
use Rattle.std.proofs.Common.{◌≡◌, ℕ, zero, suc, ◌<◌, ◌==◌, true, false, cond, List, [], ◌∷◌, ◌++◌, length, take, drop, slice_index, Option, Some, None, MatchOption, refl, sym, ap, length-append, length-take, append_assoc, arith}
use borrow.Author.Tests.{eqb-true, eq-eqb}
use Rattle.std.proofs.lemmas.List.{append-nil}
use Rattle.std.specs.Option.{option_map}
use Rattle.memchr.specs.Find.{IsFirstByte, is_byte}
use Rattle.sst_text.specs.Texts.{cut}

-- no such byte, no cut
pub cut-none : (byte : ℕ) (text : List ℕ) → ((k : ℕ) → k < length text → (slice_index text k == byte) ≡ true → ⊥) → cut byte text ≡ None
cut-none byte [] h = refl
cut-none byte (x ∷ rest) h =
    elim (x == byte) as (λ t. (x == byte) ≡ t → cond {A = Option (List ℕ × List ℕ)} t (Some ([], rest)) (option_map (λ (parts : List ℕ × List ℕ). (x ∷ parts.0, parts.1)) (cut byte rest)) ≡ None) [
      | true ↦ λ is. absurd (h 0 (omega arith) is)
      | false ↦ λ is. ap (option_map (λ (parts : List ℕ × List ℕ). (x ∷ parts.0, parts.1))) (cut-none byte rest (λ k low. h (suc k) (omega arith)))
    ] refl

-- the first such byte is where the text is cut
pub cut-some : (byte : ℕ) (text : List ℕ) (k : ℕ) → k < length text
    → ((j : ℕ) → j < k → (slice_index text j == byte) ≡ true → ⊥) → (slice_index text k == byte) ≡ true
    → cut byte text ≡ Some (take k text, drop 1 (drop k text))
cut-some byte [] k low before here = absurd (omega arith)
cut-some byte (x ∷ rest) zero low before here = rw here refl
cut-some byte (x ∷ rest) (suc k) low before here =
    elim (x == byte) as (λ t. (x == byte) ≡ t → ◌≡◌ {A = Option (List ℕ × List ℕ)} (cond t (Some ([], rest)) (option_map (λ (parts : List ℕ × List ℕ). (x ∷ parts.0, parts.1)) (cut byte rest))) (Some (x ∷ take k rest, drop 1 (drop k rest)))) [
      | true ↦ λ is. absurd (before 0 (omega arith) is)
      | false ↦ λ is. ap (option_map (λ (parts : List ℕ × List ℕ). (x ∷ parts.0, parts.1))) (cut-some byte rest k (omega arith) (λ j less. before (suc j) (omega arith)) here)
    ] refl

-- one more byte before a cut
abbrev longer : ℕ → List ℕ × List ℕ → List ℕ × List ℕ
longer x parts = (x ∷ parts.0, parts.1)

-- a cut text is its parts with the byte between them, which the first part hasn't
pub cut-parts : (byte : ℕ) (text before after : List ℕ) → cut byte text ≡ Some (before, after)
    → (text ≡ before ++ (byte ∷ after)) × (cut byte before ≡ None)
cut-parts byte [] before after e = absurd cc
cut-parts byte (x ∷ rest) before after e =
    elim (x == byte) as (λ t. (x == byte) ≡ t → ◌≡◌ {A = Option (List ℕ × List ℕ)} (cond t (Some ([], rest)) (option_map (longer x) (cut byte rest))) (Some (before, after)) → (x ∷ rest ≡ before ++ (byte ∷ after)) × (cut byte before ≡ None)) [
      | true ↦ λ is e.
          let same : x ≡ byte = eqb-true x byte is in
          let parts : ◌≡◌ {A = List ℕ × List ℕ} ([], rest) (before, after) = cc in
          let none : before ≡ [] = sym (ap (λ (p : List ℕ × List ℕ). p.0) parts) in
          let all : rest ≡ after = ap (λ (p : List ℕ × List ℕ). p.1) parts in
          (rw (none, same, all) refl, rw none refl)
      | false ↦ λ is e. elim (cut byte rest) as (λ o. cut byte rest ≡ o → ◌≡◌ {A = Option (List ℕ × List ℕ)} (option_map (longer x) o) (Some (before, after)) → (x ∷ rest ≡ before ++ (byte ∷ after)) × (cut byte before ≡ None)) [
        | None ↦ λ _ e. absurd cc
        | Some p ↦ λ found e.
            let parts : ◌≡◌ {A = List ℕ × List ℕ} (longer x p) (before, after) = cc in
            let first : before ≡ x ∷ p.0 = sym (ap (λ (p : List ℕ × List ℕ). p.0) parts) in
            let last : p.1 ≡ after = ap (λ (p : List ℕ × List ℕ). p.1) parts in
            let more = cut-parts byte rest p.0 p.1 found in
            (rw (first, ← last) (ap (λ (r : List ℕ). x ∷ r) more.0), rw (first, is, more.1) refl)
      ] refl e
    ] refl e

-- no cut in the front: the cut is that of the rest
pub cut-append_none : (byte : ℕ) (front rest : List ℕ) → cut byte front ≡ None
    → cut byte (front ++ rest) ≡ option_map (λ (parts : List ℕ × List ℕ). (front ++ parts.0, parts.1)) (cut byte rest)
cut-append_none byte [] rest e = elim (cut byte rest) as (λ o. o ≡ option_map (λ (parts : List ℕ × List ℕ). ([] ++ parts.0, parts.1)) o) [ None ↦ refl | Some p ↦ refl ]
cut-append_none byte (x ∷ front) rest e =
    elim (x == byte) as (λ t. (x == byte) ≡ t → ◌≡◌ {A = Option (List ℕ × List ℕ)} (cond t (Some ([], front)) (option_map (longer x) (cut byte front))) None
    → ◌≡◌ {A = Option (List ℕ × List ℕ)} (cond t (Some ([], front ++ rest)) (option_map (longer x) (cut byte (front ++ rest)))) (option_map (λ (parts : List ℕ × List ℕ). (x ∷ front ++ parts.0, parts.1)) (cut byte rest))) [
      | true ↦ λ is e. absurd cc
      | false ↦ λ is e.
          let none : cut byte front ≡ None = elim (cut byte front) as (λ o. ◌≡◌ {A = Option (List ℕ × List ℕ)} (option_map (longer x) o) None → o ≡ None) [ None ↦ λ _. refl | Some p ↦ λ e. absurd cc ] e in
          rw (cut-append_none byte front rest none) (elim (cut byte rest) as (λ o. ◌≡◌ {A = Option (List ℕ × List ℕ)} (option_map (longer x) (option_map (λ (parts : List ℕ × List ℕ). (front ++ parts.0, parts.1)) o)) (option_map (λ (parts : List ℕ × List ℕ). (x ∷ front ++ parts.0, parts.1)) o)) [ None ↦ refl | Some p ↦ refl ])
    ] refl e

-- a byte is itself
eqb_same : (b : ℕ) → (b == b) ≡ true
eqb_same b = eq-eqb b b refl

-- a cut in the front stays where it is
pub cut-append_some : (byte : ℕ) (front rest before after : List ℕ) → cut byte front ≡ Some (before, after)
    → cut byte (front ++ rest) ≡ Some (before, after ++ rest)
cut-append_some byte front rest before after e =
    let parts = cut-parts byte front before after e in
    let begin : cut byte (byte ∷ (after ++ rest)) ≡ Some ([], after ++ rest) = rw (eqb_same byte) refl in
    rw (parts.0, append_assoc, cut-append_none byte before (byte ∷ (after ++ rest)) parts.1, begin, append-nil) refl

-- the first part of a cut, by its length
pub cut-length : (byte : ℕ) (text rest : List ℕ) (n : ℕ) → cut byte text ≡ Some (take n text, rest) → n < length text
cut-length byte text rest n e =
    let parts = cut-parts byte text (take n text) rest e in
    let whole = ap length parts.0 in
    let sum = length-append (take n text) (byte ∷ rest) in
    let part = length-take n text in
    omega arith

-- what a search for the first such byte finds
pub cut_found : (byte : ℕ) (text : List ℕ) (r : Option ℕ) → IsFirstByte (is_byte byte) text r
    → MatchOption r (cut byte text ≡ None) (λ at. (at < length text) × (cut byte text ≡ Some (take at text, drop 1 (drop at text))))
cut_found byte text None h = cut-none byte text (λ k low. h k (omega arith) low)
cut_found byte text (Some at) h = (h.0.high, cut-some byte text at h.0.high (λ j less. h.0.before j (omega arith) less) h.1)
