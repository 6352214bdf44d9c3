-- What is read from the front of a list is exactly the number whose spelling is there.
use Rattle.std.proofs.Common.{◌≡◌, ℕ, zero, suc, ◌+◌, ◌-◌, ◌*◌, ◌^◌, ◌<◌, ◌≤◌, List, [], ◌∷◌, ◌++◌, length, length-append, drop, append_assoc, Option, Some, None, inl, inr, nat_lt, option_and_then, refl, sym, subst, ap, ◌∙◌, arith}
use Rattle.std.specs.Prelude.{IfSome, IfNone}
use Rattle.std.proofs.Math.Seq.{drop-append_seam}
use Rattle.std.proofs.lemmas.Bool.{cases_lt, lt-ltb, le-ltb, ltb-true}
use Rattle.std.proofs.lemmas.Option.{none-some, cond_some, some_pair_parts, option_and_then_some}
use Rattle.sst_num.specs.Spelling.{varint, IsVarint, handle_spelling}
use Rattle.sst_num.specs.NumberReading.{with_group, groups_at, varint_at, in_32_bits, varint32_at, joined_handle, handle_at, StartsWithVarint, StartsWithHandle}
use Rattle.sst_num.specs.declared.block_handle.Handle.{Handle}
use Rattle.sst_num.proofs.Groups.{varint-some}
use Rattle.sst_num.proofs.Varints.{IsVarint-more, varint-spells, varint-only}

-- a group goes before the rest of its number
pub with_group-joins : (b high v used : ℕ) → 128 ≤ b → b < 256 → 0 < high → v + 128 ≡ b + 128 * high → v < 2 ^ 64 → with_group b (high, used) ≡ Some (v, used + 1)
with_group-joins b high v used low top some sum fits =
    let whole : b - 128 + 128 * high ≡ v = omega (arith, low, sum) in
    rw (lt-ltb b 256 top, lt-ltb 0 high some, whole, lt-ltb v (2 ^ 64) fits) refl

-- what a spelling is read as, whatever follows
pub groups_at-reads : (n v : ℕ) (bytes rest : List ℕ) → v < 2 ^ 64 → length bytes ≤ n → IsVarint bytes v → groups_at n (bytes ++ rest) ≡ Some (v, length bytes)
groups_at-reads n v [] rest fits short spells = absurd spells
groups_at-reads zero v (b ∷ bytes) rest fits short spells = absurd (omega (arith, short))
groups_at-reads (suc n) v (b ∷ []) rest fits short spells = rw (lt-ltb b 128 spells.0, spells.1) refl
groups_at-reads (suc n) v (b ∷ c ∷ bytes) rest fits short spells =
    let high = spells.2.0 in
    let sum : v + 128 ≡ b + 128 * high = spells.2.2 in
    let less : high < 2 ^ 64 = omega (arith, spells.0, sum, fits) in
    let others = groups_at-reads n high (c ∷ bytes) rest less (omega (arith, short)) spells.2.3 in
    let more : length (c ∷ bytes) + 1 ≡ length (b ∷ c ∷ bytes) = omega arith in
    rw (le-ltb b 128 spells.0, others) (with_group-joins b high v (length (c ∷ bytes)) spells.0 spells.1 spells.2.1 sum fits ∙ ap (λ (k : ℕ). Some (v, k)) more)

-- a spelling stands at the front
pub record Stands (bytes : List ℕ) (v used : ℕ) : Type 0 where
  pub spelling : List ℕ
  pub rest : List ℕ
  pub spells : IsVarint spelling v
  pub joined : bytes ≡ spelling ++ rest
  pub takes : used ≡ length spelling
  pub fits : v < 2 ^ 64

-- one group more stands at the front
Stands-more : (b high inner v used : ℕ) (bytes : List ℕ) → 128 ≤ b → Stands bytes high inner → with_group b (high, inner) ≡ Some (v, used) → Stands (b ∷ bytes) v used
Stands-more b high inner v used bytes low s read =
    elim (cases_lt b 256) [
      | inl top ↦
          elim (cases_lt 0 high) [
            | inl some ↦
                elim (cases_lt (b - 128 + 128 * high) (2 ^ 64)) [
                  | inl below ↦
                      let made : with_group b (high, inner) ≡ Some (b - 128 + 128 * high, inner + 1) =
                      with_group-joins b high (b - 128 + 128 * high) inner low top some (omega (arith, low)) below in
                      let parts = some_pair_parts (b - 128 + 128 * high) v (inner + 1) used (sym made ∙ read) in
                      record {
                        spelling = b ∷ s.spelling;
                        rest = s.rest;
                        spells = IsVarint-more b high v s.spelling s.spells low top some (omega (arith, low, parts.0));
                        joined = ap (λ (xs : List ℕ). b ∷ xs) s.joined;
                        takes = omega (arith, parts.1, s.takes);
                        fits = omega (arith, parts.0, below);
                      }
                  | inr above ↦
                      absurd (none-some (v, used) (rw (lt-ltb b 256 top, lt-ltb 0 high some, le-ltb (b - 128 + 128 * high) (2 ^ 64) above) at read))
                ]
            | inr none ↦ absurd (none-some (v, used) (rw (lt-ltb b 256 top, le-ltb 0 high none) at read))
          ]
      | inr large ↦ absurd (none-some (v, used) (rw (le-ltb b 256 large) at read))
    ]

-- what was read stands at the front
pub groups_at-stands : (n v used : ℕ) (bytes : List ℕ) → groups_at n bytes ≡ Some (v, used) → Stands bytes v used
groups_at-stands zero v used bytes read = absurd (none-some (v, used) read)
groups_at-stands (suc n) v used [] read = absurd (none-some (v, used) read)
groups_at-stands (suc n) v used (b ∷ bytes) read =
    elim (cases_lt b 128) [
      | inl small ↦
          let parts = some_pair_parts b v 1 used (rw (lt-ltb b 128 small) at read) in
          record {
            spelling = b ∷ [];
            rest = bytes;
            spells = (small, sym parts.0);
            joined = refl;
            takes = sym parts.1;
            fits = omega (arith, parts.0, small);
          }
      | inr large ↦
          option_and_then_some (with_group b) (groups_at n bytes) (v, used) (rw (le-ltb b 128 large) at read)
          (λ inner first last.
          Stands-more b inner.0 inner.1 v used bytes large (groups_at-stands n inner.0 inner.1 bytes first) last)
    ]

-- what was put is read again, whatever follows
pub varint_at-varint : (v : ℕ) (rest : List ℕ) → v < 2 ^ 64 → varint_at (varint v ++ rest) ≡ Some (v, length (varint v))
unfolding varint_at
varint_at-varint v rest fits =
    let s = varint-spells v fits in
    groups_at-reads 10 v (varint v) rest fits s.1 s.0

-- what was read is below 2 ^ 64, and its one spelling is at the front
pub varint_at-found : (v used : ℕ) (bytes : List ℕ) → varint_at bytes ≡ Some (v, used) → StartsWithVarint bytes v used × (v < 2 ^ 64)
unfolding varint_at
varint_at-found v used bytes read =
    let s = groups_at-stands 10 v used bytes read in
    let same = varint-only v s.spelling s.fits s.spells in
    let joined : bytes ≡ varint v ++ s.rest = s.joined ∙ ap (λ (front : List ℕ). front ++ s.rest) same in
    let takes : used ≡ length (varint v) = s.takes ∙ ap (λ (front : List ℕ). length front) same in
    ((s.rest, joined, takes), s.fits)

-- the same of a number below 2 ^ 32
pub varint32_at-varint : (v : ℕ) (rest : List ℕ) → v < 2 ^ 32 → varint32_at (varint v ++ rest) ≡ Some (v, length (varint v))
unfolding varint32_at
varint32_at-varint v rest fits =
    rw (varint_at-varint v rest (omega (arith, fits)), lt-ltb v (2 ^ 32) fits) refl

-- the same of a block handle
pub handle_at-handle : (h : Handle) (rest : List ℕ) → h.offset < 2 ^ 64 → h.size < 2 ^ 64 → handle_at (handle_spelling h ++ rest) ≡ Some (h, length (handle_spelling h))
unfolding handle_at
handle_at-handle h rest offset_fits size_fits =
    let first = varint_at-varint h.offset (varint h.size ++ rest) offset_fits in
    let second = varint_at-varint h.size rest size_fits in
    rw (append_assoc (varint h.offset) (varint h.size) rest, first, drop-append_seam (varint h.offset) (varint h.size ++ rest), second, length-append (varint h.offset) (varint h.size)) refl

-- what was read as 32 bits is below 2 ^ 32, and its one spelling is at the front
pub varint32_at-found : (v used : ℕ) (bytes : List ℕ) → varint32_at bytes ≡ Some (v, used) → StartsWithVarint bytes v used × (v < 2 ^ 32)
unfolding varint32_at
varint32_at-found v used bytes read =
    option_and_then_some in_32_bits (varint_at bytes) (v, used) read
    (λ inner first last.
    let parts = cond_some (nat_lt inner.0 (2 ^ 32)) inner (v, used) last in
    let same : varint_at bytes ≡ Some (v, used) = first ∙ ap (λ (pair : ℕ × ℕ). Some pair) parts.1 in
    let small : inner.0 < 2 ^ 32 = ltb-true inner.0 (2 ^ 32) parts.0 in
    let number : inner.0 ≡ v = ap (λ (pair : ℕ × ℕ). pair.0) parts.1 in
    ((varint_at-found v used bytes same).0, omega arith))

-- the parts of a handle that was read are below 2 ^ 64, and its one spelling is at the front
pub handle_at-found : (h : Handle) (used : ℕ) (bytes : List ℕ) → handle_at bytes ≡ Some (h, used)
    → StartsWithHandle bytes h used × (h.offset < 2 ^ 64) × (h.size < 2 ^ 64)
unfolding handle_at
handle_at-found h used bytes read =
    option_and_then_some (λ offset. option_and_then (λ size. Some (joined_handle offset size)) (varint_at (drop offset.1 bytes))) (varint_at bytes) (h, used) read
    (λ offset first later.
    option_and_then_some (λ size. Some (joined_handle offset size)) (varint_at (drop offset.1 bytes)) (h, used) later
    (λ size second last.
    let parts = some_pair_parts (record { offset = offset.0; size = size.0 }) h (offset.1 + size.1) used last in
    let a = varint_at-found offset.0 offset.1 bytes first in
    let b = varint_at-found size.0 size.1 (drop offset.1 bytes) second in
    let left : drop offset.1 bytes ≡ a.0.0 =
    ap (λ (k : ℕ). drop k bytes) a.0.2 ∙ ap (drop (length (varint offset.0))) a.0.1 ∙ drop-append_seam (varint offset.0) a.0.0 in
    let joined : bytes ≡ (varint offset.0 ++ varint size.0) ++ b.0.0 =
    a.0.1 ∙ ap (λ (tail : List ℕ). varint offset.0 ++ tail) (sym left ∙ b.0.1) ∙ sym (append_assoc (varint offset.0) (varint size.0) b.0.0) in
    let takes : used ≡ length (varint offset.0 ++ varint size.0) = omega (arith, parts.1, a.0.2, b.0.2, length-append (varint offset.0) (varint size.0)) in
    subst (λ (g : Handle). StartsWithHandle bytes g used × (g.offset < 2 ^ 64) × (g.size < 2 ^ 64)) parts.0
    ((b.0.0, joined, takes), a.1, b.1)))

-- what a reading that found a number says
pub varint_at-if_some : (read : Option (ℕ × ℕ)) (bytes : List ℕ) → read ≡ varint_at bytes → IfSome read (λ f. f.1 ≤ length bytes) → IfSome read (λ f. StartsWithVarint bytes f.0 f.1 × (0 < f.1) × (f.1 ≤ length bytes))
varint_at-if_some None bytes exact within = tt
varint_at-if_some (Some f) bytes exact within =
    let found = (varint_at-found f.0 f.1 bytes (sym exact)).0 in
    (found, omega (arith, found.2, varint-some f.0), within)

-- what a reading that found none says
pub varint_at-if_none : (read : Option (ℕ × ℕ)) (bytes : List ℕ) → read ≡ varint_at bytes → IfNone read ((v : ℕ) (rest : List ℕ) → v < 2 ^ 64 → bytes ≡ varint v ++ rest → ⊥)
varint_at-if_none None bytes exact =
    λ v rest fits same. none-some (v, length (varint v)) (exact ∙ ap varint_at same ∙ varint_at-varint v rest fits)
varint_at-if_none (Some f) bytes exact = tt

-- no number below 2 ^ 32 is at the front where a larger one is
pub varint32-too_large : (bytes : List ℕ) (v used : ℕ) → Some (v, used) ≡ varint_at bytes → 2 ^ 32 ≤ v → (w : ℕ) (rest : List ℕ) → w < 2 ^ 32 → bytes ≡ varint w ++ rest → ⊥
varint32-too_large bytes v used exact large w rest fits same =
    let read : varint_at bytes ≡ Some (w, length (varint w)) =
    ap varint_at same ∙ varint_at-varint w rest (omega (arith, fits)) in
    let parts = some_pair_parts v w used (length (varint w)) (exact ∙ read) in
    omega (arith, parts.0, large, fits)

-- no handle is at the front where no number is behind the first
pub handle-no_size : (bytes after : List ℕ) (offset used : ℕ) → Some (offset, used) ≡ varint_at bytes → after ≡ drop used bytes → None ≡ varint_at after → (h : Handle) (rest : List ℕ) → h.offset < 2 ^ 64 → h.size < 2 ^ 64 → bytes ≡ handle_spelling h ++ rest → ⊥
handle-no_size bytes after offset used first behind second h rest offset_fits size_fits same =
    let joined : bytes ≡ varint h.offset ++ (varint h.size ++ rest) =
    same ∙ append_assoc (varint h.offset) (varint h.size) rest in
    let read : varint_at bytes ≡ Some (h.offset, length (varint h.offset)) =
    ap varint_at joined ∙ varint_at-varint h.offset (varint h.size ++ rest) offset_fits in
    let parts = some_pair_parts offset h.offset used (length (varint h.offset)) (first ∙ read) in
    let left : after ≡ varint h.size ++ rest =
    behind ∙ ap (λ (k : ℕ). drop k bytes) parts.1 ∙ ap (drop (length (varint h.offset))) joined ∙ drop-append_seam (varint h.offset) (varint h.size ++ rest) in
    none-some (h.size, length (varint h.size)) (second ∙ ap varint_at left ∙ varint_at-varint h.size rest size_fits)

-- what holds anyway holds where there is none
pub IfNone-holds : {A : Type 0} (read : Option A) {P : Type 0} → P → IfNone read P
IfNone-holds None p = p
IfNone-holds (Some x) p = tt
