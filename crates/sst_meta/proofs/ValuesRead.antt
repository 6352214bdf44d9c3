-- What the value of a name is read as is what it is spelled as, and nothing else.
use Rattle.std.proofs.Common.{◌≡◌, ℕ, ◌^◌, ◌<◌, ◌==◌, List, [], ◌∷◌, ◌++◌, length, Option, None, Some, refl, sym, ap, subst, ◌∙◌, length-append, arith}
use Rattle.std.proofs.lemmas.Bool.{eqb-true, eq-eqb}
use Rattle.std.proofs.lemmas.List.{append-nil, take_all}
use Rattle.sst_num.specs.Spelling.{fixed, varint, handle_spelling}
use Rattle.sst_num.specs.NumberReading.{varint_at, fixed_at, handle_at}
use Rattle.sst_num.specs.declared.block_handle.Handle.{Handle}
use Rattle.sst_num.proofs.Fixed.{length-fixed}
use Rattle.sst_num.proofs.FixedAt.{fixed_at-fixed, fixed_at-found}
use Rattle.sst_num.proofs.NumberReading.{varint_at-varint, varint_at-found, handle_at-handle, handle_at-found}
use Rattle.sst_device.proofs.Choices.{by_test}
use Rattle.sst_meta.specs.LoadReading.{exactly, handle_in, varint_in, fixed_in}
use Rattle.sst_meta.specs.MetaFaults.{IsHandleOf}

-- what took all bytes
exactly-all : {A : Type 0} (n : ℕ) (x : A) → exactly n (Some (x, n)) ≡ Some x
exactly-all n x = rw (eq-eqb n n refl) refl

exactly-found : {A : Type 0} (n : ℕ) (read : Option (A × ℕ)) (x : A) → exactly n read ≡ Some x → read ≡ Some (x, n)
exactly-found n None x e = cc
exactly-found n (Some (y, m)) x e =
    by_test (m == n) (Some y) None (Some x) e
    (λ is e.
    let same : y ≡ x = cc in
    ap (λ z. Some (z, m)) same ∙ ap (λ (k : ℕ). Some (x, k)) (eqb-true m n is))
    (λ _ e. cc)

-- a front that is as long as the whole is the whole
whole : (bytes front rest : List ℕ) → bytes ≡ front ++ rest → length bytes ≡ length front → bytes ≡ front
whole bytes front [] joined size = joined ∙ append-nil front
whole bytes front (x ∷ rest) joined size = absurd (omega (arith, ap length joined, size, length-append front (x ∷ rest)))

-- a number of n bytes
pub fixed_in-fixed : (n v : ℕ) → v < 256 ^ n → fixed_in n (fixed n v) ≡ Some v
fixed_in-fixed n v fits =
    rw (eq-eqb (length (fixed n v)) n (length-fixed n v))
    (subst (λ (l : List ℕ). fixed_at n l ≡ Some v) (append-nil (fixed n v)) (fixed_at-fixed n v [] fits))

pub fixed_in-found : (n v : ℕ) (value : List ℕ) → fixed_in n value ≡ Some v → (v < 256 ^ n) × (value ≡ fixed n v)
fixed_in-found n v value e =
    by_test (length value == n) (fixed_at n value) None (Some v) e
    (λ is e.
    let found = fixed_at-found n v value e in
    let size = eqb-true (length value) n is in
    (found.fits, sym (take_all n value (omega arith)) ∙ found.spells))
    (λ _ e. cc)

-- a varint
pub varint_in-varint : (v : ℕ) → v < 2 ^ 64 → varint_in (varint v) ≡ Some v
unfolding varint_in
varint_in-varint v fits =
    let read = subst (λ (l : List ℕ). varint_at l ≡ Some (v, length (varint v))) (append-nil (varint v)) (varint_at-varint v [] fits) in
    ap (exactly (length (varint v))) read ∙ exactly-all (length (varint v)) v

pub varint_in-found : (v : ℕ) (value : List ℕ) → varint_in value ≡ Some v → (v < 2 ^ 64) × (value ≡ varint v)
unfolding varint_in
varint_in-found v value e =
    let found = varint_at-found v (length value) value (exactly-found (length value) (varint_at value) v e) in
    (found.1, whole value (varint v) found.0.0 found.0.1 found.0.2)

-- a handle
pub handle_in-handle : (h : Handle) (value : List ℕ) → IsHandleOf h value → handle_in value ≡ Some h
unfolding handle_in
handle_in-handle h value is =
    let spelled = handle_spelling h in
    let read = subst (λ (l : List ℕ). handle_at l ≡ Some (h, length spelled)) (append-nil spelled) (handle_at-handle h [] is.0 is.1) in
    ap (λ (l : List ℕ). exactly (length l) (handle_at l)) is.2 ∙ ap (exactly (length spelled)) read ∙ exactly-all (length spelled) h

pub handle_in-found : (h : Handle) (value : List ℕ) → handle_in value ≡ Some h → IsHandleOf h value
unfolding handle_in
handle_in-found h value e =
    let found = handle_at-found h (length value) value (exactly-found (length value) (handle_at value) h e) in
    (found.1, found.2, whole value (handle_spelling h) found.0.0 found.0.1 found.0.2)
