-- What stands at the front of a list and is in range is what is read there, and nothing else is.
use Rattle.std.proofs.Common.{◌≡◌, ◌↔◌, ℕ, ◌^◌, ◌<◌, ℤ, List, ◌++◌, drop, Some, sym, ap, ◌∙◌}
use Rattle.sst_num.specs.Spelling.{fixed, IsSigned64}
use Rattle.sst_num.specs.NumberReading.{varint_at, varint32_at, signed_at, handle_at, fixed_at, StartsWithVarint, StartsWithSigned, StartsWithHandle}
use Rattle.sst_num.specs.declared.block_handle.Handle.{Handle}
use Rattle.sst_num.proofs.NumberReading.{varint_at-varint, varint_at-found, varint32_at-varint, varint32_at-found, handle_at-handle, handle_at-found}
use Rattle.sst_num.proofs.Signed.{signed_at-signed, signed_at-found}
use Rattle.sst_num.proofs.FixedAt.{fixed_at-fixed, fixed_at-found, fixed_at-joined}

varint_at-there : (bytes : List ℕ) (v used : ℕ) → v < 2 ^ 64 → StartsWithVarint bytes v used → varint_at bytes ≡ Some (v, used)
varint_at-there bytes v used fits stands =
    ap varint_at stands.1 ∙ varint_at-varint v stands.0 fits ∙ ap (λ (k : ℕ). Some (v, k)) (sym stands.2)

varint32_at-there : (bytes : List ℕ) (v used : ℕ) → v < 2 ^ 32 → StartsWithVarint bytes v used → varint32_at bytes ≡ Some (v, used)
varint32_at-there bytes v used fits stands =
    ap varint32_at stands.1 ∙ varint32_at-varint v stands.0 fits ∙ ap (λ (k : ℕ). Some (v, k)) (sym stands.2)

signed_at-there : (bytes : List ℕ) (v : ℤ) (used : ℕ) → IsSigned64 v → StartsWithSigned bytes v used → signed_at bytes ≡ Some (v, used)
signed_at-there bytes v used fits stands =
    ap signed_at stands.1 ∙ signed_at-signed v stands.0 fits ∙ ap (λ (k : ℕ). Some (v, k)) (sym stands.2)

handle_at-there : (bytes : List ℕ) (h : Handle) (used : ℕ) → h.offset < 2 ^ 64 → h.size < 2 ^ 64 → StartsWithHandle bytes h used
    → handle_at bytes ≡ Some (h, used)
handle_at-there bytes h used offset_fits size_fits stands =
    ap handle_at stands.1 ∙ handle_at-handle h stands.0 offset_fits size_fits ∙ ap (λ (k : ℕ). Some (h, k)) (sym stands.2)

pub varint_at-stands : (bytes : List ℕ) (v used : ℕ) → (varint_at bytes ≡ Some (v, used)) ↔ ((v < 2 ^ 64) × StartsWithVarint bytes v used)
varint_at-stands bytes v used = (
  λ read. (let found = varint_at-found v used bytes read in (found.1, found.0)),
  λ both. varint_at-there bytes v used both.0 both.1,
)

pub varint32_at-stands : (bytes : List ℕ) (v used : ℕ) → (varint32_at bytes ≡ Some (v, used)) ↔ ((v < 2 ^ 32) × StartsWithVarint bytes v used)
varint32_at-stands bytes v used = (
  λ read. (let found = varint32_at-found v used bytes read in (found.1, found.0)),
  λ both. varint32_at-there bytes v used both.0 both.1,
)

pub signed_at-stands : (bytes : List ℕ) (v : ℤ) (used : ℕ) → (signed_at bytes ≡ Some (v, used)) ↔ (IsSigned64 v × StartsWithSigned bytes v used)
signed_at-stands bytes v used = (
  λ read. (let found = signed_at-found v used bytes read in (found.1, found.0)),
  λ both. signed_at-there bytes v used both.0 both.1,
)

pub handle_at-stands : (bytes : List ℕ) (h : Handle) (used : ℕ)
    → (handle_at bytes ≡ Some (h, used)) ↔ ((h.offset < 2 ^ 64) × (h.size < 2 ^ 64) × StartsWithHandle bytes h used)
handle_at-stands bytes h used = (
  λ read. (let found = handle_at-found h used bytes read in (found.1, found.2, found.0)),
  λ all. handle_at-there bytes h used all.0 all.1 all.2,
)

pub fixed_at-stands : (n v : ℕ) (bytes : List ℕ) → (fixed_at n bytes ≡ Some v) ↔ ((v < 256 ^ n) × ((rest : List ℕ) × (bytes ≡ fixed n v ++ rest)))
fixed_at-stands n v bytes = (
  λ read. ((fixed_at-found n v bytes read).fits, (drop n bytes, fixed_at-joined n v bytes read)),
  λ both. (ap (fixed_at n) both.1.1 ∙ fixed_at-fixed n v both.1.0 both.0),
)
