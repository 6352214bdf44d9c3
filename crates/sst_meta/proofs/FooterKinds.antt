-- The kinds of table by the magic number at the end.
use Rattle.std.proofs.Common.{◌≡◌, ℕ, ◌≤◌, ◌==◌, ◌&&◌, nat_le, Bool, true, false, List, length, Option, None, Some, subst}
use Rattle.std.proofs.lemmas.Bool.{and_parts, eqb-true, leb-true}
use Rattle.sst_key.specs.declared.calls.Format.{Format}
use Rattle.sst_key.specs.declared.calls.Format.TheVariants.{Block, Plain, Cuckoo}
use Rattle.sst_device.proofs.Choices.{by_test}
use Rattle.sst_meta.specs.Footer.{block_based_magic, legacy_block_based_magic, plain_magic, legacy_plain_magic, cuckoo_magic, magic_of, footer_length}
use Rattle.sst_meta.specs.FooterReading.{number_at_end, kind_of, kind_by, kind_at}

-- a test of the magic number and the length
abbrev pub kind_test : ℕ → ℕ → ℕ → ℕ → Bool
kind_test magic size m n = magic == m && nat_le n size

-- there is no legacy cuckoo table
abbrev pub IsKind : Format → Bool → Type 0
IsKind Block legacy = Unit {0}
IsKind Plain legacy = Unit {0}
IsKind Cuckoo true = ⊥
IsKind Cuckoo false = Unit {0}

-- the kind of a magic number, by cases
pub data KindIs (magic size : ℕ) (kind : Option (Format × Bool)) : Type 0 where
  known : (format : Format) (legacy : Bool) → IsKind format legacy → magic ≡ magic_of format legacy → footer_length legacy ≤ size → Some (format, legacy) ≡ kind → KindIs magic size kind
  unknown : kind_test magic size block_based_magic 53 ≡ false → kind_test magic size legacy_block_based_magic 48 ≡ false → kind_test magic size plain_magic 53 ≡ false
      → kind_test magic size legacy_plain_magic 48 ≡ false → kind_test magic size cuckoo_magic 53 ≡ false → None ≡ kind → KindIs magic size kind

-- a test that holds
kind_passed : (magic size : ℕ) (kind : Option (Format × Bool)) (format : Format) (legacy : Bool) → IsKind format legacy
    → kind_test magic size (magic_of format legacy) (footer_length legacy) ≡ true → Some (format, legacy) ≡ kind → KindIs magic size kind
kind_passed magic size kind format legacy there test e =
    let parts = and_parts (magic == magic_of format legacy) (nat_le (footer_length legacy) size) test in
    known format legacy there (eqb-true magic (magic_of format legacy) parts.0) (leb-true (footer_length legacy) size parts.1) e

pub kind-is : (magic size : ℕ) (kind : Option (Format × Bool)) → kind_of magic size ≡ kind → KindIs magic size kind
kind-is magic size kind e =
    by_test (kind_test magic size block_based_magic 53) (Some (Block, false)) _ kind e (λ test e. kind_passed magic size kind Block false tt test e)
    (λ a e. by_test (kind_test magic size legacy_block_based_magic 48) (Some (Block, true)) _ kind e (λ test e. kind_passed magic size kind Block true tt test e)
    (λ b e. by_test (kind_test magic size plain_magic 53) (Some (Plain, false)) _ kind e (λ test e. kind_passed magic size kind Plain false tt test e)
    (λ c e. by_test (kind_test magic size legacy_plain_magic 48) (Some (Plain, true)) _ kind e (λ test e. kind_passed magic size kind Plain true tt test e)
    (λ d e. by_test (kind_test magic size cuckoo_magic 53) (Some (Cuckoo, false)) None kind e (λ test e. kind_passed magic size kind Cuckoo false tt test e)
    (λ f e. unknown a b c d f e)))))

-- the bytes are as many as the footer of the kind has
kind_of-long : (magic size : ℕ) (kind : Format × Bool) → kind_of magic size ≡ Some kind → footer_length kind.1 ≤ size
kind_of-long magic size kind e =
    elim (kind-is magic size (Some kind) e) [
      | known format legacy there number long is ↦ let same : (format, legacy) ≡ kind = cc in subst (λ (k : Format × Bool). footer_length k.1 ≤ size) same long
      | unknown a b c d f is ↦ cc
    ]

kind_by-long : (size : ℕ) (number : Option ℕ) (kind : Format × Bool) → kind_by size number ≡ Some kind → footer_length kind.1 ≤ size
kind_by-long size None kind e = cc
kind_by-long size (Some magic) kind e = kind_of-long magic size kind e

pub kind_at-long : (tail : List ℕ) (kind : Format × Bool) → kind_at tail ≡ Some kind → footer_length kind.1 ≤ length tail
unfolding kind_at
kind_at-long tail kind e = kind_by-long (length tail) (number_at_end tail) kind e
