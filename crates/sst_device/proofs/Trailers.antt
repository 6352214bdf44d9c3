-- The trailer behind a block, as it is read: its type byte, and the checksum over both.
use Rattle.std.proofs.Common.{◌≡◌, ℕ, ◌+◌, ◌^◌, ◌≤◌, ◌<◌, true, List, [], ◌∷◌, length, take, drop, Option, None, Some, get_or, refl, sym, ap, subst, ◌∙◌, length-take, length-drop, arith}
use borrow.Author.Tests.{eqb-true, eq-eqb}
use Rattle.std.proofs.Math.Seq.{drop-cons}
use Rattle.std.proofs.lemmas.List.{append-nil, drop-drop, take-take, drop-take, get_or-take}
use Rattle.sst_num.specs.Spelling.{fixed}
use Rattle.sst_num.specs.NumberReading.{fixed_at}
use Rattle.sst_num.specs.declared.block_handle.Handle.{Handle}
use Rattle.sst_num.proofs.Fixed.{length-fixed}
use Rattle.sst_num.proofs.FixedAt.{fixed_at-fixed, fixed_at-found}
use Rattle.sst_sums.specs.Sums.{mask, crc32c}
use Rattle.sst_device.specs.Framed.{bytes_at}
use Rattle.sst_device.specs.FrameReading.{is_checksum_of, has_checksum, type_byte}
use Rattle.sst_device.specs.FrameFaults.{HasChecksum}

-- a checksum that was read and found right
checksum-found : (bytes : List ℕ) (read : Option ℕ) → is_checksum_of bytes read ≡ true → read ≡ Some (mask (crc32c bytes))
checksum-found bytes None e = cc
checksum-found bytes (Some stored) e = ap Some (eqb-true stored (mask (crc32c bytes)) e)

checksum-right : (bytes : List ℕ) (read : Option ℕ) → read ≡ Some (mask (crc32c bytes)) → is_checksum_of bytes read ≡ true
checksum-right bytes read e = rw e (eq-eqb (mask (crc32c bytes)) (mask (crc32c bytes)) refl)

-- a masked checksum has 32 bits
mask-fits : (c : ℕ) → mask c < 256 ^ 4
mask-fits c = omega arith

-- the last four bytes of n + 5
last-four : (n : ℕ) (from : List ℕ) → drop (n + 1) (take (n + 5) from) ≡ take 4 (drop (n + 1) from)
last-four n from =
    let parts : n + 5 ≡ n + 1 + 4 = omega arith in
    ap (λ (k : ℕ). drop (n + 1) (take k from)) parts ∙ drop-take (n + 1) 4 from

-- behind n bytes and one more stands their checksum; there are n + 5 bytes then
record Summed (n : ℕ) (from : List ℕ) : Type 0 where
  pub stands : take 4 (drop (n + 1) from) ≡ fixed 4 (mask (crc32c (take (n + 1) from)))
  pub long : n + 5 ≤ length from

-- it is read where it stands, and stands where it is read
summed-read : (n : ℕ) (from : List ℕ) → Summed n from → has_checksum n (take (n + 5) from) ≡ true
summed-read n from s =
    let sum : ℕ = mask (crc32c (take (n + 1) from)) in
    let covered : take (n + 1) (take (n + 5) from) ≡ take (n + 1) from = take-take (n + 1) (n + 5) from (omega arith) in
    let read : fixed_at 4 (fixed 4 sum) ≡ Some sum =
    subst (λ (l : List ℕ). fixed_at 4 l ≡ Some sum) (append-nil (fixed 4 sum)) (fixed_at-fixed 4 sum [] (mask-fits (crc32c (take (n + 1) from)))) in
    checksum-right (take (n + 1) (take (n + 5) from)) (fixed_at 4 (drop (n + 1) (take (n + 5) from)))
    (ap (fixed_at 4) (last-four n from ∙ s.stands) ∙ read ∙ ap (λ (l : List ℕ). Some (mask (crc32c l))) (sym covered))

read-summed : (n : ℕ) (from : List ℕ) → has_checksum n (take (n + 5) from) ≡ true → Summed n from
read-summed n from e =
    let covered : take (n + 1) (take (n + 5) from) ≡ take (n + 1) from = take-take (n + 1) (n + 5) from (omega arith) in
    let read = checksum-found (take (n + 1) (take (n + 5) from)) (fixed_at 4 (drop (n + 1) (take (n + 5) from))) e in
    let found = fixed_at-found 4 (mask (crc32c (take (n + 1) (take (n + 5) from)))) (drop (n + 1) (take (n + 5) from)) read in
    record {
      stands = sym (take-take 4 4 (drop (n + 1) from) (omega arith)) ∙ ap (take 4) (sym (last-four n from)) ∙ found.spells
          ∙ ap (λ (l : List ℕ). fixed 4 (mask (crc32c l))) covered;
      long = omega (arith, found.long, length-drop (n + 1) (take (n + 5) from), length-take (n + 5) from);
    }

-- where the checksum of a block at a handle stands
sum-at : (file : List ℕ) (h : Handle) → drop (h.size + 1) (drop h.offset file) ≡ drop (h.offset + h.size + 1) file
sum-at file h = drop-drop (h.size + 1) h.offset file ∙ ap (λ (k : ℕ). drop k file) (omega arith)

-- the same of a handle in a file
pub record Trailer (file : List ℕ) (h : Handle) : Type 0 where
  pub checksum : HasChecksum file h
  pub long : h.size + 5 ≤ length (drop h.offset file)

pub trailer-of : (file : List ℕ) (h : Handle) → HasChecksum file h → Trailer file h
trailer-of file h has =
    let sum : ℕ = mask (crc32c (bytes_at file h.offset (h.size + 1))) in
    let size : length (bytes_at file (h.offset + h.size + 1) 4) ≡ 4 = ap length has ∙ length-fixed 4 sum in
    record {
      checksum = has;
      long = omega (arith, length-take 4 (drop (h.offset + h.size + 1) file), length-drop (h.offset + h.size + 1) file, length-drop h.offset file);
    }

pub trailer-read : (file : List ℕ) (h : Handle) → Trailer file h → has_checksum h.size (bytes_at file h.offset (h.size + 5)) ≡ true
trailer-read file h t = summed-read h.size (drop h.offset file) (record { stands = ap (take 4) (sum-at file h) ∙ t.checksum; long = t.long })

pub trailer-found : (file : List ℕ) (h : Handle) → has_checksum h.size (bytes_at file h.offset (h.size + 5)) ≡ true → Trailer file h
trailer-found file h e =
    let s = read-summed h.size (drop h.offset file) e in
    record { checksum = ap (take 4) (sym (sum-at file h)) ∙ s.stands; long = s.long }

-- the first byte from a place on
take-one : (n : ℕ) (bytes : List ℕ) → n < length bytes → take 1 (drop n bytes) ≡ get_or bytes n 0 ∷ []
take-one n bytes low = rw (drop-cons bytes n 0 low) refl

-- the type byte behind a block
pub type-at : (file : List ℕ) (h : Handle) → Trailer file h
    → bytes_at file (h.offset + h.size) 1 ≡ type_byte h.size (bytes_at file h.offset (h.size + 5)) ∷ []
type-at file h t =
    let long = t.long in
    ap (take 1) (sym (drop-drop h.size h.offset file)) ∙ take-one h.size (drop h.offset file) (omega arith)
    ∙ ap (λ (b : ℕ). b ∷ []) (sym (get_or-take (h.size + 5) (drop h.offset file) h.size 0 (omega arith)))
