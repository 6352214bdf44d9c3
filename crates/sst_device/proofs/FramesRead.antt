-- What is read at a handle is exactly the block that is framed there, or the first thing that is wrong.
use Rattle.std.proofs.Common.{◌≡◌, ℕ, ◌+◌, ◌^◌, ◌≤◌, ◌==◌, false, List, [], ◌∷◌, ◌++◌, take, drop, None, Result, Ok, Err, refl, sym, ap, subst, ◌∙◌, inl, inr, arith}
use borrow.Author.Tests.{eqb-true, eqb-false, eq-eqb, ne_eqb}
use Rattle.std.proofs.lemmas.Bool.{cases_lt, lt-ltb, le-ltb, both_ways, false_from_ne_true}
use Rattle.std.proofs.lemmas.List.{drop-drop, take-take}
use Rattle.std.proofs.Math.Seq.{take-add}
use Rattle.sst_num.specs.Spelling.{fixed}
use Rattle.sst_num.specs.declared.block_handle.Handle.{Handle}
use Rattle.sst_sums.specs.Sums.{mask, crc32c}
use Rattle.sst_device.specs.Framed.{Framed, bytes_at}
use Rattle.sst_device.specs.FrameFaults.{IsInFile, IsFrameFault}
use Rattle.sst_device.specs.FrameReading.{early_fault, has_checksum, type_byte, opened, frame_read}
use Rattle.sst_device.specs.declared.frame.FrameFault.{FrameFault}
use Rattle.sst_device.specs.declared.frame.FrameFault.TheVariants.{OutOfFile, TooLarge, Checksum, Compressed}
use Rattle.sst_device.proofs.Choices.{by_test}
use Rattle.sst_device.proofs.Trailers.{Trailer, trailer-of, trailer-read, trailer-found, type-at}

-- nothing is wrong before the block is read where it ends in time and isn't too large
early-none : (end : ℕ) (h : Handle) → h.offset + h.size + 5 ≤ end → h.size ≤ 2 ^ 29 → early_fault end h ≡ None
early-none end h within small = rw (le-ltb end (h.offset + h.size + 5) within, le-ltb (2 ^ 29) h.size small) refl

-- the block and its type byte
typed : (file : List ℕ) (h : Handle) (block : List ℕ) (kind : ℕ) → bytes_at file h.offset h.size ≡ block → bytes_at file (h.offset + h.size) 1 ≡ kind ∷ []
    → bytes_at file h.offset (h.size + 1) ≡ block ++ kind ∷ []
typed file h block kind stands type =
    take-add h.size 1 (drop h.offset file) ∙ ap (λ (l : List ℕ). l ++ take 1 (drop h.size (drop h.offset file))) stands
    ∙ ap (λ (l : List ℕ). block ++ take 1 l) (drop-drop h.size h.offset file) ∙ ap (λ (l : List ℕ). block ++ l) type

-- a framed block has its trailer, and is opened
framed-trailer : (file : List ℕ) (end : ℕ) (h : Handle) (block : List ℕ) → Framed file end h block → Trailer file h
framed-trailer file end h block f =
    trailer-of file h (f.checksum ∙ ap (λ (l : List ℕ). fixed 4 (mask (crc32c l))) (sym (typed file h block 0 f.stands f.uncompressed)))

block-of : (file : List ℕ) (h : Handle) → take h.size (bytes_at file h.offset (h.size + 5)) ≡ bytes_at file h.offset h.size
block-of file h = take-take h.size (h.size + 5) (drop h.offset file) (omega arith)

opened-framed : (file : List ℕ) (end : ℕ) (h : Handle) (block : List ℕ) → Framed file end h block → opened h (bytes_at file h.offset (h.size + 5)) ≡ Ok block
unfolding opened
opened-framed file end h block f =
    let t = framed-trailer file end h block f in
    let one : 0 ∷ [] ≡ type_byte h.size (bytes_at file h.offset (h.size + 5)) ∷ [] = sym f.uncompressed ∙ type-at file h t in
    let zero : type_byte h.size (bytes_at file h.offset (h.size + 5)) ≡ 0 = cc in
    rw (trailer-read file h t, eq-eqb (type_byte h.size (bytes_at file h.offset (h.size + 5))) 0 zero) (ap Ok (block-of file h ∙ f.stands))

-- a framed block is read
pub frame_read-framed : (file : List ℕ) (end : ℕ) (h : Handle) (block : List ℕ) → Framed file end h block → frame_read file end h ≡ Ok block
frame_read-framed file end h block f = rw (early-none end h f.within f.limited) (opened-framed file end h block f)

-- what is read is framed, or the first thing that is wrong
abbrev Tells : List ℕ → ℕ → Handle → Result (List ℕ) FrameFault → Type 0
Tells file end h (Ok block) = Framed file end h block
Tells file end h (Err fault) = IsFrameFault file end h fault

tells-opened : (file : List ℕ) (end : ℕ) (h : Handle) (read : Result (List ℕ) FrameFault) → IsInFile end h → h.size ≤ 2 ^ 29
    → opened h (bytes_at file h.offset (h.size + 5)) ≡ read → Tells file end h read
unfolding opened
tells-opened file end h read within small e =
    let stored : List ℕ = bytes_at file h.offset (h.size + 5) in
    let kind : ℕ = type_byte h.size stored in
    by_test (has_checksum h.size stored) _ (Err (Checksum h)) read e
    (λ good inner.
    let t = trailer-found file h good in
    by_test (kind == 0) (Ok (take h.size stored)) (Err (Compressed h kind)) read inner
    (λ is found.
    let zero : kind ≡ 0 = eqb-true kind 0 is in
    let type : bytes_at file (h.offset + h.size) 1 ≡ 0 ∷ [] = type-at file h t ∙ ap (λ (b : ℕ). b ∷ []) zero in
    subst (λ r. Tells file end h r) (ap Ok (sym (block-of file h)) ∙ found) (record {
      within = within;
      limited = small;
      stands = refl;
      uncompressed = type;
      checksum = t.checksum ∙ ap (λ (l : List ℕ). fixed 4 (mask (crc32c l))) (typed file h (bytes_at file h.offset h.size) 0 refl type);
    }))
    (λ not found. subst (λ r. Tells file end h r) found (refl, within, small, t.checksum, type-at file h t, eqb-false kind 0 not)))
    (λ bad found. subst (λ r. Tells file end h r) found (refl, within, small, (λ has. both_ways (has_checksum h.size stored) bad (trailer-read file h (trailer-of file h has)))))

tells : (file : List ℕ) (end : ℕ) (h : Handle) (read : Result (List ℕ) FrameFault) → frame_read file end h ≡ read → Tells file end h read
tells file end h read e =
    elim (cases_lt end (h.offset + h.size + 5)) [
      | inl past ↦ subst (λ r. Tells file end h r) (rw (lt-ltb end (h.offset + h.size + 5) past) at e) (refl, past)
      | inr within ↦
          elim (cases_lt (2 ^ 29) h.size) [
            | inl large ↦ subst (λ r. Tells file end h r) (rw (le-ltb end (h.offset + h.size + 5) within, lt-ltb (2 ^ 29) h.size large) at e) (refl, within, large)
            | inr small ↦ tells-opened file end h read within small (rw (early-none end h within small) at e)
          ]
    ]

pub framed-read : (file : List ℕ) (end : ℕ) (h : Handle) (block : List ℕ) → frame_read file end h ≡ Ok block → Framed file end h block
framed-read file end h block e = tells file end h (Ok block) e

pub frame-fault : (file : List ℕ) (end : ℕ) (h : Handle) (fault : FrameFault) → frame_read file end h ≡ Err fault → IsFrameFault file end h fault
frame-fault file end h fault e = tells file end h (Err fault) e

-- the first thing that is wrong is read
pub frame_read-fault : (file : List ℕ) (end : ℕ) (h : Handle) (fault : FrameFault) → IsFrameFault file end h fault → frame_read file end h ≡ Err fault
unfolding opened
frame_read-fault file end h (OutOfFile at) is = rw (lt-ltb end (h.offset + h.size + 5) is.1) (ap (λ (g : Handle). Err (OutOfFile g)) (sym is.0))
frame_read-fault file end h (TooLarge at) is =
    rw (le-ltb end (h.offset + h.size + 5) is.1, lt-ltb (2 ^ 29) h.size is.2) (ap (λ (g : Handle). Err (TooLarge g)) (sym is.0))
frame_read-fault file end h (Checksum at) is =
    let stored : List ℕ = bytes_at file h.offset (h.size + 5) in
    let bad : has_checksum h.size stored ≡ false = false_from_ne_true (has_checksum h.size stored) (λ good. is.3 (trailer-found file h good).checksum) in
    rw (early-none end h is.1 is.2, bad) (ap (λ (g : Handle). Err (Checksum g)) (sym is.0))
frame_read-fault file end h (Compressed at kind) is =
    let stored : List ℕ = bytes_at file h.offset (h.size + 5) in
    let t = trailer-of file h is.3 in
    let one : kind ∷ [] ≡ type_byte h.size stored ∷ [] = sym is.4 ∙ type-at file h t in
    let same : type_byte h.size stored ≡ kind = cc in
    let other : (type_byte h.size stored == 0) ≡ false = ne_eqb (type_byte h.size stored) 0 (λ zero. is.5 (sym same ∙ zero)) in
    rw (early-none end h is.1 is.2, trailer-read file h t, other)
    (ap (λ (g : Handle). Err (Compressed g (type_byte h.size stored))) (sym is.0) ∙ ap (λ (b : ℕ). Err (Compressed at b)) same)
