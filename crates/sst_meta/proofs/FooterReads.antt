-- What is put as a footer is read back.
use Rattle.std.proofs.Common.{◌≡◌, ℕ, ◌-◌, ◌^◌, ◌<◌, Bool, true, false, List, ◌∷◌, ◌++◌, length, drop, Some, Ok, Err, refl, sym, ap, ◌∙◌, length-append, append_assoc, arith}
use Rattle.std.proofs.lemmas.List.{take_at, drop_at, length-replicate}
use Rattle.sst_num.specs.Spelling.{fixed, handle_spelling}
use Rattle.sst_num.specs.declared.block_handle.Handle.{Handle}
use Rattle.sst_num.proofs.Fixed.{length-fixed}
use Rattle.sst_num.proofs.FixedAt.{fixed_at-fixed}
use Rattle.sst_key.specs.declared.calls.Format.{Format}
use Rattle.sst_key.specs.declared.calls.Format.TheVariants.{Block, Plain, Cuckoo}
use Rattle.sst_meta.specs.Footer.{magic_of, two_handles, handle_zeros, footer_spelling, IsWritable, AreHandles}
use Rattle.sst_meta.specs.FooterReading.{last_bytes, kind_of, kind_by, kind_at, handles_read, takes_version, takes_checksum, fields_read, later_read, legacy_checksum, legacy_read, by_kind, footer_read}
use Rattle.sst_meta.specs.declared.footer.Footer.{Footer}
use Rattle.sst_meta.specs.declared.meta_fault.MetaFault.TheVariants.{Version}
use Rattle.sst_meta.proofs.FileEnds.{last_bytes-joined, number_at_end-fixed}
use Rattle.sst_meta.proofs.Footers.{length-two_handles}
use Rattle.sst_meta.proofs.HandlesRead.{handles_read-spelled}

magic-fits : (format : Format) (legacy : Bool) → magic_of format legacy < 256 ^ 8
magic-fits Block true = omega arith
magic-fits Block false = omega arith
magic-fits Plain true = omega arith
magic-fits Plain false = omega arith
magic-fits Cuckoo legacy = omega arith

later-kind : (format : Format) → kind_of (magic_of format false) 53 ≡ Some (format, false)
later-kind Block = refl
later-kind Plain = refl
later-kind Cuckoo = refl

-- the kind of bytes that end with a magic number
pub kind-at_magic : (front tail : List ℕ) (magic : ℕ) → magic < 256 ^ 8 → tail ≡ front ++ fixed 8 magic → kind_at tail ≡ kind_of magic (length tail)
unfolding kind_at
kind-at_magic front tail magic fits joined =
    let last : last_bytes 8 tail ≡ fixed 8 magic = ap (last_bytes 8) joined ∙ last_bytes-joined 8 front (fixed 8 magic) (length-fixed 8 magic) in
    let size = ap length joined ∙ length-append front (fixed 8 magic) in
    ap (kind_by (length tail)) (number_at_end-fixed tail magic fits (omega (arith, length-fixed 8 magic)) last)

-- a footer of 53 bytes
pub record LaterReads (format : Format) (checksum version : ℕ) (between tail : List ℕ) : Type 0 where
  pub kind : kind_at tail ≡ Some (format, false)
  pub size : length tail ≡ 53
  pub read : footer_read tail ≡ fields_read format false version checksum between

pub later-reads : (format : Format) (checksum version : ℕ) (between : List ℕ) → length between ≡ 40 → version < 2 ^ 32
    → LaterReads format checksum version between (checksum ∷ (between ++ (fixed 4 version ++ fixed 8 (magic_of format false))))
unfolding footer_read
later-reads format checksum version between long small =
    let number = magic_of format false in
    let magic = fixed 8 number in
    let back : List ℕ = fixed 4 version ++ magic in
    let tail : List ℕ = checksum ∷ (between ++ back) in
    let back_size : length back ≡ 12 = omega (arith, length-append (fixed 4 version) magic, length-fixed 4 version, length-fixed 8 number) in
    let size : length tail ≡ 53 = omega (arith, length-append between back, long) in
    let joined : tail ≡ (checksum ∷ (between ++ fixed 4 version)) ++ magic = ap (λ (l : List ℕ). checksum ∷ l) (sym (append_assoc between (fixed 4 version) magic)) in
    let kind : kind_at tail ≡ Some (format, false) =
    kind-at_magic (checksum ∷ (between ++ fixed 4 version)) tail number (magic-fits format false) joined ∙ ap (kind_of number) size ∙ later-kind format in
    let read : later_read format tail ≡ fields_read format false version checksum between =
    rw (take_at between back 40 long, drop_at between back 40 long, fixed_at-fixed 4 version magic (omega (arith, small))) refl in
    let whole : last_bytes 53 tail ≡ tail = ap (λ (k : ℕ). drop (k - 53) tail) size in
    record { kind = kind; size = size; read = ap (by_kind tail) kind ∙ ap (later_read format) whole ∙ read }

-- a footer of 48 bytes
legacy-reads : (format : Format) (between : List ℕ) → length between ≡ 40 → kind_of (magic_of format true) 48 ≡ Some (format, true)
    → footer_read (between ++ fixed 8 (magic_of format true)) ≡ fields_read format true 0 (legacy_checksum format) between
unfolding footer_read
legacy-reads format between long is =
    let number = magic_of format true in
    let magic = fixed 8 number in
    let tail : List ℕ = between ++ magic in
    let size : length tail ≡ 48 = omega (arith, length-append between magic, length-fixed 8 number) in
    let kind : kind_at tail ≡ Some (format, true) = kind-at_magic between tail number (magic-fits format true) refl ∙ ap (kind_of number) size ∙ is in
    let whole : last_bytes 48 tail ≡ tail = ap (λ (k : ℕ). drop (k - 48) tail) size in
    ap (by_kind tail) kind ∙ ap (legacy_read format) whole ∙ ap (fields_read format true 0 (legacy_checksum format)) (take_at between magic 40 long)

-- good fields are taken
pub fields-taken : (format : Format) (legacy : Bool) (version checksum : ℕ) (between : List ℕ) (handles : Handle × Handle)
    → takes_version format version ≡ true → takes_checksum format checksum ≡ true → handles_read between ≡ Some handles
    → fields_read format legacy version checksum between ≡ Ok (record { format = format; legacy = legacy; version = version; checksum = checksum; meta = handles.0; index = handles.1 })
fields-taken format legacy version checksum between handles t s h = rw (t, s, h) refl

fields-refused : (format : Format) (legacy : Bool) (version checksum : ℕ) (between : List ℕ) → takes_version format version ≡ false
    → fields_read format legacy version checksum between ≡ Err (Version version)
fields-refused format legacy version checksum between t = rw t refl

-- the 40 bytes with the two handles
length-between : (metaindex index : Handle) → length (two_handles metaindex index ++ handle_zeros metaindex index) ≡ 40
length-between metaindex index =
    omega (
      arith,
      length-append (two_handles metaindex index) (handle_zeros metaindex index),
      length-two_handles metaindex index,
      length-replicate {A = ℕ} (40 - length (two_handles metaindex index)) 0,
    )

-- a legacy footer that is put is read as its fields
legacy-put : (format : Format) (version checksum : ℕ) (metaindex index : Handle) → kind_of (magic_of format true) 48 ≡ Some (format, true)
    → version ≡ 0 → checksum ≡ legacy_checksum format
    → footer_read (footer_spelling (record { format = format; legacy = true; version = version; checksum = checksum; meta = metaindex; index = index }))
    ≡ fields_read format true version checksum (two_handles metaindex index ++ handle_zeros metaindex index)
unfolding footer_spelling
legacy-put format version checksum metaindex index is zero_is sum =
    let front : List ℕ = two_handles metaindex index in
    let zeros : List ℕ = handle_zeros metaindex index in
    ap footer_read (sym (append_assoc front zeros (fixed 8 (magic_of format true))))
    ∙ legacy-reads format (front ++ zeros) (length-between metaindex index) is
    ∙ ap (λ (n : ℕ). fields_read format true n (legacy_checksum format) (front ++ zeros)) (sym zero_is)
    ∙ ap (λ (n : ℕ). fields_read format true version n (front ++ zeros)) (sym sum)

-- a footer that is put is read as its fields
put-reads : (format : Format) (legacy : Bool) (version checksum : ℕ) (metaindex index : Handle) → IsWritable format legacy version checksum → version < 2 ^ 32
    → footer_read (footer_spelling (record { format = format; legacy = legacy; version = version; checksum = checksum; meta = metaindex; index = index }))
    ≡ fields_read format legacy version checksum (two_handles metaindex index ++ handle_zeros metaindex index)
unfolding footer_spelling
put-reads format false version checksum metaindex index writable small =
    let front : List ℕ = two_handles metaindex index in
    let zeros : List ℕ = handle_zeros metaindex index in
    let back : List ℕ = fixed 4 version ++ fixed 8 (magic_of format false) in
    ap (λ (l : List ℕ). footer_read (checksum ∷ l)) (sym (append_assoc front zeros back))
    ∙ (later-reads format checksum version (front ++ zeros) (length-between metaindex index) small).read
put-reads Block true version checksum metaindex index (zero_is, one) small = legacy-put Block version checksum metaindex index refl zero_is one
put-reads Plain true version checksum metaindex index (zero_is, none) small = legacy-put Plain version checksum metaindex index refl zero_is none
put-reads Cuckoo true version checksum metaindex index writable small = absurd writable

writable-checksum : (format : Format) (legacy : Bool) (version checksum : ℕ) → IsWritable format legacy version checksum → takes_checksum format checksum ≡ true
writable-checksum Block true version checksum (zero_is, one) = rw one refl
writable-checksum Block false version checksum (least, most, one) = rw one refl
writable-checksum Plain legacy version checksum writable = refl
writable-checksum Cuckoo legacy version checksum writable = refl

pub reads-back : (f : Footer) → IsWritable f.format f.legacy f.version f.checksum → f.version < 2 ^ 32 → f.meta.offset < 2 ^ 64 → f.meta.size < 2 ^ 64
    → f.index.offset < 2 ^ 64 → f.index.size < 2 ^ 64 → takes_version f.format f.version ≡ true → footer_read (footer_spelling f) ≡ Ok f
reads-back f writable small a b c d taken =
    let front : List ℕ = two_handles f.meta f.index in
    let zeros : List ℕ = handle_zeros f.meta f.index in
    let are : AreHandles f.meta f.index (front ++ zeros) = (a, b, c, d, (zeros, append_assoc (handle_spelling f.meta) (handle_spelling f.index) zeros)) in
    put-reads f.format f.legacy f.version f.checksum f.meta f.index writable small
    ∙ fields-taken f.format f.legacy f.version f.checksum (front ++ zeros) (f.meta, f.index) taken
    (writable-checksum f.format f.legacy f.version f.checksum writable) (handles_read-spelled f.meta f.index (front ++ zeros) are)

pub reads-other_version : (f : Footer) → IsWritable f.format f.legacy f.version f.checksum → f.version < 2 ^ 32 → takes_version f.format f.version ≡ false
    → footer_read (footer_spelling f) ≡ Err (Version f.version)
reads-other_version f writable small other =
    put-reads f.format f.legacy f.version f.checksum f.meta f.index writable small
    ∙ fields-refused f.format f.legacy f.version f.checksum (two_handles f.meta f.index ++ handle_zeros f.meta f.index) other
