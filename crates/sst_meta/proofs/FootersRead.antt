-- What the end of a file is read as: the fields of a footer, another kind of table, or none.
use Rattle.std.proofs.Common.{◌≡◌, ℕ, ◌+◌, ◌-◌, ◌^◌, ◌<◌, ◌≤◌, ◌==◌, ◌&&◌, nat_le, get_or, Bool, true, false, List, [], ◌∷◌, ◌++◌, length, take, drop, Option, None, Some, Result, Err, refl, sym, ap, subst, ◌∙◌, inl, inr, length-append, length-drop, arith}
use Rattle.std.specs.Option.{option_map}
use Rattle.std.proofs.lemmas.Bool.{le-leb, eq-eqb, both_ways, and_from}
use Rattle.std.proofs.lemmas.List.{drop-drop, length-take-le, get_or-drop}
use Rattle.sst_num.specs.Spelling.{fixed}
use Rattle.sst_num.specs.NumberReading.{fixed_at}
use Rattle.sst_num.proofs.Fixed.{length-fixed}
use Rattle.sst_num.proofs.FixedAt.{fixed_at-found, fixed_at-joined}
use Rattle.sst_key.specs.declared.calls.Format.{Format}
use Rattle.sst_meta.specs.Footer.{block_based_magic, legacy_block_based_magic, plain_magic, legacy_plain_magic, cuckoo_magic, magic_of, footer_length}
use Rattle.sst_meta.specs.FooterReading.{last_bytes, number_at_end, kind_by, kind_at, fields_read, by_version, later_read, by_kind, footer_read}
use Rattle.sst_meta.specs.declared.footer.Footer.{Footer}
use Rattle.sst_meta.specs.declared.meta_fault.MetaFault.{MetaFault}
use Rattle.sst_meta.specs.declared.meta_fault.MetaFault.TheVariants.{NotTable, Version, NotYet}
use Rattle.sst_meta.proofs.FileEnds.{last_bytes-joined, last_bytes-twice, last_bytes-split, number_at_end-fixed, number_at_end-found, fixed_at-bytes, cut_three}
use Rattle.sst_meta.proofs.FooterKinds.{kind_test, IsKind, known, unknown, kind-is}
use Rattle.sst_meta.proofs.FooterReads.{later-reads}
use Rattle.sst_meta.specs.LoadReading.{by_format, end_read}
use Rattle.hex.specs.Hex.{IsBytes}
use Rattle.sst_meta.specs.BlockFooter.{EndsWith, IsTable, IsOtherTable, EndsIn}

pub are_bytes-drop : (n : ℕ) (bytes : List ℕ) → IsBytes bytes → (i : ℕ) → get_or (drop n bytes) i 0 < 256
are_bytes-drop n bytes are i = rw (get_or-drop n bytes i 0) (are (n + i))

-- what a file that ends with a magic number is read by
pub number-of_end : (file : List ℕ) (m n : ℕ) → m < 256 ^ 8 → 8 ≤ n → EndsWith m n file → number_at_end (last_bytes 53 file) ≡ Some m
number-of_end file m n fits least ends =
    let long : 8 ≤ length file = omega (arith, ends.0) in
    let last : last_bytes 8 file ≡ fixed 8 m = ap (last_bytes 8) ends.1.1 ∙ last_bytes-joined 8 ends.1.0 (fixed 8 m) (length-fixed 8 m) in
    let size = length-drop (length file - 53) file in
    number_at_end-fixed (last_bytes 53 file) m fits (omega arith) (last_bytes-twice 8 53 file long (omega arith) ∙ last)

-- a file that is read by a magic number ends with it
pub end-of_number : (file : List ℕ) (m n : ℕ) → number_at_end (last_bytes 53 file) ≡ Some m → n ≤ length file → EndsWith m n file
end-of_number file m n read long =
    let found = number_at_end-found (last_bytes 53 file) m read in
    let size = length-drop (length file - 53) file in
    let least : 8 ≤ length file = omega (arith, found.0) in
    let last : last_bytes 8 file ≡ fixed 8 m = sym (last_bytes-twice 8 53 file least (omega arith)) ∙ found.1 in
    (long, (take (length file - 8) file, last_bytes-split 8 file ∙ ap (λ (l : List ℕ). take (length file - 8) file ++ l) last))

-- what reading the end of a file gives
pub data EndReads (file : List ℕ) (read : Result Footer MetaFault) : Type 0 where
  fields : (kind version : ℕ) (between : List ℕ) → EndsIn file (length file - 53) kind version between → fields_read Format.Block false version kind between ≡ read → EndReads file read
  legacy : EndsWith legacy_block_based_magic 48 file → Err (Version 0) ≡ read → EndReads file read
  other : IsOtherTable file → Err NotYet ≡ read → EndReads file read
  none : (IsBytes (last_bytes 53 file) → IsTable file → ⊥) → Err NotTable ≡ read → EndReads file read

-- the fields of the last 53 bytes
fields-found : (file front tail : List ℕ) (magic : ℕ) (read : Result Footer MetaFault) → file ≡ front ++ tail → length file - 53 ≡ length front → length tail ≡ 53
    → last_bytes 8 tail ≡ fixed 8 magic → block_based_magic ≡ magic → (IsBytes (last_bytes 53 file) → (i : ℕ) → get_or (drop 41 tail) i 0 < 256)
    → later_read Format.Block tail ≡ read → EndReads file read
fields-found file front [] magic read joined at size last is are e = absurd (omega arith)
fields-found file front (kind ∷ rest) magic read joined at size last is are e =
    let part = length-drop 40 rest in
    elim (fixed_at 4 (drop 40 rest)) as (λ (o : Option ℕ). fixed_at 4 (drop 40 rest) ≡ o → by_version Format.Block kind (take 40 rest) o ≡ read → EndReads file read) [
      | None ↦ λ nothing e. none (λ bytes table. fixed_at-bytes 4 (drop 40 rest) (omega arith) (are bytes) nothing) e
      | Some version ↦ λ found e.
          let at_end : length (kind ∷ rest) - 8 ≡ 45 = omega arith in
          let behind : drop 4 (drop 40 rest) ≡ fixed 8 block_based_magic =
          drop-drop 4 40 rest ∙ ap (λ (k : ℕ). drop k (kind ∷ rest)) (sym at_end) ∙ last ∙ ap (fixed 8) (sym is) in
          let cut = cut_three 40 4 rest (fixed 4 version) (fixed 8 block_based_magic) (fixed_at-joined 4 version (drop 40 rest) found) behind in
          fields kind version (take 40 rest) (record {
            front = front;
            ends = joined ∙ ap (λ (l : List ℕ). front ++ (kind ∷ l)) cut;
            long = length-take-le 40 rest (omega arith);
            end_is = at;
            small = (fixed_at-found 4 version (drop 40 rest) found).fits;
          }) e
    ] refl e

-- a file that ends with a magic number is one by its tests
table-tests : (file : List ℕ) (m k n : ℕ) → number_at_end (last_bytes 53 file) ≡ Some m → k < 256 ^ 8 → 8 ≤ n → n ≤ 53 → EndsWith k n file
    → ((m == k) ≡ true) × (nat_le n (length (last_bytes 53 file)) ≡ true)
table-tests file m k n read fits least most ends =
    let same : Some m ≡ Some k = sym read ∙ number-of_end file k n fits least ends in
    let number : m ≡ k = cc in
    let size = length-drop (length file - 53) file in
    let long = ends.0 in
    (eq-eqb m k number, le-leb n (length (last_bytes 53 file)) (omega arith))

table-test : (file : List ℕ) (m k n : ℕ) → number_at_end (last_bytes 53 file) ≡ Some m → k < 256 ^ 8 → 8 ≤ n → n ≤ 53 → EndsWith k n file
    → ((m == k) && nat_le n (length (last_bytes 53 file))) ≡ true
table-test file m k n read fits least most ends =
    let tests = table-tests file m k n read fits least most ends in
    and_from (m == k) (nat_le n (length (last_bytes 53 file))) tests.0 tests.1

-- a file whose magic number is none of them is no table
no-table : (file : List ℕ) (m : ℕ) → number_at_end (last_bytes 53 file) ≡ Some m
    → kind_test m (length (last_bytes 53 file)) block_based_magic 53 ≡ false
    → kind_test m (length (last_bytes 53 file)) legacy_block_based_magic 48 ≡ false
    → kind_test m (length (last_bytes 53 file)) plain_magic 53 ≡ false
    → kind_test m (length (last_bytes 53 file)) legacy_plain_magic 48 ≡ false
    → kind_test m (length (last_bytes 53 file)) cuckoo_magic 53 ≡ false
    → IsTable file → ⊥
no-table file m read a b c d f (inl ends) =
    both_ways _ a (table-test file m block_based_magic 53 read (omega arith) (omega arith) (omega arith) ends)
no-table file m read a b c d f (inr (inl ends)) =
    both_ways _ b (table-test file m legacy_block_based_magic 48 read (omega arith) (omega arith) (omega arith) ends)
no-table file m read a b c d f (inr (inr (inl ends))) =
    both_ways _ c (table-test file m plain_magic 53 read (omega arith) (omega arith) (omega arith) ends)
no-table file m read a b c d f (inr (inr (inr (inl ends)))) =
    both_ways _ d (table-test file m legacy_plain_magic 48 read (omega arith) (omega arith) (omega arith) ends)
no-table file m read a b c d f (inr (inr (inr (inr ends)))) =
    both_ways _ f (table-test file m cuckoo_magic 53 read (omega arith) (omega arith) (omega arith) ends)

-- nor is a file with no magic number
no-number : (file : List ℕ) → number_at_end (last_bytes 53 file) ≡ None → IsTable file → ⊥
no-number file read (inl ends) = cc (number-of_end file block_based_magic 53 (omega arith) (omega arith) ends)
no-number file read (inr (inl ends)) = cc (number-of_end file legacy_block_based_magic 48 (omega arith) (omega arith) ends)
no-number file read (inr (inr (inl ends))) = cc (number-of_end file plain_magic 53 (omega arith) (omega arith) ends)
no-number file read (inr (inr (inr (inl ends)))) = cc (number-of_end file legacy_plain_magic 48 (omega arith) (omega arith) ends)
no-number file read (inr (inr (inr (inr ends)))) = cc (number-of_end file cuckoo_magic 53 (omega arith) (omega arith) ends)

-- what is read of a kind of file
abbrev pub end_by : List ℕ → Option (Format × Bool) → Result Footer MetaFault
end_by tail kind = by_format tail (option_map (λ (k : Format × Bool). k.0) kind)

end_read-none : (tail : List ℕ) → kind_at tail ≡ None → end_read tail ≡ Err NotTable
unfolding end_read footer_read
end_read-none tail is = ap (end_by tail) is ∙ ap (by_kind tail) is

end_read-other : (tail : List ℕ) (kind : Format × Bool) (rest : Result Footer MetaFault) → kind_at tail ≡ Some kind → by_format tail (Some kind.0) ≡ rest → end_read tail ≡ rest
unfolding end_read
end_read-other tail kind rest is e = ap (end_by tail) is ∙ e

end_read-block : (tail : List ℕ) (is_legacy : Bool) → kind_at tail ≡ Some (Format.Block, is_legacy) → end_read tail ≡ by_kind tail (Some (Format.Block, is_legacy))
unfolding end_read footer_read
end_read-block tail is_legacy is = ap (end_by tail) is ∙ ap (by_kind tail) is

-- the end of a file of a kind
by_known : (file : List ℕ) (m : ℕ) (format : Format) (legacy : Bool) (read : Result Footer MetaFault) → number_at_end (last_bytes 53 file) ≡ Some m → IsKind format legacy
    → m ≡ magic_of format legacy → footer_length legacy ≤ length (last_bytes 53 file) → kind_at (last_bytes 53 file) ≡ Some (format, legacy)
    → end_read (last_bytes 53 file) ≡ read → EndReads file read
by_known file m Format.Block false read is there number long kind e =
    let tail = last_bytes 53 file in
    let size = length-drop (length file - 53) file in
    let front = length-take-le (length file - 53) file (omega arith) in
    let whole : last_bytes 53 tail ≡ tail = last_bytes-twice 53 53 file (omega arith) (omega arith) in
    fields-found file (take (length file - 53) file) tail m read (last_bytes-split 53 file) (sym front) (omega arith)
    (number_at_end-found tail m is).1 (sym number)
    (are_bytes-drop 41 tail) (ap (later_read Format.Block) (sym whole) ∙ sym (end_read-block tail false kind) ∙ e)
by_known file m Format.Block true read is there number long kind e =
    let size = length-drop (length file - 53) file in
    legacy (subst (λ k. EndsWith k 48 file) number (end-of_number file m 48 is (omega arith))) (sym (end_read-block (last_bytes 53 file) true kind) ∙ e)
by_known file m Format.Plain false read is there number long kind e =
    let size = length-drop (length file - 53) file in
    other (inl (subst (λ k. EndsWith k 53 file) number (end-of_number file m 53 is (omega arith)))) (sym (end_read-other (last_bytes 53 file) (Format.Plain, false) (Err NotYet) kind refl) ∙ e)
by_known file m Format.Plain true read is there number long kind e =
    let size = length-drop (length file - 53) file in
    other (inr (inl (subst (λ k. EndsWith k 48 file) number (end-of_number file m 48 is (omega arith))))) (sym (end_read-other (last_bytes 53 file) (Format.Plain, true) (Err NotYet) kind refl) ∙ e)
by_known file m Format.Cuckoo false read is there number long kind e =
    let size = length-drop (length file - 53) file in
    other (inr (inr (subst (λ k. EndsWith k 53 file) number (end-of_number file m 53 is (omega arith))))) (sym (end_read-other (last_bytes 53 file) (Format.Cuckoo, false) (Err NotYet) kind refl) ∙ e)
by_known file m Format.Cuckoo true read is there number long kind e = absurd there

-- the kind of a file by its magic number
kind-number : (tail : List ℕ) (number : Option ℕ) → number_at_end tail ≡ number → kind_at tail ≡ kind_by (length tail) number
unfolding kind_at
kind-number tail number is = ap (kind_by (length tail)) is

pub end_reads : (file : List ℕ) (read : Result Footer MetaFault) → end_read (last_bytes 53 file) ≡ read → EndReads file read
end_reads file read e =
    let tail = last_bytes 53 file in
    elim (number_at_end tail) as (λ (o : Option ℕ). number_at_end tail ≡ o → EndReads file read) [
      | None ↦ λ is. none (λ bytes table. no-number file is table) (sym (end_read-none tail (kind-number tail None is)) ∙ e)
      | Some m ↦ λ is.
          let kind = kind-number tail (Some m) is in
          elim (kind-is m (length tail) (kind_at tail) (sym kind)) [
            | known format is_legacy there number long same ↦ by_known file m format is_legacy read is there number long (sym same) e
            | unknown a b c d f same ↦ none (λ bytes table. no-table file m is a b c d f table) (sym (end_read-none tail (sym same)) ∙ e)
          ]
    ] refl

-- the fields of a footer are read
pub end_read-ends : (file : List ℕ) (end kind version : ℕ) (between : List ℕ) → EndsIn file end kind version between
    → (end ≡ length file - 53) × (end_read (last_bytes 53 file) ≡ fields_read Format.Block false version kind between)
unfolding footer_read
end_read-ends file end kind version between ends =
    let tail : List ℕ = kind ∷ (between ++ (fixed 4 version ++ fixed 8 block_based_magic)) in
    let reads = later-reads Format.Block kind version between ends.long ends.small in
    let whole = ap length ends.ends ∙ length-append ends.front tail in
    let last : last_bytes 53 file ≡ tail = ap (last_bytes 53) ends.ends ∙ last_bytes-joined 53 ends.front tail reads.size in
    let at : end ≡ length file - 53 = omega (arith, ends.end_is, reads.size) in
    (at, ap end_read last ∙ end_read-block tail false reads.kind ∙ sym (ap (by_kind tail) reads.kind) ∙ reads.read)
