-- What a builder keeps of its rows, from one call to the next.
use Rattle.std.proofs.Common.{◌≡◌, ◌≢◌, ℕ, ◌+◌, ◌*◌, ◌%◌, ◌==◌, ◌<◌, ◌≤◌, if◌then◌else◌, List, [], ◌∷◌, ◌++◌, length, length-append, refl, sym, ap, ◌∙◌, append_assoc, arith}
use Rattle.std.specs.List.{flat_map}
use Rattle.std.proofs.lemmas.Bool.{eq-eqb, ne_eqb}
use Rattle.std.proofs.lemmas.List.{append-nil}
use Rattle.std.proofs.lemmas.Nat.{mod-mul-add}
use Rattle.std.proofs.Math.Nat.{zero-mod, mul-mod_left}
use Rattle.sst_num.specs.Spelling.{fixed}
use Rattle.sst_num.proofs.Fixed.{length-fixed}
use Rattle.sst_block.specs.declared.row_form.RowForm.{RowForm}
use Rattle.sst_block.specs.Block.{Row, Spelled, common, row_spelling}
use Rattle.sst_block.specs.Chosen.{restarts_of, block_of}
use Rattle.sst_block.specs.Builder.{last_key, spelled_of, Counts, Keeps, IsReady}
use Rattle.sst_block.proofs.Steps.{length-chosen, length-more, last_key-more, chosen-more, restarts_of-first, restarts_of-full, restarts_of-within, rows_spelling-more, restarts_spelling-more}

-- what is kept of no rows
pub Keeps-none : (form : RowForm) (interval : ℕ) → Keeps form interval [] [] (fixed 4 0) [] 1 0
Keeps-none form interval = record {
  bytes_are = refl;
  restarts_are = sym (append-nil (fixed 4 0));
  last_is = refl;
  count_is = refl;
  counts = record { groups = 0; whole = omega arith; within = omega arith };
  begun = λ some. absurd (omega arith);
}

-- the block of the rows, by what is kept of them
pub block_of-kept : (form : RowForm) (interval : ℕ) (rows : List Row) (bytes restarts last : List ℕ) (count since : ℕ)
    → Keeps form interval rows bytes restarts last count since → block_of form interval rows ≡ (bytes ++ restarts) ++ fixed 4 count
unfolding block_of
block_of-kept form interval rows bytes restarts last count since k =
    rw (k.bytes_are, k.restarts_are, k.count_is) (sym (append_assoc (flat_map (row_spelling form) (spelled_of interval rows)) (flat_map (fixed 4) (restarts_of form interval (spelled_of interval rows))) (fixed 4 (length (restarts_of form interval (spelled_of interval rows))))))

-- the same, of the lists that the calls leave
pub block_of-made : (form : RowForm) (interval : ℕ) (rows : List Row) (bytes restarts last lent joined whole made : List ℕ) (count since : ℕ)
    → Keeps form interval rows bytes restarts last count since
    → lent ≡ restarts → joined ≡ bytes ++ lent → whole ≡ joined ++ fixed 4 count → made ≡ whole → made ≡ block_of form interval rows
block_of-made form interval rows bytes restarts last lent joined whole made count since k same join last_four is =
    is ∙ last_four ∙ ap (λ (l : List ℕ). l ++ fixed 4 count) (join ∙ ap (λ (l : List ℕ). bytes ++ l) same)
    ∙ sym (block_of-kept form interval rows bytes restarts last count since k)

-- how long that block is
pub length-block : (form : RowForm) (interval : ℕ) (rows : List Row) (bytes restarts last : List ℕ) (count since : ℕ)
    → Keeps form interval rows bytes restarts last count since → length (block_of form interval rows) ≡ length bytes + length restarts + 4
length-block form interval rows bytes restarts last count since k =
    let whole = ap length (block_of-kept form interval rows bytes restarts last count since k) in
    let a = length-append (bytes ++ restarts) (fixed 4 count) in
    let b = length-append bytes restarts in
    let four = length-fixed 4 count in
    omega (arith, whole, a, b, four)

-- without rows no group has begun
none_since : (form : RowForm) (interval : ℕ) (bytes restarts last : List ℕ) (count since : ℕ) → 1 ≤ interval → Keeps form interval [] bytes restarts last count since → since ≡ 0
none_since form interval bytes restarts last count since least k =
    omega (arith, k.counts.whole)

-- a full group has rows
some_rows : (interval : ℕ) (rows : List Row) (since : ℕ) → 1 ≤ interval → Counts interval (length rows) since → interval ≤ since
    → 0 < length (spelled_of interval rows)
some_rows interval rows since least c full = omega (arith, c.whole, length-chosen interval 0 [] rows)

-- what is left of n rows over the full groups
in_group : (interval n since : ℕ) → (c : Counts interval n since) → since < interval → n % interval ≡ since
in_group interval n since c room = ap (λ m. m % interval) c.whole ∙ mod-mul-add c.groups interval since room

group_full : (interval n since : ℕ) → (c : Counts interval n since) → since ≡ interval → n % interval ≡ 0
group_full interval n since c full =
    let whole : n ≡ (c.groups + 1) * interval = omega (arith, c.whole) in
    ap (λ m. m % interval) whole ∙ mul-mod_left (c.groups + 1) interval

-- a row after some others
pub spelled-more : (interval : ℕ) (rows : List Row) (row : Row) → spelled_of interval (rows ++ row ∷ [])
    ≡ spelled_of interval rows ++ record { shared = if length rows % interval == 0 then 0 else common (last_key [] rows) row.key; row = row } ∷ []
spelled-more interval rows row = chosen-more interval 0 [] rows row (length rows) (omega arith)

-- what a row shares, whether or not it is a restart
shared_restart : (n interval : ℕ) (before key : List ℕ) → n % interval ≡ 0 → (if n % interval == 0 then 0 else common before key) ≡ 0
shared_restart n interval before key e = rw (eq-eqb (n % interval) 0 e) refl

shared_within : (n interval : ℕ) (before key : List ℕ) → n % interval ≢ 0 → (if n % interval == 0 then 0 else common before key) ≡ common before key
shared_within n interval before key e = rw (ne_eqb (n % interval) 0 e) refl

-- a row after some others, by what it shares
spelled-as : (interval : ℕ) (rows : List Row) (row : Row) (shared : ℕ)
    → (if length rows % interval == 0 then 0 else common (last_key [] rows) row.key) ≡ shared
    → spelled_of interval (rows ++ row ∷ []) ≡ spelled_of interval rows ++ record { shared = shared; row = row } ∷ []
spelled-as interval rows row shared e =
    spelled-more interval rows row ∙ ap (λ (n : ℕ). spelled_of interval rows ++ record { shared = n; row = row } ∷ []) e

-- where the group has room, the next row may be put
pub IsReady-room : (form : RowForm) (interval : ℕ) (rows : List Row) (bytes restarts last : List ℕ) (count since : ℕ)
    → Keeps form interval rows bytes restarts last count since → since < interval → IsReady form interval rows bytes restarts last count since
IsReady-room form interval [] bytes restarts last count since k room =
    let e = λ (row : Row). shared_restart 0 interval [] row.key (zero-mod interval) ∙ ap (λ (l : List ℕ). common l row.key) (sym k.last_is) in
    let same = λ (row : Row). sym (ap (restarts_of form interval) (spelled-as interval [] row (common last row.key) (e row)) ∙ restarts_of-first form interval (record { shared = common last row.key; row = row })) in
    record {
      bytes_are = k.bytes_are;
      shares = λ key. e (record { key = key; value = [] });
      spelled_are = λ row. spelled-as interval [] row (common last row.key) (e row);
      restarts_are = λ row. k.restarts_are ∙ ap (λ (places : List ℕ). flat_map (fixed 4) places) (same row);
      count_is = λ row. k.count_is ∙ ap (λ (places : List ℕ). length places) (same row);
      counts = k.counts;
      room = room;
    }
IsReady-room form interval (r ∷ rows) bytes restarts last count since k room =
    let some : 0 < since = k.begun (omega arith) in
    let within : length (r ∷ rows) % interval ≢ 0 = λ zeroed. omega (arith, in_group interval (length (r ∷ rows)) since k.counts room, zeroed) in
    let e = λ (row : Row). shared_within (length (r ∷ rows)) interval (last_key [] (r ∷ rows)) row.key within ∙ ap (λ (l : List ℕ). common l row.key) (sym k.last_is) in
    let size = length-chosen interval 0 [] (r ∷ rows) in
    let still : length (spelled_of interval (r ∷ rows)) % interval ≢ 0 = λ zeroed. within (sym (ap (λ m. m % interval) size) ∙ zeroed) in
    let same = λ (row : Row). sym (ap (restarts_of form interval) (spelled-as interval (r ∷ rows) row (common last row.key) (e row))
    ∙ restarts_of-within form interval (spelled_of interval (r ∷ rows)) (record { shared = common last row.key; row = row }) (omega (arith, size)) still) in
    record {
      bytes_are = k.bytes_are;
      shares = λ key. e (record { key = key; value = [] });
      spelled_are = λ row. spelled-as interval (r ∷ rows) row (common last row.key) (e row);
      restarts_are = λ row. k.restarts_are ∙ ap (λ (places : List ℕ). flat_map (fixed 4) places) (same row);
      count_is = λ row. k.count_is ∙ ap (λ (places : List ℕ). length places) (same row);
      counts = k.counts;
      room = room;
    }

-- where the group is full, the next row may be put once its restart is there and nothing is left to share
pub IsReady-full : (form : RowForm) (interval : ℕ) (rows : List Row) (bytes restarts last : List ℕ) (count since : ℕ)
    → 1 ≤ interval → Keeps form interval rows bytes restarts last count since → interval ≤ since
    → IsReady form interval rows bytes (restarts ++ fixed 4 (length bytes)) [] (count + 1) 0
IsReady-full form interval rows bytes restarts last count since least k full =
    let within = k.counts.within in
    let size = length-chosen interval 0 [] rows in
    let all : since ≡ interval = omega arith in
    let zeroed : length rows % interval ≡ 0 = group_full interval (length rows) since k.counts all in
    let still : length (spelled_of interval rows) % interval ≡ 0 = ap (λ m. m % interval) size ∙ zeroed in
    let some : 0 < length (spelled_of interval rows) = some_rows interval rows since least k.counts full in
    let place : length (flat_map (row_spelling form) (spelled_of interval rows)) ≡ length bytes = sym (ap (λ (l : List ℕ). length l) k.bytes_are) in
    let e = λ (row : Row). shared_restart (length rows) interval (last_key [] rows) row.key zeroed in
    let same = λ (row : Row). ap (restarts_of form interval) (spelled-as interval rows row 0 (e row))
    ∙ restarts_of-full form interval (spelled_of interval rows) (record { shared = 0; row = row }) some still
    ∙ ap (λ (n : ℕ). restarts_of form interval (spelled_of interval rows) ++ n ∷ []) place in
    record {
      bytes_are = k.bytes_are;
      shares = λ key. e (record { key = key; value = [] });
      spelled_are = λ row. spelled-as interval rows row 0 (e row);
      restarts_are = λ row. ap (λ (l : List ℕ). l ++ fixed 4 (length bytes)) k.restarts_are
          ∙ sym (restarts_spelling-more (restarts_of form interval (spelled_of interval rows)) (length bytes))
          ∙ ap (λ (places : List ℕ). flat_map (fixed 4) places) (sym (same row));
      count_is = λ row. ap (λ (n : ℕ). n + 1) k.count_is
          ∙ sym (length-append (restarts_of form interval (spelled_of interval rows)) (length bytes ∷ []))
          ∙ ap (λ (places : List ℕ). length places) (sym (same row));
      counts = record { groups = k.counts.groups + 1; whole = omega (arith, k.counts.whole); within = omega arith };
      room = omega arith;
    }

-- the same, of the lists that the calls leave
pub IsReady-made : (form : RowForm) (interval : ℕ) (rows : List Row) (bytes restarts last made cleared : List ℕ) (count since at : ℕ)
    → 1 ≤ interval → Keeps form interval rows bytes restarts last count since → interval ≤ since
    → at ≡ length bytes → made ≡ restarts ++ fixed 4 at → cleared ≡ []
    → IsReady form interval rows bytes made cleared (count + 1) 0
IsReady-made form interval rows bytes restarts last made cleared count since at least k full place is none =
    rw (is, none, place) (IsReady-full form interval rows bytes restarts last count since least k full)

-- one more row
pub Keeps-more : (form : RowForm) (interval : ℕ) (rows : List Row) (bytes restarts last : List ℕ) (count since : ℕ) (row : Row)
    → IsReady form interval rows bytes restarts last count since
    → Keeps form interval (rows ++ row ∷ []) (bytes ++ row_spelling form (record { shared = common last row.key; row = row })) restarts row.key count (since + 1)
Keeps-more form interval rows bytes restarts last count since row k = record {
  bytes_are =
      ap (λ (l : List ℕ). l ++ row_spelling form (record { shared = common last row.key; row = row })) k.bytes_are
      ∙ sym (rows_spelling-more form (spelled_of interval rows) (record { shared = common last row.key; row = row }))
      ∙ ap (λ (l : List Spelled). flat_map (row_spelling form) l) (sym (k.spelled_are row));
  restarts_are = k.restarts_are row;
  last_is = sym (last_key-more [] rows row);
  count_is = k.count_is row;
  counts = record { groups = k.counts.groups; whole = length-more rows row ∙ omega (arith, k.counts.whole); within = omega (arith, k.room) };
  begun = λ some. omega arith;
}

-- the same, of the lists that the calls leave
pub Keeps-put : (form : RowForm) (interval : ℕ) (rows : List Row) (bytes restarts last put kept : List ℕ) (count since shared : ℕ) (row : Row)
    → IsReady form interval rows bytes restarts last count since
    → shared ≡ common last row.key → put ≡ bytes ++ row_spelling form (record { shared = shared; row = row }) → kept ≡ row.key
    → Keeps form interval (rows ++ row ∷ []) put restarts kept count (since + 1)
Keeps-put form interval rows bytes restarts last put kept count since shared row k front is same =
    rw (is, same, front) (Keeps-more form interval rows bytes restarts last count since row k)
