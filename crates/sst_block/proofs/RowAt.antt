-- What is read as a row is exactly a row that is spelled there, and shares no more than it may.
use Rattle.std.proofs.Common.{◌≡◌, inl, inr, ℕ, zero, suc, ◌+◌, ◌-◌, ◌^◌, ◌<◌, ◌≤◌, if◌then◌else◌, true, false, List, [], ◌∷◌, ◌++◌, length, length-append, length-drop, take, drop, append_assoc, Some, option_and_then, refl, sym, subst, ap, ◌∙◌, arith}
use Rattle.std.proofs.Math.Seq.{drop-append_seam}
use Rattle.std.proofs.lemmas.Bool.{cases_Bool, le-leb, leb-true, and_parts, and_from, cond-true}
use Rattle.std.proofs.lemmas.List.{take-append-drop, take-take, take_at, drop_at, drop-drop, length-take-le}
use Rattle.std.proofs.lemmas.Option.{cond_some, same_Some, some_pair_parts, option_and_then_some}
use Rattle.sst_num.specs.Spelling.{varint}
use Rattle.sst_num.specs.NumberReading.{varint32_at}
use Rattle.sst_num.proofs.Groups.{varint-some}
use Rattle.sst_num.proofs.NumberReading.{varint32_at-varint, varint32_at-found}
use Rattle.sst_num.specs.declared.block_handle.Handle.{Handle}
use Rattle.sst_block.specs.declared.row_form.RowForm.{RowForm}
use Rattle.sst_block.specs.declared.row_form.RowForm.TheVariants.{Entries, Names, Index}
use Rattle.sst_block.specs.Block.{Spelled, common, row_spelling, has_differences, value_length, LeadsTo}
use Rattle.sst_block.specs.BlockReading.{Lengths, value_length_at, lengths_at, are_within, row_by, row_of_lengths, said_at, taken, row_at}
use Rattle.sst_block.proofs.Said.{said_at-said, taken-few, taken-within}
use Rattle.sst_block.proofs.Fronts.{common-same, common-take, common-le_left, common-le_right}

-- differences have no length
none-spelled : (form : RowForm) (n m : ℕ) → has_differences form ≡ true → value_length form n ≡ value_length form m
none-spelled form n m different = rw different refl

-- the length of a value is read again, whatever follows
value_length_at-spelled : (form : RowForm) (handle : Handle) (s : Spelled) (h : Handle) (key after : List ℕ) → LeadsTo form handle s h → length s.row.value < 2 ^ 32
    → value_length_at form handle s.shared (length key) (value_length form (length s.row.value) ++ (key ++ (s.row.value ++ after)))
    ≡ Some (length s.row.value, length (value_length form (length s.row.value)))
value_length_at-spelled Entries handle s h key after says fits = varint32_at-varint (length s.row.value) (key ++ (s.row.value ++ after)) fits
value_length_at-spelled Names handle s h key after says fits = varint32_at-varint (length s.row.value) (key ++ (s.row.value ++ after)) fits
value_length_at-spelled (Index user_key false) handle s h key after says fits = varint32_at-varint (length s.row.value) (key ++ (s.row.value ++ after)) fits
value_length_at-spelled (Index user_key true) handle s h key after says fits =
    let read : said_at true s.shared handle (drop (length key) (key ++ (s.row.value ++ after))) ≡ Some (h, length s.row.value) =
    ap (said_at true s.shared handle) (drop-append_seam key (s.row.value ++ after)) ∙ said_at-said true s.shared handle s.row.value after h says.0 says.1 says.2 in
    ap (λ r. Some (taken r, 0)) read

-- the lengths are read again, whatever follows
lengths_at-spelled : (form : RowForm) (handle : Handle) (a b c : ℕ) (spelled tail : List ℕ) → a < 2 ^ 32 → b < 2 ^ 32
    → value_length_at form handle a b (spelled ++ tail) ≡ Some (c, length spelled)
    → lengths_at form handle (varint a ++ (varint b ++ (spelled ++ tail)))
    ≡ Some (record { shared = a; rest = b; value = c; used = length (varint a) + length (varint b) + length spelled })
unfolding lengths_at
lengths_at-spelled form handle a b c spelled tail small_a small_b read =
    let behind = drop-append_seam (varint a) (varint b ++ (spelled ++ tail)) in
    let last : drop (length (varint a) + length (varint b)) (varint a ++ (varint b ++ (spelled ++ tail))) ≡ spelled ++ tail =
    sym (drop-drop (length (varint b)) (length (varint a)) (varint a ++ (varint b ++ (spelled ++ tail)))) ∙ ap (drop (length (varint b))) behind ∙ drop-append_seam (varint b) (spelled ++ tail) in
    rw (varint32_at-varint a (varint b ++ (spelled ++ tail)) small_a, behind, varint32_at-varint b (spelled ++ tail) small_b, last, read) refl

-- the lengths stand at the front of the bytes
record LengthsStand (form : RowForm) (bytes : List ℕ) (l : Lengths) : Type 0 where
  tail : List ℕ
  joined : bytes ≡ varint l.shared ++ (varint l.rest ++ (value_length form l.value ++ tail))
  takes : l.used ≡ length (varint l.shared) + length (varint l.rest) + length (value_length form l.value)
  fits : l.value < 2 ^ 32

-- a number that was read, and what is behind it
behind-varint32 : (v used : ℕ) (bytes : List ℕ) → varint32_at bytes ≡ Some (v, used)
    → (bytes ≡ varint v ++ drop used bytes) × (used ≡ length (varint v)) × (v < 2 ^ 32)
behind-varint32 v used bytes read =
    let whole = varint32_at-found v used bytes read in
    let found = whole.0 in
    let left : drop used bytes ≡ found.0 =
    ap (λ (k : ℕ). drop k bytes) found.2 ∙ ap (drop (length (varint v))) found.1 ∙ drop-append_seam (varint v) found.0 in
    (found.1 ∙ ap (λ (tail : List ℕ). varint v ++ tail) (sym left), found.2, whole.1)

-- so of the length of a value
behind-value_length : (form : RowForm) (handle : Handle) (shared rest : ℕ) (v used : ℕ) (bytes : List ℕ) → value_length_at form handle shared rest bytes ≡ Some (v, used)
    → (bytes ≡ value_length form v ++ drop used bytes) × (used ≡ length (value_length form v)) × (v < 2 ^ 32)
behind-value_length form handle shared rest v used bytes read =
    elim (has_differences form) as (λ b. (if b then Some (taken (said_at true shared handle (drop rest bytes)), 0) else varint32_at bytes) ≡ Some (v, used)
    → (bytes ≡ (if b then [] else varint v) ++ drop used bytes) × (used ≡ length (if b then [] else varint v)) × (v < 2 ^ 32)) [
      | true ↦ λ is.
          let parts = some_pair_parts (taken (said_at true shared handle (drop rest bytes))) v 0 used is in
          let few = taken-few true shared handle (drop rest bytes) in
          (ap (λ (n : ℕ). drop n bytes) parts.1, sym parts.1, omega (arith, few, parts.0))
      | false ↦ λ is. behind-varint32 v used bytes is
    ] read

-- lengths that were read stand at the front
lengths_at-found : (form : RowForm) (handle : Handle) (bytes : List ℕ) (l : Lengths) → lengths_at form handle bytes ≡ Some l → LengthsStand form bytes l
unfolding lengths_at
lengths_at-found form handle bytes l read =
    option_and_then_some (λ (shared : ℕ × ℕ). option_and_then (λ (rest : ℕ × ℕ). option_and_then (λ (value : ℕ × ℕ).
    Some (record { shared = shared.0; rest = rest.0; value = value.0; used = shared.1 + rest.1 + value.1 }))
    (value_length_at form handle shared.0 rest.0 (drop (shared.1 + rest.1) bytes)))
    (varint32_at (drop shared.1 bytes))) (varint32_at bytes) l read
    (λ shared first later.
    option_and_then_some (λ (rest : ℕ × ℕ). option_and_then (λ (value : ℕ × ℕ).
    Some (record { shared = shared.0; rest = rest.0; value = value.0; used = shared.1 + rest.1 + value.1 }))
    (value_length_at form handle shared.0 rest.0 (drop (shared.1 + rest.1) bytes))) (varint32_at (drop shared.1 bytes)) l later
    (λ rest second last.
    option_and_then_some (λ (value : ℕ × ℕ).
    Some (record { shared = shared.0; rest = rest.0; value = value.0; used = shared.1 + rest.1 + value.1 }))
    (value_length_at form handle shared.0 rest.0 (drop (shared.1 + rest.1) bytes)) l last
    (λ value third is.
    let made : Lengths = record { shared = shared.0; rest = rest.0; value = value.0; used = shared.1 + rest.1 + value.1 } in
    let a = behind-varint32 shared.0 shared.1 bytes first in
    let b = behind-varint32 rest.0 rest.1 (drop shared.1 bytes) second in
    let c = behind-value_length form handle shared.0 rest.0 value.0 value.1 (drop (shared.1 + rest.1) bytes) third in
    let tail = drop value.1 (drop (shared.1 + rest.1) bytes) in
    let stands : LengthsStand form bytes made = record {
      tail = tail;
      joined = a.0 ∙ ap (λ (xs : List ℕ). varint shared.0 ++ xs) (b.0 ∙ ap (λ (xs : List ℕ). varint rest.0 ++ xs) (drop-drop rest.1 shared.1 bytes ∙ c.0));
      takes = omega (arith, a.1, b.1, c.1);
      fits = c.2;
    } in
    subst (λ (m : Lengths). LengthsStand form bytes m) (same_Some made l is) stands)))

-- a key that begins with n bytes of another has these in common with it
common-front : (n : ℕ) (before tail : List ℕ) → n ≤ length before → n ≤ common before (take n before ++ tail)
common-front zero before tail h = omega arith
common-front (suc n) [] tail h = absurd (omega arith)
common-front (suc n) (x ∷ before) tail h =
    let rest = common-front n before tail (omega arith) in
    rw (common-same x x before (take n before ++ tail) refl) (omega arith)

-- the lengths that a spelled row begins with
abbrev lengths_of : RowForm → Spelled → Lengths
lengths_of form s = record {
  shared = s.shared;
  rest = length s.row.key - s.shared;
  value = length s.row.value;
  used = length (varint s.shared) + length (varint (length s.row.key - s.shared)) + length (value_length form (length s.row.value));
}

-- a row before other bytes
row-joined : (form : RowForm) (s : Spelled) (after : List ℕ) → row_spelling form s ++ after
    ≡ varint s.shared ++ (varint (length s.row.key - s.shared) ++ (value_length form (length s.row.value) ++ (drop s.shared s.row.key ++ (s.row.value ++ after))))
row-joined form s after = simp append_assoc

-- how long a spelled row is
pub length-row : (form : RowForm) (s : Spelled) → length (row_spelling form s)
    ≡ length (varint s.shared) + length (varint (length s.row.key - s.shared)) + length (value_length form (length s.row.value))
    + (length s.row.key - s.shared) + length s.row.value
length-row form s =
    let rest = drop s.shared s.row.key in
    let said = value_length form (length s.row.value) in
    let size = length-drop s.shared s.row.key in
    let a = length-append rest s.row.value in
    let b = length-append said (rest ++ s.row.value) in
    let c = length-append (varint (length s.row.key - s.shared)) (said ++ (rest ++ s.row.value)) in
    let d = length-append (varint s.shared) (varint (length s.row.key - s.shared) ++ (said ++ (rest ++ s.row.value))) in
    omega (arith, size, a, b, c, d)

-- a row is no shorter than its value
pub value-within : (form : RowForm) (s : Spelled) → length s.row.value ≤ length (row_spelling form s)
value-within form s = omega (arith, length-row form s)

drop-three : (a b c tail : List ℕ) → drop (length a + length b + length c) (a ++ (b ++ (c ++ tail))) ≡ tail
drop-three a b c tail =
    let whole : length (a ++ b ++ c) ≡ length a + length b + length c = omega (arith, length-append (a ++ b) c, length-append a b) in
    let joined : a ++ (b ++ (c ++ tail)) ≡ (a ++ b ++ c) ++ tail = simp append_assoc in
    rw joined (drop_at (a ++ b ++ c) tail (length a + length b + length c) whole)

-- what a shared front and the rest of a key make
key-again : (n : ℕ) (before key : List ℕ) → n ≤ common before key → take n before ++ drop n key ≡ key
key-again n before key h =
    let front : take n before ≡ take n key =
    sym (take-take n (common before key) before h) ∙ ap (take n) (common-take before key) ∙ take-take n (common before key) key h in
    rw front (take-append-drop n key)

-- the row that is read of a spelled row's lengths
row_by-spelled : (form : RowForm) (before after : List ℕ) (s : Spelled) → s.shared ≤ common before s.row.key
    → row_by before (row_spelling form s ++ after) (lengths_of form s) ≡ s
row_by-spelled form before after s shares =
    let l = lengths_of form s in
    let within = common-le_right before s.row.key in
    let size : length (drop s.shared s.row.key) ≡ l.rest = length-drop s.shared s.row.key in
    let behind : drop l.used (row_spelling form s ++ after) ≡ drop s.shared s.row.key ++ (s.row.value ++ after) =
    ap (drop l.used) (row-joined form s after) ∙ drop-three (varint s.shared) (varint l.rest) (value_length form l.value) (drop s.shared s.row.key ++ (s.row.value ++ after)) in
    let last : drop (l.used + l.rest) (row_spelling form s ++ after) ≡ s.row.value ++ after =
    sym (drop-drop l.rest l.used (row_spelling form s ++ after)) ∙ ap (drop l.rest) behind ∙ drop_at (drop s.shared s.row.key) (s.row.value ++ after) l.rest size in
    let value : take l.value (drop (l.used + l.rest) (row_spelling form s ++ after)) ≡ s.row.value =
    ap (take l.value) last ∙ take_at s.row.value after l.value refl in
    let key : take s.shared before ++ take l.rest (drop l.used (row_spelling form s ++ after)) ≡ s.row.key =
    ap (λ (xs : List ℕ). take s.shared before ++ xs) (ap (take l.rest) behind ∙ take_at (drop s.shared s.row.key) (s.row.value ++ after) l.rest size) ∙ key-again s.shared before s.row.key shares in
    ap (λ (k : List ℕ). record { shared = s.shared; row = record { key = k; value = take l.value (drop (l.used + l.rest) (row_spelling form s ++ after)) } }) key
    ∙ ap (λ (v : List ℕ). record { shared = s.shared; row = record { key = s.row.key; value = v } }) value

-- good lengths make a row
row_at-made : (form : RowForm) (handle : Handle) (before bytes : List ℕ) (l : Lengths) (s : Spelled) (n : ℕ) → lengths_at form handle bytes ≡ Some l
    → are_within before (length bytes) l ≡ true → row_by before bytes l ≡ s → l.used + l.rest + l.value ≡ n
    → row_at form handle before bytes ≡ Some (s, n)
unfolding row_at
row_at-made form handle before bytes l s n read good made takes =
    ap (option_and_then (row_of_lengths before bytes)) read ∙ cond-true _ _ _ good
    ∙ ap (λ (r : Spelled). Some (r, l.used + l.rest + l.value)) made ∙ ap (λ (k : ℕ). Some (s, k)) takes

-- a spelled row is read again where the length of its value is
pub row_at-told : (form : RowForm) (handle : Handle) (before after : List ℕ) (s : Spelled) → s.shared ≤ common before s.row.key → length s.row.key ≤ 65544
    → value_length_at form handle s.shared (length (drop s.shared s.row.key)) (value_length form (length s.row.value) ++ (drop s.shared s.row.key ++ (s.row.value ++ after)))
    ≡ Some (length s.row.value, length (value_length form (length s.row.value)))
    → row_at form handle before (row_spelling form s ++ after) ≡ Some (s, length (row_spelling form s))
row_at-told form handle before after s shares short value =
    let l = lengths_of form s in
    let bytes = row_spelling form s ++ after in
    let low : l.shared ≤ length before = omega (arith, shares, common-le_left before s.row.key) in
    let within = common-le_right before s.row.key in
    let takes : l.used + l.rest + l.value ≡ length (row_spelling form s) = sym (length-row form s) in
    let room : l.used + l.rest + l.value ≤ length bytes = omega (arith, takes, length-append (row_spelling form s) after) in
    let key : l.shared + l.rest ≤ 65544 = omega (arith, shares, within, short) in
    let small : l.rest < 2 ^ 32 = omega (arith, short) in
    let key_size : length (drop s.shared s.row.key) ≡ l.rest = length-drop s.shared s.row.key in
    let told = subst (λ (n : ℕ). value_length_at form handle s.shared n (value_length form l.value ++ (drop s.shared s.row.key ++ (s.row.value ++ after))) ≡ Some (l.value, length (value_length form l.value))) key_size value in
    let read : lengths_at form handle bytes ≡ Some l =
    ap (lengths_at form handle) (row-joined form s after)
    ∙ lengths_at-spelled form handle l.shared l.rest l.value (value_length form l.value) (drop s.shared s.row.key ++ (s.row.value ++ after)) (omega (arith, key)) small told in
    let good : are_within before (length bytes) l ≡ true =
    and_from _ _ (le-leb l.shared (length before) low)
    (and_from _ _ (le-leb (l.used + l.rest + l.value) (length bytes) room) (le-leb (l.shared + l.rest) 65544 key)) in
    row_at-made form handle before bytes l s (length (row_spelling form s)) read good (row_by-spelled form before after s shares) takes

-- a spelled row that leads to a handle is read again, whatever follows
pub row_at-spelled : (form : RowForm) (handle h : Handle) (before after : List ℕ) (s : Spelled) → LeadsTo form handle s h → s.shared ≤ common before s.row.key → length s.row.key ≤ 65544
    → length s.row.value < 2 ^ 32 → row_at form handle before (row_spelling form s ++ after) ≡ Some (s, length (row_spelling form s))
row_at-spelled form handle h before after s says shares short fits =
    row_at-told form handle before after s shares short (value_length_at-spelled form handle s h (drop s.shared s.row.key) after says fits)

-- the key of a spelled row is read again, whatever its value says
pub record KeyRead (form : RowForm) (handle : Handle) (before bytes : List ℕ) (s : Spelled) : Type 0 where
  pub read : Spelled
  pub reads : row_at form handle before bytes ≡ Some (read, length (row_spelling form read))
  pub key : read.row.key ≡ s.row.key

-- where a row spells the length of its value
key-plain : (form : RowForm) (handle : Handle) (before after : List ℕ) (s : Spelled) → has_differences form ≡ false → s.shared ≤ common before s.row.key → length s.row.key ≤ 65544
    → length s.row.value < 2 ^ 32 → KeyRead form handle before (row_spelling form s ++ after) s
key-plain form handle before after s plain shares short fits =
    let key = drop s.shared s.row.key in
    let value : value_length_at form handle s.shared (length key) (value_length form (length s.row.value) ++ (key ++ (s.row.value ++ after)))
    ≡ Some (length s.row.value, length (value_length form (length s.row.value))) =
    rw plain (varint32_at-varint (length s.row.value) (key ++ (s.row.value ++ after)) fits) in
    record { read = s; reads = row_at-told form handle before after s shares short value; key = refl }

-- and where it doesn't: the value is what was taken
key-different : (form : RowForm) (handle : Handle) (before after : List ℕ) (s : Spelled) → has_differences form ≡ true → s.shared ≤ common before s.row.key → length s.row.key ≤ 65544
    → KeyRead form handle before (row_spelling form s ++ after) s
key-different form handle before after s different shares short =
    let key = drop s.shared s.row.key in
    let tail = s.row.value ++ after in
    let n = taken (said_at true s.shared handle tail) in
    let within = taken-within true s.shared handle tail in
    let t : Spelled = record { shared = s.shared; row = record { key = s.row.key; value = take n tail } } in
    let size : length (take n tail) ≡ n = length-take-le n tail within in
    let read : said_at true s.shared handle (drop (length key) (key ++ (take n tail ++ drop n tail))) ≡ said_at true s.shared handle tail =
    ap (said_at true s.shared handle) (drop-append_seam key (take n tail ++ drop n tail) ∙ take-append-drop n tail) in
    let told : taken (said_at true s.shared handle (drop (length key) (key ++ (take n tail ++ drop n tail)))) ≡ length (take n tail) = ap taken read ∙ sym size in
    let value : value_length_at form handle s.shared (length key) (value_length form (length t.row.value) ++ (key ++ (t.row.value ++ drop n tail)))
    ≡ Some (length t.row.value, length (value_length form (length t.row.value))) =
    rw different (ap (λ (m : ℕ). Some (m, 0)) told) in
    let joined : row_spelling form t ++ drop n tail ≡ row_spelling form s ++ after =
    row-joined form t (drop n tail)
    ∙ ap (λ (xs : List ℕ). varint s.shared ++ (varint (length s.row.key - s.shared) ++ (xs ++ (key ++ (take n tail ++ drop n tail)))))
    (none-spelled form (length (take n tail)) (length s.row.value) different)
    ∙ ap (λ (xs : List ℕ). varint s.shared ++ (varint (length s.row.key - s.shared) ++ (value_length form (length s.row.value) ++ (key ++ xs)))) (take-append-drop n tail)
    ∙ sym (row-joined form s after) in
    record {
      read = t;
      reads = ap (row_at form handle before) (sym joined) ∙ row_at-told form handle before (drop n tail) t shares short value;
      key = refl;
    }

pub key-read : (form : RowForm) (handle : Handle) (before after : List ℕ) (s : Spelled) → s.shared ≤ common before s.row.key → length s.row.key ≤ 65544
    → length s.row.value < 2 ^ 32 → KeyRead form handle before (row_spelling form s ++ after) s
key-read form handle before after s shares short fits =
    elim (cases_Bool (has_differences form)) [
      | inl different ↦ key-different form handle before after s different shares short
      | inr plain ↦ key-plain form handle before after s plain shares short fits
    ]

-- the row stands at the front of the bytes
pub record RowStands (form : RowForm) (before bytes : List ℕ) (s : Spelled) (used : ℕ) : Type 0 where
  pub joined : bytes ≡ row_spelling form s ++ drop used bytes
  pub takes : used ≡ length (row_spelling form s)
  pub some : 0 < used
  pub shares : s.shared ≤ common before s.row.key
  pub short : length s.row.key ≤ 65544
  pub fits : length s.row.value < 2 ^ 32

-- the key and value that lengths cut out of the bytes behind them
row-cut : (form : RowForm) (before tail : List ℕ) (l : Lengths) (key value : List ℕ)
    → key ≡ take l.shared before ++ take l.rest tail → value ≡ take l.value (drop l.rest tail)
    → l.shared ≤ length before → l.rest + l.value ≤ length tail
    → (length key ≡ l.shared + l.rest) × (length value ≡ l.value) × (row_spelling form (record { shared = l.shared; row = record { key = key; value = value } })
    ++ drop (l.rest + l.value) tail ≡ varint l.shared ++ (varint l.rest ++ (value_length form l.value ++ tail)))
row-cut form before tail l key value is_key is_value low room =
    let front = length-take-le l.shared before low in
    let end : length (take l.rest tail) ≡ l.rest = length-take-le l.rest tail (omega arith) in
    let behind : l.value ≤ length (drop l.rest tail) = omega (arith, length-drop l.rest tail) in
    let size : length key ≡ l.shared + l.rest = ap length is_key ∙ length-append (take l.shared before) (take l.rest tail) ∙ omega arith in
    let last : length value ≡ l.value = ap length is_value ∙ length-take-le l.value (drop l.rest tail) behind in
    let own : drop l.shared key ≡ take l.rest tail = ap (drop l.shared) is_key ∙ drop_at (take l.shared before) (take l.rest tail) l.shared front in
    let rest : length key - l.shared ≡ l.rest = omega arith in
    let whole : take l.rest tail ++ (value ++ drop (l.rest + l.value) tail) ≡ tail =
    ap (λ (v : List ℕ). take l.rest tail ++ (v ++ drop (l.rest + l.value) tail)) is_value
    ∙ ap (λ (xs : List ℕ). take l.rest tail ++ (take l.value (drop l.rest tail) ++ xs)) (sym (drop-drop l.value l.rest tail))
    ∙ ap (λ (xs : List ℕ). take l.rest tail ++ xs) (take-append-drop l.value (drop l.rest tail))
    ∙ take-append-drop l.rest tail in
    let s : Spelled = record { shared = l.shared; row = record { key = key; value = value } } in (
      size,
      last,
      row-joined form s (drop (l.rest + l.value) tail)
          ∙ ap (λ (n : ℕ). varint l.shared ++ (varint n ++ (value_length form (length value) ++ (drop l.shared key ++ (value ++ drop (l.rest + l.value) tail))))) rest
          ∙ ap (λ (n : ℕ). varint l.shared ++ (varint l.rest ++ (value_length form n ++ (drop l.shared key ++ (value ++ drop (l.rest + l.value) tail))))) last
          ∙ ap (λ (xs : List ℕ). varint l.shared ++ (varint l.rest ++ (value_length form l.value ++ (xs ++ (value ++ drop (l.rest + l.value) tail))))) own
          ∙ ap (λ (xs : List ℕ). varint l.shared ++ (varint l.rest ++ (value_length form l.value ++ xs))) whole,
    )

-- the row that is cut out by good lengths stands at the front
row-stands : (form : RowForm) (before bytes : List ℕ) (l : Lengths) → LengthsStand form bytes l → l.shared ≤ length before
    → l.used + l.rest + l.value ≤ length bytes → l.shared + l.rest ≤ 65544
    → RowStands form before bytes (row_by before bytes l) (l.used + l.rest + l.value)
row-stands form before bytes l stands low room short =
    let tail = drop l.used bytes in
    let s = row_by before bytes l in
    let used = l.used + l.rest + l.value in
    let left : tail ≡ stands.tail =
    ap (λ (n : ℕ). drop n bytes) stands.takes ∙ ap (drop (length (varint l.shared) + length (varint l.rest) + length (value_length form l.value))) stands.joined
    ∙ drop-three (varint l.shared) (varint l.rest) (value_length form l.value) stands.tail in
    let value : s.row.value ≡ take l.value (drop l.rest tail) = ap (take l.value) (sym (drop-drop l.rest l.used bytes)) in
    let size : length tail ≡ length bytes - l.used = length-drop l.used bytes in
    let cut = row-cut form before tail l s.row.key s.row.value refl value low (omega arith) in
    let sum : l.used + (l.rest + l.value) ≡ used = omega arith in
    let after : drop (l.rest + l.value) tail ≡ drop used bytes =
    drop-drop (l.rest + l.value) l.used bytes ∙ ap (λ (n : ℕ). drop n bytes) sum in
    let joined : bytes ≡ row_spelling form s ++ drop used bytes =
    stands.joined ∙ ap (λ (xs : List ℕ). varint l.shared ++ (varint l.rest ++ (value_length form l.value ++ xs))) (sym left)
    ∙ sym cut.2 ∙ ap (λ (xs : List ℕ). row_spelling form s ++ xs) after in
    let whole : length bytes ≡ length (row_spelling form s) + length (drop used bytes) = ap length joined ∙ length-append (row_spelling form s) (drop used bytes) in
    let behind : length (drop used bytes) ≡ length bytes - used = length-drop used bytes in
    record {
      joined = joined;
      takes = omega (arith, whole, behind, room);
      some = omega (arith, stands.takes, varint-some l.shared);
      shares = common-front l.shared before (take l.rest tail) low;
      short = omega (arith, cut.0, short);
      fits = omega (arith, cut.1, stands.fits);
    }

-- a row that was read stands at the front
pub row_at-found : (form : RowForm) (handle : Handle) (before bytes : List ℕ) (s : Spelled) (used : ℕ) → row_at form handle before bytes ≡ Some (s, used) → RowStands form before bytes s used
unfolding row_at
row_at-found form handle before bytes s used read =
    option_and_then_some (row_of_lengths before bytes) (lengths_at form handle bytes) (s, used) read
    (λ l first last.
    let parts = cond_some (are_within before (length bytes) l) (row_by before bytes l, l.used + l.rest + l.value) (s, used) last in
    let a = and_parts _ _ parts.0 in
    let b = and_parts _ _ a.1 in
    let stands = row-stands form before bytes l (lengths_at-found form handle bytes l first) (leb-true _ _ a.0) (leb-true _ _ b.0) (leb-true _ _ b.1) in
    subst (λ (r : Spelled × ℕ). RowStands form before bytes r.0 r.1) parts.1 stands)
