-- The fault that is read of a row is the first that the row has.
use Rattle.std.proofs.Common.{not, ◌&&◌, ◌≡◌, ℕ, ◌<◌, ◌≤◌, nat_lt, if◌then◌else◌, Bool, true, false, List, [], ◌++◌, length, drop, Option, Some, None, Err, refl, sym, subst, ap, ◌∙◌, arith}
use Rattle.std.proofs.lemmas.Bool.{ltb-true, ltb-false, both_ways}
use Rattle.std.specs.Option.{is_some}
use Rattle.std.proofs.lemmas.Option.{same_Some}
use Rattle.sst_num.specs.declared.block_handle.Handle.{Handle}
use Rattle.sst_block.specs.declared.row_form.RowForm.{RowForm}
use Rattle.sst_block.specs.declared.row_form.RowForm.TheVariants.{Entries, Names, Index}
use Rattle.sst_block.specs.declared.fault.BlockFault.{BlockFault}
use Rattle.sst_block.specs.declared.fault.BlockFault.TheVariants.{BadRow, Disorder, BadKind, BadHandle}
use Rattle.sst_block.specs.Block.{Spelled, row_spelling, SaysHandle, LeadsTo}
use Rattle.sst_block.specs.Builder.{last_key}
use Rattle.sst_block.specs.FirstFault.{rows_spelled, HasGoodLengths, BeginsNoRow, BeginsRow, IsRowFault}
use Rattle.sst_block.specs.BlockReading.{has_tag, is_internal_key, handle_said, Before, is_after, or_fault, row_fault, key_before, unless, sound_row, row_at, row_read}
use Rattle.sst_block.proofs.Follows.{last_of, last-key, ordered-last}
use Rattle.sst_block.proofs.RowAt.{row_at-spelled, row_at-found, RowStands, KeyRead, key-read}
use Rattle.sst_block.proofs.Said.{handle_said-said, handle_said-found}
use Rattle.sst_block.proofs.RowForms.{some-is, internal_key-passes, internal_key-from, index-form}

-- the first of three tests that failed
data FirstFailed (short formed after : Bool) (f g h fault : BlockFault) : Type 0 where
  lengths_failed : short ≡ true → f ≡ fault → FirstFailed short formed after f g h fault
  form_failed : short ≡ false → formed ≡ false → g ≡ fault → FirstFailed short formed after f g h fault
  order_failed : short ≡ false → formed ≡ true → after ≡ false → h ≡ fault → FirstFailed short formed after f g h fault

tests-failed : (short formed after : Bool) (f g h fault : BlockFault)
    → (if short then Some f else or_fault (if formed then None else Some g) (if after then None else Some h)) ≡ Some fault
    → FirstFailed short formed after f g h fault
tests-failed true formed after f g h fault is = lengths_failed refl cc
tests-failed false false after f g h fault is = form_failed refl refl cc
tests-failed false true false f g h fault is = order_failed refl refl refl cc
tests-failed false true true f g h fault is = cc

-- what reading of a row with a fault says: there is no row, or its tests failed
pub unless_err : {A : Type 0} (x : A) (o : Option BlockFault) (fault : BlockFault) → unless x o ≡ Err fault → o ≡ Some fault
unless_err x None fault is = cc
unless_err x (Some f) fault is = cc

-- the row that was read has good lengths but for its tag
pub good-lengths : (form : RowForm) (before bytes : List ℕ) (s : Spelled) (used : ℕ) → RowStands form before bytes s used
    → (has_tag form ≡ true → 8 ≤ length s.row.key) → HasGoodLengths form before s
good-lengths form before bytes s used stands tagged =
    record { shares = stands.shares; short = stands.short; fits = stands.fits; tagged = tagged }

begins : (form : RowForm) (before bytes : List ℕ) (s : Spelled) (used : ℕ) → RowStands form before bytes s used
    → (has_tag form ≡ true → 8 ≤ length s.row.key) → BeginsRow form before bytes s
begins form before bytes s used stands tagged =
    record { after = drop used bytes; joined = stands.joined; lengths = good-lengths form before bytes s used stands tagged }

-- a row that begins the bytes, and leads to a handle, is the one that is read
pub row-read : (form : RowForm) (handle h : Handle) (before bytes : List ℕ) (s : Spelled) (after : List ℕ) → LeadsTo form handle s h
    → bytes ≡ row_spelling form s ++ after → HasGoodLengths form before s → row_at form handle before bytes ≡ Some (s, length (row_spelling form s))
row-read form handle h before bytes s after leads joined good =
    ap (row_at form handle before) joined ∙ row_at-spelled form handle h before after s leads good.shares good.short good.fits

-- the key of a row that begins the bytes is read, whatever its value says
pub begins-read : (form : RowForm) (handle : Handle) (before bytes : List ℕ) (s : Spelled) (after : List ℕ) → bytes ≡ row_spelling form s ++ after → HasGoodLengths form before s
    → KeyRead form handle before bytes s
begins-read form handle before bytes s after joined good =
    subst (λ (b : List ℕ). KeyRead form handle before b s) (sym joined) (key-read form handle before after s good.shares good.short good.fits)

-- no row begins the bytes where none is read
no-row : (form : RowForm) (handle : Handle) (before bytes : List ℕ) → row_at form handle before bytes ≡ None → BeginsNoRow form before bytes
no-row form handle before bytes none s after joined good =
    let read = (begins-read form handle before bytes s after joined good).reads in
    cc (none, read)

-- and none where the one that is read has no room for its tag
no-tag : (form : RowForm) (handle : Handle) (before bytes : List ℕ) (r : Spelled × ℕ) → row_at form handle before bytes ≡ Some r → has_tag form ≡ true
    → length r.0.row.key < 8 → BeginsNoRow form before bytes
no-tag form handle before bytes r is tag short s after joined good =
    let k = begins-read form handle before bytes s after joined good in
    let same : k.read ≡ r.0 = ap (λ (p : Spelled × ℕ). p.0) (same_Some _ r (sym k.reads ∙ is)) in
    let key : r.0.row.key ≡ s.row.key = ap (λ (x : Spelled). x.row.key) (sym same) ∙ k.key in
    let long = good.tagged tag in
    absurd (omega (arith, long, short, ap length key))

-- a row that is read, and the place of its fault
record Failing (form : RowForm) (good : List Spelled) (handle : Handle) (at : ℕ) (bytes : List ℕ) (r : Spelled × ℕ) : Type 0 where
  read : row_at form handle (last_key [] (rows_spelled good)) bytes ≡ Some r
  stands : RowStands form (last_key [] (rows_spelled good)) bytes r.0 r.1

entries-fault : (good : List Spelled) (handle : Handle) (at : ℕ) (bytes : List ℕ) (r : Spelled × ℕ) (fault : BlockFault) → Failing Entries good handle at bytes r
    → FirstFailed (nat_lt (length r.0.row.key) 8) (is_internal_key r.0.row.key) (is_after Entries (last_of None (rows_spelled good)) r.0.row.key) (BadRow at) (BadKind at) (Disorder at) fault
    → IsRowFault Entries good handle at bytes fault
entries-fault good handle at bytes r fault failing (lengths_failed short is) =
    subst (λ (f : BlockFault). IsRowFault Entries good handle at bytes f) is
    (refl, no-tag Entries handle (last_key [] (rows_spelled good)) bytes r failing.read refl (ltb-true (length r.0.row.key) 8 short))
entries-fault good handle at bytes r fault failing (form_failed long misformed is) =
    subst (λ (f : BlockFault). IsRowFault Entries good handle at bytes f) is (
      refl,
      refl,
      (
        r.0,
        begins Entries (last_key [] (rows_spelled good)) bytes r.0 r.1 failing.stands (λ tag. ltb-false (length r.0.row.key) 8 long),
        λ key. both_ways (is_internal_key r.0.row.key) misformed (internal_key-passes r.0.row.key key),
      ),
    )
entries-fault good handle at bytes r fault failing (order_failed long formed unordered is) =
    subst (λ (f : BlockFault). IsRowFault Entries good handle at bytes f) is (
      refl,
      (
        r.0,
        handle,
        begins Entries (last_key [] (rows_spelled good)) bytes r.0 r.1 failing.stands (λ tag. ltb-false (length r.0.row.key) 8 long),
        internal_key-from r.0.row.key formed,
        refl,
        λ ordered. both_ways (is_after Entries (last_of None (rows_spelled good)) r.0.row.key) unordered (ordered-last Entries (rows_spelled good) r.0.row ordered),
      ),
    )

-- a key that is too short for the tag that it has
tag-missing : (tag : Bool) (n : ℕ) → (tag && nat_lt n 8) ≡ true → (tag ≡ true) × (n < 8)
tag-missing true n is = (refl, ltb-true n 8 is)
tag-missing false n is = cc

-- and one that isn't
pub tag-there : (tag : Bool) (n : ℕ) → (tag && nat_lt n 8) ≡ false → tag ≡ true → 8 ≤ n
tag-there true n is tagged = ltb-false n 8 is
tag-there false n is tagged = cc

-- no row that begins the bytes says a handle where the one that is read says none
says-none : (user_key delta : Bool) (handle : Handle) (before bytes : List ℕ) (r : Spelled × ℕ) → row_at (Index user_key delta) handle before bytes ≡ Some r
    → is_some (handle_said delta r.0.shared handle r.0.row.value) ≡ false
    → (s : Spelled) (h : Handle) → BeginsRow (Index user_key delta) before bytes s → SaysHandle delta handle s h → ⊥
says-none user_key delta handle before bytes r read none s h row says =
    let again = row-read (Index user_key delta) handle h before bytes s row.after says row.joined row.lengths in
    let same : r.0 ≡ s = ap (λ (p : Spelled × ℕ). p.0) (same_Some r _ (sym read ∙ again)) in
    let there : is_some (handle_said delta r.0.shared handle r.0.row.value) ≡ true =
    ap (λ (x : Spelled). is_some (handle_said delta x.shared handle x.row.value)) same ∙ ap is_some (handle_said-said delta handle s h says) in
    both_ways _ none there

handles-fault : (user_key delta : Bool) (good : List Spelled) (handle : Handle) (at : ℕ) (bytes : List ℕ) (r : Spelled × ℕ) (fault : BlockFault)
    → Failing (Index user_key delta) good handle at bytes r
    → FirstFailed (not user_key && nat_lt (length r.0.row.key) 8) (is_some (handle_said delta r.0.shared handle r.0.row.value))
    (is_after (Index user_key delta) (last_of None (rows_spelled good)) r.0.row.key) (BadRow at) (BadHandle at) (Disorder at) fault
    → IsRowFault (Index user_key delta) good handle at bytes fault
handles-fault user_key delta good handle at bytes r fault failing (lengths_failed short is) =
    let parts = tag-missing (not user_key) (length r.0.row.key) short in
    subst (λ (f : BlockFault). IsRowFault (Index user_key delta) good handle at bytes f) is
    (refl, no-tag (Index user_key delta) handle (last_key [] (rows_spelled good)) bytes r failing.read parts.0 parts.1)
handles-fault user_key delta good handle at bytes r fault failing (form_failed long misformed is) =
    subst (λ (f : BlockFault). IsRowFault (Index user_key delta) good handle at bytes f) is (
      refl,
      tt,
      (r.0, begins (Index user_key delta) (last_key [] (rows_spelled good)) bytes r.0 r.1 failing.stands (tag-there (not user_key) (length r.0.row.key) long)),
      says-none user_key delta handle (last_key [] (rows_spelled good)) bytes r failing.read misformed,
    )
handles-fault user_key delta good handle at bytes r fault failing (order_failed long formed unordered is) =
    let read = some-is (handle_said delta r.0.shared handle r.0.row.value) formed in
    let says = handle_said-found delta handle r.0 read.0 read.1 in
    subst (λ (f : BlockFault). IsRowFault (Index user_key delta) good handle at bytes f) is (
      refl,
      (
        r.0,
        read.0,
        begins (Index user_key delta) (last_key [] (rows_spelled good)) bytes r.0 r.1 failing.stands (tag-there (not user_key) (length r.0.row.key) long),
        index-form user_key delta handle r.0 read.0 long says,
        says,
        λ ordered. both_ways (is_after (Index user_key delta) (last_of None (rows_spelled good)) r.0.row.key) unordered (ordered-last (Index user_key delta) (rows_spelled good) r.0.row ordered),
      ),
    )

names-fault : (good : List Spelled) (handle : Handle) (at : ℕ) (bytes : List ℕ) (r : Spelled × ℕ) (fault : BlockFault) → Failing Names good handle at bytes r
    → FirstFailed false true (is_after Names (last_of None (rows_spelled good)) r.0.row.key) (BadRow at) (BadRow at) (Disorder at) fault
    → IsRowFault Names good handle at bytes fault
names-fault good handle at bytes r fault failing (lengths_failed short is) = cc
names-fault good handle at bytes r fault failing (form_failed long misformed is) = cc
names-fault good handle at bytes r fault failing (order_failed long formed unordered is) =
    subst (λ (f : BlockFault). IsRowFault Names good handle at bytes f) is (
      refl,
      (
        r.0,
        handle,
        begins Names (last_key [] (rows_spelled good)) bytes r.0 r.1 failing.stands (λ tag. cc),
        tt,
        refl,
        λ ordered. both_ways (is_after Names (last_of None (rows_spelled good)) r.0.row.key) unordered (ordered-last Names (rows_spelled good) r.0.row ordered),
      ),
    )

-- what is before a row behind good rows that lead to the handle
abbrev pub behind_good : List Spelled → Handle → Before
behind_good good handle = record { key = last_of None (rows_spelled good); handle = handle }

some-row-fault : (form : RowForm) (good : List Spelled) (handle : Handle) (at : ℕ) (bytes : List ℕ) (r : Spelled × ℕ) (fault : BlockFault)
    → Failing form good handle at bytes r → row_fault form at (behind_good good handle) r.0 ≡ Some fault → IsRowFault form good handle at bytes fault
some-row-fault Entries good handle at bytes r fault failing is =
    entries-fault good handle at bytes r fault failing (tests-failed _ _ _ _ _ _ fault is)
some-row-fault Names good handle at bytes r fault failing is =
    names-fault good handle at bytes r fault failing (tests-failed false true (is_after Names (last_of None (rows_spelled good)) r.0.row.key) (BadRow at) (BadRow at) (Disorder at) fault is)
some-row-fault (Index user_key delta) good handle at bytes r fault failing is =
    handles-fault user_key delta good handle at bytes r fault failing
    (tests-failed (not user_key && nat_lt (length r.0.row.key) 8) (is_some (handle_said delta r.0.shared handle r.0.row.value)) _ _ _ _ fault is)

read-fault : (form : RowForm) (good : List Spelled) (handle : Handle) (at : ℕ) (bytes : List ℕ) (read : Option (Spelled × ℕ)) (fault : BlockFault)
    → row_at form handle (last_key [] (rows_spelled good)) bytes ≡ read → sound_row form at (behind_good good handle) read ≡ Err fault
    → IsRowFault form good handle at bytes fault
read-fault form good handle at bytes None fault read is =
    let same : BadRow at ≡ fault = cc in
    subst (λ (f : BlockFault). IsRowFault form good handle at bytes f) same (refl, no-row form handle (last_key [] (rows_spelled good)) bytes read)
read-fault form good handle at bytes (Some r) fault read is =
    some-row-fault form good handle at bytes r fault (record { read = read; stands = row_at-found form handle (last_key [] (rows_spelled good)) bytes r.0 r.1 read })
    (unless_err r (row_fault form at (behind_good good handle) r.0) fault is)

-- the fault that is read of a row behind good rows is the row's first
pub row_read-fault : (form : RowForm) (good : List Spelled) (handle : Handle) (at : ℕ) (bytes : List ℕ) (fault : BlockFault)
    → row_read form at (behind_good good handle) bytes ≡ Err fault → IsRowFault form good handle at bytes fault
unfolding row_read
row_read-fault form good handle at bytes fault is =
    read-fault form good handle at bytes (row_at form handle (key_before (last_of None (rows_spelled good))) bytes) fault
    (ap (λ (key : List ℕ). row_at form handle key bytes) (sym (last-key None (rows_spelled good)))) is
