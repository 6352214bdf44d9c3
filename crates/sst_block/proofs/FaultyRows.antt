-- A row with a fault is read as that fault.
use Rattle.std.proofs.Common.{not, ◌≤◌, ℕ, ◌≡◌, ◌&&◌, nat_lt, if◌then◌else◌, Bool, true, false, List, [], length, drop, Option, Some, None, Err, inl, inr, refl, sym, subst, ap, ◌∙◌}
use Rattle.std.proofs.lemmas.Bool.{le-ltb, cases_Bool, cond-true, false_from_ne_true}
use Rattle.std.specs.Option.{is_some}
use Rattle.sst_num.specs.declared.block_handle.Handle.{Handle}
use Rattle.sst_block.specs.declared.row_form.RowForm.{RowForm}
use Rattle.sst_block.specs.declared.row_form.RowForm.TheVariants.{Entries, Names, Index}
use Rattle.sst_block.specs.declared.fault.BlockFault.{BlockFault}
use Rattle.sst_block.specs.declared.fault.BlockFault.TheVariants.{BadRow, BadRestart, BadFooter, Disorder, BadKind, BadHash, BadHandle}
use Rattle.sst_block.specs.Block.{Spelled, row_spelling, IsInternalKey, HasForm, AreOrdered, SaysHandle, LeadsTo}
use Rattle.sst_block.specs.Builder.{last_key}
use Rattle.sst_block.specs.FirstFault.{rows_spelled, BeginsNoRow, BeginsRow, IsRowFault}
use Rattle.sst_block.specs.BlockReading.{has_tag, is_internal_key, handle_said, Before, is_after, form_fault, order_fault, or_fault, row_fault, unless, sound_row, row_at, row_read}
use Rattle.sst_block.proofs.Follows.{last_of, last-key, ordered-push}
use Rattle.sst_block.proofs.RowAt.{row_at-found}
use Rattle.sst_block.proofs.RowFaults.{good-lengths, row-read, begins-read, tag-there, behind_good}
use Rattle.sst_block.proofs.Said.{handle_said-said, handle_said-found}
use Rattle.sst_block.proofs.RowForms.{some-is, internal_key-passes, internal_key-from}

-- the second or the third of three tests fails
form-fails : (short formed after : Bool) (f g h : BlockFault) → short ≡ false → formed ≡ false
    → (if short then Some f else or_fault (if formed then None else Some g) (if after then None else Some h)) ≡ Some g
form-fails short formed after f g h is_short is_formed = rw (is_short, is_formed) refl

order-fails : (short formed after : Bool) (f g h : BlockFault) → short ≡ false → formed ≡ true → after ≡ false
    → (if short then Some f else or_fault (if formed then None else Some g) (if after then None else Some h)) ≡ Some h
order-fails short formed after f g h is_short is_formed is_after = rw (is_short, is_formed, is_after) refl

-- no row with good lengths
bad-lengths : (form : RowForm) (before : Before) (key : List ℕ) (at : ℕ) (bytes : List ℕ) (read : Option (Spelled × ℕ))
    → row_at form before.handle key bytes ≡ read → BeginsNoRow form key bytes → sound_row form at before read ≡ Err (BadRow at)
bad-lengths form before key at bytes None is none = refl
bad-lengths form before key at bytes (Some r) is none =
    elim (cases_Bool (has_tag form && nat_lt (length r.0.row.key) 8)) [
      | inl short ↦ ap (unless r) (cond-true _ (Some (BadRow at)) (or_fault (form_fault form at before.handle r.0) (order_fault form at before.key r.0.row)) short)
      | inr long ↦
          let stands = row_at-found form before.handle key bytes r.0 r.1 is in
          let tagged = tag-there (has_tag form) (length r.0.row.key) long in
          absurd (none r.0 (drop r.1 bytes) stands.joined (good-lengths form key bytes r.0 r.1 stands tagged))
    ]

-- a row that begins the bytes and leads to a handle has the fault that its tests say
row-says : (form : RowForm) (before : Before) (h : Handle) (key : List ℕ) (at : ℕ) (bytes : List ℕ) (s : Spelled) (fault : BlockFault)
    → LeadsTo form before.handle s h → BeginsRow form key bytes s → row_fault form at before s ≡ Some fault
    → sound_row form at before (row_at form before.handle key bytes) ≡ Err fault
row-says form before h key at bytes s fault leads row is =
    ap (sound_row form at before) (row-read form before.handle h key bytes s row.after leads row.joined row.lengths) ∙ ap (unless (s, length (row_spelling form s))) is

bad-kind : (before : Before) (key : List ℕ) (at : ℕ) (bytes : List ℕ) (s : Spelled) → BeginsRow Entries key bytes s
    → (IsInternalKey s.row.key → ⊥) → sound_row Entries at before (row_at Entries before.handle key bytes) ≡ Err (BadKind at)
bad-kind before key at bytes s row not =
    row-says Entries before before.handle key at bytes s (BadKind at) refl row
    (form-fails (nat_lt (length s.row.key) 8) (is_internal_key s.row.key) (is_after Entries before.key s.row.key) (BadRow at) (BadKind at) (Disorder at)
    (le-ltb (length s.row.key) 8 (row.lengths.tagged refl)) (false_from_ne_true (is_internal_key s.row.key) (λ is. not (internal_key-from s.row.key is))))

-- a key has room for the tag that it has
tag-fits : (tag : Bool) (n : ℕ) → (tag ≡ true → 8 ≤ n) → (tag && nat_lt n 8) ≡ false
tag-fits true n tagged = le-ltb n 8 (tagged refl)
tag-fits false n tagged = refl

-- no row that begins the bytes says a handle
bad-handle : (user_key delta : Bool) (before : Before) (key : List ℕ) (at : ℕ) (bytes : List ℕ) (s : Spelled) → BeginsRow (Index user_key delta) key bytes s
    → ((t : Spelled) (h : Handle) → BeginsRow (Index user_key delta) key bytes t → SaysHandle delta before.handle t h → ⊥)
    → sound_row (Index user_key delta) at before (row_at (Index user_key delta) before.handle key bytes) ≡ Err (BadHandle at)
bad-handle user_key delta before key at bytes s row none =
    let form = Index user_key delta in
    let k = begins-read form before.handle key bytes s row.after row.joined row.lengths in
    let t = k.read in
    let stands = row_at-found form before.handle key bytes t (length (row_spelling form t)) k.reads in
    let tagged = λ (tag : has_tag form ≡ true). subst (λ (x : List ℕ). 8 ≤ length x) (sym k.key) (row.lengths.tagged tag) in
    let there : BeginsRow form key bytes t = record {
      after = drop (length (row_spelling form t)) bytes;
      joined = stands.joined;
      lengths = good-lengths form key bytes t (length (row_spelling form t)) stands tagged;
    } in
    let silent = false_from_ne_true (is_some (handle_said delta t.shared before.handle t.row.value))
    (λ is. let read = some-is (handle_said delta t.shared before.handle t.row.value) is in none t read.0 there (handle_said-found delta before.handle t read.0 read.1)) in
    ap (sound_row form at before) k.reads
    ∙ ap (unless (t, length (row_spelling form t)))
    (form-fails (not user_key && nat_lt (length t.row.key) 8) (is_some (handle_said delta t.shared before.handle t.row.value)) (is_after form before.key t.row.key)
    (BadRow at) (BadHandle at) (Disorder at) (tag-fits (not user_key) (length t.row.key) tagged) silent)

disorder : (form : RowForm) (before : Before) (h : Handle) (key : List ℕ) (at : ℕ) (bytes : List ℕ) (s : Spelled)
    → BeginsRow form key bytes s → HasForm form s.row → LeadsTo form before.handle s h → is_after form before.key s.row.key ≡ false
    → sound_row form at before (row_at form before.handle key bytes) ≡ Err (Disorder at)
disorder Entries before h key at bytes s row formed leads unordered =
    row-says Entries before h key at bytes s (Disorder at) leads row
    (order-fails (nat_lt (length s.row.key) 8) (is_internal_key s.row.key) (is_after Entries before.key s.row.key) (BadRow at) (BadKind at) (Disorder at)
    (le-ltb (length s.row.key) 8 (row.lengths.tagged refl)) (internal_key-passes s.row.key formed) unordered)
disorder Names before h key at bytes s row formed leads unordered =
    row-says Names before h key at bytes s (Disorder at) leads row
    (order-fails false true (is_after Names before.key s.row.key) (BadRow at) (BadRow at) (Disorder at) refl refl unordered)
disorder (Index user_key delta) before h key at bytes s row formed leads unordered =
    row-says (Index user_key delta) before h key at bytes s (Disorder at) leads row
    (order-fails (not user_key && nat_lt (length s.row.key) 8) (is_some (handle_said delta s.shared before.handle s.row.value)) (is_after (Index user_key delta) before.key s.row.key)
    (BadRow at) (BadHandle at) (Disorder at)
    (tag-fits (not user_key) (length s.row.key) row.lengths.tagged) (ap is_some (handle_said-said delta before.handle s h leads)) unordered)

handles-faulty : (form : RowForm) (good : List Spelled) (handle : Handle) (at : ℕ) (bytes : List ℕ) → IsRowFault form good handle at bytes (BadHandle at)
    → sound_row form at (behind_good good handle) (row_at form handle (last_key [] (rows_spelled good)) bytes) ≡ Err (BadHandle at)
handles-faulty Entries good handle at bytes is = absurd is.1
handles-faulty Names good handle at bytes is = absurd is.1
handles-faulty (Index user_key delta) good handle at bytes is =
    bad-handle user_key delta (behind_good good handle) (last_key [] (rows_spelled good)) at bytes is.2.0 is.2.1 is.3

kinds-faulty : (form : RowForm) (good : List Spelled) (handle : Handle) (at : ℕ) (bytes : List ℕ) → IsRowFault form good handle at bytes (BadKind at)
    → sound_row form at (behind_good good handle) (row_at form handle (last_key [] (rows_spelled good)) bytes) ≡ Err (BadKind at)
kinds-faulty Entries good handle at bytes is = bad-kind (behind_good good handle) (last_key [] (rows_spelled good)) at bytes is.2.0 is.2.1 is.2.2
kinds-faulty Names good handle at bytes is = let wrong : Names ≡ Entries = is.1 in cc
kinds-faulty (Index user_key delta) good handle at bytes is = let wrong : Index user_key delta ≡ Entries = is.1 in cc

-- the fault of a row, at the place where the row begins
at-place : (form : RowForm) (good : List Spelled) (handle : Handle) (at : ℕ) (bytes : List ℕ) (fault : BlockFault) → AreOrdered form (rows_spelled good)
    → IsRowFault form good handle at bytes fault → sound_row form at (behind_good good handle) (row_at form handle (last_key [] (rows_spelled good)) bytes) ≡ Err fault
at-place form good handle at bytes (BadRow place) ordered is =
    let key = last_key [] (rows_spelled good) in
    bad-lengths form (behind_good good handle) key at bytes (row_at form handle key bytes) refl is.1 ∙ ap (λ (p : ℕ). Err (BadRow p)) (sym is.0)
at-place form good handle at bytes (BadKind place) ordered is =
    kinds-faulty form good handle at bytes (refl, is.1, is.2) ∙ ap (λ (p : ℕ). Err (BadKind p)) (sym is.0)
at-place form good handle at bytes (BadHandle place) ordered is =
    handles-faulty form good handle at bytes (refl, is.1, is.2, is.3) ∙ ap (λ (p : ℕ). Err (BadHandle p)) (sym is.0)
at-place form good handle at bytes (Disorder place) ordered is =
    let s = is.1.0 in
    let unordered = false_from_ne_true (is_after form (last_of None (rows_spelled good)) s.row.key) (λ after. is.1.5 (ordered-push form (rows_spelled good) s.row ordered after)) in
    disorder form (behind_good good handle) is.1.1 (last_key [] (rows_spelled good)) at bytes s is.1.2 is.1.3 is.1.4 unordered ∙ ap (λ (p : ℕ). Err (Disorder p)) (sym is.0)
at-place form good handle at bytes (BadRestart i) ordered is = absurd is
at-place form good handle at bytes BadFooter ordered is = absurd is
at-place form good handle at bytes (BadHash place) ordered is = absurd is

-- a row behind good rows that has a fault is read as this fault
pub row_read-faulty : (form : RowForm) (good : List Spelled) (handle : Handle) (at : ℕ) (bytes : List ℕ) (fault : BlockFault)
    → AreOrdered form (rows_spelled good) → IsRowFault form good handle at bytes fault → row_read form at (behind_good good handle) bytes ≡ Err fault
unfolding row_read
row_read-faulty form good handle at bytes fault ordered is =
    ap (λ (key : List ℕ). sound_row form at (behind_good good handle) (row_at form handle key bytes)) (last-key None (rows_spelled good))
    ∙ at-place form good handle at bytes fault ordered is
