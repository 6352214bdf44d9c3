-- What is read as the handle of a row is what the row's value says.
use Rattle.std.proofs.Common.{◌≡◌, ℕ, zero, suc, ◌+◌, ◌^◌, ◌<◌, ◌≤◌, nat_lt, ◌==◌, ℤ, pos, negsuc, ◌+ℤ◌, Bool, true, false, List, [], ◌++◌, length, length-append, append-nil, Option, Some, None, option_and_then, refl, sym, subst, ap, ◌∙◌, arith}
use Rattle.std.specs.Option.{option_map, IfSome}
use Rattle.std.proofs.lemmas.Bool.{lt-ltb, ltb-true, eqb-true, eq-eqb, and_parts}
use Rattle.std.proofs.lemmas.List.{nil_from_length}
use Rattle.std.proofs.lemmas.Option.{cond_some, same_Some, some_pair_parts, option_and_then_some}
use Rattle.sst_num.specs.Spelling.{varint, zigzag, signed_varint, handle_spelling}
use Rattle.sst_num.specs.NumberReading.{signed_at, handle_at}
use Rattle.sst_num.specs.declared.block_handle.Handle.{Handle}
use Rattle.sst_num.proofs.NumberReading.{handle_at-handle, handle_at-found}
use Rattle.sst_num.proofs.Signed.{signed_at-signed, signed_at-found}
use Rattle.sst_block.specs.declared.row_form.RowForm.{RowForm}
use Rattle.sst_block.specs.declared.row_form.RowForm.TheVariants.{Entries, Names, Index}
use Rattle.sst_block.specs.Block.{Spelled, ValueSays, SaysHandle, LeadsTo}
use Rattle.sst_block.specs.BlockReading.{natural, handle_behind, handle_by, handle_read, said_at, taken, whole_handle, handle_said, or_handle, handle_after}
use Rattle.sst_block.proofs.Varints.{length-varint}

natural-is : (z : ℤ) (n : ℕ) → natural z ≡ Some n → z ≡ pos n
natural-is (pos m) n is = ap pos (same_Some m n is)
natural-is (negsuc m) n is = cc

-- the handle behind another
behind-made : (before h : Handle) → h.offset ≡ before.offset + before.size + 5 → h.offset < 2 ^ 64 → h.size < 2 ^ 64 → handle_behind before h.size ≡ Some h
behind-made before h begins low small =
    let place : nat_lt (before.offset + before.size + 5) (2 ^ 64) ≡ true = lt-ltb (before.offset + before.size + 5) (2 ^ 64) (omega (arith, begins, low)) in
    rw (place, lt-ltb h.size (2 ^ 64) small) (ap (λ (n : ℕ). Some (record { offset = n; size = h.size })) (sym begins))

record IsBehind (before h : Handle) (size : ℕ) : Type 0 where
  begins : h.offset ≡ before.offset + before.size + 5
  size_is : h.size ≡ size
  low : h.offset < 2 ^ 64
  small : h.size < 2 ^ 64

behind-found : (before h : Handle) (size : ℕ) → handle_behind before size ≡ Some h → IsBehind before h size
behind-found before h size is =
    let next : Handle = record { offset = before.offset + before.size + 5; size = size } in
    let parts = cond_some _ next h is in
    let both = and_parts _ _ parts.0 in
    let begins : before.offset + before.size + 5 ≡ h.offset = ap (λ (k : Handle). k.offset) parts.1 in
    let same : size ≡ h.size = ap (λ (k : Handle). k.size) parts.1 in
    let low = ltb-true (before.offset + before.size + 5) (2 ^ 64) both.0 in
    let small = ltb-true size (2 ^ 64) both.1 in
    record { begins = sym begins; size_is = sym same; low = omega (arith, begins, low); small = omega (arith, same, small) }

-- a whole handle is read, whatever follows
whole-said : (value after : List ℕ) (h : Handle) → h.offset < 2 ^ 64 → h.size < 2 ^ 64 → value ≡ handle_spelling h
    → handle_at (value ++ after) ≡ Some (h, length value)
whole-said value after h low small is =
    ap (λ (v : List ℕ). handle_at (v ++ after)) is ∙ handle_at-handle h after low small ∙ ap (λ (v : List ℕ). Some (h, length v)) (sym is)

-- a value that says a handle is read, whatever follows
pub said_at-said : (delta : Bool) (shared : ℕ) (before : Handle) (value after : List ℕ) (h : Handle) → h.offset < 2 ^ 64 → h.size < 2 ^ 64
    → ValueSays delta shared before value h → said_at delta shared before (value ++ after) ≡ Some (h, length value)
said_at-said false shared before value after h low small is = whole-said value after h low small is
said_at-said true zero before value after h low small is = whole-said value after h low small is
said_at-said true (suc shared) before value after h low small is =
    let read : signed_at (value ++ after) ≡ Some (is.difference, length value) =
    ap (λ (v : List ℕ). signed_at (v ++ after)) is.value_is ∙ signed_at-signed is.difference after is.signed
    ∙ ap (λ (v : List ℕ). Some (is.difference, length v)) (sym is.value_is) in
    let by : handle_by before is.difference ≡ Some h =
    ap (λ (z : ℤ). option_and_then (handle_behind before) (natural z)) (sym is.size) ∙ behind-made before h is.begins low small in
    ap (option_and_then (handle_read before)) read ∙ ap (option_map {U = Handle × ℕ} (λ (k : Handle). (k, length value))) by

-- what is said at the front of some bytes
pub record IsSaid (delta : Bool) (shared : ℕ) (before : Handle) (bytes : List ℕ) (h : Handle) (used : ℕ) : Type 0 where
  pub value : List ℕ
  pub rest : List ℕ
  pub joined : bytes ≡ value ++ rest
  pub takes : used ≡ length value
  pub few : used ≤ 20
  pub low : h.offset < 2 ^ 64
  pub small : h.size < 2 ^ 64
  pub says : ValueSays delta shared before value h

map-some : (o : Option Handle) (n : ℕ) (h : Handle) (used : ℕ) → option_map {U = Handle × ℕ} (λ (k : Handle). (k, n)) o ≡ Some (h, used) → (o ≡ Some h) × (n ≡ used)
map-some None n h used is = cc
map-some (Some k) n h used is = let parts = some_pair_parts k h n used is in (ap Some parts.0, parts.1)

length-handle : (h : Handle) → length (handle_spelling h) ≤ 20
length-handle h = omega (arith, length-append (varint h.offset) (varint h.size), length-varint h.offset, length-varint h.size)

-- a whole handle that was read
record WholeRead (bytes : List ℕ) (h : Handle) (used : ℕ) : Type 0 where
  rest : List ℕ
  joined : bytes ≡ handle_spelling h ++ rest
  takes : used ≡ length (handle_spelling h)
  few : used ≤ 20
  low : h.offset < 2 ^ 64
  small : h.size < 2 ^ 64

whole-read : (bytes : List ℕ) (h : Handle) (used : ℕ) → handle_at bytes ≡ Some (h, used) → WholeRead bytes h used
whole-read bytes h used read =
    let found = handle_at-found h used bytes read in
    let size = length-handle h in
    let takes = found.0.2 in
    record { rest = found.0.0; joined = found.0.1; takes = takes; few = omega (arith, size, takes); low = found.1; small = found.2 }

pub said_at-found : (delta : Bool) (shared : ℕ) (before : Handle) (bytes : List ℕ) (h : Handle) (used : ℕ)
    → said_at delta shared before bytes ≡ Some (h, used) → IsSaid delta shared before bytes h used
said_at-found false shared before bytes h used read =
    let w = whole-read bytes h used read in
    record { value = handle_spelling h; rest = w.rest; joined = w.joined; takes = w.takes; few = w.few; low = w.low; small = w.small; says = refl }
said_at-found true zero before bytes h used read =
    let w = whole-read bytes h used read in
    record { value = handle_spelling h; rest = w.rest; joined = w.joined; takes = w.takes; few = w.few; low = w.low; small = w.small; says = refl }
said_at-found true (suc shared) before bytes h used read =
    option_and_then_some (handle_read before) (signed_at bytes) (h, used) read
    (λ (r : ℤ × ℕ) first last.
    let moved = map-some (handle_by before r.0) r.1 h used last in
    option_and_then_some (handle_behind before) (natural (pos before.size +ℤ r.0)) h moved.0
    (λ (size : ℕ) is made.
    let b = behind-found before h size made in
    let found = signed_at-found r.0 r.1 bytes first in
    let takes : used ≡ length (signed_varint r.0) = sym moved.1 ∙ found.0.2 in
    let few = length-varint (zigzag r.0) in
    record {
      value = signed_varint r.0;
      rest = found.0.0;
      joined = found.0.1;
      takes = takes;
      few = omega (arith, takes, few);
      low = b.low;
      small = b.small;
      says = record {
        begins = b.begins;
        difference = r.0;
        signed = found.1;
        size = ap pos b.size_is ∙ sym (natural-is (pos before.size +ℤ r.0) size is);
        value_is = refl;
      };
    }))

-- what was taken is short
pub taken-few : (delta : Bool) (shared : ℕ) (before : Handle) (bytes : List ℕ) → taken (said_at delta shared before bytes) ≤ 20
taken-few delta shared before bytes =
    elim (said_at delta shared before bytes) as (λ r. said_at delta shared before bytes ≡ r → taken r ≤ 20) [
      | None ↦ λ is. omega arith
      | Some read ↦ λ is. (said_at-found delta shared before bytes read.0 read.1 is).few
    ] refl

-- and is there
pub taken-within : (delta : Bool) (shared : ℕ) (before : Handle) (bytes : List ℕ) → taken (said_at delta shared before bytes) ≤ length bytes
taken-within delta shared before bytes =
    elim (said_at delta shared before bytes) as (λ r. said_at delta shared before bytes ≡ r → taken r ≤ length bytes) [
      | None ↦ λ is. omega arith
      | Some read ↦ λ is.
          let found = said_at-found delta shared before bytes read.0 read.1 is in
          let size = ap length found.joined ∙ length-append found.value found.rest in
          let takes = found.takes in
          omega (arith, size, takes)
    ] refl

-- the handle of a whole value
pub handle_said-said : (delta : Bool) (before : Handle) (s : Spelled) (h : Handle) → SaysHandle delta before s h
    → handle_said delta s.shared before s.row.value ≡ Some h
handle_said-said delta before s h is =
    let value = s.row.value in
    let read : said_at delta s.shared before value ≡ Some (h, length value) =
    ap (said_at delta s.shared before) (sym (append-nil value)) ∙ said_at-said delta s.shared before value [] h is.0 is.1 is.2 in
    ap (option_and_then (whole_handle (length value))) read ∙ rw (eq-eqb (length value) (length value) refl) refl

pub handle_said-found : (delta : Bool) (before : Handle) (s : Spelled) (h : Handle) → handle_said delta s.shared before s.row.value ≡ Some h
    → SaysHandle delta before s h
handle_said-found delta before s h is =
    let value = s.row.value in
    option_and_then_some (whole_handle (length value)) (said_at delta s.shared before value) h is
    (λ (r : Handle × ℕ) first last.
    let parts = cond_some (r.1 == length value) r.0 h last in
    let read : said_at delta s.shared before value ≡ Some (h, r.1) = first ∙ ap (λ (k : Handle). Some (k, r.1)) parts.1 in
    let found = said_at-found delta s.shared before value h r.1 read in
    let size = ap length found.joined ∙ length-append found.value found.rest in
    let all = eqb-true r.1 (length value) parts.0 in
    let takes = found.takes in
    let none : found.rest ≡ [] = nil_from_length found.rest (omega (arith, size, all, takes)) in
    let same : found.value ≡ value = sym (found.joined ∙ ap (λ (xs : List ℕ). found.value ++ xs) none ∙ append-nil found.value) in
    (found.low, found.small, subst (λ (v : List ℕ). ValueSays delta s.shared before v h) same found.says))

-- behind a row stands the handle that it leads to
pub leads-after : (form : RowForm) (before : Handle) (s : Spelled) (h : Handle) → LeadsTo form before s h
    → handle_after form before s.shared s.row.value ≡ h
leads-after Entries before s h is = sym is
leads-after Names before s h is = sym is
leads-after (Index user_key delta) before s h is = ap (or_handle before) (handle_said-said delta before s h is)

-- which is one alone
pub leads-one : (form : RowForm) (before : Handle) (s : Spelled) (h k : Handle) → LeadsTo form before s h → LeadsTo form before s k → h ≡ k
leads-one form before s h k one other = sym (leads-after form before s h one) ∙ leads-after form before s k other

-- where a row shares nothing, its value says the same handle behind each other
says-whole : (delta : Bool) (before other : Handle) (value : List ℕ) (h : Handle) → ValueSays delta 0 before value h → ValueSays delta 0 other value h
says-whole false before other value h is = is
says-whole true before other value h is = is

pub says-fresh : (delta : Bool) (before other : Handle) (s : Spelled) (h : Handle) → s.shared ≡ 0 → SaysHandle delta before s h → SaysHandle delta other s h
says-fresh delta before other s h none is =
    let zeroed = subst (λ (n : ℕ). ValueSays delta n before s.row.value h) none is.2 in
    (is.0, is.1, subst (λ (n : ℕ). ValueSays delta n other s.row.value h) (sym none) (says-whole delta before other s.row.value h zeroed))

-- a handle takes few bytes
pub said-few : (delta : Bool) (shared : ℕ) (before : Handle) (bytes : List ℕ) (read : Option (Handle × ℕ)) → read ≡ said_at delta shared before bytes
    → IfSome read (λ f. f.1 < 2 ^ 32)
said-few delta shared before bytes None is = tt
said-few delta shared before bytes (Some f) is = let few = (said_at-found delta shared before bytes f.0 f.1 (sym is)).few in omega (arith, few)

pub signed-few : (v : ℤ) (used : ℕ) → used ≡ length (signed_varint v) → used < 2 ^ 32
signed-few v used is = let few = length-varint (zigzag v) in omega (arith, few, is)
