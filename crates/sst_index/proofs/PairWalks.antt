-- A walk over the rows of an index block is one over its pairs.
use Rattle.std.proofs.Common.{◌≡◌, ℕ, zero, suc, ◌+◌, ◌-◌, ◌^◌, ◌<◌, ◌≤◌, nat_lt, if◌then◌else◌, Bool, true, false, Option, None, Some, List, [], ◌∷◌, ◌++◌, length, length-append, take, map, refl, sym, ap, ◌∙◌, subst, append_assoc, arith}
use Rattle.std.specs.Prelude.{slice_get}
use Rattle.std.specs.Ordering.{nat_cmp, is_lt, ordering_then}
use Rattle.std.specs.Cmp.Lexicographic.{slice_cmp}
use Rattle.std.proofs.lemmas.Bool.{lt-ltb, ltb-true, ne_eqb}
use Rattle.std.proofs.lemmas.List.{length-map}
use Rattle.std.proofs.lemmas.List.Sums.{sum_by-cons}
use Rattle.std.proofs.lemmas.Option.{same_Some}
use Rattle.sst_num.specs.Spelling.{fixed}
use Rattle.sst_num.specs.declared.block_handle.Handle.{Handle}
use Rattle.sst_num.proofs.Fixed.{length-fixed}
use Rattle.sst_key.specs.InternalKey.{user_of, tag_of}
use Rattle.sst_key.proofs.KeyParts.{take-front, user_of-key, tag_of-key}
use Rattle.sst_block.specs.declared.row_form.RowForm.TheVariants.{Index}
use Rattle.sst_block.specs.Block.{Row, Spelled, no_handle}
use Rattle.sst_block.specs.IndexRows.{IndexPair, IndexRows, SayPairs}
use Rattle.sst_block.specs.Iter.{Walks, WalksIn, place_of, place_before}
use Rattle.sst_block.specs.BlockReading.{has_tag}
use Rattle.sst_block.specs.Seek.{CanSeek, IsTarget, is_row_before, rows_before}
use Rattle.sst_block.proofs.KeyOrder.{before-counts, not-counts}
use Rattle.sst_block.proofs.Walking.{walks-of}
use Rattle.sst_index.specs.declared.flags.IndexFlags.{IndexFlags}
use Rattle.sst_index.specs.declared.walk.IndexIter.{IndexIter}
use Rattle.sst_index.specs.IndexBlock.{form_of}
use Rattle.sst_index.specs.Walk.{WalksPairs, pair_place, is_pair_before, pairs_before}

abbrev row_of : Spelled → Row
row_of s = s.row

-- there are as many rows as pairs
spelled-pairs : (delta : Bool) (before : Handle) (spelled : List Spelled) (pairs : List IndexPair) → SayPairs delta before spelled pairs → length spelled ≡ length pairs
spelled-pairs delta before [] pairs says = sym (ap length says)
spelled-pairs delta before (s ∷ rest) [] says = absurd says
spelled-pairs delta before (s ∷ rest) (p ∷ pairs) says = ap suc (spelled-pairs delta p.handle rest pairs says.2)

pub rows-pairs : (user_key delta : Bool) (bytes : List ℕ) (pairs : List IndexPair) (r : IndexRows user_key delta bytes pairs) → length r.rows ≡ length pairs
rows-pairs user_key delta bytes pairs r =
    sym (ap length r.block.are_rows) ∙ length-map r.block.spelled row_of ∙ spelled-pairs delta no_handle r.block.spelled pairs r.says

-- a walk over the pairs is one over the rows
pub rows-walk : (it : IndexIter) (flags : IndexFlags) (bytes : List ℕ) (pairs : List IndexPair) (place : Option ℕ) (w : WalksPairs it flags bytes pairs place) → Walks it.walk w.says.rows place
rows-walk it flags bytes pairs place w = walks-of it.walk (form_of flags) bytes w.says.rows w.says.block place w.walks

-- and what goes to the i-th row goes to the i-th pair
pub moved : (it : IndexIter) (flags : IndexFlags) (bytes : List ℕ) (pairs : List IndexPair) (r : IndexRows flags.user_key flags.delta bytes pairs) (i : ℕ) → it.user_key ≡ flags.user_key
    → WalksIn it.walk (form_of flags) bytes r.rows r.block (place_of r.rows i) → WalksPairs it flags bytes pairs (pair_place pairs i)
moved it flags bytes pairs r i same walks =
    let place : place_of r.rows i ≡ pair_place pairs i = ap (λ (n : ℕ). if nat_lt i n then Some i else None) (rows-pairs flags.user_key flags.delta bytes pairs r) in
    record { says = r; user_key_is = same; walks = subst (λ (p : Option ℕ). WalksIn it.walk (form_of flags) bytes r.rows r.block p) place walks }

pub moved-last : (it : IndexIter) (flags : IndexFlags) (bytes : List ℕ) (pairs : List IndexPair) (r : IndexRows flags.user_key flags.delta bytes pairs) → it.user_key ≡ flags.user_key
    → WalksIn it.walk (form_of flags) bytes r.rows r.block (place_of r.rows (length r.rows - 1)) → WalksPairs it flags bytes pairs (pair_place pairs (length pairs - 1))
moved-last it flags bytes pairs r same walks =
    subst (λ (n : ℕ). WalksPairs it flags bytes pairs (pair_place pairs (n - 1))) (rows-pairs flags.user_key flags.delta bytes pairs r)
    (moved it flags bytes pairs r (length r.rows - 1) same walks)

pub told_of : (flags : IndexFlags) (bytes : List ℕ) (pairs : List IndexPair) (r : IndexRows flags.user_key flags.delta bytes pairs) (i : ℕ) (told : Bool)
    → told ≡ nat_lt i (length r.rows) → told ≡ nat_lt i (length pairs)
told_of flags bytes pairs r i told is = is ∙ ap (nat_lt i) (rows-pairs flags.user_key flags.delta bytes pairs r)

-- a walk that was moved to the i-th pair stands there where it said so
pub stands : (it : IndexIter) (flags : IndexFlags) (bytes : List ℕ) (pairs : List IndexPair) (i : ℕ) (told : Bool) → told ≡ true → told ≡ nat_lt i (length pairs)
    → WalksPairs it flags bytes pairs (pair_place pairs i) → WalksPairs it flags bytes pairs (Some i)
stands it flags bytes pairs i told there is w =
    let test : nat_lt i (length pairs) ≡ true = sym is ∙ there in
    let place : pair_place pairs i ≡ Some i = rw test refl in
    subst (λ (p : Option ℕ). WalksPairs it flags bytes pairs p) place w

pub stands-last : (it : IndexIter) (flags : IndexFlags) (bytes : List ℕ) (pairs : List IndexPair) (told : Bool) → told ≡ true → told ≡ nat_lt 0 (length pairs)
    → WalksPairs it flags bytes pairs (pair_place pairs (length pairs - 1)) → WalksPairs it flags bytes pairs (Some (length pairs - 1))
stands-last it flags bytes pairs told there is w =
    let some : 0 < length pairs = ltb-true 0 (length pairs) (sym is ∙ there) in
    let test = lt-ltb (length pairs - 1) (length pairs) (omega (arith, some)) in
    stands it flags bytes pairs (length pairs - 1) true refl (sym test) w

pub stands-before : (it : IndexIter) (flags : IndexFlags) (bytes : List ℕ) (pairs : List IndexPair) (i : ℕ) (told : Bool) → told ≡ true → told ≡ nat_lt 0 i
    → WalksPairs it flags bytes pairs (place_before i) → WalksPairs it flags bytes pairs (Some (i - 1))
stands-before it flags bytes pairs i told there is w =
    let some : 0 < i = ltb-true 0 i (sym is ∙ there) in
    let test = ne_eqb i 0 (λ none. omega (arith, some, none)) in
    let place : place_before i ≡ Some (i - 1) = rw test refl in
    subst (λ (p : Option ℕ). WalksPairs it flags bytes pairs p) place w

-- the pair of a row
row-pair : (delta : Bool) (before : Handle) (spelled : List Spelled) (pairs : List IndexPair) (i : ℕ) (row : Row) → SayPairs delta before spelled pairs
    → slice_get (map row_of spelled) i ≡ Some row → (pair : IndexPair) × (slice_get pairs i ≡ Some pair) × (row.key ≡ pair.separator)
row-pair delta before [] pairs i row says at = cc
row-pair delta before (s ∷ rest) [] i row says at = absurd says
row-pair delta before (s ∷ rest) (p ∷ pairs) zero row says at = (p, refl, ap (λ (r : Row). r.key) (sym (same_Some s.row row at)) ∙ says.0)
row-pair delta before (s ∷ rest) (p ∷ pairs) (suc i) row says at = row-pair delta p.handle rest pairs i row says.2 at

pub separator-at : (flags : IndexFlags) (bytes : List ℕ) (pairs : List IndexPair) (r : IndexRows flags.user_key flags.delta bytes pairs) (i : ℕ) (key : List ℕ)
    → (row : Row) × (slice_get r.rows i ≡ Some row) × (key ≡ row.key) → (pair : IndexPair) × (slice_get pairs i ≡ Some pair) × (key ≡ pair.separator)
separator-at flags bytes pairs r i key (row, at, is) =
    let (pair, there, same) = row-pair flags.delta no_handle r.block.spelled pairs i row r.says (ap (λ (l : List Row). slice_get l i) r.block.are_rows ∙ at) in
    (pair, there, is ∙ same)

-- the row of a pair
pub pair-row : (delta : Bool) (before : Handle) (spelled : List Spelled) (pairs : List IndexPair) (i : ℕ) (pair : IndexPair) → SayPairs delta before spelled pairs
    → slice_get pairs i ≡ Some pair → (row : Row) × (slice_get (map row_of spelled) i ≡ Some row) × (row.key ≡ pair.separator)
pair-row delta before [] [] i pair says at = cc
pair-row delta before [] (p ∷ pairs) i pair says at = cc
pair-row delta before (s ∷ rest) [] i pair says at = absurd says
pair-row delta before (s ∷ rest) (p ∷ pairs) zero pair says at = (s.row, refl, says.0 ∙ ap (λ (q : IndexPair). q.separator) (same_Some p pair at))
pair-row delta before (s ∷ rest) (p ∷ pairs) (suc i) pair says at = pair-row delta p.handle rest pairs i pair says.2 at

-- the target of a seek as the rows have it
abbrev pub target_of : Bool → List ℕ → ℕ → List ℕ
target_of true user tag = user
target_of false user tag = user ++ fixed 8 tag

pub stored_target : (user_key : Bool) (user target : List ℕ) (tag : ℕ) → user_key ≡ false → target ≡ user ++ fixed 8 tag → target ≡ target_of user_key user tag
stored_target true user target tag stored is = cc
stored_target false user target tag stored is = is

pub user_target : (user_key : Bool) (user : List ℕ) (tag : ℕ) → user_key ≡ true → user ≡ target_of user_key user tag
user_target true user tag alone = refl
user_target false user tag alone = cc

-- a row is before it exactly where its pair is
one-before : (user_key delta : Bool) (user : List ℕ) (tag : ℕ) (key value : List ℕ) (pair : IndexPair) → tag < 2 ^ 64 → key ≡ pair.separator
    → is_row_before (Index user_key delta) (target_of user_key user tag) (record { key = key; value = value }) ≡ is_pair_before user_key user tag pair
one-before true delta user tag key value pair fits same = ap (λ (k : List ℕ). is_lt (slice_cmp nat_cmp k user)) same
one-before false delta user tag key value pair fits same =
    ap (λ (u : List ℕ). is_lt (ordering_then (slice_cmp nat_cmp (user_of key) u) (nat_cmp (tag_of (user ++ fixed 8 tag)) (tag_of key)))) (user_of-key user tag)
    ∙ ap (λ (t : ℕ). is_lt (ordering_then (slice_cmp nat_cmp (user_of key) user) (nat_cmp t (tag_of key)))) (tag_of-key user tag fits)
    ∙ ap (λ (k : List ℕ). is_lt (ordering_then (slice_cmp nat_cmp (user_of k) user) (nat_cmp tag (tag_of k)))) same

all-before : (user_key delta : Bool) (user : List ℕ) (tag : ℕ) (before : Handle) (spelled : List Spelled) (pairs : List IndexPair) → tag < 2 ^ 64 → SayPairs delta before spelled pairs
    → rows_before (Index user_key delta) (target_of user_key user tag) (map row_of spelled) ≡ pairs_before user_key user tag pairs
all-before user_key delta user tag before [] pairs fits says = ap (pairs_before user_key user tag) (sym says)
all-before user_key delta user tag before (s ∷ rest) [] fits says = absurd says
all-before user_key delta user tag before (s ∷ rest) (p ∷ pairs) fits says =
    let here = one-before user_key delta user tag s.row.key s.row.value p fits says.0 in
    let more = all-before user_key delta user tag p.handle rest pairs fits says.2 in
    let test : Bool → ℕ = λ (b : Bool). if b then 1 else 0 in
    sum_by-cons (λ (r : Row). test (is_row_before (Index user_key delta) (target_of user_key user tag) r)) s.row (map row_of rest)
    ∙ ap (λ (b : Bool). test b + rows_before (Index user_key delta) (target_of user_key user tag) (map row_of rest)) here
    ∙ ap (λ (n : ℕ). test (is_pair_before user_key user tag p) + n) more
    ∙ sym (sum_by-cons (λ (q : IndexPair). test (is_pair_before user_key user tag q)) p pairs)

pub rows-before : (flags : IndexFlags) (bytes : List ℕ) (pairs : List IndexPair) (r : IndexRows flags.user_key flags.delta bytes pairs) (user : List ℕ) (tag : ℕ) → tag < 2 ^ 64
    → rows_before (form_of flags) (target_of flags.user_key user tag) r.rows ≡ pairs_before flags.user_key user tag pairs
rows-before flags bytes pairs r user tag fits =
    ap (rows_before (form_of flags) (target_of flags.user_key user tag)) (sym r.block.are_rows)
    ∙ all-before flags.user_key flags.delta user tag no_handle r.block.spelled pairs fits r.says

-- a seek in the rows is one in the pairs
pub landed : (it : IndexIter) (flags : IndexFlags) (bytes : List ℕ) (pairs : List IndexPair) (r : IndexRows flags.user_key flags.delta bytes pairs) (user target : List ℕ) (tag : ℕ) → tag < 2 ^ 64
    → it.user_key ≡ flags.user_key → target ≡ target_of flags.user_key user tag
    → WalksIn it.walk (form_of flags) bytes r.rows r.block (place_of r.rows (rows_before (form_of flags) target r.rows))
    → WalksPairs it flags bytes pairs (pair_place pairs (pairs_before flags.user_key user tag pairs))
landed it flags bytes pairs r user target tag fits same is walks =
    let n = ap (λ (t : List ℕ). rows_before (form_of flags) t r.rows) is ∙ rows-before flags bytes pairs r user tag fits in
    moved it flags bytes pairs r (pairs_before flags.user_key user tag pairs) same
    (subst (λ (m : ℕ). WalksIn it.walk (form_of flags) bytes r.rows r.block (place_of r.rows m)) n walks)

pub told_landed : (flags : IndexFlags) (bytes : List ℕ) (pairs : List IndexPair) (r : IndexRows flags.user_key flags.delta bytes pairs) (user target : List ℕ) (tag : ℕ) (told : Bool) → tag < 2 ^ 64
    → target ≡ target_of flags.user_key user tag → told ≡ nat_lt (rows_before (form_of flags) target r.rows) (length r.rows)
    → told ≡ nat_lt (pairs_before flags.user_key user tag pairs) (length pairs)
told_landed flags bytes pairs r user target tag told fits is said =
    let n = ap (λ (t : List ℕ). rows_before (form_of flags) t r.rows) is ∙ rows-before flags bytes pairs r user tag fits in
    told_of flags bytes pairs r (pairs_before flags.user_key user tag pairs) told (said ∙ ap (λ (m : ℕ). nat_lt m (length r.rows)) n)

-- the target has a tag where the separators have one
long-target : (user_key delta : Bool) (user target : List ℕ) (tag : ℕ) → target ≡ target_of user_key user tag → user_key ≡ false → 8 ≤ length target
long-target true delta user target tag is stored = cc
long-target false delta user target tag is stored = omega (arith, ap length is, length-append user (fixed 8 tag), length-fixed 8 tag)

tagged : (user_key delta : Bool) (n : ℕ) → (user_key ≡ false → 8 ≤ n) → has_tag (Index user_key delta) ≡ true → 8 ≤ n
tagged true delta n long tag = cc
tagged false delta n long tag = long refl

pub target_long : (flags : IndexFlags) (user target : List ℕ) (tag : ℕ) → target ≡ target_of flags.user_key user tag → IsTarget (form_of flags) target
target_long flags user target tag is =
    tagged flags.user_key flags.delta (length target) (long-target flags.user_key flags.delta user target tag is)

pub can_seek : (it : IndexIter) (flags : IndexFlags) (bytes : List ℕ) (pairs : List IndexPair) (place : Option ℕ) (user target : List ℕ) (tag : ℕ)
    → WalksPairs it flags bytes pairs place → target ≡ target_of flags.user_key user tag → CanSeek it.walk target
can_seek it flags bytes pairs place user target tag w is =
    record {
      form = form_of flags;
      bytes = bytes;
      rows = w.says.rows;
      block = w.says.block;
      place = place;
      walks = w.walks;
      long = target_long flags user target tag is;
    }

-- what is put to the front of the room of a target
pub target-put : (user front last rest : List ℕ) (tag : ℕ) → front ≡ user → last ≡ fixed 8 tag
    → take (length user + 8) (front ++ (last ++ rest)) ≡ user ++ fixed 8 tag
target-put user front last rest tag is tag_is =
    let whole = user ++ fixed 8 tag in
    let long : length user + 8 ≡ length whole = omega (arith, length-append user (fixed 8 tag), length-fixed 8 tag) in
    ap (λ (f : List ℕ). take (length user + 8) (f ++ (last ++ rest))) is ∙ ap (λ (l : List ℕ). take (length user + 8) (user ++ (l ++ rest))) tag_is
    ∙ ap (take (length user + 8)) (sym (append_assoc user (fixed 8 tag) rest)) ∙ ap (λ (n : ℕ). take n (whole ++ rest)) long ∙ take-front whole rest

-- the pairs before a target come first
counted : (flags : IndexFlags) (bytes : List ℕ) (pairs : List IndexPair) (r : IndexRows flags.user_key flags.delta bytes pairs) (user : List ℕ) (tag : ℕ) (row : Row) (pair : IndexPair)
    → tag < 2 ^ 64 → row.key ≡ pair.separator → is_row_before (form_of flags) (target_of flags.user_key user tag) row ≡ is_pair_before flags.user_key user tag pair
counted flags bytes pairs r user tag row pair fits same = one-before flags.user_key flags.delta user tag row.key row.value pair fits same

pub pair-before : (flags : IndexFlags) (bytes : List ℕ) (pairs : List IndexPair) (user : List ℕ) (tag i : ℕ) (pair : IndexPair) → IndexRows flags.user_key flags.delta bytes pairs
    → tag < 2 ^ 64 → slice_get pairs i ≡ Some pair → is_pair_before flags.user_key user tag pair ≡ true → i < pairs_before flags.user_key user tag pairs
pair-before flags bytes pairs user tag i pair r fits at is =
    let (row, there, same) = pair-row flags.delta no_handle r.block.spelled pairs i pair r.says at in
    let counts = before-counts (form_of flags) (target_of flags.user_key user tag) r.rows i row r.block.ordered (ap (λ (l : List Row). slice_get l i) (sym r.block.are_rows) ∙ there)
    (counted flags bytes pairs r user tag row pair fits same ∙ is) in
    subst (λ (n : ℕ). i < n) (rows-before flags bytes pairs r user tag fits) counts

pub pair-not : (flags : IndexFlags) (bytes : List ℕ) (pairs : List IndexPair) (user : List ℕ) (tag i : ℕ) (pair : IndexPair) → IndexRows flags.user_key flags.delta bytes pairs
    → tag < 2 ^ 64 → slice_get pairs i ≡ Some pair → is_pair_before flags.user_key user tag pair ≡ false → pairs_before flags.user_key user tag pairs ≤ i
pair-not flags bytes pairs user tag i pair r fits at is =
    let (row, there, same) = pair-row flags.delta no_handle r.block.spelled pairs i pair r.says at in
    let counts = not-counts (form_of flags) (target_of flags.user_key user tag) r.rows i row r.block.ordered (ap (λ (l : List Row). slice_get l i) (sym r.block.are_rows) ∙ there)
    (counted flags bytes pairs r user tag row pair fits same ∙ is) in
    subst (λ (n : ℕ). n ≤ i) (rows-before flags bytes pairs r user tag fits) counts
