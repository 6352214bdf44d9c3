-- The rows of the pairs of an index block.
use Rattle.std.proofs.Common.{◌≡◌, ℕ, zero, suc, ◌+◌, ◌%◌, ◌^◌, ◌==◌, ◌<◌, ◌≤◌, pos, ◌-ℤ◌, if◌then◌else◌, Bool, true, false, List, [], ◌∷◌, ◌++◌, length, All, refl, sym, ap, subst, arith}
use Rattle.std.proofs.lemmas.Int.{ints}
use Rattle.std.proofs.lemmas.List.Elements.{All-nil, All-cons, All-head, All-tail}
use Rattle.sst_num.specs.Spelling.{signed_varint}
use Rattle.sst_num.specs.declared.block_handle.Handle.{Handle}
use Rattle.sst_block.specs.declared.row_form.RowForm.TheVariants.{Index}
use Rattle.sst_block.specs.Block.{Row, Spelled, IsRow, AreOrdered, common, no_handle, IsDifference, ValueSays, SayHandles, LeadTo}
use Rattle.sst_block.specs.Builder.{last_key, shared_by, spelled_of}
use Rattle.sst_block.specs.Chosen.{chosen}
use Rattle.sst_block.specs.IndexRows.{IndexPair, IndexRows, SayPairs}
use Rattle.sst_block.proofs.BlockLaws.{chosen-block}
use Rattle.sst_index.specs.declared.flags.IndexFlags.{IndexFlags}
use Rattle.sst_index.specs.declared.top.TopBuilder.{TopBuilder}
use Rattle.sst_index.specs.Behind.{IsBehind, ComeBehind, AreBehind, last_handle}
use Rattle.sst_index.specs.IndexBlock.{form_of, handle_value, index_rows, rows_of_pairs, index_block}
use Rattle.sst_index.specs.Top.{HoldsPairs, IsPair}

-- the row of a pair that shares so many bytes; `before` is the handle before it
abbrev pub row_of : Bool → ℕ → Handle → IndexPair → Row
row_of delta shared before pair = record { key = pair.separator; value = handle_value delta shared before pair.handle }

-- one pair more is one row more
rows-push : (delta : Bool) (interval i : ℕ) (key : List ℕ) (before : Handle) (pairs : List IndexPair) (pair : IndexPair) (n : ℕ)
    → n ≡ i + length (index_rows delta interval i key before pairs)
    → index_rows delta interval i key before (pairs ++ pair ∷ [])
    ≡ index_rows delta interval i key before pairs
    ++ row_of delta (if n % interval == 0 then 0 else common (last_key key (index_rows delta interval i key before pairs)) pair.separator) (last_handle before pairs) pair ∷ []
rows-push delta interval i key before [] pair n e =
    let here : n ≡ i = omega (arith, e) in rw here refl
rows-push delta interval i key before (p ∷ pairs) pair n e =
    ap (λ (rows : List Row). row_of delta (if i % interval == 0 then 0 else common key p.separator) before p ∷ rows)
    (rows-push delta interval (i + 1) p.separator p.handle pairs pair n (omega (arith, e)))

-- the row of a pair behind others
abbrev pub next_row : IndexFlags → ℕ → List IndexPair → IndexPair → Row
next_row flags interval pairs pair =
    row_of flags.delta (shared_by interval (rows_of_pairs flags interval pairs) pair.separator) (last_handle no_handle pairs) pair

pub rows-more : (flags : IndexFlags) (interval : ℕ) (pairs : List IndexPair) (pair : IndexPair)
    → rows_of_pairs flags interval (pairs ++ pair ∷ []) ≡ rows_of_pairs flags interval pairs ++ next_row flags interval pairs pair ∷ []
rows-more flags interval pairs pair =
    rows-push flags.delta interval 0 [] no_handle pairs pair (length (rows_of_pairs flags interval pairs)) (omega arith)

-- a first row shares nothing
pub first-shares : (test : Bool) (key : List ℕ) → (if test then 0 else common [] key) ≡ 0
first-shares true key = refl
first-shares false key = refl

-- the difference from the one before tells a handle that begins behind it
pub differs : (before h : Handle) (value : List ℕ) → IsBehind before h → value ≡ signed_varint (pos h.size -ℤ pos before.size) → IsDifference before value h
differs before h value behind is =
    record { begins = behind.begins; difference = pos h.size -ℤ pos before.size; signed = behind.signed; size = omega (arith, ints); value_is = is }

value-says : (delta : Bool) (shared : ℕ) (before h : Handle) → (delta ≡ true → 0 < shared → IsBehind before h)
    → ValueSays delta shared before (handle_value delta shared before h) h
value-says false shared before h behind = refl
value-says true zero before h behind = refl
value-says true (suc shared) before h behind = differs before h (signed_varint (pos h.size -ℤ pos before.size)) (behind refl (omega arith)) refl

-- rows behind a row say their pairs
rows-say : (user_key delta : Bool) (interval i : ℕ) (key : List ℕ) (before : Handle) (pairs : List IndexPair) → All (IsPair user_key) pairs
    → (delta ≡ true → ComeBehind before pairs) → SayPairs delta before (chosen interval i key (index_rows delta interval i key before pairs)) pairs
rows-say user_key delta interval i key before [] are behind = refl
rows-say user_key delta interval i key before (p ∷ pairs) are behind =
    let is = All-head (IsPair user_key) p pairs are in
    let shared = if i % interval == 0 then 0 else common key p.separator in (
      refl,
      (is.offset, is.size, value-says delta shared before p.handle (λ d some. (behind d).0)),
      rows-say user_key delta interval (i + 1) p.separator p.handle pairs (All-tail (IsPair user_key) p pairs are) (λ d. (behind d).1),
    )

-- all rows of some pairs say these
pub all-say : (user_key delta : Bool) (interval : ℕ) (pairs : List IndexPair) → All (IsPair user_key) pairs → (delta ≡ true → AreBehind pairs)
    → SayPairs delta no_handle (spelled_of interval (index_rows delta interval 0 [] no_handle pairs)) pairs
all-say user_key delta interval [] are behind = refl
all-say user_key delta interval (p ∷ pairs) are behind =
    let is = All-head (IsPair user_key) p pairs are in
    let shared = if 0 % interval == 0 then 0 else common [] p.separator in
    let none : shared ≡ 0 = first-shares (0 % interval == 0) p.separator in (
      refl,
      (is.offset, is.size, value-says delta shared no_handle p.handle (λ d some. absurd (omega (arith, none, some)))),
      rows-say user_key delta interval 1 p.separator p.handle pairs (All-tail (IsPair user_key) p pairs are) behind,
    )

-- so they say handles, and lead to the last
says-handles : (user_key delta : Bool) (before : Handle) (spelled : List Spelled) (pairs : List IndexPair) → SayPairs delta before spelled pairs
    → SayHandles (Index user_key delta) before spelled
says-handles user_key false before spelled pairs says = tt
says-handles user_key true before [] pairs says = tt
says-handles user_key true before (s ∷ rest) [] says = absurd says
says-handles user_key true before (s ∷ rest) (p ∷ pairs) says = (p.handle, says.1, says-handles user_key true p.handle rest pairs says.2)

pub says-leads : (user_key delta : Bool) (before : Handle) (spelled : List Spelled) (pairs : List IndexPair) → SayPairs delta before spelled pairs
    → LeadTo (Index user_key delta) before spelled (last_handle before pairs)
says-leads user_key delta before [] pairs says = ap (last_handle before) says
says-leads user_key delta before (s ∷ rest) [] says = absurd says
says-leads user_key delta before (s ∷ rest) (p ∷ pairs) says = (p.handle, says.1, says-leads user_key delta p.handle rest pairs says.2)

-- a pair is a row of its form
pub is_row : (user_key delta : Bool) (shared : ℕ) (before : Handle) (pair : IndexPair) → IsPair user_key pair → IsRow (Index user_key delta) (row_of delta shared before pair)
is_row true true shared before pair is = (is.short, tt)
is_row false true shared before pair is = (is.short, is.tagged refl)
is_row true false shared before pair is = (is.short, (pair.handle, is.offset, is.size, refl))
is_row false false shared before pair is = (is.short, (is.tagged refl, (pair.handle, is.offset, is.size, refl)))

are_rows : (user_key delta : Bool) (interval i : ℕ) (key : List ℕ) (before : Handle) (pairs : List IndexPair) → All (IsPair user_key) pairs
    → All (IsRow (Index user_key delta)) (index_rows delta interval i key before pairs)
are_rows user_key delta interval i key before [] are = All-nil (IsRow (Index user_key delta))
are_rows user_key delta interval i key before (p ∷ pairs) are =
    let shared = if i % interval == 0 then 0 else common key p.separator in
    All-cons (IsRow (Index user_key delta)) (row_of delta shared before p) (index_rows delta interval (i + 1) p.separator p.handle pairs)
    (is_row user_key delta shared before p (All-head (IsPair user_key) p pairs are))
    (are_rows user_key delta interval (i + 1) p.separator p.handle pairs (All-tail (IsPair user_key) p pairs are))

-- an index block says its pairs
pub index_block_says : (flags : IndexFlags) (interval : ℕ) (pairs : List IndexPair) → (flags.delta ≡ true → AreBehind pairs) → 0 < interval
    → All (IsPair flags.user_key) pairs → AreOrdered (form_of flags) (rows_of_pairs flags interval pairs)
    → length (index_block flags interval pairs) ≤ 2 ^ 29 → IndexRows flags.user_key flags.delta (index_block flags interval pairs) pairs
index_block_says flags interval pairs behind positive are ordered short =
    let rows = rows_of_pairs flags interval pairs in
    let says = all-say flags.user_key flags.delta interval pairs are behind in
    let c = chosen-block (form_of flags) interval rows positive (are_rows flags.user_key flags.delta interval 0 [] no_handle pairs are) ordered
    (says-handles flags.user_key flags.delta no_handle (spelled_of interval rows) pairs says) short in
    record { rows = rows; block = c.block; says = subst (λ (l : List Spelled). SayPairs flags.delta no_handle l pairs) (sym c.spelled_are) says }

-- what a builder holds makes a block that says it
pub holds_says : (t : TopBuilder) (flags : IndexFlags) (interval : ℕ) (pairs : List IndexPair) → HoldsPairs t flags interval pairs
    → IndexRows flags.user_key flags.delta (index_block flags interval pairs) pairs
holds_says t flags interval pairs holds =
    let fits = holds.block.fits in
    index_block_says flags interval pairs holds.behind (omega (arith, fits.least)) holds.pairs_are fits.ordered (omega (arith, fits.short))
