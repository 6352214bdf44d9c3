-- The pairs that lead to the parts of a filter may stand in the top block.
use Rattle.std.proofs.Common.{◌≡◌, ℕ, zero, suc, ◌+◌, ◌^◌, ◌<◌, ◌≤◌, Bool, false, Some, List, [], ◌∷◌, ◌++◌, length, take, get_or, map, All, sum_by, refl, sym, ap, subst, add-one, arith}
use Rattle.std.specs.Prelude.{slice_get}
use Rattle.std.specs.declared.cmp.Ordering.TheVariants.{Less}
use Rattle.std.proofs.Math.Seq.{take-suc}
use Rattle.std.proofs.lemmas.Int.{ints}
use Rattle.std.proofs.lemmas.List.Elements.{All-nil, All-cons, All-head, All-tail}
use Rattle.std.proofs.lemmas.List.Sums.{sum_by-cons, sum_by-append, sum_by-take-le}
use Rattle.std.proofs.lemmas.Option.{slice_get-get_or}
use Rattle.sst_block.specs.declared.row_form.RowForm.TheVariants.{Index}
use Rattle.sst_block.specs.Block.{key_cmp}
use Rattle.sst_block.specs.IndexRows.{IndexPair}
use Rattle.sst_index.specs.declared.builder.IndexBuilder.{IndexBuilder}
use Rattle.sst_index.specs.declared.flags.IndexFlags.{IndexFlags}
use Rattle.sst_index.specs.declared.top.TopBuilder.{TopBuilder}
use Rattle.sst_index.specs.Behind.{AreBehind, ComeBehind}
use Rattle.sst_index.specs.FilterBytes.{leading_pairs, stored_size}
use Rattle.sst_index.specs.Index.{IsReady, Rise, kept_pairs, pair_room}
use Rattle.sst_index.specs.IndexBlock.{index_block}
use Rattle.sst_index.specs.IndexBytes.{last_separator, part_pairs, parts_of, top_pairs, top_separators}
use Rattle.sst_index.specs.Parted.{LeadsSoFar}
use Rattle.sst_index.specs.Top.{HoldsPairs, IsPair, CanAddPair}
use Rattle.sst_index.proofs.Behind.{behind-take}
use Rattle.sst_index.proofs.Kept.{Standing}
use Rattle.sst_index.proofs.Order.{rise-take}
use Rattle.sst_index.proofs.Ready.{pairs_more, is_pair_at}
use Rattle.sst_index.proofs.Room.{takes_next}
use Rattle.sst_index.proofs.Says.{tops-standing}

abbrev pub keys_of : List IndexPair → List (List ℕ)
keys_of pairs = map (λ (pair : IndexPair). pair.separator) pairs

-- the keys of a top block are those of its pairs
part-keys : (flags : IndexFlags) (interval at : ℕ) (parts : List (List IndexPair)) → keys_of (part_pairs flags interval at parts) ≡ map (last_separator []) parts
part-keys flags interval at [] = refl
part-keys flags interval at (part ∷ parts) = ap (λ (l : List (List ℕ)). last_separator [] part ∷ l) (part-keys flags interval (at + length (index_block flags interval part) + 5) parts)

pub top-keys : (flags : IndexFlags) (interval parts base : ℕ) (pairs : List IndexPair) → keys_of (top_pairs flags interval parts base pairs) ≡ top_separators parts pairs
top-keys flags interval zero base pairs = refl
top-keys flags interval (suc k) base pairs = part-keys flags interval base (parts_of (suc k) pairs)

-- the same keys may lead to other blocks
abbrev IsBelow : Bool → List ℕ → IndexPair → Type 0
IsBelow user_key s q = key_cmp (Index user_key false) s q.separator ≡ Less

lead-below : (user_key : Bool) (s : List ℕ) (at : ℕ) (pairs : List IndexPair) (sizes : List ℕ) → All (IsBelow user_key s) pairs
    → All (IsBelow user_key s) (leading_pairs at (keys_of pairs) sizes)
lead-below user_key s at [] sizes all = All-nil (IsBelow user_key s)
lead-below user_key s at (p ∷ pairs) [] all = All-nil (IsBelow user_key s)
lead-below user_key s at (p ∷ pairs) (size ∷ sizes) all =
    All-cons (IsBelow user_key s) (record { separator = p.separator; handle = record { offset = at; size = size } }) (leading_pairs (at + stored_size size) (keys_of pairs) sizes)
    (All-head (IsBelow user_key s) p pairs all) (lead-below user_key s (at + stored_size size) pairs sizes (All-tail (IsBelow user_key s) p pairs all))

lead-rise : (user_key : Bool) (at : ℕ) (pairs : List IndexPair) (sizes : List ℕ) → Rise user_key pairs → Rise user_key (leading_pairs at (keys_of pairs) sizes)
lead-rise user_key at [] sizes rise = tt
lead-rise user_key at (p ∷ pairs) [] rise = tt
lead-rise user_key at (p ∷ pairs) (size ∷ sizes) rise =
    (lead-below user_key p.separator (at + stored_size size) pairs sizes rise.0, lead-rise user_key (at + stored_size size) pairs sizes rise.1)

lead-each : (user_key : Bool) (at : ℕ) (pairs : List IndexPair) (sizes : List ℕ) → All (IsPair user_key) pairs → at + sum_by stored_size sizes < 2 ^ 64
    → All (IsPair user_key) (leading_pairs at (keys_of pairs) sizes)
lead-each user_key at [] sizes each near = All-nil (IsPair user_key)
lead-each user_key at (p ∷ pairs) [] each near = All-nil (IsPair user_key)
lead-each user_key at (p ∷ pairs) (size ∷ sizes) each near =
    let is = All-head (IsPair user_key) p pairs each in
    let sum = sum_by-cons stored_size size sizes in
    All-cons (IsPair user_key) (record { separator = p.separator; handle = record { offset = at; size = size } }) (leading_pairs (at + stored_size size) (keys_of pairs) sizes)
    (record { short = is.short; tagged = is.tagged; offset = omega (arith, near, sum); size = omega (arith, near, sum) })
    (lead-each user_key (at + stored_size size) pairs sizes (All-tail (IsPair user_key) p pairs each) (omega (arith, near, sum)))

lead-room : (at : ℕ) (pairs : List IndexPair) (sizes : List ℕ) → sum_by pair_room (leading_pairs at (keys_of pairs) sizes) ≤ sum_by pair_room pairs
lead-room at [] sizes = omega arith
lead-room at (p ∷ pairs) [] = omega arith
lead-room at (p ∷ pairs) (size ∷ sizes) =
    let lead : IndexPair = record { separator = p.separator; handle = record { offset = at; size = size } } in
    omega (
      arith,
      lead-room (at + stored_size size) pairs sizes,
      sum_by-cons pair_room p pairs,
      sum_by-cons pair_room lead (leading_pairs (at + stored_size size) (keys_of pairs) sizes),
    )

lead-come : (at size : ℕ) (keys : List (List ℕ)) (sizes : List ℕ) → size < 2 ^ 63 → sum_by stored_size sizes < 2 ^ 63
    → ComeBehind (record { offset = at; size = size }) (leading_pairs (at + stored_size size) keys sizes)
lead-come at size [] sizes small near = tt
lead-come at size (key ∷ keys) [] small near = tt
lead-come at size (key ∷ keys) (next ∷ sizes) small near =
    let sum = sum_by-cons stored_size next sizes in
    let less : next < 2 ^ 63 = omega (arith, near, sum) in (
      record { begins = omega arith; signed = (omega (arith, ints, small, less), omega (arith, ints, small, less)) },
      lead-come (at + stored_size size) next keys sizes less (omega (arith, near, sum)),
    )

lead-behind : (at : ℕ) (keys : List (List ℕ)) (sizes : List ℕ) → sum_by stored_size sizes < 2 ^ 63 → AreBehind (leading_pairs at keys sizes)
lead-behind at [] sizes near = tt
lead-behind at (key ∷ keys) [] near = tt
lead-behind at (key ∷ keys) (size ∷ sizes) near =
    let sum = sum_by-cons stored_size size sizes in
    lead-come at size keys sizes (omega (arith, near, sum)) (omega (arith, near, sum))

pub lead-standing : (user_key : Bool) (at : ℕ) (pairs : List IndexPair) (sizes : List ℕ) → Standing user_key pairs → at < 2 ^ 40 → sum_by stored_size sizes < 2 ^ 63
    → Standing user_key (leading_pairs at (keys_of pairs) sizes)
lead-standing user_key at pairs sizes s low near =
    record {
      each = lead-each user_key at pairs sizes s.each (omega (arith, low, near));
      rise = lead-rise user_key at pairs sizes s.rise;
      behind = lead-behind at (keys_of pairs) sizes near;
      room = omega (arith, lead-room at pairs sizes, s.room);
    }

-- those of a builder's index
pub ready-standing : (b : IndexBuilder) (flags : IndexFlags) (at : ℕ) (sizes : List ℕ) → IsReady b flags → at < 2 ^ 40 → sum_by stored_size sizes < 2 ^ 63
    → Standing flags.user_key (leading_pairs at (top_separators b.parts (kept_pairs flags.user_key b)) sizes)
ready-standing b flags at sizes ready low near =
    let pairs = kept_pairs flags.user_key b in
    let s : Standing flags.user_key pairs = record { each = ready.each; rise = ready.rise; behind = ready.behind; room = ready.room } in
    let tops = tops-standing flags b.interval 0 b.parts pairs (omega arith) s in
    subst (λ (keys : List (List ℕ)). Standing flags.user_key (leading_pairs at keys sizes)) (top-keys flags b.interval b.parts 0 pairs)
    (lead-standing flags.user_key at (top_pairs flags b.interval b.parts 0 pairs) sizes tops low near)

-- the n-th of them
pub lead-at : (at : ℕ) (keys : List (List ℕ)) (sizes : List ℕ) (n place : ℕ) (key : List ℕ) (size : ℕ) → slice_get keys n ≡ Some key → slice_get sizes n ≡ Some size
    → place ≡ at + sum_by stored_size (take n sizes)
    → slice_get (leading_pairs at keys sizes) n ≡ Some (record { separator = key; handle = record { offset = place; size = size } })
lead-at at [] sizes n place key size there has begins = cc
lead-at at (k ∷ keys) [] n place key size there has begins = cc
lead-at at (k ∷ keys) (s ∷ sizes) zero place key size there has begins =
    let here : place ≡ at = omega (arith, begins) in
    rw here (cc)
lead-at at (k ∷ keys) (s ∷ sizes) (suc n) place key size there has begins =
    lead-at (at + stored_size s) keys sizes n place key size there has (omega (arith, begins, sum_by-cons stored_size s (take n sizes)))

lead-length : (at : ℕ) (keys : List (List ℕ)) (sizes : List ℕ) → length (leading_pairs at keys sizes) ≤ length sizes
lead-length at [] sizes = omega arith
lead-length at (k ∷ keys) [] = omega arith
lead-length at (k ∷ keys) (s ∷ sizes) = let rest = lead-length (at + stored_size s) keys sizes in omega (arith, rest)

-- the next part is led to
sum-more : (sizes : List ℕ) (row : ℕ) → row < length sizes → sum_by stored_size (take (row + 1) sizes) ≡ sum_by stored_size (take row sizes) + (get_or sizes row 0 + 5)
sum-more sizes row within =
    let more : take (row + 1) sizes ≡ take row sizes ++ get_or sizes row 0 ∷ [] = rw (add-one, take-suc sizes row 0 within) refl in
    omega (arith, ap (λ (l : List ℕ). sum_by stored_size l) more, sum_by-append stored_size (take row sizes) (get_or sizes row 0 ∷ []), sum_by-cons stored_size (get_or sizes row 0) [])

pub can-lead : (t : TopBuilder) (b : IndexBuilder) (flags : IndexFlags) (interval base : ℕ) (sizes : List ℕ) (row at : ℕ) (key : List ℕ) → IsReady b flags
    → base < 2 ^ 40 → sum_by stored_size sizes < 2 ^ 63 → row < length sizes → slice_get (top_separators b.parts (kept_pairs flags.user_key b)) row ≡ Some key
    → LeadsSoFar flags interval base (top_separators b.parts (kept_pairs flags.user_key b)) sizes row at t
    → CanAddPair t (record { separator = key; handle = record { offset = at; size = get_or sizes row 0 } })
can-lead t b flags interval base sizes row at key ready low near within there leads =
    let keys = top_separators b.parts (kept_pairs flags.user_key b) in
    let pairs = leading_pairs base keys sizes in
    let s = ready-standing b flags base sizes ready low near in
    let pair : IndexPair = record { separator = key; handle = record { offset = at; size = get_or sizes row 0 } } in
    let here = lead-at base keys sizes row at key (get_or sizes row 0) there (slice_get-get_or sizes row 0 within) leads.place in
    let more = pairs_more pairs row pair here in
    takes_next t flags interval (take row pairs) pair leads.holds
    (is_pair_at (IsPair flags.user_key) pairs row pair s.each here)
    (subst AreBehind (sym more) (behind-take (row + 1) pairs s.behind))
    (subst (λ (l : List IndexPair). Rise flags.user_key l) (sym more) (rise-take flags.user_key (row + 1) pairs s.rise))
    (omega (arith, ap (λ (l : List IndexPair). sum_by pair_room l) more, sum_by-take-le pair_room pairs (row + 1), s.room))

pub leads-more : (t new : TopBuilder) (flags : IndexFlags) (interval base : ℕ) (keys : List (List ℕ)) (sizes : List ℕ) (row at : ℕ) (key : List ℕ)
    → row < length sizes → slice_get keys row ≡ Some key → LeadsSoFar flags interval base keys sizes row at t
    → ((pairs : List IndexPair) → HoldsPairs t flags interval pairs
    → HoldsPairs new flags interval (pairs ++ record { separator = key; handle = record { offset = at; size = get_or sizes row 0 } } ∷ []))
    → LeadsSoFar flags interval base keys sizes (row + 1) (at + (get_or sizes row 0 + 5)) new
leads-more t new flags interval base keys sizes row at key within there leads added =
    let pairs = leading_pairs base keys sizes in
    let pair : IndexPair = record { separator = key; handle = record { offset = at; size = get_or sizes row 0 } } in
    let here = lead-at base keys sizes row at key (get_or sizes row 0) there (slice_get-get_or sizes row 0 within) leads.place in
    record {
      holds = subst (λ (l : List IndexPair). HoldsPairs new flags interval l) (pairs_more pairs row pair here) (added (take row pairs) leads.holds);
      place = omega (arith, sum-more sizes row within, leads.place);
    }

pub next-near : (flags : IndexFlags) (interval base : ℕ) (keys : List (List ℕ)) (sizes : List ℕ) (row at : ℕ) (t : TopBuilder) → row < length sizes
    → base < 2 ^ 40 → sum_by stored_size sizes < 2 ^ 63 → LeadsSoFar flags interval base keys sizes row at t → at + (get_or sizes row 0 + 5) < 2 ^ 64
next-near flags interval base keys sizes row at t within low near leads =
    omega (arith, sum-more sizes row within, leads.place, sum_by-take-le stored_size sizes (row + 1), low, near)

take-all : (pairs : List IndexPair) (n : ℕ) → length pairs ≤ n → take n pairs ≡ pairs
take-all [] zero long = refl
take-all [] (suc n) long = refl
take-all (p ∷ pairs) zero long = absurd (omega arith)
take-all (p ∷ pairs) (suc n) long = ap (λ (l : List IndexPair). p ∷ l) (take-all pairs n (omega arith))

-- in the end all are led to
pub leads-all : (t : TopBuilder) (flags : IndexFlags) (interval base : ℕ) (keys : List (List ℕ)) (sizes : List ℕ) (row at : ℕ) → length sizes ≤ row
    → LeadsSoFar flags interval base keys sizes row at t → HoldsPairs t flags interval (leading_pairs base keys sizes)
leads-all t flags interval base keys sizes row at end leads =
    let pairs = leading_pairs base keys sizes in
    subst (λ (l : List IndexPair). HoldsPairs t flags interval l) (take-all pairs row (omega (arith, end, lead-length base keys sizes))) leads.holds
