-- The pairs that a builder keeps are those of the data blocks, and may stand in index blocks.
use Rattle.std.proofs.Common.{◌≡◌, ◌≢◌, ◌⊎◌, inl, inr, ℕ, ◌+◌, ◌-◌, ◌*◌, ◌<◌, ◌≤◌, Bool, true, false, not, ◌&&◌, ◌||◌, nat_le, bytes_eq, Option, None, Some, List, [], ◌∷◌, ◌++◌, length, length-append, length-take, take, drop, map, All, sum_by, refl, sym, ap, ◌∙◌, subst, append_assoc, arith}
use Rattle.std.specs.List.{flat_map, list_any}
use Rattle.std.proofs.lemmas.Slice.Eq.{bytes_eq-Decides}
use Rattle.std.proofs.lemmas.List.Elements.{All-nil, All-cons, All-head, All-tail}
use Rattle.std.proofs.lemmas.List.Sums.{sum_by-cons}
use Rattle.std.proofs.lemmas.Cmp.{nat_list_cmp_total}
use Rattle.std.specs.Ordering.{nat_cmp, ordering_then}
use Rattle.std.specs.Cmp.Lexicographic.{slice_cmp}
use Rattle.std.specs.declared.cmp.Ordering.{Ordering}
use Rattle.std.specs.declared.cmp.Ordering.TheVariants.{Less, Greater}
use Rattle.sst_key.specs.InternalKey.{user_of, tag_of, internal_cmp}
use Rattle.sst_key.specs.Limits.{block_limit}
use Rattle.sst_key.proofs.KeyParts.{take-front, drop-front}
use Rattle.sst_block.specs.declared.row_form.RowForm.TheVariants.{Index}
use Rattle.sst_block.specs.Block.{key_cmp}
use Rattle.sst_block.specs.IndexRows.{IndexPair}
use Rattle.sst_index.specs.declared.builder.IndexBuilder.{IndexBuilder}
use Rattle.sst_index.specs.declared.builder.IndexRow.{IndexRow}
use Rattle.sst_index.specs.declared.flags.IndexFlags.{IndexFlags}
use Rattle.sst_index.specs.Separators.{separator_of, separator_between}
use Rattle.sst_index.specs.Ends.{BlockEnd, AreEnds, IsAfter, begins_with, IsEnd, AreFollowed, Follows, shares_user, stored_separator, separator_in, pair_of, pairs_of, flags_of, end_weight}
use Rattle.sst_index.specs.Index.{Holds, IsReady, IsKept, Rise, kept_pair, kept_pairs, rows_from, pair_room}
use Rattle.sst_index.specs.IndexBytes.{IndexOptions, whole_bytes, whole_handle, index_bytes, top_handle, top_separators}
use Rattle.sst_index.specs.Top.{IsPair}
use Rattle.sst_index.specs.Behind.{AreBehind}
use Rattle.sst_index.proofs.Behind.{ends-behind}
use Rattle.sst_index.proofs.Order.{stored_total, less_up_to, AreNext, rise-from_next}
use Rattle.sst_index.proofs.Separated.{between-first, between-second, between-user_first, between-user_second, between-length, after-first, after-user_first, after-length}

-- a separator among others
slice-back : (front s more : List ℕ) → take (length s) (drop (length front) (front ++ (s ++ more))) ≡ s
slice-back front s more = ap (take (length s)) (drop-front front (s ++ more)) ∙ take-front s more

kept-from : (u : Bool) (front : List ℕ) (ends : List BlockEnd)
    → map (kept_pair u (front ++ flat_map stored_separator ends)) (rows_from (length front) ends) ≡ map (pair_of u) ends
kept-from u front [] = refl
kept-from u front (e ∷ ends) =
    let s = stored_separator e in
    let more = flat_map stored_separator ends in
    let keys : front ++ (s ++ more) ≡ (front ++ s) ++ more = sym (append_assoc front s more) in
    let rest = kept-from u (front ++ s) ends in
    let next : length front + length s ≡ length (front ++ s) = sym (length-append front s) in
    let tail : map (kept_pair u (front ++ (s ++ more))) (rows_from (length front + length s) ends) ≡ map (pair_of u) ends =
    ap (λ (k : List ℕ). map (kept_pair u k) (rows_from (length front + length s) ends)) keys
    ∙ ap (λ (n : ℕ). map (kept_pair u ((front ++ s) ++ more)) (rows_from n ends)) next ∙ rest in
    ap (λ (key : List ℕ). record { separator = separator_in u key; handle = e.handle } ∷ map (kept_pair u (front ++ (s ++ more))) (rows_from (length front + length s) ends)) (slice-back front s more)
    ∙ ap (λ (l : List IndexPair). pair_of u e ∷ l) tail

-- what a builder keeps
pub kept-is : (b : IndexBuilder) (o : IndexOptions) (ends : List BlockEnd) (u : Bool) → Holds b o ends → kept_pairs u b ≡ map (pair_of u) ends
kept-is b o ends u holds =
    ap (λ (rows : List IndexRow). map (kept_pair u b.keys.items) rows) holds.rows_are
    ∙ ap (λ (keys : List ℕ). map (kept_pair u keys) (rows_from 0 ends)) holds.keys_are ∙ kept-from u [] ends

-- the lengths of a separator
of-lengths : (last : List ℕ) (next : Option (List ℕ)) → (length (separator_of last next) ≤ length last) × (8 ≤ length last → 8 ≤ length (separator_of last next))
of-lengths last None = after-length last
of-lengths last (Some next) = between-length last next

-- a separator isn't before the last key
of-last : (last : List ℕ) (next : Option (List ℕ)) → internal_cmp last (separator_of last next) ≢ Greater
of-last last None = after-first last
of-last last (Some next) = between-first last next

of-user_last : (last : List ℕ) (next : Option (List ℕ)) → slice_cmp nat_cmp (user_of last) (user_of (separator_of last next)) ≢ Greater
of-user_last last None = after-user_first last
of-user_last last (Some next) = between-user_first last next

-- each separator is kept
kept-all : (front : List ℕ) (ends : List BlockEnd) → All IsEnd ends → All (IsKept (front ++ flat_map stored_separator ends)) (rows_from (length front) ends)
kept-all front [] each = All-nil (IsKept (front ++ []))
kept-all front (e ∷ ends) each =
    let s = stored_separator e in
    let more = flat_map stored_separator ends in
    let is = All-head IsEnd e ends each in
    let K : IndexRow → Type 0 = IsKept (front ++ (s ++ more)) in
    let keys : (front ++ s) ++ more ≡ front ++ (s ++ more) = append_assoc front s more in
    let next : length (front ++ s) ≡ length front + length s = length-append front s in
    let rest = kept-all (front ++ s) ends (All-tail IsEnd e ends each) in
    let moved : All K (rows_from (length front + length s) ends) =
    subst (λ (n : ℕ). All K (rows_from n ends)) next (subst (λ (k : List ℕ). All (IsKept k) (rows_from (length (front ++ s)) ends)) keys rest) in
    All-cons K (record { start = length front; length = length s; handle = e.handle }) (rows_from (length front + length s) ends)
    (omega (arith, length-append front (s ++ more), length-append s more), (of-lengths e.last e.next_first).1 is.tagged) moved

pub are-kept : (b : IndexBuilder) (o : IndexOptions) (ends : List BlockEnd) → Holds b o ends → All (IsKept b.keys.items) b.rows.items
are-kept b o ends holds =
    subst (λ (rows : List IndexRow). All (IsKept b.keys.items) rows) (sym holds.rows_are)
    (subst (λ (keys : List ℕ). All (IsKept keys) (rows_from 0 ends)) (sym holds.keys_are) (kept-all [] ends holds.stand.each))

-- each pair may stand in a block
form-short : (u : Bool) (key : List ℕ) → length (separator_in u key) ≤ length key
form-short true key = omega (arith, length-take (length key - 8) key)
form-short false key = omega arith

form-tagged : (u : Bool) (key : List ℕ) → 8 ≤ length key → u ≡ false → 8 ≤ length (separator_in u key)
form-tagged true key long e = cc
form-tagged false key long e = long

is_pair : (u : Bool) (e : BlockEnd) → IsEnd e → IsPair u (pair_of u e)
is_pair u e is =
    let s = stored_separator e in
    let lengths = of-lengths e.last e.next_first in
    record {
      short = omega (arith, form-short u s, lengths.0, is.short);
      tagged = form-tagged u s (lengths.1 is.tagged);
      offset = omega (arith, is.offset);
      size = omega (arith, is.size);
    }

are_pairs : (u : Bool) (ends : List BlockEnd) → All IsEnd ends → All (IsPair u) (map (pair_of u) ends)
are_pairs u [] each = All-nil (IsPair u)
are_pairs u (e ∷ ends) each =
    All-cons (IsPair u) (pair_of u e) (map (pair_of u) ends) (is_pair u e (All-head IsEnd e ends each)) (are_pairs u ends (All-tail IsEnd e ends each))

-- keys that are in order have user keys in order
pub user-up_to : (a b : List ℕ) → internal_cmp a b ≢ Greater → slice_cmp nat_cmp (user_of a) (user_of b) ≢ Greater
user-up_to a b most = λ more. most (ap (λ (r : Ordering). ordering_then r (nat_cmp (tag_of b) (tag_of a))) more)

-- the separator of a block is before that of the next
next-stored : (a b first : List ℕ) (next : Option (List ℕ)) → internal_cmp a first ≡ Less → internal_cmp first b ≢ Greater
    → internal_cmp (separator_between a first) (separator_of b next) ≡ Less
next-stored a b first next less most =
    less_up_to internal_cmp stored_total (separator_between a first) b (separator_of b next)
    (less_up_to internal_cmp stored_total (separator_between a first) first b (between-second a first less) most)
    (of-last b next)

next-user : (a b first : List ℕ) (next : Option (List ℕ)) → internal_cmp a first ≡ Less → user_of a ≢ user_of first → internal_cmp first b ≢ Greater
    → slice_cmp nat_cmp (user_of (separator_between a first)) (user_of (separator_of b next)) ≡ Less
next-user a b first next less other most =
    let cmp = slice_cmp nat_cmp in
    less_up_to cmp nat_list_cmp_total (user_of (separator_between a first)) (user_of b) (user_of (separator_of b next))
    (less_up_to cmp nat_list_cmp_total (user_of (separator_between a first)) (user_of first) (user_of b) (between-user_second a first less other) (user-up_to first b most))
    (of-user_last b next)

-- where separators are user keys, the block shares none with the next
Apart : Bool → BlockEnd → Type 0
Apart u e = u ≡ true → shares_user e ≡ false

unlike : (xs ys : List ℕ) → bytes_eq xs ys ≡ false → xs ≢ ys
unlike xs ys e = λ same. let yes : bytes_eq xs ys ≡ true = (bytes_eq-Decides xs ys).1 same in cc

by : (u : Bool) (a : List ℕ) (next : Option (List ℕ)) (b : List ℕ) (behind : Option (List ℕ)) (first : List ℕ) → next ≡ Some first → IsAfter a next
    → (u ≡ true → begins_with a next ≡ false) → internal_cmp first b ≢ Greater
    → key_cmp (Index u false) (separator_in u (separator_of a next)) (separator_in u (separator_of b behind)) ≡ Less
by u a None b behind first e after apart most = cc
by true a (Some n) b behind first e after apart most =
    let same : n ≡ first = cc in
    next-user a b n behind after.1 (unlike (user_of a) (user_of n) (apart refl)) (subst (λ (k : List ℕ). internal_cmp k b ≢ Greater) (sym same) most)
by false a (Some n) b behind first e after apart most =
    let same : n ≡ first = cc in
    next-stored a b n behind after.1 (subst (λ (k : List ℕ). internal_cmp k b ≢ Greater) (sym same) most)

or-none : (a b : Bool) → (a || b) ≡ false → (a ≡ false) × (b ≡ false)
or-none true b e = cc
or-none false b e = (refl, e)

next-pair : (u : Bool) (a b : BlockEnd) → IsEnd a → Apart u a → Follows a b → key_cmp (Index u false) (pair_of u a).separator (pair_of u b).separator ≡ Less
unfolding Apart
next-pair u a b is apart follows =
    by u a.last a.next_first b.last b.next_first follows.first follows.next is.next apart follows.ordered

are_next : (u : Bool) (ends : List BlockEnd) → All IsEnd ends → All (Apart u) ends → AreFollowed ends → AreNext u (map (pair_of u) ends)
are_next u [] each apart followed = tt
are_next u (a ∷ []) each apart followed = tt
are_next u (a ∷ b ∷ ends) each apart followed = (
  next-pair u a b (All-head IsEnd a (b ∷ ends) each) (All-head (Apart u) a (b ∷ ends) apart) followed.0,
  are_next u (b ∷ ends) (All-tail IsEnd a (b ∷ ends) each) (All-tail (Apart u) a (b ∷ ends) apart) followed.1,
)

-- the flags say so
apart-all : (u : Bool) (ends : List BlockEnd) → (u ≡ true → list_any shares_user ends ≡ false) → All (Apart u) ends
unfolding Apart
apart-all u [] none = All-nil (Apart u)
apart-all u (e ∷ ends) none =
    All-cons (Apart u) e ends (λ is. (or-none (shares_user e) (list_any shares_user ends) (none is)).0)
    (apart-all u ends (λ is. (or-none (shares_user e) (list_any shares_user ends) (none is)).1))

flag-none : (v any : Bool) → (v && not any) ≡ true → any ≡ false
flag-none true true e = cc
flag-none true false e = refl
flag-none false any e = cc

-- the pairs have room
pairs-room : (u : Bool) (ends : List BlockEnd) → sum_by pair_room (map (pair_of u) ends) + 10 * length ends ≤ sum_by end_weight ends
pairs-room u [] = omega arith
pairs-room u (e ∷ ends) =
    let s = stored_separator e in
    omega (arith, pairs-room u ends, sum_by-cons pair_room (pair_of u e) (map (pair_of u) ends), sum_by-cons end_weight e ends, form-short u s, (of-lengths e.last e.next_first).0)

short-room : (u : Bool) (ends : List BlockEnd) → sum_by end_weight ends ≤ block_limit → sum_by pair_room (map (pair_of u) ends) + 8 < block_limit
short-room u [] light = omega arith
short-room u (e ∷ ends) light = omega (arith, pairs-room u (e ∷ ends), light)

-- pairs that may stand in index blocks
pub record Standing (u : Bool) (pairs : List IndexPair) : Type 0 where
  pub each : All (IsPair u) pairs
  pub rise : Rise u pairs
  pub behind : AreBehind pairs
  pub room : sum_by pair_room pairs + 8 < block_limit

pub pairs-stand : (version : ℕ) (ends : List BlockEnd) → AreEnds ends → Standing (flags_of version ends).user_key (pairs_of version ends)
pairs-stand version ends stand =
    let u = (flags_of version ends).user_key in
    record {
      each = are_pairs u ends stand.each;
      rise = rise-from_next u (map (pair_of u) ends)
          (are_next u ends stand.each (apart-all u ends (flag-none (nat_le 3 version) (list_any shares_user ends))) stand.followed);
      behind = ends-behind u ends stand.each stand.followed;
      room = short-room u ends stand.light;
    }

pub ready : (b : IndexBuilder) (o : IndexOptions) (ends : List BlockEnd) → Holds b o ends → IsReady b (flags_of o.version ends)
ready b o ends holds =
    let u = (flags_of o.version ends).user_key in
    let kept = kept-is b o ends u holds in
    let s = subst (Standing u) (sym kept) (pairs-stand o.version ends holds.stand) in
    record {
      least = omega (arith, holds.interval_is, holds.options.least);
      most = omega (arith, holds.interval_is, holds.options.most);
      kept = are-kept b o ends holds;
      each = s.each;
      rise = s.rise;
      behind = s.behind;
      room = s.room;
    }

-- the blocks of what a builder keeps are those of the index
pub bytes_same : (b : IndexBuilder) (o : IndexOptions) (ends : List BlockEnd) (base : ℕ) (flags : IndexFlags) → Holds b o ends → flags ≡ flags_of o.version ends
    → whole_bytes flags b.interval b.parts base (kept_pairs flags.user_key b) ≡ index_bytes o base ends
bytes_same b o ends base flags holds e =
    rw (e, holds.interval_is, holds.parts_is, kept-is b o ends (flags_of o.version ends).user_key holds) refl

pub handle_same : (b : IndexBuilder) (o : IndexOptions) (ends : List BlockEnd) (base : ℕ) (flags : IndexFlags) → Holds b o ends → flags ≡ flags_of o.version ends
    → whole_handle flags b.interval b.parts base (kept_pairs flags.user_key b) ≡ top_handle o base ends
handle_same b o ends base flags holds e =
    rw (e, holds.interval_is, holds.parts_is, kept-is b o ends (flags_of o.version ends).user_key holds) refl

pub ready_of : (b : IndexBuilder) (flags : IndexFlags) → b.failed ≡ false → (b.failed ≡ true) ⊎ ((o : IndexOptions) × (ends : List BlockEnd) × Holds b o ends)
    → ((o : IndexOptions) (ends : List BlockEnd) → Holds b o ends → flags ≡ flags_of o.version ends) → IsReady b flags
ready_of b flags sound (inl failed) is = cc
ready_of b flags sound (inr (o, ends, holds)) is = subst (λ (f : IndexFlags). IsReady b f) (sym (is o ends holds)) (ready b o ends holds)

-- the keys of the top block by what a builder keeps
pub keys_same : (b : IndexBuilder) (o : IndexOptions) (ends : List BlockEnd) (flags : IndexFlags) → Holds b o ends → flags ≡ flags_of o.version ends
    → top_separators b.parts (kept_pairs flags.user_key b) ≡ top_separators o.parts (pairs_of o.version ends)
keys_same b o ends flags holds e = rw (e, holds.parts_is, kept-is b o ends (flags_of o.version ends).user_key holds) refl

pub ready_some : (b : IndexBuilder) (o : IndexOptions) (ends : List BlockEnd) → Holds b o ends → (flags : IndexFlags) × IsReady b flags
ready_some b o ends holds = (flags_of o.version ends, ready b o ends holds)

pub row_within : (b : IndexBuilder) (row : ℕ) (flags : IndexFlags) (o : IndexOptions) (ends : List BlockEnd) → Holds b o ends → flags ≡ flags_of o.version ends
    → row < length (top_separators o.parts (pairs_of o.version ends)) → row < length (top_separators b.parts (kept_pairs flags.user_key b))
row_within b row flags o ends holds is within = subst (λ (l : List (List ℕ)). row < length l) (sym (keys_same b o ends flags holds is)) within
