-- Where the separators separate, the way of the index is the way of the list.
use Rattle.std.proofs.Common.{◌≡◌, ℕ, ◌+◌, Bool, true, false, cond, List, [], ◌∷◌, ◌++◌, length, All, count_by, slice_get, Option, None, Some, option_and_then, refl, sym, ap, ◌∙◌, inl, inr, length-append, arith}
use Rattle.std.specs.Option.{option_map}
use Rattle.std.proofs.lemmas.Bool.{cases_lt}
use Rattle.std.proofs.lemmas.List.Elements.{All-nil, All-cons, All-head, All-tail}
use Rattle.std.proofs.lemmas.List.Sums.{sum_by-append}
use Rattle.std.proofs.lemmas.Option.{slice_get_past}
use Rattle.sst_key.specs.declared.entries.Entry.{Entry}
use Rattle.sst_key.specs.declared.calls.Call.{Call}
use Rattle.sst_key.specs.declared.calls.Call.TheVariants.{Get, First, Last, Seek, SeekForPrev, Next, Prev}
use Rattle.sst_key.specs.declared.calls.Format.TheVariants.{Block}
use Rattle.sst_key.specs.ListMachine.{answer_of, replies_from, below, place_in, place_before, seek_of, seek_for_prev_of, get_of, shows, lands, where_passes, is_of_user, is_before_target, is_up_to_target}
use Rattle.sst_key.proofs.Counting.{count-yes, count-no}
use Rattle.sst_key.proofs.Landings.{in-place, in-no_place}
use Rattle.sst_bbt_spec.specs.Rows.{HasSeq}
use Rattle.sst_bbt_spec.specs.Way.{IndexedBlock, Separate, IsUpToSeparator, IsAfterSeparator, is_separator_before, seek_tag, seek_for_prev_tag, joined, passed, seek_passed, seek_for_prev_passed, last_passed, way_seek, way_get, way_seek_for_prev, way_answer, way_replies_from}
use Rattle.sst_bbt_spec.proofs.SeparatorOrder.{seek-ahead, seek-behind, prev-ahead, prev-behind}

pub All-front : (P : Entry → Type 0) (xs ys : List Entry) → All P (xs ++ ys) → All P xs
All-front P [] ys all = All-nil P
All-front P (x ∷ xs) ys all = All-cons P x xs (All-head P x (xs ++ ys) all) (All-front P xs ys (All-tail P x (xs ++ ys) all))

pub All-back : (P : Entry → Type 0) (xs ys : List Entry) → All P (xs ++ ys) → All P ys
All-back P [] ys all = all
All-back P (x ∷ xs) ys all = All-back P xs ys (All-tail P x (xs ++ ys) all)

-- what a test says of the entries by how a separator stands to the target
pub record Follows (is_before : List ℕ → Bool) (test : Entry → Bool) : Type 0 where
  pub ahead : (separator : List ℕ) (e : Entry) → is_before separator ≡ true → HasSeq e → IsUpToSeparator separator e → test e ≡ true
  pub behind : (separator : List ℕ) (e : Entry) → is_before separator ≡ false → HasSeq e → IsAfterSeparator separator e → test e ≡ false

all-pass : (is_before : List ℕ → Bool) (test : Entry → Bool) (separator : List ℕ) (xs : List Entry) → Follows is_before test → is_before separator ≡ true
    → All HasSeq xs → All (IsUpToSeparator separator) xs → count_by test xs ≡ length xs
all-pass is_before test separator [] f h seqs up = refl
all-pass is_before test separator (x ∷ xs) f h seqs up =
    let here = f.ahead separator x h (All-head HasSeq x xs seqs) (All-head (IsUpToSeparator separator) x xs up) in
    let more = all-pass is_before test separator xs f h (All-tail HasSeq x xs seqs) (All-tail (IsUpToSeparator separator) x xs up) in
    omega (arith, count-yes test x xs here, more)

none-passes : (is_before : List ℕ → Bool) (test : Entry → Bool) (separator : List ℕ) (xs : List Entry) → Follows is_before test → is_before separator ≡ false
    → All HasSeq xs → All (IsAfterSeparator separator) xs → count_by test xs ≡ 0
none-passes is_before test separator [] f h seqs after = refl
none-passes is_before test separator (x ∷ xs) f h seqs after =
    let here = f.behind separator x h (All-head HasSeq x xs seqs) (All-head (IsAfterSeparator separator) x xs after) in
    count-no test x xs here ∙ none-passes is_before test separator xs f h (All-tail HasSeq x xs seqs) (All-tail (IsAfterSeparator separator) x xs after)

count-append : (test : Entry → Bool) (xs ys : List Entry) → count_by test (xs ++ ys) ≡ count_by test xs + count_by test ys
count-append test xs ys = sum_by-append (λ (y : Entry). cond (test y) 1 0) xs ys

-- so many of the entries were passed; where none are told, all of them pass
abbrev pub Counts : Option ℕ → (Entry → Bool) → List Entry → Type 0
Counts None test entries = count_by test entries ≡ length entries
Counts (Some n) test entries = n ≡ count_by test entries

counts-on : (test : Entry → Bool) (front rest : List Entry) (n : Option ℕ) → count_by test front ≡ length front → Counts n test rest
    → Counts (option_map (λ n. length front + n) n) test (front ++ rest)
counts-on test front rest None all many = omega (arith, count-append test front rest, length-append front rest, all, many)
counts-on test front rest (Some n) all many = omega (arith, count-append test front rest, all, many)

counts-by : (is_before : List ℕ → Bool) (test : Entry → Bool) (block : IndexedBlock) (rest : List IndexedBlock) (v : Bool) → Follows is_before test
    → is_before block.separator ≡ v → Separate (block ∷ rest) → All HasSeq block.entries → All HasSeq (joined rest)
    → Counts (passed is_before test rest) test (joined rest)
    → Counts (cond v (option_map (λ n. length block.entries + n) (passed is_before test rest)) (Some (count_by test block.entries))) test (joined (block ∷ rest))
counts-by is_before test block rest true f h apart seqs more many =
    counts-on test block.entries (joined rest) (passed is_before test rest) (all-pass is_before test block.separator block.entries f h seqs apart.0) many
counts-by is_before test block rest false f h apart seqs more many =
    let none = none-passes is_before test block.separator (joined rest) f h more apart.1 in
    omega (arith, count-append test block.entries (joined rest), none)

pub passed-counts : (is_before : List ℕ → Bool) (test : Entry → Bool) (blocks : List IndexedBlock) → Follows is_before test → Separate blocks
    → All HasSeq (joined blocks) → Counts (passed is_before test blocks) test (joined blocks)
passed-counts is_before test [] f apart seqs = refl
passed-counts is_before test (block ∷ rest) f apart seqs =
    let front = All-front HasSeq block.entries (joined rest) seqs in
    let back = All-back HasSeq block.entries (joined rest) seqs in
    counts-by is_before test block rest (is_before block.separator) f refl apart front back (passed-counts is_before test rest f apart.2 back)

-- ---- the three landings

pub seek-follows : (user : List ℕ) (seq : ℕ) → Follows (is_separator_before user (seek_tag seq)) (is_before_target user seq)
seek-follows user seq = record { ahead = seek-ahead user seq; behind = seek-behind user seq }

pub prev-follows : (user : List ℕ) (seq : ℕ) → Follows (is_separator_before user (seek_for_prev_tag seq)) (is_up_to_target user seq)
prev-follows user seq = record { ahead = prev-ahead user seq; behind = prev-behind user seq }

pub seek-lands : (entries : List Entry) (user : List ℕ) (seq : ℕ) (n : Option ℕ) → Counts n (is_before_target user seq) entries
    → option_and_then (λ n. place_in entries n) n ≡ seek_of entries user seq
seek-lands entries user seq None many = sym (in-no_place entries (below entries user seq) (omega (arith, many)))
seek-lands entries user seq (Some n) many = ap (place_in entries) many

pub prev-lands : (entries : List Entry) (user : List ℕ) (seq : ℕ) (n : Option ℕ) → Counts n (is_up_to_target user seq) entries
    → last_passed entries n ≡ seek_for_prev_of entries user seq
prev-lands entries user seq None many = ap place_before (sym many)
prev-lands entries user seq (Some n) many = ap place_before many

pub seek-same : (blocks : List IndexedBlock) (user : List ℕ) (seq : ℕ) → Separate blocks → All HasSeq (joined blocks)
    → way_seek blocks user seq ≡ seek_of (joined blocks) user seq
seek-same blocks user seq apart seqs =
    seek-lands (joined blocks) user seq (seek_passed blocks user seq) (passed-counts _ _ blocks (seek-follows user seq) apart seqs)

pub prev-same : (blocks : List IndexedBlock) (user : List ℕ) (seq : ℕ) → Separate blocks → All HasSeq (joined blocks)
    → way_seek_for_prev blocks user seq ≡ seek_for_prev_of (joined blocks) user seq
prev-same blocks user seq apart seqs =
    prev-lands (joined blocks) user seq (seek_for_prev_passed blocks user seq) (passed-counts _ _ blocks (prev-follows user seq) apart seqs)

-- the entry where Seek lands is the one that Get looks at
pub get-at_seek : (entries : List Entry) (user : List ℕ) (seq : ℕ)
    → option_and_then (λ i. where_passes (is_of_user user) i (slice_get entries i)) (seek_of entries user seq) ≡ get_of entries user seq
get-at_seek entries user seq =
    let c = below entries user seq in
    let shown : ℕ → Option ℕ = λ i. where_passes (is_of_user user) i (slice_get entries i) in
    elim (cases_lt c (length entries)) [
      | inl low ↦ ap (option_and_then shown) (in-place entries c low)
      | inr high ↦ ap (option_and_then shown) (in-no_place entries c high) ∙ sym (ap (where_passes (is_of_user user) c) (slice_get_past entries c high))
    ]

pub get-same : (blocks : List IndexedBlock) (user : List ℕ) (seq : ℕ) → Separate blocks → All HasSeq (joined blocks)
    → way_get blocks user seq ≡ get_of (joined blocks) user seq
get-same blocks user seq apart seqs =
    let shown : ℕ → Option ℕ = λ i. where_passes (is_of_user user) i (slice_get (joined blocks) i) in
    ap (option_and_then shown) (seek-same blocks user seq apart seqs) ∙ get-at_seek (joined blocks) user seq

-- ---- the calls

pub answer-same : (blocks : List IndexedBlock) (position : Option ℕ) (call : Call) → Separate blocks → All HasSeq (joined blocks)
    → way_answer blocks position call ≡ answer_of Block 0 (joined blocks) position call
answer-same blocks position (Get target) apart seqs = ap (shows position) (get-same blocks target.user target.seq apart seqs)
answer-same blocks position First apart seqs = refl
answer-same blocks position Last apart seqs = refl
answer-same blocks position (Seek target) apart seqs = ap lands (seek-same blocks target.user target.seq apart seqs)
answer-same blocks position (SeekForPrev target) apart seqs = ap lands (prev-same blocks target.user target.seq apart seqs)
answer-same blocks position Next apart seqs = refl
answer-same blocks position Prev apart seqs = refl

pub replies-same : (blocks : List IndexedBlock) (position : Option ℕ) (calls : List Call) → Separate blocks → All HasSeq (joined blocks)
    → way_replies_from blocks position calls ≡ replies_from Block 0 (joined blocks) position calls
replies-same blocks position [] apart seqs = refl
replies-same blocks position (call ∷ calls) apart seqs =
    let same = answer-same blocks position call apart seqs in
    rw same (ap (λ l. answer_of Block 0 (joined blocks) position call ∷ l) (replies-same blocks (answer_of Block 0 (joined blocks) position call).position calls apart seqs))
