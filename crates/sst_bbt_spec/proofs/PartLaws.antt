-- Where the separators separate, the way over the parts of an index is the way of the list.
use Rattle.std.proofs.Common.{◌≡◌, ℕ, ◌+◌, Bool, true, false, cond, List, [], ◌∷◌, length, map, All, count_by, slice_get, Option, None, Some, option_and_then, refl, sym, ap, ◌∙◌, subst}
use Rattle.std.specs.Option.{option_map}
use Rattle.std.proofs.lemmas.List.{length-map}
use Rattle.std.proofs.lemmas.List.Sums.{sum_by-cons}
use Rattle.sst_key.specs.declared.entries.Entry.{Entry}
use Rattle.sst_key.specs.declared.calls.Call.{Call}
use Rattle.sst_key.specs.declared.calls.Call.TheVariants.{Get, First, Last, Seek, SeekForPrev, Next, Prev}
use Rattle.sst_key.specs.declared.calls.Format.TheVariants.{Block}
use Rattle.sst_key.specs.ListMachine.{answer_of, replies_from, seek_of, seek_for_prev_of, get_of, shows, lands, where_passes, is_of_user, is_before_target, is_up_to_target}
use Rattle.sst_bbt_spec.specs.Rows.{HasSeq}
use Rattle.sst_bbt_spec.specs.Way.{joined, passed}
use Rattle.sst_bbt_spec.specs.Parts.{Part, whole_of, stored_in}
use Rattle.sst_bbt_spec.specs.Mark.{shown, shown_in}
use Rattle.sst_bbt_spec.specs.PartWay.{or_all, passed_in, seek_passed_in, prev_passed_in, seek_in_parts, get_in_parts, seek_for_prev_in_parts, answer_in_parts, replies_in_parts_from}
use Rattle.sst_bbt_spec.specs.PartRuns.{SeparateWithin, SeparateParts}
use Rattle.sst_bbt_spec.proofs.WayLaws.{Follows, Counts, passed-counts, seek-lands, prev-lands, get-at_seek, All-front, All-back}
use Rattle.sst_bbt_spec.proofs.MarkFollows.{marked-seek, marked-prev}

-- ---- a part is passed as one block is

all-counted : (test : Entry → Bool) (entries : List Entry) (n : Option ℕ) → Counts n test entries → or_all entries n ≡ count_by test entries
all-counted test entries None many = sym many
all-counted test entries (Some n) many = many

alike : (v : Bool) (f : ℕ → ℕ) (x y : Option ℕ) (m n : ℕ) → x ≡ y → m ≡ n → cond v (option_map f x) (Some m) ≡ cond v (option_map f y) (Some n)
alike true f x y m n tops ins = ap (option_map f) tops
alike false f x y m n tops ins = ap Some ins

pub passed-whole : (is_before : List ℕ → Bool) (test : Entry → Bool) (parts : List Part) → Follows is_before test → SeparateWithin parts
    → All HasSeq (stored_in parts) → passed_in is_before test parts ≡ passed is_before test (map whole_of parts)
passed-whole is_before test [] f apart seqs = refl
passed-whole is_before test (part ∷ rest) f apart seqs =
    let front = All-front HasSeq (joined part.blocks) (stored_in rest) seqs in
    let back = All-back HasSeq (joined part.blocks) (stored_in rest) seqs in
    let inside = all-counted test (joined part.blocks) (passed is_before test part.blocks) (passed-counts is_before test part.blocks f apart.0 front) in
    alike (is_before part.separator) (λ n. length (joined part.blocks) + n) _ _ _ _ (passed-whole is_before test rest f apart.1 back) inside

-- so many of all entries are passed
pub part-counts : (is_before : List ℕ → Bool) (test : Entry → Bool) (parts : List Part) → Follows is_before test → SeparateParts parts
    → All HasSeq (stored_in parts) → Counts (passed_in is_before test parts) test (stored_in parts)
part-counts is_before test parts f apart seqs =
    subst (λ (n : Option ℕ). Counts n test (stored_in parts)) (sym (passed-whole is_before test parts f apart.0 seqs))
    (passed-counts is_before test (map whole_of parts) f apart.1 seqs)

-- ---- shown entries

count-shown : (test : Entry → Bool) (f : Entry → Entry) (entries : List Entry) → count_by test (map f entries) ≡ count_by (λ e. test (f e)) entries
count-shown test f [] = refl
count-shown test f (e ∷ rest) =
    let one = sum_by-cons (λ (x : Entry). cond (test x) 1 0) (f e) (map f rest) in
    let other = sum_by-cons (λ (x : Entry). cond (test (f x)) 1 0) e rest in
    one ∙ ap (λ (n : ℕ). cond (test (f e)) 1 0 + n) (count-shown test f rest) ∙ sym other

shown-counts : (test : Entry → Bool) (f : Entry → Entry) (entries : List Entry) (n : Option ℕ) → Counts n (λ e. test (f e)) entries
    → Counts n test (map f entries)
shown-counts test f entries None many = count-shown test f entries ∙ many ∙ sym (length-map entries f)
shown-counts test f entries (Some n) many = many ∙ sym (count-shown test f entries)

-- without a mark the entries are shown as they are stored
pub shown-none : (entries : List Entry) → map (shown None) entries ≡ entries
shown-none [] = refl
shown-none (e ∷ rest) = ap (λ (es : List Entry). e ∷ es) (shown-none rest)

-- ---- the three landings

pub seek-in_list : (mark : Option ℕ) (parts : List Part) (user : List ℕ) (seq : ℕ) → SeparateParts parts → All HasSeq (stored_in parts)
    → seek_in_parts mark parts user seq ≡ seek_of (shown_in mark parts) user seq
seek-in_list mark parts user seq apart seqs =
    seek-lands (shown_in mark parts) user seq (seek_passed_in mark parts user seq)
    (shown-counts (is_before_target user seq) (shown mark) (stored_in parts) _ (part-counts _ _ parts (marked-seek mark user seq) apart seqs))

pub prev-in_list : (mark : Option ℕ) (parts : List Part) (user : List ℕ) (seq : ℕ) → SeparateParts parts → All HasSeq (stored_in parts)
    → seek_for_prev_in_parts mark parts user seq ≡ seek_for_prev_of (shown_in mark parts) user seq
prev-in_list mark parts user seq apart seqs =
    prev-lands (shown_in mark parts) user seq (prev_passed_in mark parts user seq)
    (shown-counts (is_up_to_target user seq) (shown mark) (stored_in parts) _ (part-counts _ _ parts (marked-prev mark user seq) apart seqs))

pub get-in_list : (mark : Option ℕ) (parts : List Part) (user : List ℕ) (seq : ℕ) → SeparateParts parts → All HasSeq (stored_in parts)
    → get_in_parts mark parts user seq ≡ get_of (shown_in mark parts) user seq
get-in_list mark parts user seq apart seqs =
    let at : ℕ → Option ℕ = λ i. where_passes (is_of_user user) i (slice_get (shown_in mark parts) i) in
    ap (option_and_then at) (seek-in_list mark parts user seq apart seqs) ∙ get-at_seek (shown_in mark parts) user seq

-- ---- the calls

pub part-answer : (mark : Option ℕ) (parts : List Part) (position : Option ℕ) (call : Call) → SeparateParts parts → All HasSeq (stored_in parts)
    → answer_in_parts mark parts position call ≡ answer_of Block 0 (shown_in mark parts) position call
part-answer mark parts position (Get target) apart seqs = ap (shows position) (get-in_list mark parts target.user target.seq apart seqs)
part-answer mark parts position First apart seqs = refl
part-answer mark parts position Last apart seqs = refl
part-answer mark parts position (Seek target) apart seqs = ap lands (seek-in_list mark parts target.user target.seq apart seqs)
part-answer mark parts position (SeekForPrev target) apart seqs = ap lands (prev-in_list mark parts target.user target.seq apart seqs)
part-answer mark parts position Next apart seqs = refl
part-answer mark parts position Prev apart seqs = refl

pub part-replies : (mark : Option ℕ) (parts : List Part) (position : Option ℕ) (calls : List Call) → SeparateParts parts → All HasSeq (stored_in parts)
    → replies_in_parts_from mark parts position calls ≡ replies_from Block 0 (shown_in mark parts) position calls
part-replies mark parts position [] apart seqs = refl
part-replies mark parts position (call ∷ calls) apart seqs =
    let same = part-answer mark parts position call apart seqs in
    rw same (ap (λ l. answer_of Block 0 (shown_in mark parts) position call ∷ l) (part-replies mark parts (answer_of Block 0 (shown_in mark parts) position call).position calls apart seqs))
