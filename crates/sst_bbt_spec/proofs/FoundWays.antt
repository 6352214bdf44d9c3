-- On a tree that is found without a fault, the way of each call ends at the entry that is counted.
use Rattle.std.proofs.Common.{◌≡◌, ℕ, zero, suc, ◌+◌, ◌<◌, Bool, true, false, List, [], ◌∷◌, ◌++◌, length, take, slice_get, Option, None, Some, option_and_then, All, Ok, Err, length-append, refl, sym, ap, ◌∙◌, subst, arith}
use Rattle.std.specs.Option.{option_map}
use Rattle.std.proofs.lemmas.List.{length-map}
use Rattle.std.proofs.lemmas.Option.{same_Some, slice_get-map}
use Rattle.sst_key.specs.declared.entries.Entry.{Entry}
use Rattle.sst_key.specs.declared.calls.Call.{Call}
use Rattle.sst_key.specs.declared.calls.Call.TheVariants.{Get, First, Last, Seek, SeekForPrev, Next, Prev}
use Rattle.sst_key.specs.ListMachine.{answer_of, shows, next_of, prev_of, place_in, place_before, where_passes, is_of_user, is_before_target, is_up_to_target}
use Rattle.sst_key.specs.declared.calls.Answer.{Answer}
use Rattle.sst_key.specs.declared.calls.Format.TheVariants.{Block}
use Rattle.sst_key.proofs.Counting.{stands}
use Rattle.sst_bbt_spec.specs.Rows.{HasSeq}
use Rattle.sst_bbt_spec.specs.Way.{IndexedBlock, joined, last_passed}
use Rattle.sst_bbt_spec.specs.Parts.{Part, stored_in}
use Rattle.sst_bbt_spec.specs.Mark.{shown, shown_in, is_before_seek, is_before_prev}
use Rattle.sst_bbt_spec.specs.PartWay.{or_all, seek_passed_in, prev_passed_in, seek_in_parts, get_in_parts, seek_for_prev_in_parts, answer_in_parts}
use Rattle.sst_bbt_spec.specs.FoundParts.{FoundBlock, FoundPart, Place, Landing, then_open, opened, entry_in, AreFound, IsFound, AllFound, IsNumbered, AreNumbered, LandsAt}
use Rattle.sst_bbt_spec.specs.Landings.{seek_landing, seek_for_prev_landing, place_if, of_user, first_from, last_from, forward_from, back_from, landing_of}
use Rattle.sst_bbt_spec.specs.PartRuns.{SeparateParts}
use Rattle.sst_bbt_spec.specs.BlockBased.{BlockBased}
use Rattle.sst_bbt_spec.proofs.PlacesNumbered.{Lands, lands-as, within, At, tree-numbers, lands-at}
use Rattle.sst_bbt_spec.proofs.FoundForward.{first-parts, seek-parts, forward-parts}
use Rattle.sst_bbt_spec.proofs.FoundBack.{last-parts, prev-parts, back-parts}
use Rattle.sst_bbt_spec.proofs.PartLaws.{part-answer, shown-none}
use Rattle.sst_bbt_spec.proofs.Stands.{opens-seqs, stands-separate}

-- ---- the entry at a place

get-front : (xs ys : List Entry) (i : ℕ) → i < length xs → slice_get (xs ++ ys) i ≡ slice_get xs i
get-front [] ys i low = absurd (omega (arith, low))
get-front (x ∷ xs) ys zero low = refl
get-front (x ∷ xs) ys (suc i) low = get-front xs ys i (omega (arith, low))

get-zero : (xs : List Entry) (i : ℕ) → slice_get xs (0 + i) ≡ slice_get xs i
get-zero xs i = let same : 0 + i ≡ i = omega arith in ap (slice_get xs) same

get-back : (xs ys : List Entry) (i : ℕ) → slice_get (xs ++ ys) (length xs + i) ≡ slice_get ys i
get-back [] ys i = get-zero ys i
get-back (x ∷ xs) ys i =
    let same : length (x ∷ xs) + i ≡ suc (length xs + i) = omega arith in
    ap (slice_get (x ∷ (xs ++ ys))) same ∙ get-back xs ys i

-- a block at a place is found, and its rows stand in the list of all
pub record BlockStands {F : Type 0} (found : List (FoundBlock F)) (blocks : List IndexedBlock) (at : ℕ) (bl : IndexedBlock) : Type 0 where
  pub block : FoundBlock F
  pub stands : slice_get found at ≡ Some block
  pub entries : block.entries ≡ Ok bl.entries
  pub rows : (row : ℕ) → row < length bl.entries → slice_get (joined blocks) (length (joined (take at blocks)) + row) ≡ slice_get bl.entries row
  pub fits : (row : ℕ) → row < length bl.entries → length (joined (take at blocks)) + row < length (joined blocks)

block-stands : {F : Type 0} (found : List (FoundBlock F)) (blocks : List IndexedBlock) (at : ℕ) (bl : IndexedBlock)
    → AreFound found blocks → slice_get blocks at ≡ Some bl → BlockStands found blocks at bl
block-stands [] [] at bl are stands = cc
block-stands [] (b ∷ blocks) at bl are stands = cc
block-stands (f ∷ rest) [] at bl are stands = absurd are
block-stands (f ∷ rest) (b ∷ blocks) zero bl are stands =
    let same = same_Some b bl stands in
    let size : length b.entries ≡ length bl.entries = ap (λ (x : IndexedBlock). length x.entries) same in
    record {
      block = f;
      stands = refl;
      entries = are.1 ∙ ap (λ (x : IndexedBlock). Ok x.entries) same;
      rows = λ row low. get-zero (b.entries ++ joined blocks) row ∙ get-front b.entries (joined blocks) row (omega (arith, size, low))
          ∙ ap (λ (x : IndexedBlock). slice_get x.entries row) same;
      fits = λ row low. omega (arith, low, size, length-append b.entries (joined blocks));
    }
block-stands (f ∷ rest) (b ∷ blocks) (suc at) bl are stands =
    let more = block-stands rest blocks at bl are.2 stands in
    let front = length-append b.entries (joined (take at blocks)) in
    record {
      block = more.block;
      stands = more.stands;
      entries = more.entries;
      rows = λ row low.
          let same : length (joined (take (suc at) (b ∷ blocks))) + row ≡ length b.entries + (length (joined (take at blocks)) + row) = omega (arith, front) in
          ap (slice_get (b.entries ++ joined blocks)) same ∙ get-back b.entries (joined blocks) (length (joined (take at blocks)) + row) ∙ more.rows row low;
      fits = λ row low. omega (arith, front, more.fits row low, length-append b.entries (joined blocks));
    }

pub record PartStands {F : Type 0} (found : List (FoundPart F)) (parts : List Part) (at : ℕ) (p : Part) : Type 0 where
  pub part : FoundPart F
  pub stands : slice_get found at ≡ Some part
  pub is : IsFound part p
  pub entries : (i : ℕ) → i < length (joined p.blocks) → slice_get (stored_in parts) (length (stored_in (take at parts)) + i) ≡ slice_get (joined p.blocks) i

part-stands : {F : Type 0} (found : List (FoundPart F)) (parts : List Part) (at : ℕ) (p : Part)
    → AllFound found parts → slice_get parts at ≡ Some p → PartStands found parts at p
part-stands [] [] at p all stands = cc
part-stands [] (q ∷ parts) at p all stands = cc
part-stands (f ∷ rest) [] at p all stands = absurd all
part-stands (f ∷ rest) (q ∷ parts) zero p all stands =
    let same = same_Some q p stands in
    let size : length (joined q.blocks) ≡ length (joined p.blocks) = ap (λ (x : Part). length (joined x.blocks)) same in
    record {
      part = f;
      stands = refl;
      is = subst (λ (x : Part). IsFound f x) same all.0;
      entries = λ i low. get-zero (joined q.blocks ++ stored_in parts) i ∙ get-front (joined q.blocks) (stored_in parts) i (omega (arith, size, low))
          ∙ ap (λ (x : Part). slice_get (joined x.blocks) i) same;
    }
part-stands (f ∷ rest) (q ∷ parts) (suc at) p all stands =
    let more = part-stands rest parts at p all.1 stands in
    let front = length-append (joined q.blocks) (stored_in (take at parts)) in
    record {
      part = more.part;
      stands = more.stands;
      is = more.is;
      entries = λ i low.
          let same : length (stored_in (take (suc at) (q ∷ parts))) + i ≡ length (joined q.blocks) + (length (stored_in (take at parts)) + i) = omega (arith, front) in
          ap (slice_get (joined q.blocks ++ stored_in parts)) same ∙ get-back (joined q.blocks) (stored_in parts) (length (stored_in (take at parts)) + i) ∙ more.entries i low;
    }

-- the entry at a place is the one of its number
pub record PlaceShows {F : Type 0} (found : List (FoundPart F)) (parts : List Part) (place : Place) (number : ℕ) : Type 0 where
  pub entry : Entry
  pub here : entry_in found place ≡ Some entry
  pub there : slice_get (stored_in parts) number ≡ Some entry

row-in : {F : Type 0} (block : FoundBlock F) (entries : List Entry) (row : ℕ) (e : Entry) → block.entries ≡ Ok entries → slice_get entries row ≡ Some e
    → slice_get (opened block.entries) row ≡ Some e
row-in block entries row e is at = ap (λ r. slice_get (opened r) row) is ∙ at

block-in : {F : Type 0} (part : FoundPart F) (inside : List (FoundBlock F)) (at row : ℕ) (block : FoundBlock F) → part.blocks ≡ Ok inside
    → slice_get inside at ≡ Some block
    → option_and_then (λ (b : FoundBlock F). slice_get (opened b.entries) row) (slice_get (opened part.blocks) at) ≡ slice_get (opened block.entries) row
block-in {F} part inside at row block is stands =
    ap (λ r. option_and_then (λ (b : FoundBlock F). slice_get (opened b.entries) row) (slice_get (opened r) at)) is
    ∙ ap (option_and_then (λ (b : FoundBlock F). slice_get (opened b.entries) row)) stands

part-in : {F : Type 0} (found : List (FoundPart F)) (place : Place) (part : FoundPart F) → slice_get found place.part ≡ Some part
    → entry_in found place ≡ option_and_then (λ (b : FoundBlock F). slice_get (opened b.entries) place.row) (slice_get (opened part.blocks) place.block)
part-in {F} found place part stands =
    ap (option_and_then (λ (p : FoundPart F). option_and_then (λ (b : FoundBlock F). slice_get (opened b.entries) place.row) (slice_get (opened p.blocks) place.block))) stands

pub place-shows : {F : Type 0} (found : List (FoundPart F)) (parts : List Part) (place : Place) (number : ℕ)
    → AllFound found parts → IsNumbered parts place number → PlaceShows found parts place number
place-shows found parts place number all at =
    let outer = part-stands found parts place.part at.part all at.at_part in
    let is = outer.is in
    let inner = block-stands is.inside at.part.blocks place.block at.block is.blocks at.at_block in
    let e = stands at.block.entries place.row at.at_row in
    let row = row-in inner.block at.block.entries place.row e.0 inner.entries e.1 in
    record {
      entry = e.0;
      here = part-in found place outer.part outer.stands ∙ block-in outer.part is.inside place.block place.row inner.block is.is inner.stands ∙ row;
      there =
          ap (slice_get (stored_in parts)) at.counts
          ∙ outer.entries (length (joined (take place.block at.part.blocks)) + place.row) (inner.fits place.row at.at_row)
          ∙ inner.rows place.row at.at_row ∙ e.1;
    }

-- ---- the calls

total-shown : (mark : Option ℕ) (parts : List Part) (n : ℕ) → within (length (stored_in parts)) n ≡ place_in (shown_in mark parts) n
total-shown mark parts n = ap (λ (total : ℕ). within total n) (sym (length-map (stored_in parts) (shown mark)))

all-entries : (parts : List Part) → 0 + length (stored_in parts) ≡ length (stored_in parts)
all-entries parts = omega arith

first-lands : {F : Type 0} (mark : Option ℕ) (found : List (FoundPart F)) (parts : List Part) → AllFound found parts
    → Lands (At parts) (first_from 0 found) (place_in (shown_in mark parts) 0)
first-lands mark found parts all =
    lands-as (At parts) _ _ _ _ refl (sym (total-shown mark parts 0))
    (first-parts (At parts) 0 0 (length (stored_in parts)) found parts all (tree-numbers parts) (all-entries parts))

last-lands : {F : Type 0} (mark : Option ℕ) (found : List (FoundPart F)) (parts : List Part) → AllFound found parts
    → Lands (At parts) (last_from 0 found (Ok None)) (place_before (length (shown_in mark parts)))
last-lands mark found parts all =
    lands-as (At parts) _ _ _ _ refl (ap place_before (length-map (stored_in parts) (shown mark)))
    (last-parts (At parts) 0 0 (length (stored_in parts)) found parts (Ok None) all (tree-numbers parts) (all-entries parts) refl)

seek-number : (mark : Option ℕ) (parts : List Part) (n : Option ℕ)
    → option_and_then (λ k. place_in (shown_in mark parts) k) n ≡ option_and_then (λ k. within (length (stored_in parts)) (0 + k)) n
seek-number mark parts None = refl
seek-number mark parts (Some k) =
    let same : k ≡ 0 + k = omega arith in
    sym (total-shown mark parts k) ∙ ap (within (length (stored_in parts))) same

seek-lands_at : {F : Type 0} (mark : Option ℕ) (found : List (FoundPart F)) (parts : List Part) (user : List ℕ) (seq : ℕ) → AllFound found parts
    → Lands (At parts) (seek_landing mark found user seq) (seek_in_parts mark parts user seq)
seek-lands_at mark found parts user seq all =
    lands-as (At parts) _ _ _ _ refl (seek-number mark parts (seek_passed_in mark parts user seq))
    (seek-parts (At parts) (is_before_seek mark user seq) (λ e. is_before_target user seq (shown mark e)) 0 0 (length (stored_in parts)) found parts all (tree-numbers parts) (all-entries parts))

prev-number : (mark : Option ℕ) (parts : List Part) (n : Option ℕ) → last_passed (shown_in mark parts) n ≡ place_before (0 + or_all (stored_in parts) n)
prev-number mark parts None =
    let same : length (shown_in mark parts) ≡ 0 + length (stored_in parts) = omega (arith, length-map (stored_in parts) (shown mark)) in
    ap place_before same
prev-number mark parts (Some k) = let same : k ≡ 0 + k = omega arith in ap place_before same

prev-lands_at : {F : Type 0} (mark : Option ℕ) (found : List (FoundPart F)) (parts : List Part) (user : List ℕ) (seq : ℕ) → AllFound found parts
    → Lands (At parts) (seek_for_prev_landing mark found user seq) (seek_for_prev_in_parts mark parts user seq)
prev-lands_at mark found parts user seq all =
    lands-as (At parts) _ _ _ _ refl (prev-number mark parts (prev_passed_in mark parts user seq))
    (prev-parts (At parts) (is_before_prev mark user seq) (λ e. is_up_to_target user seq (shown mark e)) 0 0 found parts (Ok None) all (tree-numbers parts) refl)

-- ---- Get

user-shown : (mark : Option ℕ) (user : List ℕ) (e : Entry) → is_of_user user (shown mark e) ≡ is_of_user user e
user-shown None user e = refl
user-shown (Some number) user e = refl

get-by : {F : Type 0} (parts : List Part) (v : Bool) (place : Place) (n : ℕ) (user : List ℕ) (e f : Entry) (o : Option Entry) (q : Option Entry) (landing : Landing F)
    → is_of_user user e ≡ v → is_of_user user f ≡ v → o ≡ Some e → q ≡ Some f → IsNumbered parts place n
    → landing ≡ Ok (place_if (is_of_user user) place o) → Lands (At parts) landing (where_passes (is_of_user user) n q)
get-by parts true place n user e f o q landing is shown_is here there at lands =
    let kept : place_if (is_of_user user) place o ≡ Some place = ap (place_if (is_of_user user) place) here ∙ rw is refl in
    let number : where_passes (is_of_user user) n q ≡ Some n = ap (where_passes (is_of_user user) n) there ∙ rw shown_is refl in
    lands-as (At parts) landing (Ok (Some place)) _ (Some n) (lands ∙ ap Ok kept) number (place, refl, at)
get-by parts false place n user e f o q landing is shown_is here there at lands =
    let kept : place_if (is_of_user user) place o ≡ None = ap (place_if (is_of_user user) place) here ∙ rw is refl in
    let number : where_passes (is_of_user user) n q ≡ None = ap (where_passes (is_of_user user) n) there ∙ rw shown_is refl in
    lands-as (At parts) landing (Ok None) _ None (lands ∙ ap Ok kept) number refl

get-after_seek : {F : Type 0} (mark : Option ℕ) (found : List (FoundPart F)) (parts : List Part) (user : List ℕ) (landing : Landing F) (n : Option ℕ)
    → AllFound found parts → Lands (At parts) landing n
    → Lands (At parts) (then_open landing (λ at. Ok (of_user found user at)))
    (option_and_then (λ i. where_passes (is_of_user user) i (slice_get (shown_in mark parts) i)) n)
get-after_seek mark found parts user landing None all lands = ap (λ l. then_open l (λ at. Ok (of_user found user at))) lands
get-after_seek mark found parts user landing (Some n) all lands =
    let place = lands.0 in
    let shows = place-shows found parts place n all lands.2 in
    let there : slice_get (shown_in mark parts) n ≡ Some (shown mark shows.entry) =
    slice_get-map (shown mark) (stored_in parts) n ∙ ap (option_map (shown mark)) shows.there in
    get-by parts (is_of_user user shows.entry) place n user shows.entry (shown mark shows.entry) (entry_in found place) (slice_get (shown_in mark parts) n) _
    refl (user-shown mark user shows.entry) shows.here there lands.2 (ap (λ l. then_open l (λ at. Ok (of_user found user at))) lands.1)

-- ---- Next and Prev

next-number : (mark : Option ℕ) (parts : List Part) (n k : ℕ) → n ≡ k → place_in (shown_in mark parts) (n + 1) ≡ within (length (stored_in parts)) (0 + suc k)
next-number mark parts n k e =
    let same : n + 1 ≡ 0 + suc k = omega (arith, e) in
    sym (total-shown mark parts (n + 1)) ∙ ap (within (length (stored_in parts))) same

next-lands : {F : Type 0} (mark : Option ℕ) (found : List (FoundPart F)) (parts : List Part) (place : Place) (n : ℕ) → AllFound found parts
    → IsNumbered parts place n → Lands (At parts) (forward_from 0 found place.part place.block place.row) (next_of (shown_in mark parts) n)
next-lands mark found parts place n all at =
    lands-as (At parts) _ _ _ _ refl (next-number mark parts n _ at.counts)
    (forward-parts (At parts) 0 0 (length (stored_in parts)) place.part place.block place.row at.part at.block found parts all (tree-numbers parts) (all-entries parts) at.at_part at.at_block at.at_row)

back-number : (n k : ℕ) → n ≡ k → place_before n ≡ place_before (0 + k)
back-number n k e = let same : n ≡ 0 + k = omega (arith, e) in ap place_before same

back-lands : {F : Type 0} (found : List (FoundPart F)) (parts : List Part) (place : Place) (n : ℕ) → AllFound found parts
    → IsNumbered parts place n → Lands (At parts) (back_from 0 found place.part place.block place.row (Ok None)) (prev_of n)
back-lands found parts place n all at =
    lands-as (At parts) _ _ _ _ refl (back-number n _ at.counts)
    (back-parts (At parts) 0 0 place.part place.block place.row at.part at.block found parts (Ok None) all (tree-numbers parts) at.at_part at.at_block at.at_row refl)

-- what a call shows is where it lands
shown-is : (position place : Option ℕ) → (shows position place).shown ≡ place
shown-is position None = refl
shown-is position (Some i) = refl

shows-there : {F : Type 0} (parts : List Part) (landing : Landing F) (position place : Option ℕ) → Lands (At parts) landing place
    → Lands (At parts) landing (shows position place).shown
shows-there parts landing position place there = lands-as (At parts) landing landing _ _ refl (shown-is position place) there

way-ends : {F : Type 0} (mark : Option ℕ) (found : List (FoundPart F)) (parts : List Part) (position : Option Place) (number : Option ℕ) (call : Call)
    → AllFound found parts → AreNumbered parts position number
    → Lands (At parts) (landing_of mark found position call) (answer_in_parts mark parts number call).shown
way-ends mark found parts position number (Get target) all at =
    shows-there parts _ number (get_in_parts mark parts target.user target.seq)
    (get-after_seek mark found parts target.user _ _ all (seek-lands_at mark found parts target.user target.seq all))
way-ends mark found parts position number First all at = shows-there parts _ _ _ (first-lands mark found parts all)
way-ends mark found parts position number Last all at = shows-there parts _ _ _ (last-lands mark found parts all)
way-ends mark found parts position number (Seek target) all at = shows-there parts _ _ _ (seek-lands_at mark found parts target.user target.seq all)
way-ends mark found parts position number (SeekForPrev target) all at = shows-there parts _ _ _ (prev-lands_at mark found parts target.user target.seq all)
way-ends mark found parts None None Next all at = refl
way-ends mark found parts None (Some n) Next all at = absurd at
way-ends mark found parts (Some place) None Next all at = absurd at
way-ends mark found parts (Some place) (Some n) Next all at = shows-there parts _ _ _ (next-lands mark found parts place n all at)
way-ends mark found parts None None Prev all at = refl
way-ends mark found parts None (Some n) Prev all at = absurd at
way-ends mark found parts (Some place) None Prev all at = absurd at
way-ends mark found parts (Some place) (Some n) Prev all at = shows-there parts _ _ _ (back-lands found parts place n all at)

pub way-lands : {F : Type 0} (mark : Option ℕ) (found : List (FoundPart F)) (parts : List Part) (position : Option Place) (number : Option ℕ) (call : Call)
    → AllFound found parts → AreNumbered parts position number
    → LandsAt parts (landing_of mark found position call) (answer_in_parts mark parts number call).shown
way-lands mark found parts position number call all at =
    lands-at parts (landing_of mark found position call) (answer_in_parts mark parts number call).shown (way-ends mark found parts position number call all at)

-- where the tree stands for a list, it is the list's entry
pub way-lands_in_list : {F : Type 0} (mark : Option ℕ) (found : List (FoundPart F)) (parts : List Part) (position : Option Place) (number : Option ℕ) (call : Call)
    → AllFound found parts → AreNumbered parts position number → SeparateParts parts → All HasSeq (stored_in parts)
    → LandsAt parts (landing_of mark found position call) (answer_of Block 0 (shown_in mark parts) number call).shown
way-lands_in_list mark found parts position number call all at apart seqs =
    subst (λ (a : Answer). LandsAt parts (landing_of mark found position call) a.shown) (part-answer mark parts number call apart seqs)
    (way-lands mark found parts position number call all at)

pub way-lands_in_file : {F : Type 0} (file : List ℕ) (entries : List Entry) (stands : BlockBased file entries)
    (found : List (FoundPart F)) (position : Option Place) (number : Option ℕ) (call : Call)
    → AllFound found stands.parts → AreNumbered stands.parts position number
    → LandsAt stands.parts (landing_of None found position call) (answer_of Block 0 entries number call).shown
way-lands_in_file file entries stands found position number call all at =
    let is : shown_in None stands.parts ≡ entries = shown-none (stored_in stands.parts) ∙ stands.runs.joined_is in
    subst (λ (es : List Entry). LandsAt stands.parts (landing_of None found position call) (answer_of Block 0 es number call).shown) is
    (way-lands_in_list None found stands.parts position number call all at (stands-separate file entries stands) (opens-seqs file stands.parts stands.opens))

-- no fault ends a way there
pub no-fault : {F : Type 0} (mark : Option ℕ) (found : List (FoundPart F)) (parts : List Part) (position : Option Place) (number : Option ℕ) (call : Call) (fault : F)
    → AllFound found parts → AreNumbered parts position number → landing_of mark found position call ≡ Err fault → ⊥
no-fault mark found parts position number call fault all at is =
    let ends = way-lands mark found parts position number call all at in
    let same : Ok ends.place ≡ Err fault = sym ends.is ∙ is in
    cc
