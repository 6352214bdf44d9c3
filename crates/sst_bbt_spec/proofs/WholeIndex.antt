-- A whole index is parts of one block each: calls answer the same, and its separators separate alike.
use Rattle.std.proofs.Common.{◌≡◌, ℕ, ◌+◌, Bool, true, false, cond, List, [], ◌∷◌, ◌++◌, length, map, count_by, slice_get, Option, None, Some, option_and_then, refl, sym, ap, ◌∙◌, subst}
use Rattle.std.specs.Option.{option_map}
use Rattle.std.proofs.lemmas.List.{append-nil}
use Rattle.sst_key.specs.declared.entries.Entry.{Entry}
use Rattle.sst_key.specs.declared.calls.Call.{Call}
use Rattle.sst_key.specs.declared.calls.Call.TheVariants.{Get, First, Last, Seek, SeekForPrev, Next, Prev}
use Rattle.sst_key.specs.ListMachine.{is_before_target, is_up_to_target, is_of_user, where_passes, place_in, first_of, last_of, steps_on, shows, lands}
use Rattle.sst_block.specs.IndexRows.{IndexPair}
use Rattle.sst_meta.specs.BlockFooter.{footer_start}
use Rattle.sst_meta.specs.IndexForms.{index_form}
use Rattle.sst_meta.specs.declared.index_form.IndexForm.{IndexForm}
use Rattle.sst_bbt_spec.specs.Way.{IndexedBlock, joined, passed, last_passed, is_separator_before, seek_tag, seek_for_prev_tag, way_seek, way_get, way_seek_for_prev, way_answer, way_replies_from}
use Rattle.sst_bbt_spec.specs.Runs.{AreSeparated, BeginsAfter, IsAfterAll}
use Rattle.sst_bbt_spec.specs.BlockBased.{Opens}
use Rattle.sst_bbt_spec.specs.Parts.{Part, whole_of, alone, stored_in, separator_of}
use Rattle.sst_bbt_spec.specs.Mark.{shown_in}
use Rattle.sst_bbt_spec.specs.PartWay.{or_all, passed_in, seek_passed_in, prev_passed_in, seek_in_parts, get_in_parts, seek_for_prev_in_parts, answer_in_parts, replies_in_parts_from}
use Rattle.sst_bbt_spec.specs.PartRuns.{ArePartsSeparated}
use Rattle.sst_bbt_spec.specs.IndexLeads.{LeadToBlocks, LeadsWithin, LeadToParts}
use Rattle.sst_bbt_spec.proofs.PartLaws.{shown-none}
use Rattle.sst_bbt_spec.proofs.PartOrder.{key-same}
use Rattle.sst_bbt_spec.proofs.PartsLead.{part-made}

-- ---- the list and the ways

pub stored-alone : (blocks : List IndexedBlock) → stored_in (map alone blocks) ≡ joined blocks
stored-alone [] = refl
stored-alone (block ∷ rest) =
    ap (λ (es : List Entry). es ++ stored_in (map alone rest)) (append-nil block.entries)
    ∙ ap (λ (es : List Entry). block.entries ++ es) (stored-alone rest)

shown-alone : (blocks : List IndexedBlock) → shown_in None (map alone blocks) ≡ joined blocks
shown-alone blocks = shown-none (stored_in (map alone blocks)) ∙ stored-alone blocks

passed-one : (v : Bool) (entries same : List Entry) (n : ℕ) (x y : Option ℕ) → same ≡ entries → x ≡ y
    → cond v (option_map (λ m. length same + m) x) (Some (or_all same (cond v (option_map (λ m. length entries + m) None) (Some n))))
    ≡ cond v (option_map (λ m. length entries + m) y) (Some n)
passed-one true entries same n x y are tops =
    ap (λ (es : List Entry). option_map (λ m. length es + m) x) are ∙ ap (λ (o : Option ℕ). option_map (λ m. length entries + m) o) tops
passed-one false entries same n x y are tops = refl

passed-alone : (is_before : List ℕ → Bool) (test : Entry → Bool) (blocks : List IndexedBlock)
    → passed_in is_before test (map alone blocks) ≡ passed is_before test blocks
passed-alone is_before test [] = refl
passed-alone is_before test (block ∷ rest) =
    passed-one (is_before block.separator) block.entries (block.entries ++ []) (count_by test block.entries) _ _ (append-nil block.entries) (passed-alone is_before test rest)

seek-alone : (blocks : List IndexedBlock) (user : List ℕ) (seq : ℕ) → seek_in_parts None (map alone blocks) user seq ≡ way_seek blocks user seq
seek-alone blocks user seq =
    ap (λ (es : List Entry). option_and_then (λ n. place_in es n) (seek_passed_in None (map alone blocks) user seq)) (shown-alone blocks)
    ∙ ap (option_and_then (λ n. place_in (joined blocks) n)) (passed-alone (is_separator_before user (seek_tag seq)) (is_before_target user seq) blocks)

get-alone : (blocks : List IndexedBlock) (user : List ℕ) (seq : ℕ) → get_in_parts None (map alone blocks) user seq ≡ way_get blocks user seq
get-alone blocks user seq =
    ap (λ (es : List Entry). option_and_then (λ i. where_passes (is_of_user user) i (slice_get es i)) (seek_in_parts None (map alone blocks) user seq)) (shown-alone blocks)
    ∙ ap (option_and_then (λ i. where_passes (is_of_user user) i (slice_get (joined blocks) i))) (seek-alone blocks user seq)

prev-alone : (blocks : List IndexedBlock) (user : List ℕ) (seq : ℕ)
    → seek_for_prev_in_parts None (map alone blocks) user seq ≡ way_seek_for_prev blocks user seq
prev-alone blocks user seq =
    ap (λ (es : List Entry). last_passed es (prev_passed_in None (map alone blocks) user seq)) (shown-alone blocks)
    ∙ ap (last_passed (joined blocks)) (passed-alone (is_separator_before user (seek_for_prev_tag seq)) (is_up_to_target user seq) blocks)

pub answer-alone : (blocks : List IndexedBlock) (position : Option ℕ) (call : Call)
    → answer_in_parts None (map alone blocks) position call ≡ way_answer blocks position call
answer-alone blocks position (Get target) = ap (shows position) (get-alone blocks target.user target.seq)
answer-alone blocks position First = ap (λ (es : List Entry). lands (first_of es)) (shown-alone blocks)
answer-alone blocks position Last = ap (λ (es : List Entry). lands (last_of es)) (shown-alone blocks)
answer-alone blocks position (Seek target) = ap lands (seek-alone blocks target.user target.seq)
answer-alone blocks position (SeekForPrev target) = ap lands (prev-alone blocks target.user target.seq)
answer-alone blocks position Next = ap (λ (es : List Entry). steps_on es position) (shown-alone blocks)
answer-alone blocks position Prev = refl

pub replies-alone : (blocks : List IndexedBlock) (position : Option ℕ) (calls : List Call)
    → replies_in_parts_from None (map alone blocks) position calls ≡ way_replies_from blocks position calls
replies-alone blocks position [] = refl
replies-alone blocks position (call ∷ calls) =
    let same = answer-alone blocks position call in
    rw same (ap (λ l. way_answer blocks position call ∷ l) (replies-alone blocks (way_answer blocks position call).position calls))

-- ---- the parts of a whole index have one block each

abbrev pub AreAlone : List Part → Type 0
AreAlone parts = (blocks : List IndexedBlock) × (parts ≡ map alone blocks)

one-block : (file : List ℕ) (end : ℕ) (user_keys : Bool) (pair : IndexPair) (separator : List ℕ) (blocks : List IndexedBlock)
    → separator_of user_keys pair.separator ≡ separator → LeadToBlocks file end user_keys (pair ∷ []) blocks
    → (block : IndexedBlock) × (◌≡◌ {A = Part} (record { separator = separator; blocks = blocks }) (alone block))
one-block file end user_keys pair separator [] top lead = absurd lead
one-block file end user_keys pair separator (block ∷ rest) top lead =
    (block, part-made separator block.separator (block ∷ rest) (block ∷ []) (sym top ∙ lead.0) (ap (λ (l : List IndexedBlock). block ∷ l) lead.2))

within-alone : (parted : Bool) (file : List ℕ) (end : ℕ) (form : IndexForm) (pair : IndexPair) (part : Part) → parted ≡ false
    → separator_of form.user_key pair.separator ≡ part.separator → LeadsWithin parted file end form pair part.blocks
    → (block : IndexedBlock) × (part ≡ alone block)
within-alone true file end form pair part is top lead = cc
within-alone false file end form pair part is top lead = one-block file end form.user_key pair part.separator part.blocks top lead

led-alone : (file : List ℕ) (end : ℕ) (form : IndexForm) (pairs : List IndexPair) (parts : List Part) → form.parted ≡ false
    → LeadToParts file end form pairs parts → AreAlone parts
led-alone file end form [] parts is lead = ([], lead)
led-alone file end form (pair ∷ pairs) [] is lead = absurd lead
led-alone file end form (pair ∷ pairs) (part ∷ parts) is lead =
    let here = within-alone form.parted file end form pair part is lead.0 lead.1 in
    let more = led-alone file end form pairs parts is lead.2 in
    (here.0 ∷ more.0, ap (λ (p : Part). p ∷ parts) here.1 ∙ ap (λ (l : List Part). alone here.0 ∷ l) more.1)

pub opens-alone : (file : List ℕ) (parts : List Part) (opens : Opens file parts) → (index_form opens.loaded.props).parted ≡ false → AreAlone parts
opens-alone file parts opens is = led-alone file (footer_start file) (index_form opens.loaded.props) opens.pairs parts is opens.lead

-- ---- the list that runs through them

begins-alone : (separator : List ℕ) (blocks : List IndexedBlock) → IsAfterAll separator blocks → IsAfterAll separator (map whole_of (map alone blocks))
begins-alone separator [] after = tt
begins-alone separator (block ∷ rest) after = subst (λ (es : List Entry). BeginsAfter separator es) (sym (append-nil block.entries)) after

alone-begins : (separator : List ℕ) (blocks : List IndexedBlock) → IsAfterAll separator (map whole_of (map alone blocks)) → IsAfterAll separator blocks
alone-begins separator [] after = tt
alone-begins separator (block ∷ rest) after = subst (λ (es : List Entry). BeginsAfter separator es) (append-nil block.entries) after

pub alone-separated : (blocks : List IndexedBlock) → AreSeparated blocks → ArePartsSeparated (map alone blocks)
alone-separated [] apart = tt
alone-separated (block ∷ rest) apart =
    ((apart.0, tt, tt), key-same block.separator, begins-alone block.separator rest apart.1, alone-separated rest apart.2)

pub separated-alone : (blocks : List IndexedBlock) → ArePartsSeparated (map alone blocks) → AreSeparated blocks
separated-alone [] apart = tt
separated-alone (block ∷ rest) apart = (apart.0.0, alone-begins block.separator rest apart.2, separated-alone rest apart.3)
