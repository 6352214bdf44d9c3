-- What a table keeps as it grows: data blocks behind those before, and parts of the index behind those before.
use Rattle.std.proofs.Common.{◌≡◌, ℕ, ◌+◌, ◌-◌, ◌<◌, ◌≤◌, suc, false, List, [], ◌∷◌, ◌++◌, length, take, drop, All, refl, sym, ap, ◌∙◌, subst, arith}
use Rattle.std.proofs.Math.Seq.{drop-append_seam}
use Rattle.std.proofs.lemmas.List.{map-append, take_all, take-append-le, drop-append-le, length-drop}
use Rattle.std.proofs.lemmas.List.Elements.{All-nil, All-cons, All-head, All-tail}
use Rattle.sst_key.specs.declared.entries.Entry.{Entry}
use Rattle.sst_block.specs.declared.row_form.RowForm.TheVariants.{Index}
use Rattle.sst_block.specs.Block.{AreOrdered}
use Rattle.sst_bbt_spec.specs.Parts.{Part}
use Rattle.sst_bbt_spec.specs.Way.{IndexedBlock}
use Rattle.sst_bbt_read.specs.GrownTable.{lead_separators}
use Rattle.sst_bbt_read.specs.KeptLeads.{AreLeads, lead_rows}
use Rattle.sst_bbt_read.specs.TableBlocks.{AreEnds, AreSeparators, EachPart, separators_of, separator_rows, blocks_from, parts_from}
use Rattle.sst_bbt_read.specs.declared.kept_table.RunEnd.{RunEnd}
use Rattle.sst_bbt_read.specs.declared.kept_table.index_leads.IndexLead.{IndexLead}

-- ---- runs behind runs

pub ends-order : (start : ℕ) (ends : List RunEnd) (count : ℕ) → AreEnds start ends count → start ≤ count
ends-order start [] count are = omega (arith, are)
ends-order start (b ∷ rest) count are = omega (arith, are.0, are.1)

pub ends-append : (start : ℕ) (ends added : List RunEnd) (count more : ℕ) → AreEnds start ends count → AreEnds count added more → AreEnds start (ends ++ added) more
ends-append start [] added count more are behind = subst (λ (n : ℕ). AreEnds n added more) (sym are) behind
ends-append start (b ∷ rest) added count more are behind =
    (are.0, omega (arith, are.1, ends-order count added more behind), ends-append b.end rest added count more are.2 behind)

-- one run
pub ends-one : (start : ℕ) (last : RunEnd) → start < last.end → AreEnds start (last ∷ []) last.end
ends-one start last more = (more, omega arith, refl)

-- a front of a list stays as the list grows
front_same : {A : Type 0} (start end : ℕ) (xs more : List A) → start ≤ end → end ≤ length xs → take (end - start) (drop start (xs ++ more)) ≡ take (end - start) (drop start xs)
front_same start end xs more order within =
    let begins : start ≤ length xs = omega arith in
    ap (λ l. take (end - start) l) (drop-append-le start xs more begins) ∙ take-append-le (end - start) (drop start xs) more (omega (arith, length-drop start xs))

-- what is added stands behind
pub all_added : {A : Type 0} (start end : ℕ) (xs added : List A) → start ≡ length xs → end ≡ length xs + length added → take (end - start) (drop start (xs ++ added)) ≡ added
all_added start end xs added begins ends =
    ap (λ (n : ℕ). take (end - start) (drop n (xs ++ added))) begins ∙ ap (λ l. take (end - start) l) (drop-append_seam xs added) ∙ take_all (end - start) added (omega arith)

-- ---- data blocks

block_made : (separator : List ℕ) (a b : List Entry) → a ≡ b → ◌≡◌ {A = IndexedBlock} (record { separator = separator; entries = a }) (record { separator = separator; entries = b })
block_made separator a b same = rw same refl

pub blocks-append : (start : ℕ) (ends added : List RunEnd) (entries more : List Entry) → AreEnds start ends (length entries)
    → blocks_from start (ends ++ added) (entries ++ more) ≡ blocks_from start ends entries ++ blocks_from (length entries) added (entries ++ more)
blocks-append start [] added entries more are = ap (λ (n : ℕ). blocks_from n added (entries ++ more)) are
blocks-append start (b ∷ rest) added entries more are =
    let order : start ≤ b.end = omega (arith, are.0) in
    let first = block_made b.separator _ (take (b.end - start) (drop start entries)) (front_same start b.end entries more order are.1) in
    ap (λ (x : IndexedBlock). x ∷ blocks_from b.end (rest ++ added) (entries ++ more)) first
    ∙ ap (λ (bs : List IndexedBlock). record { separator = b.separator; entries = take (b.end - start) (drop start entries) } ∷ bs)
    (blocks-append b.end rest added entries more are.2)

-- the one block that is added
pub blocks-one : (entries added : List Entry) (last : RunEnd) → last.end ≡ length entries + length added
    → blocks_from (length entries) (last ∷ []) (entries ++ added) ≡ record { separator = last.separator; entries = added } ∷ []
blocks-one entries added last ends = ap (λ (b : IndexedBlock). b ∷ []) (block_made last.separator _ added (all_added (length entries) last.end entries added refl ends))

pub blocks-count : (start : ℕ) (ends : List RunEnd) (entries : List Entry) → length (blocks_from start ends entries) ≡ length ends
blocks-count start [] entries = refl
blocks-count start (b ∷ rest) entries = ap suc (blocks-count b.end rest entries)

-- ---- parts

part_made : (separator : List ℕ) (a b : List IndexedBlock) → a ≡ b → ◌≡◌ {A = Part} (record { separator = separator; blocks = a }) (record { separator = separator; blocks = b })
part_made separator a b same = rw same refl

pub parts-push : (start : ℕ) (tops : List RunEnd) (blocks added : List IndexedBlock) (last : RunEnd) → AreEnds start tops (length blocks)
    → last.end ≡ length blocks + length added
    → parts_from start (tops ++ last ∷ []) (blocks ++ added) ≡ parts_from start tops blocks ++ record { separator = last.separator; blocks = added } ∷ []
parts-push start [] blocks added last are ends = ap (λ (p : Part). p ∷ []) (part_made last.separator _ added (all_added start last.end blocks added are ends))
parts-push start (t ∷ rest) blocks added last are ends =
    let order : start ≤ t.end = omega (arith, are.0) in
    let first = part_made t.separator _ (take (t.end - start) (drop start blocks)) (front_same start t.end blocks added order are.1) in
    ap (λ (p : Part). p ∷ parts_from t.end (rest ++ last ∷ []) (blocks ++ added)) first
    ∙ ap (λ (ps : List Part). record { separator = t.separator; blocks = take (t.end - start) (drop start blocks) } ∷ ps) (parts-push t.end rest blocks added last are.2 ends)

-- what holds of each part and its data blocks
pub each-push : (P : RunEnd → List RunEnd → Type 0) (start : ℕ) (tops ends added : List RunEnd) (last : RunEnd) → AreEnds start tops (length ends) → last.end ≡ length ends + length added
    → EachPart P start tops ends → P last added → EachPart P start (tops ++ last ∷ []) (ends ++ added)
each-push P start [] ends added last are place each more = (subst (P last) (sym (all_added start last.end ends added are place)) more, tt)
each-push P start (t ∷ rest) ends added last are place each more =
    let order : start ≤ t.end = omega (arith, are.0) in (
      subst (P t) (sym (front_same start t.end ends added order are.1)) each.0,
      each-push P t.end rest ends added last are.2 place each.1 more,
    )

-- ---- separators

pub separators-append : (ends added : List RunEnd) → separators_of (ends ++ added) ≡ separators_of ends ++ separators_of added
separators-append ends added = map-append (λ (b : RunEnd). b.separator) ends added

-- runs with the separators of rows have stored keys in order
separators-long : (ends : List RunEnd) (leads : List IndexLead) → separators_of ends ≡ lead_separators leads → All (λ (lead : IndexLead). 8 ≤ length lead.separator) leads
    → All (λ (b : RunEnd). 8 ≤ length b.separator) ends
separators-long [] leads same long = All-nil (λ (b : RunEnd). 8 ≤ length b.separator)
separators-long (b ∷ rest) [] same long = absurd (cc)
separators-long (b ∷ rest) (lead ∷ leads) same long =
    let one : b.separator ≡ lead.separator = cc in
    let more : separators_of rest ≡ lead_separators leads = cc in
    let first : 8 ≤ length lead.separator = All-head (λ (l : IndexLead). 8 ≤ length l.separator) lead leads long in
    All-cons (λ (b : RunEnd). 8 ≤ length b.separator) b rest (subst (λ (l : List ℕ). 8 ≤ length l) (sym one) first)
    (separators-long rest leads more (All-tail (λ (l : IndexLead). 8 ≤ length l.separator) lead leads long))

separators-ordered : (ends : List RunEnd) (leads : List IndexLead) → separators_of ends ≡ lead_separators leads → AreOrdered (Index false false) (lead_rows leads)
    → AreOrdered (Index false false) (separator_rows ends)
separators-ordered [] leads same ordered = tt
separators-ordered (b ∷ []) leads same ordered = tt
separators-ordered (b ∷ c ∷ rest) [] same ordered = absurd (cc)
separators-ordered (b ∷ c ∷ rest) (lead ∷ []) same ordered = absurd (cc)
separators-ordered (b ∷ c ∷ rest) (lead ∷ next ∷ leads) same ordered =
    let one : b.separator ≡ lead.separator = cc in
    let two : c.separator ≡ next.separator = cc in
    let more : separators_of (c ∷ rest) ≡ lead_separators (next ∷ leads) = cc in
    (rw (one, two) ordered.0, separators-ordered (c ∷ rest) (next ∷ leads) more ordered.1)

pub separators-are : (ends : List RunEnd) (leads : List IndexLead) → separators_of ends ≡ lead_separators leads → AreLeads leads → AreSeparators ends
separators-are ends leads same are = record { long = separators-long ends leads same are.long; ordered = separators-ordered ends leads same are.ordered }
