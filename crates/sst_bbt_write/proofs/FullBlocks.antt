-- A list is cut where blocks are full: joined the blocks are the list, and each ends where it is full and no sooner.
use Rattle.std.proofs.Common.{◌≡◌, ◌⊎◌, inl, inr, ◌<◌, ◌&&◌, nat_lt, Bool, true, false, if◌then◌else◌, List, [], ◌∷◌, ◌++◌, length, IsTrue, refl, sym, ap, ◌∙◌, subst, length-append, append_assoc, arith}
use Rattle.std.proofs.lemmas.Bool.{lt-ltb}
use Rattle.std.proofs.lemmas.List.{append-nil}
use Rattle.sst_key.specs.declared.entries.Entry.{Entry}
use Rattle.sst_bbt_write.specs.Cut.{Blocks, is_full, add_entry, cut_from, cut_of, blocks_for, entries_in, IsLean, AreBlocks}
use Rattle.sst_bbt_write.specs.declared.bbt_options.BbtOptions.{BbtOptions}

-- the blocks are full, and none has an entry more than that takes
abbrev AreFull : BbtOptions → List (List Entry) → Type 0
AreFull options [] = Unit {0}
AreFull options (block ∷ rest) = IsTrue (is_full options block) × IsLean options block × AreFull options rest

-- the first of two truths, where both are true
first_true : (a b : Bool) → (a && b) ≡ true → a ≡ true
first_true true b both = refl
first_true false b both = cc

-- a full block has an entry
pub full-some : (options : BbtOptions) (block : List Entry) → IsTrue (is_full options block) → 0 < length block
full-some options [] full = cc
full-some options (e ∷ rest) full = omega arith

-- a front of a list with one more is a front of the list, or all of it
front-push : (list : List Entry) (e : Entry) (front back : List Entry) → list ++ e ∷ [] ≡ front ++ back → 0 < length back
    → (front ≡ list) ⊎ ((more : List Entry) × (list ≡ front ++ more) × (0 < length more))
front-push [] e [] back same some = inl refl
front-push (x ∷ list) e [] back same some = inr (x ∷ list, refl, omega arith)
front-push [] e (f ∷ front) back same some = absurd (omega (arith, ap length same, length-append front back))
front-push (x ∷ list) e (f ∷ front) back same some =
    let head : x ≡ f = cc in
    let tail : list ++ e ∷ [] ≡ front ++ back = cc in
    elim (front-push list e front back tail some) [
      | inl all ↦ inl (ap (λ (l : List Entry). f ∷ l) all ∙ ap (λ (y : Entry). y ∷ list) (sym head))
      | inr (more, is, last) ↦ inr (more, ap (λ (l : List Entry). x ∷ l) is ∙ ap (λ (y : Entry). y ∷ (front ++ more)) head, last)
    ]

lean-nil : (options : BbtOptions) → IsLean options []
lean-nil options front back same some full = absurd (omega (arith, ap length same, length-append front back))

-- a block that isn't full takes one more
lean-push : (options : BbtOptions) (block : List Entry) (e : Entry) → IsLean options block → (IsTrue (is_full options block) → ⊥) → IsLean options (block ++ e ∷ [])
lean-push options block e lean short front back same some full =
    elim (front-push block e front back same some) [
      | inl all ↦ short (subst (λ (l : List Entry). IsTrue (is_full options l)) all full)
      | inr (more, is, last) ↦ lean front more is last full
    ]

full-push : (options : BbtOptions) (blocks : List (List Entry)) (block : List Entry) → AreFull options blocks → IsTrue (is_full options block) → IsLean options block
    → AreFull options (blocks ++ block ∷ [])
full-push options [] block are full lean = (full, lean, tt)
full-push options (b ∷ rest) block are full lean = (are.0, are.1, full-push options rest block are.2 full lean)

entries_in-append : (blocks more : List (List Entry)) → entries_in (blocks ++ more) ≡ entries_in blocks ++ entries_in more
entries_in-append [] more = refl
entries_in-append (b ∷ rest) more = ap (λ (l : List Entry). b ++ l) (entries_in-append rest more) ∙ sym (append_assoc b (entries_in rest) (entries_in more))

entries_in-push : (blocks : List (List Entry)) (block : List Entry) → entries_in (blocks ++ block ∷ []) ≡ entries_in blocks ++ block
entries_in-push blocks block = entries_in-append blocks (block ∷ []) ∙ ap (λ (l : List Entry). entries_in blocks ++ l) (append-nil block)

-- what was cut of a list so far
record IsCut (options : BbtOptions) (blocks : Blocks) (entries : List Entry) : Type 0 where
  pub full : AreFull options blocks.ended
  pub lean : IsLean options blocks.current
  pub all : entries_in blocks.ended ++ blocks.current ≡ entries

-- one entry more
cut-step : (options : BbtOptions) (ended : List (List Entry)) (current entries : List Entry) (e : Entry)
    → IsCut options (record { ended = ended; current = current }) entries
    → IsCut options (add_entry options (record { ended = ended; current = current }) e) (entries ++ e ∷ [])
cut-step options ended current entries e cut =
    elim (is_full options current) as (λ (t : Bool). is_full options current ≡ t
    → IsCut options (if t then record { ended = ended ++ current ∷ []; current = e ∷ [] } else record { ended = ended; current = current ++ e ∷ [] }) (entries ++ e ∷ [])) [
      | true ↦ λ is. record {
        full = full-push options ended current cut.full is cut.lean;
        lean = lean-push options [] e (lean-nil options) (λ none. cc);
        all = ap (λ (l : List Entry). l ++ e ∷ []) (entries_in-push ended current ∙ cut.all);
      }
      | false ↦ λ is. record {
        full = cut.full;
        lean = lean-push options current e cut.lean (λ full. cc);
        all = sym (append_assoc (entries_in ended) current (e ∷ [])) ∙ ap (λ (l : List Entry). l ++ e ∷ []) cut.all;
      }
    ] refl

-- and all that follow
cut-all : (options : BbtOptions) (blocks : Blocks) (before rest : List Entry) → IsCut options blocks before → IsCut options (cut_from options blocks rest) (before ++ rest)
cut-all options blocks before [] cut = subst (λ (l : List Entry). IsCut options blocks l) (sym (append-nil before)) cut
cut-all options blocks before (e ∷ rest) cut =
    subst (λ (l : List Entry). IsCut options (cut_from options (add_entry options blocks e) rest) l) (append_assoc before (e ∷ []) rest)
    (cut-all options (add_entry options blocks e) (before ++ e ∷ []) rest (cut-step options blocks.ended blocks.current before e cut))

cut-list : (options : BbtOptions) (entries : List Entry) → IsCut options (cut_of options entries) entries
unfolding cut_of
cut-list options entries = cut-all options (record { ended = []; current = [] }) [] entries (record { full = tt; lean = lean-nil options; all = refl })

-- the last block, if it has an entry
abbrev last_block : List Entry → List (List Entry)
last_block current = if nat_lt 0 (length current) then current ∷ [] else []

last_block-entries : (current : List Entry) → entries_in (last_block current) ≡ current
last_block-entries [] = refl
last_block-entries (e ∷ rest) = rw (lt-ltb 0 (length (e ∷ rest)) (omega arith)) (append-nil (e ∷ rest))

last_block-are : (options : BbtOptions) (current : List Entry) → IsLean options current → AreBlocks options (last_block current)
last_block-are options [] lean = tt
last_block-are options (e ∷ rest) lean = rw (lt-ltb 0 (length (e ∷ rest)) (omega arith)) (omega arith, lean)

-- full blocks, and blocks behind them
blocks-joined : (options : BbtOptions) (ended more : List (List Entry)) → AreFull options ended → AreBlocks options more → AreBlocks options (ended ++ more)
blocks-joined options [] more full are = are
blocks-joined options (b ∷ []) [] full are = (full-some options b full.0, full.1)
blocks-joined options (b ∷ []) (m ∷ more) full are = (full.0, full.1, are)
blocks-joined options (b ∷ next ∷ rest) more full are = (full.0, full.1, blocks-joined options (next ∷ rest) more full.2 are)

-- the blocks of a list, joined, are the list
pub blocks_for-entries : (options : BbtOptions) (entries : List Entry) → entries_in (blocks_for options entries) ≡ entries
unfolding blocks_for
blocks_for-entries options entries =
    let blocks = cut_of options entries in
    entries_in-append blocks.ended (last_block blocks.current)
    ∙ ap (λ (l : List Entry). entries_in blocks.ended ++ l) (last_block-entries blocks.current) ∙ (cut-list options entries).all

-- each ends where it is full and no sooner
pub blocks_for-full : (options : BbtOptions) (entries : List Entry) → AreBlocks options (blocks_for options entries)
unfolding blocks_for
blocks_for-full options entries =
    let blocks = cut_of options entries in
    let cut = cut-list options entries in
    blocks-joined options blocks.ended (last_block blocks.current) cut.full (last_block-are options blocks.current cut.lean)

-- each of some blocks has an entry
abbrev pub HaveEntries : List (List Entry) → Type 0
HaveEntries [] = Unit {0}
HaveEntries (block ∷ rest) = (0 < length block) × HaveEntries rest

blocks-some : (options : BbtOptions) (blocks : List (List Entry)) → AreBlocks options blocks → HaveEntries blocks
blocks-some options [] are = tt
blocks-some options (b ∷ []) are = (are.0, tt)
blocks-some options (b ∷ next ∷ rest) are = (full-some options b are.0, blocks-some options (next ∷ rest) are.2)

pub blocks_for-some : (options : BbtOptions) (entries : List Entry) → HaveEntries (blocks_for options entries)
blocks_for-some options entries = blocks-some options (blocks_for options entries) (blocks_for-full options entries)
