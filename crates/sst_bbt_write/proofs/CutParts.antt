-- Data blocks in parts of an index: what separates the blocks separates the parts, and these have all entries.
use Rattle.std.proofs.Common.{◌≡◌, ℕ, zero, suc, ◌<◌, ◌≤◌, List, [], ◌∷◌, ◌++◌, length, length-drop, take, drop, map, refl, sym, ap, ◌∙◌, append_assoc, arith}
use Rattle.std.proofs.lemmas.List.{append-nil, take-append-drop}
use Rattle.sst_key.specs.declared.entries.Entry.{Entry}
use Rattle.sst_bbt_spec.specs.Runs.{AreSeparated, BeginsAfter, IsAfterAll}
use Rattle.sst_bbt_spec.specs.Way.{IndexedBlock, joined}
use Rattle.sst_bbt_spec.specs.Parts.{Part, alone, whole_of, stored_in}
use Rattle.sst_bbt_spec.specs.PartRuns.{last_separator, ArePartsSeparated}
use Rattle.sst_bbt_spec.proofs.PartOrder.{key-same}
use Rattle.sst_bbt_spec.proofs.WholeIndex.{alone-separated}

-- some data blocks as a part, with the last of their separators
abbrev pub part_of : List IndexedBlock → Part
part_of blocks = record { separator = last_separator [] blocks; blocks = blocks }

-- data blocks in parts of k; `most` isn't less than the number of parts
abbrev pub parts_in : ℕ → ℕ → List IndexedBlock → List Part
parts_in zero k blocks = []
parts_in (suc most) k [] = []
parts_in (suc most) k (block ∷ blocks) = part_of (take k (block ∷ blocks)) ∷ parts_in most k (drop k (block ∷ blocks))

-- data blocks in parts of so many, or each alone where the index is whole
abbrev pub parts_for : ℕ → List IndexedBlock → List Part
parts_for zero blocks = map alone blocks
parts_for (suc k) blocks = parts_in (length blocks) (suc k) blocks

-- each of some blocks has an entry
abbrev pub HaveSome : List IndexedBlock → Type 0
HaveSome [] = Unit {0}
HaveSome (block ∷ rest) = (0 < length block.entries) × HaveSome rest

some-drop : (n : ℕ) (blocks : List IndexedBlock) → HaveSome blocks → HaveSome (drop n blocks)
some-drop zero blocks some = some
some-drop (suc n) [] some = tt
some-drop (suc n) (block ∷ blocks) some = some-drop n blocks some.1

-- fronts and backs of blocks that are separated
after-take : (separator : List ℕ) (n : ℕ) (blocks : List IndexedBlock) → IsAfterAll separator blocks → IsAfterAll separator (take n blocks)
after-take separator zero blocks after = tt
after-take separator (suc n) [] after = tt
after-take separator (suc n) (block ∷ blocks) after = after

separated-take : (n : ℕ) (blocks : List IndexedBlock) → AreSeparated blocks → AreSeparated (take n blocks)
separated-take zero blocks apart = tt
separated-take (suc n) [] apart = tt
separated-take (suc n) (block ∷ blocks) apart = (apart.0, after-take block.separator n blocks apart.1, separated-take n blocks apart.2)

separated-drop : (n : ℕ) (blocks : List IndexedBlock) → AreSeparated blocks → AreSeparated (drop n blocks)
separated-drop zero blocks apart = apart
separated-drop (suc n) [] apart = tt
separated-drop (suc n) (block ∷ blocks) apart = separated-drop n blocks apart.2

-- what is behind a front is after its last separator
last-after : (n : ℕ) (block : IndexedBlock) (blocks : List IndexedBlock) → AreSeparated (block ∷ blocks)
    → IsAfterAll (last_separator block.separator (take n blocks)) (drop n blocks)
last-after zero block blocks apart = apart.1
last-after (suc n) block [] apart = tt
last-after (suc n) block (next ∷ blocks) apart = last-after n next blocks apart.2

begins-front : (separator : List ℕ) (entries more : List Entry) → 0 < length entries → BeginsAfter separator entries → BeginsAfter separator (entries ++ more)
begins-front separator [] more some begins = absurd (omega (arith, some))
begins-front separator (e ∷ rest) more some begins = begins

-- the first part begins as the first block does
part-begins : (separator : List ℕ) (most k : ℕ) (blocks : List IndexedBlock) → HaveSome blocks → IsAfterAll separator blocks
    → IsAfterAll separator (map whole_of (parts_in most (suc k) blocks))
part-begins separator zero k blocks some after = tt
part-begins separator (suc most) k [] some after = tt
part-begins separator (suc most) k (block ∷ blocks) some after = begins-front separator block.entries (joined (take k blocks)) some.0 after

in-separated : (most k : ℕ) (blocks : List IndexedBlock) → HaveSome blocks → AreSeparated blocks → ArePartsSeparated (parts_in most (suc k) blocks)
in-separated zero k blocks some apart = tt
in-separated (suc most) k [] some apart = tt
in-separated (suc most) k (block ∷ blocks) some apart =
    let last = last_separator block.separator (take k blocks) in
    let left = some-drop k blocks some.1 in (
      separated-take (suc k) (block ∷ blocks) apart,
      key-same last,
      part-begins last most k (drop k blocks) left (last-after k block blocks apart),
      in-separated most k (drop k blocks) left (separated-drop k blocks apart.2),
    )

pub parts-separated : (parts : ℕ) (blocks : List IndexedBlock) → HaveSome blocks → AreSeparated blocks → ArePartsSeparated (parts_for parts blocks)
parts-separated zero blocks some apart = alone-separated blocks apart
parts-separated (suc k) blocks some apart = in-separated (length blocks) k blocks some apart

-- the entries of all parts
joined-both : (xs ys : List IndexedBlock) → joined (xs ++ ys) ≡ joined xs ++ joined ys
joined-both [] ys = refl
joined-both (x ∷ xs) ys = ap (λ (l : List Entry). x.entries ++ l) (joined-both xs ys) ∙ sym (append_assoc x.entries (joined xs) (joined ys))

in-stored : (most k : ℕ) (blocks : List IndexedBlock) → length blocks ≤ most → stored_in (parts_in most (suc k) blocks) ≡ joined blocks
in-stored zero k [] enough = refl
in-stored zero k (block ∷ blocks) enough = absurd (omega (arith, enough))
in-stored (suc most) k [] enough = refl
in-stored (suc most) k (block ∷ blocks) enough =
    let front = take (suc k) (block ∷ blocks) in
    let back = drop (suc k) (block ∷ blocks) in
    ap (λ (l : List Entry). joined front ++ l) (in-stored most k back (omega (arith, enough, length-drop k blocks)))
    ∙ sym (joined-both front back) ∙ ap joined (take-append-drop (suc k) (block ∷ blocks))

alone-stored : (blocks : List IndexedBlock) → stored_in (map alone blocks) ≡ joined blocks
alone-stored [] = refl
alone-stored (block ∷ rest) =
    ap (λ (l : List Entry). l ++ stored_in (map alone rest)) (append-nil block.entries) ∙ ap (λ (l : List Entry). block.entries ++ l) (alone-stored rest)

pub parts-stored : (parts : ℕ) (blocks : List IndexedBlock) → stored_in (parts_for parts blocks) ≡ joined blocks
parts-stored zero blocks = alone-stored blocks
parts-stored (suc k) blocks = in-stored (length blocks) k blocks (omega arith)
