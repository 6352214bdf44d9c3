-- Blocks whose entries are in order and whose separators stand between their ends: the separators separate all that is in
-- them, and the joined list is in order.
use Rattle.std.proofs.Common.{ℕ, ◌<◌, List, [], ◌∷◌, ◌++◌, length, All, arith}
use Rattle.std.proofs.lemmas.List.Elements.{All-nil, All-append}
use Rattle.sst_key.specs.declared.entries.Entry.{Entry}
use Rattle.sst_key.specs.Entry.{IsOrdered}
use Rattle.sst_bbt_spec.specs.Rows.{HasSeq}
use Rattle.sst_bbt_spec.specs.Runs.{AreSeparated, BeginsAfter, IsAfterAll}
use Rattle.sst_bbt_spec.specs.Way.{IndexedBlock, Separate, joined}
use Rattle.sst_bbt_spec.proofs.UpToSeparator.{all-upto, all-after, ordered-across}

-- a block has entries, they are in order, and their sequence numbers are in range
pub record IsSound (block : IndexedBlock) : Type 0 where
  pub some : 0 < length block.entries
  pub ordered : IsOrdered block.entries
  pub seqs : All HasSeq block.entries

-- and each of some blocks
abbrev pub AreSound : List IndexedBlock → Type 0
AreSound [] = Unit {0}
AreSound (block ∷ rest) = IsSound block × AreSound rest

pub sound-seqs : (blocks : List IndexedBlock) → AreSound blocks → All HasSeq (joined blocks)
sound-seqs [] sound = All-nil HasSeq
sound-seqs (block ∷ rest) sound = All-append HasSeq block.entries (joined rest) sound.0.seqs (sound-seqs rest sound.1)

-- the joined list begins as the first block does
begins-append : (separator : List ℕ) (entries more : List Entry) → 0 < length entries → BeginsAfter separator entries → BeginsAfter separator (entries ++ more)
begins-append separator [] more some begins = absurd (omega (arith, some))
begins-append separator (e ∷ rest) more some begins = begins

begins-joined : (separator : List ℕ) (blocks : List IndexedBlock) → AreSound blocks → IsAfterAll separator blocks → BeginsAfter separator (joined blocks)
begins-joined separator [] sound begins = tt
begins-joined separator (block ∷ rest) sound begins = begins-append separator block.entries (joined rest) sound.0.some begins

-- both by one walk: what is behind a separator is after it because it is in order
pub separated : (blocks : List IndexedBlock) → AreSound blocks → AreSeparated blocks → IsOrdered (joined blocks) × Separate blocks
separated [] sound apart = (tt, tt)
separated (block ∷ rest) sound apart =
    let more = separated rest sound.1 apart.2 in
    let seqs = sound-seqs rest sound.1 in
    let up = all-upto block.separator block.entries sound.0.ordered sound.0.seqs apart.0 in
    let after = all-after block.separator (joined rest) more.0 seqs (begins-joined block.separator rest sound.1 apart.1) in
    (ordered-across block.separator block.entries (joined rest) sound.0.ordered more.0 sound.0.seqs seqs up after, (up, after, more.1))
