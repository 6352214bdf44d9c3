-- Parts whose blocks are sound and whose separators stand between their ends: the separators separate all that is in them,
-- and the list of all entries is in order. And back.
use Rattle.std.proofs.Common.{◌≡◌, ◌≢◌, ℕ, ◌<◌, List, [], ◌∷◌, ◌++◌, length, map, All, length-append, sym, subst, inl, inr, ap, ◌∙◌, refl, arith}
use Rattle.std.specs.Ordering.{nat_cmp}
use Rattle.std.specs.Cmp.Lexicographic.{slice_cmp}
use Rattle.std.proofs.lemmas.Cmp.{nat_list_cmp_total}
use Rattle.std.proofs.lemmas.List.{append-nil}
use Rattle.std.proofs.lemmas.List.Elements.{All-head, All-tail, All-append}
use Rattle.std.specs.declared.cmp.Ordering.TheVariants.{Greater}
use Rattle.sst_key.specs.declared.entries.Entry.{Entry}
use Rattle.sst_key.specs.Entry.{IsOrdered}
use Rattle.sst_key.specs.InternalKey.{user_of, tag_of, internal_cmp}
use Rattle.sst_key.proofs.TargetOrder.{up_to-in_words, up_to-from_words}
use Rattle.sst_block.specs.Builder.{last_key}
use Rattle.sst_bbt_spec.specs.Rows.{HasSeq, row_of, rows_of}
use Rattle.sst_bbt_spec.specs.Way.{IndexedBlock, Separate, joined}
use Rattle.sst_bbt_spec.specs.Runs.{AreSeparated}
use Rattle.sst_bbt_spec.specs.Parts.{Part, whole_of, stored_in}
use Rattle.sst_bbt_spec.specs.PartRuns.{last_separator, IsWithinTop, ArePartsSeparated, SeparateWithin, SeparateParts}
use Rattle.sst_bbt_spec.proofs.SeparatedBlocks.{IsSound, AreSound, sound-seqs, separated}
use Rattle.sst_bbt_spec.proofs.Separating.{separated-from_separate, after-from_all}
use Rattle.sst_bbt_spec.proofs.SeparatorOrder.{UpTo, tagged, le-from_not}
use Rattle.sst_bbt_spec.proofs.UpToSeparator.{not-from_le}

-- ---- stored keys, one no later than another

upto-chain : (a b c : List ℕ) (r s t : ℕ) → UpTo a r b s → UpTo b s c t → UpTo a r c t
upto-chain a b c r s t (inl less) (inl next) = inl (nat_list_cmp_total.trans a b c less next)
upto-chain a b c r s t (inl less) (inr next) = inl (sym (ap (slice_cmp nat_cmp a) next.0) ∙ less)
upto-chain a b c r s t (inr same) (inl next) = inl (ap (λ (u : List ℕ). slice_cmp nat_cmp u c) same.0 ∙ next)
upto-chain a b c r s t (inr same) (inr next) = inr (same.0 ∙ next.0, omega (arith, same.1, next.1))

key-words : (a b : List ℕ) → internal_cmp a b ≢ Greater → UpTo (user_of a) (tag_of a) (user_of b) (tag_of b)
key-words a b up = up_to-in_words (user_of b) (tag_of b) (tagged a) (le-from_not _ up)

key-from_words : (a b : List ℕ) → UpTo (user_of a) (tag_of a) (user_of b) (tag_of b) → internal_cmp a b ≢ Greater
key-from_words a b words = not-from_le _ (up_to-from_words (user_of b) (tag_of b) (tagged a) words)

pub key-chain : (a b c : List ℕ) → internal_cmp a b ≢ Greater → internal_cmp b c ≢ Greater → internal_cmp a c ≢ Greater
key-chain a b c first second =
    key-from_words a c (upto-chain (user_of a) (user_of b) (user_of c) _ (tag_of b) _ (key-words a b first) (key-words b c second))

pub key-same : (a : List ℕ) → internal_cmp a a ≢ Greater
key-same a = key-from_words a a (inr (refl, omega arith))

-- ---- the last key of some blocks

last_key-behind : (before : List ℕ) (xs : List Entry) (y : Entry) (ys : List Entry)
    → last_key before (rows_of (xs ++ y ∷ ys)) ≡ last_key [] (rows_of (y ∷ ys))
last_key-behind before [] y ys = refl
last_key-behind before (x ∷ xs) y ys = last_key-behind (row_of x).key xs y ys

last_key-back : (xs ys : List Entry) → 0 < length ys → last_key [] (rows_of (xs ++ ys)) ≡ last_key [] (rows_of ys)
last_key-back xs [] some = absurd (omega (arith, some))
last_key-back xs (y ∷ ys) some = last_key-behind [] xs y ys

pub joined-some : (block : IndexedBlock) (rest : List IndexedBlock) → AreSound (block ∷ rest) → 0 < length (joined (block ∷ rest))
joined-some block rest sound = omega (arith, length-append block.entries (joined rest), sound.0.some)

-- it isn't after what the last separator isn't after
last-within : (top : List ℕ) (block : IndexedBlock) (rest : List IndexedBlock) → AreSound (block ∷ rest) → AreSeparated (block ∷ rest)
    → internal_cmp (last_separator block.separator rest) top ≢ Greater
    → internal_cmp (last_key [] (rows_of (joined (block ∷ rest)))) top ≢ Greater
last-within top block [] sound apart within =
    subst (λ (es : List Entry). internal_cmp (last_key [] (rows_of es)) top ≢ Greater) (sym (append-nil block.entries))
    (key-chain (last_key [] (rows_of block.entries)) block.separator top apart.0 within)
last-within top block (next ∷ rest) sound apart within =
    let more = last-within top next rest sound.1 apart.2 within in
    let same = last_key-back block.entries (joined (next ∷ rest)) (joined-some next rest sound.1) in
    subst (λ (key : List ℕ). internal_cmp key top ≢ Greater) (sym same) more

-- ---- parts

-- a part has blocks, and they are sound
pub record IsSoundPart (part : Part) : Type 0 where
  pub some : 0 < length part.blocks
  pub blocks : AreSound part.blocks

-- and each of some parts
abbrev pub AreSoundParts : List Part → Type 0
AreSoundParts [] = Unit {0}
AreSoundParts (part ∷ rest) = IsSoundPart part × AreSoundParts rest

-- a part as one block is sound, and its last key isn't after its separator
part-whole : (top : List ℕ) (blocks : List IndexedBlock) → 0 < length blocks → AreSound blocks → AreSeparated blocks
    → internal_cmp (last_separator [] blocks) top ≢ Greater
    → IsSound (record { separator = top; entries = joined blocks }) × (internal_cmp (last_key [] (rows_of (joined blocks))) top ≢ Greater)
part-whole top [] some sound apart within = absurd (omega (arith, some))
part-whole top (block ∷ rest) some sound apart within =
    let all = separated (block ∷ rest) sound apart in (
      record { some = joined-some block rest sound; ordered = all.0; seqs = sound-seqs (block ∷ rest) sound },
      last-within top block rest sound apart within,
    )

pub part-sound : (part : Part) → IsSoundPart part → AreSeparated part.blocks → IsWithinTop part
    → IsSound (whole_of part) × (internal_cmp (last_key [] (rows_of (joined part.blocks))) part.separator ≢ Greater)
part-sound part sound apart within = part-whole part.separator part.blocks sound.some sound.blocks apart within

wholes-sound : (parts : List Part) → AreSoundParts parts → ArePartsSeparated parts → AreSound (map whole_of parts)
wholes-sound [] sound apart = tt
wholes-sound (part ∷ rest) sound apart = ((part-sound part sound.0 apart.0 apart.1).0, wholes-sound rest sound.1 apart.3)

wholes-separated : (parts : List Part) → AreSoundParts parts → ArePartsSeparated parts → AreSeparated (map whole_of parts)
wholes-separated [] sound apart = tt
wholes-separated (part ∷ rest) sound apart =
    ((part-sound part sound.0 apart.0 apart.1).1, apart.2, wholes-separated rest sound.1 apart.3)

within-separate : (parts : List Part) → AreSoundParts parts → ArePartsSeparated parts → SeparateWithin parts
within-separate [] sound apart = tt
within-separate (part ∷ rest) sound apart = ((separated part.blocks sound.0.blocks apart.0).1, within-separate rest sound.1 apart.3)

-- the list is in order, and the separators separate
pub separated-parts : (parts : List Part) → AreSoundParts parts → ArePartsSeparated parts → IsOrdered (stored_in parts) × SeparateParts parts
separated-parts parts sound apart =
    let all = separated (map whole_of parts) (wholes-sound parts sound apart) (wholes-separated parts sound apart) in
    (all.0, (within-separate parts sound apart, all.1))

pub sound_parts-seqs : (parts : List Part) → AreSoundParts parts → All HasSeq (stored_in parts)
sound_parts-seqs [] sound = sound-seqs [] tt
sound_parts-seqs (part ∷ rest) sound = All-append HasSeq (joined part.blocks) (stored_in rest) (sound-seqs part.blocks sound.0.blocks) (sound_parts-seqs rest sound.1)

-- ---- and back

-- what separates the parts of which each ends in time stands between their ends
pub parts_separated-from_separate : (parts : List Part) → AreSoundParts parts → All IsWithinTop parts → SeparateWithin parts
    → Separate (map whole_of parts) → ArePartsSeparated parts
parts_separated-from_separate [] sound within inside apart = tt
parts_separated-from_separate (part ∷ rest) sound within inside apart = (
  separated-from_separate part.blocks sound.0.blocks inside.0,
  All-head IsWithinTop part rest within,
  after-from_all part.separator (map whole_of rest) apart.1,
  parts_separated-from_separate rest sound.1 (All-tail IsWithinTop part rest within) inside.1 apart.2,
)
