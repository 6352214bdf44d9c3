-- The data blocks of a list with their separators, which separate them.
use Rattle.std.proofs.Common.{◌≡◌, ◌≢◌, ℕ, ◌+◌, Bool, true, false, ◌&&◌, ◌||◌, not, nat_le, bytes_eq, Option, None, Some, List, [], ◌∷◌, ◌++◌, refl, sym, ap, subst, arith}
use Rattle.std.specs.List.{list_any}
use Rattle.std.proofs.lemmas.Slice.Eq.{bytes_eq-Decides}
use Rattle.std.specs.declared.cmp.Ordering.TheVariants.{Greater}
use Rattle.sst_key.specs.declared.entries.Entry.{Entry}
use Rattle.sst_key.specs.Entry.{key_of}
use Rattle.sst_key.specs.InternalKey.{user_of, internal_cmp}
use Rattle.sst_block.specs.Builder.{last_key}
use Rattle.sst_index.specs.Ends.{BlockEnd, shares_user, flags_of}
use Rattle.sst_bbt_spec.specs.Rows.{rows_of}
use Rattle.sst_bbt_spec.specs.Runs.{AreSeparated}
use Rattle.sst_bbt_spec.specs.Way.{IndexedBlock, joined}
use Rattle.sst_bbt_write.specs.Cut.{data_block, entries_in}
use Rattle.sst_bbt_write.specs.Written.{Fits, ends_from, next_key, stored_length}
use Rattle.sst_bbt_write.proofs.BlockEnds.{begins-after}
use Rattle.sst_bbt_write.proofs.CutParts.{HaveSome}
use Rattle.sst_bbt_write.proofs.FullBlocks.{HaveEntries}
use Rattle.sst_bbt_write.proofs.KeySeparators.{separator_for, upto-separator, after-separator}
use Rattle.sst_bbt_write.proofs.ListParts.{last_entry, last_key-entry, fits-back}
use Rattle.sst_bbt_write.specs.declared.bbt_options.BbtOptions.{BbtOptions}

-- each data block with the separator that the index has for it
abbrev pub indexed : Bool → List (List Entry) → List IndexedBlock
indexed user_key [] = []
indexed user_key (block ∷ rest) =
    record { separator = separator_for user_key (last_key [] (rows_of block)) (next_key rest None); entries = block } ∷ indexed user_key rest

pub indexed-joined : (user_key : Bool) (blocks : List (List Entry)) → joined (indexed user_key blocks) ≡ entries_in blocks
indexed-joined user_key [] = refl
indexed-joined user_key (block ∷ rest) = ap (λ (l : List Entry). block ++ l) (indexed-joined user_key rest)

-- where separators are user keys, no block begins with the user key with which the one before ends
abbrev pub AreApart : Bool → List BlockEnd → Type 0
AreApart user_key ends = user_key ≡ true → list_any shares_user ends ≡ false

none-of : (a b : Bool) → (a || b) ≡ false → (a ≡ false) × (b ≡ false)
none-of true b none = cc
none-of false b none = (refl, none)

not-second : (a b : Bool) → (a && not b) ≡ true → b ≡ false
not-second true true both = cc
not-second true false both = refl
not-second false b both = cc

pub flags-apart : (version : ℕ) (ends : List BlockEnd) → AreApart (flags_of version ends).user_key ends
flags-apart version ends = not-second (nat_le 3 version) (list_any shares_user ends)

unlike : (a b : List ℕ) → bytes_eq a b ≡ false → a ≢ b
unlike a b not same = let is = (bytes_eq-Decides a b).1 same in cc

-- the last key of a block isn't after its separator
block-upto : (user_key : Bool) (e : Entry) (block : List Entry) (next : Option (List ℕ))
    → internal_cmp (last_key (key_of e) (rows_of block)) (separator_for user_key (last_key (key_of e) (rows_of block)) next) ≢ Greater
block-upto user_key e block next =
    subst (λ (key : List ℕ). internal_cmp key (separator_for user_key key next) ≢ Greater) (sym (last_key-entry e block)) (upto-separator user_key (last_entry e block) next)

-- the separators separate the blocks
pub indexed-separated : (options : BbtOptions) (user_key : Bool) (at : ℕ) (blocks : List (List Entry)) → HaveEntries blocks → Fits (entries_in blocks)
    → AreApart user_key (ends_from options at blocks None) → AreSeparated (indexed user_key blocks)
indexed-separated options user_key at [] some fits apart = tt
indexed-separated options user_key at ([] ∷ rest) some fits apart = absurd (omega (arith, some.0))
indexed-separated options user_key at ((e ∷ block) ∷ []) some fits apart = (block-upto user_key e block None, tt, tt)
indexed-separated options user_key at ((e ∷ block) ∷ [] ∷ rest) some fits apart = absurd (omega (arith, some.1.0))
indexed-separated options user_key at ((e ∷ block) ∷ (f ∷ next) ∷ rest) some fits apart =
    let last = last_key (key_of e) (rows_of block) in
    let place = at + stored_length (data_block options (e ∷ block)) in
    let none : user_key ≡ true → (bytes_eq (user_of last) (user_of (key_of f)) ≡ false) × (list_any shares_user (ends_from options place ((f ∷ next) ∷ rest) None) ≡ false) =
    λ is. none-of (bytes_eq (user_of last) (user_of (key_of f))) (list_any shares_user (ends_from options place ((f ∷ next) ∷ rest) None)) (apart is) in (
      block-upto user_key e block (Some (key_of f)),
      after-separator user_key last f (begins-after e block f (next ++ entries_in rest) fits) (λ is. unlike (user_of last) (user_of (key_of f)) (none is).0),
      indexed-separated options user_key place ((f ∷ next) ∷ rest) some.1 (fits-back (e ∷ block) ((f ∷ next) ++ entries_in rest) fits) (λ is. (none is).1),
    )

-- each has an entry
pub indexed-some : (user_key : Bool) (blocks : List (List Entry)) → HaveEntries blocks → HaveSome (indexed user_key blocks)
indexed-some user_key [] some = tt
indexed-some user_key (block ∷ rest) some = (some.0, indexed-some user_key rest some.1)
