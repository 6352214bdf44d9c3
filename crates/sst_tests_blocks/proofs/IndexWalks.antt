-- Where the moves of a walk over the pairs of an index block go.
use Rattle.std.proofs.Common.{◌≡◌, ℕ, ◌-◌, nat_lt, Bool, false, Option, None, List, length}
use Rattle.sst_block.specs.Block.{Row, Block}
use Rattle.sst_block.specs.IndexRows.{IndexPair, IndexRows}
use Rattle.sst_block.specs.Iter.{place_before}
use Rattle.sst_block.proofs.OneReading.{some-pairs}
use Rattle.sst_index.specs.declared.flags.IndexFlags.{IndexFlags}
use Rattle.sst_index.specs.declared.walk.IndexIter.{IndexIter}
use Rattle.sst_index.specs.declared.walk.IndexPlace.{IndexPlace}
use Rattle.sst_index.specs.IndexBlock.{form_of}
use Rattle.sst_index.specs.Walk.{PausedPairs, WalksPairs, Walking, pair_place, pairs_before}
use Rattle.sst_index.proofs.PairWalks.{stands, stands-last, stands-before}
use Rattle.sst_tests_blocks.specs.IndexWalks.{Goes}

pub goes-to : (it : IndexIter) (flags : IndexFlags) (bytes : List ℕ) (pairs : List IndexPair) (i : ℕ) (told : Bool) → told ≡ nat_lt i (length pairs)
    → WalksPairs it flags bytes pairs (pair_place pairs i) → Goes it told
goes-to it flags bytes pairs i told is w =
    record {
      walks = record { flags = flags; bytes = bytes; pairs = pairs; place = pair_place pairs i; walks = w };
      there = λ there. (flags, bytes, pairs, i, stands it flags bytes pairs i told there is w);
    }

pub goes-last : (it : IndexIter) (flags : IndexFlags) (bytes : List ℕ) (pairs : List IndexPair) (told : Bool) → told ≡ nat_lt 0 (length pairs)
    → WalksPairs it flags bytes pairs (pair_place pairs (length pairs - 1)) → Goes it told
goes-last it flags bytes pairs told is w =
    record {
      walks = record { flags = flags; bytes = bytes; pairs = pairs; place = pair_place pairs (length pairs - 1); walks = w };
      there = λ there. (flags, bytes, pairs, length pairs - 1, stands-last it flags bytes pairs told there is w);
    }

pub goes-before : (it : IndexIter) (flags : IndexFlags) (bytes : List ℕ) (pairs : List IndexPair) (i : ℕ) (told : Bool) → told ≡ nat_lt 0 i
    → WalksPairs it flags bytes pairs (place_before i) → Goes it told
goes-before it flags bytes pairs i told is w =
    record {
      walks = record { flags = flags; bytes = bytes; pairs = pairs; place = place_before i; walks = w };
      there = λ there. (flags, bytes, pairs, i - 1, stands-before it flags bytes pairs i told there is w);
    }

-- a walk over a block that was checked
pub begins : (it : IndexIter) (flags : IndexFlags) (bytes : List ℕ) (rows : List Row) → Block (form_of flags) bytes rows
    → ((pairs : List IndexPair) → IndexRows flags.user_key flags.delta bytes pairs → WalksPairs it flags bytes pairs None) → Walking it
begins it flags bytes rows block starts =
    let (pairs, says) = some-pairs flags.user_key flags.delta bytes rows block in
    record { flags = flags; bytes = bytes; pairs = pairs; place = None; walks = starts pairs says }

pub goes-nowhere : (it : IndexIter) → Walking it → Goes it false
goes-nowhere it walks = record { walks = walks; there = λ never. cc }

-- a seek has found its pair, or that there is none
pub record Found (it : IndexIter) (flags : IndexFlags) (bytes : List ℕ) (told : Bool) : Type 0 where
  pub pairs : List IndexPair
  pub i : ℕ
  pub told_is : told ≡ nat_lt i (length pairs)
  pub walks : WalksPairs it flags bytes pairs (pair_place pairs i)

pub sought : (start it : IndexIter) (flags : IndexFlags) (bytes : List ℕ) (rows : List Row) (user : List ℕ) (tag : ℕ) (told : Bool) → Block (form_of flags) bytes rows
    → ((pairs : List IndexPair) → IndexRows flags.user_key flags.delta bytes pairs → WalksPairs start flags bytes pairs None)
    → ((flags : IndexFlags) (bytes : List ℕ) (pairs : List IndexPair) (place : Option ℕ) → WalksPairs start flags bytes pairs place
    → WalksPairs it flags bytes pairs (pair_place pairs (pairs_before flags.user_key user tag pairs)))
    → ((flags : IndexFlags) (bytes : List ℕ) (pairs : List IndexPair) (place : Option ℕ) → WalksPairs start flags bytes pairs place
    → told ≡ nat_lt (pairs_before flags.user_key user tag pairs) (length pairs))
    → Found it flags bytes told
sought start it flags bytes rows user tag told block starts moves tells =
    let (pairs, says) = some-pairs flags.user_key flags.delta bytes rows block in
    let w = starts pairs says in
    record {
      pairs = pairs;
      i = pairs_before flags.user_key user tag pairs;
      told_is = tells flags bytes pairs None w;
      walks = moves flags bytes pairs None w;
    }

pub found-goes : (it : IndexIter) (flags : IndexFlags) (bytes : List ℕ) (told : Bool) → Found it flags bytes told → Goes it told
found-goes it flags bytes told f = goes-to it flags bytes f.pairs f.i told f.told_is f.walks

-- it was paused there
pub record Paused (p : IndexPlace) (flags : IndexFlags) (bytes : List ℕ) (told : Bool) : Type 0 where
  pub pairs : List IndexPair
  pub i : ℕ
  pub told_is : told ≡ nat_lt i (length pairs)
  pub paused : PausedPairs p flags bytes pairs (pair_place pairs i)

paused-copy : (p : IndexPlace) (flags : IndexFlags) (bytes copy : List ℕ) (pairs : List IndexPair) (place : Option ℕ) → copy ≡ bytes
    → PausedPairs p flags bytes pairs place → PausedPairs p flags copy pairs place
paused-copy p flags bytes copy pairs place same w = rw same w

-- over the block, and so over a copy of it
pub found-paused : (it : IndexIter) (p : IndexPlace) (flags : IndexFlags) (bytes copy : List ℕ) (told : Bool) → Found it flags bytes told
    → ((flags : IndexFlags) (bytes : List ℕ) (pairs : List IndexPair) (place : Option ℕ) → WalksPairs it flags bytes pairs place → PausedPairs p flags bytes pairs place)
    → copy ≡ bytes → Paused p flags copy told
found-paused it p flags bytes copy told f pauses same =
    record {
      pairs = f.pairs;
      i = f.i;
      told_is = f.told_is;
      paused = paused-copy p flags bytes copy f.pairs (pair_place f.pairs f.i) same (pauses flags bytes f.pairs (pair_place f.pairs f.i) f.walks);
    }

-- it goes on from there
pub paused-found : (p : IndexPlace) (it : IndexIter) (flags : IndexFlags) (bytes : List ℕ) (told : Bool) → Paused p flags bytes told
    → ((pairs : List IndexPair) (at : Option ℕ) → PausedPairs p flags bytes pairs at → WalksPairs it flags bytes pairs at) → Found it flags bytes told
paused-found p it flags bytes told at resumes =
    record { pairs = at.pairs; i = at.i; told_is = at.told_is; walks = resumes at.pairs (pair_place at.pairs at.i) at.paused }
