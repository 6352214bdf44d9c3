-- The first damage of a block, said by the rows and restarts that its bytes spell and not by reading them. Sound rows
-- stand before a faulty one, and sound rows and restarts before a faulty restart.
-- RocksDB: the layout at the top of table/block_based/block_builder.cc, and the checks of DecodeEntry in
-- table/block_based/block.cc. What is refused beyond RocksDB's checks is this project's own.
-- Pinned by: first_fault_is_first
use Rattle.std.specs.Prelude.{◌≡◌, ℕ, ◌+◌, ◌*◌, ◌^◌, ◌<◌, ◌≤◌, true, List, [], ◌∷◌, ◌++◌, length, map, All}
use Rattle.std.specs.List.{flat_map}
use Rattle.sst_num.specs.Spelling.{fixed}
use Rattle.sst_num.specs.declared.block_handle.Handle.{Handle}
use Rattle.sst_key.specs.Limits.{stored_key_limit}
use Rattle.sst_block.specs.declared.row_form.RowForm.{RowForm}
use Rattle.sst_block.specs.declared.row_form.RowForm.TheVariants.{Entries, Names, Index}
use Rattle.sst_block.specs.declared.fault.BlockFault.{BlockFault}
use Rattle.sst_block.specs.declared.fault.BlockFault.TheVariants.{BadRow, BadRestart, BadFooter, Disorder, BadKind, BadHash, BadHandle}
use Rattle.sst_block.specs.Block.{Row, Spelled, common, row_spelling, SharesFronts, AreRestarts, AreOrdered, IsInternalKey, HasForm, IsRow, no_handle, SayHandles, LeadsTo, LeadTo}
use Rattle.sst_block.specs.Builder.{last_key}
use Rattle.sst_block.specs.BlockReading.{has_tag}

-- the rows without their spelling
-- Own.
abbrev pub rows_spelled : List Spelled → List Row
rows_spelled spelled = map (λ (s : Spelled). s.row) spelled

-- the bytes end with the number of restarts, which is one at least, and have room for them before it
-- RocksDB: block.cc, Block::NumRestarts
-- Pinned by: first_fault_is_first, faulty_blocks
pub record HasFooter (bytes : List ℕ) (count : ℕ) : Type 0 where
  pub front : List ℕ
  pub joined : bytes ≡ front ++ fixed 4 count
  pub some : 0 < count
  pub fits : count < 2 ^ 32
  pub room : 4 * count ≤ length front

-- the rows may stand at the front of a block of the form
-- Own.
pub record AreSound (form : RowForm) (spelled : List Spelled) : Type 0 where
  pub fronts : SharesFronts [] spelled
  pub forms : All (IsRow form) (rows_spelled spelled)
  pub ordered : AreOrdered form (rows_spelled spelled)
  pub handles : SayHandles form no_handle spelled

-- the lengths of a row are good: it shares no more with the key before than they have in common, its key isn't too
-- long, its value's length is a number of 32 bits, and a key with a tag has the eight bytes of it
-- RocksDB: CheckAndDecodeEntry; the limit is own
-- Pinned by: first_fault_is_first, faulty_blocks
pub record HasGoodLengths (form : RowForm) (before : List ℕ) (s : Spelled) : Type 0 where
  pub shares : s.shared ≤ common before s.row.key
  pub short : length s.row.key ≤ stored_key_limit
  pub fits : length s.row.value < 2 ^ 32
  pub tagged : has_tag form ≡ true → 8 ≤ length s.row.key

-- no row with good lengths begins the bytes
-- Own.
abbrev pub BeginsNoRow : RowForm → List ℕ → List ℕ → Type 0
BeginsNoRow form before bytes =
    (s : Spelled) (after : List ℕ) → bytes ≡ row_spelling form s ++ after → HasGoodLengths form before s → ⊥

-- the row begins the bytes, and its lengths are good
-- Own.
pub record BeginsRow (form : RowForm) (before bytes : List ℕ) (s : Spelled) : Type 0 where
  pub after : List ℕ
  pub joined : bytes ≡ row_spelling form s ++ after
  pub lengths : HasGoodLengths form before s

-- the values of the form are block handles
-- Own.
abbrev pub HasHandles : RowForm → Type 0
HasHandles Entries = ⊥
HasHandles Names = ⊥
HasHandles (Index user_key delta) = Unit {0}

-- after the good rows, the last of which says the handle, the bytes begin, at this place, with a row that has the damage. Of
-- two damages of one row the first is that of its lengths, then what the form says, then the order.
-- Own.
-- Pinned by: first_fault_is_first, faulty_blocks, handles
abbrev pub IsRowFault : RowForm → List Spelled → Handle → ℕ → List ℕ → BlockFault → Type 0
IsRowFault form good handle at bytes (BadRow place) = (place ≡ at) × BeginsNoRow form (last_key [] (rows_spelled good)) bytes
IsRowFault form good handle at bytes (BadKind place) =
    (place ≡ at) × (form ≡ Entries) × ((s : Spelled) × BeginsRow form (last_key [] (rows_spelled good)) bytes s × (IsInternalKey s.row.key → ⊥))
IsRowFault form good handle at bytes (BadHandle place) =
    (place ≡ at) × HasHandles form × ((s : Spelled) × BeginsRow form (last_key [] (rows_spelled good)) bytes s)
    × ((s : Spelled) (h : Handle) → BeginsRow form (last_key [] (rows_spelled good)) bytes s → LeadsTo form handle s h → ⊥)
IsRowFault form good handle at bytes (Disorder place) =
    (place ≡ at) × ((s : Spelled) × (h : Handle) × BeginsRow form (last_key [] (rows_spelled good)) bytes s × HasForm form s.row × LeadsTo form handle s h × (AreOrdered form (rows_spelled good ++ s.row ∷ []) → ⊥))
IsRowFault form good handle at bytes (BadRestart i) = ⊥
IsRowFault form good handle at bytes BadFooter = ⊥
IsRowFault form good handle at bytes (BadHash place) = ⊥

-- the bytes hold sound rows, and then one that has the damage; `end` is what follows the rows
-- Own.
pub record HasFaultyRow (form : RowForm) (bytes : List ℕ) (fault : BlockFault) : Type 0 where
  pub count : ℕ
  pub good : List Spelled
  pub rest : List ℕ
  pub end : List ℕ
  pub footer : HasFooter bytes count
  pub joined : bytes ≡ flat_map (row_spelling form) good ++ (rest ++ end)
  pub ends : length end ≡ 4 * count + 4
  pub sound : AreSound form good
  pub handle : Handle
  pub leads : LeadTo form no_handle good handle
  pub some : 0 < length rest
  pub faulty : IsRowFault form good handle (length (flat_map (row_spelling form) good)) rest fault

-- the bytes hold sound rows alone, and then restarts of which number i is the first that breaks a rule: those before
-- it keep them, and with what stands in its place they don't
-- Own.
-- Pinned by: first_fault_is_first, faulty_blocks
pub record HasFaultyRestart (form : RowForm) (bytes : List ℕ) (i : ℕ) : Type 0 where
  pub count : ℕ
  pub spelled : List Spelled
  pub restarts : List ℕ
  pub rest : List ℕ
  pub footer : HasFooter bytes count
  pub joined : bytes ≡ flat_map (row_spelling form) spelled ++ (flat_map (fixed 4) restarts ++ rest)
  pub ends : length bytes ≡ length (flat_map (row_spelling form) spelled) + 4 * count + 4
  pub sound : AreSound form spelled
  pub number : length restarts ≡ i
  pub within : i < count
  pub kept : 0 < i → AreRestarts form restarts spelled
  pub broken : (restart : ℕ) (after : List ℕ) → restart < 2 ^ 32 → rest ≡ fixed 4 restart ++ after → AreRestarts form (restarts ++ restart ∷ []) spelled → ⊥

-- the damage is the first that the bytes have: the footer comes first, then the rows, then the restarts
-- Own.
abbrev pub IsFirstFault : RowForm → List ℕ → BlockFault → Type 0
IsFirstFault form bytes BadFooter = (count : ℕ) → HasFooter bytes count → ⊥
IsFirstFault form bytes (BadRestart i) = HasFaultyRestart form bytes i
IsFirstFault form bytes fault = HasFaultyRow form bytes fault
