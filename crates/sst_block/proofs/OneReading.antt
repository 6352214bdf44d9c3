-- A block has one list of rows, whatever its form, and none where it reads as a fault.
use Rattle.std.proofs.Common.{◌≡◌, ℕ, ◌^◌, ◌≤◌, Bool, List, length, map, Result, Ok, Err, refl, sym, subst, ap, ◌∙◌}
use Rattle.sst_block.specs.declared.row_form.RowForm.{RowForm}
use Rattle.sst_block.specs.declared.row_form.RowForm.TheVariants.{Index}
use Rattle.sst_block.specs.declared.fault.BlockFault.{BlockFault}
use Rattle.sst_block.specs.Block.{Row, Spelled, Block, no_handle}
use Rattle.sst_block.specs.IndexRows.{IndexPair, SayPairs, IndexRows}
use Rattle.sst_block.specs.BlockReading.{nothing_before, block_read, Reads}
use Rattle.sst_block.proofs.BlockRead.{block-follows, block-reads, read-complete, read-sound}
use Rattle.sst_block.proofs.Leading.{pairs-one, pairs-some}

-- what reads as a fault has no rows
pub no-rows : (form : RowForm) (bytes : List ℕ) (fault : BlockFault) (rows : List Row)
    → block_read form bytes ≡ Err fault → Block form bytes rows → ⊥
no-rows form bytes fault rows is block = let read = read-complete form bytes rows block in cc (is, read.reads)

-- what has no rows reads as a fault
fault-of : (form : RowForm) (bytes : List ℕ) (read : Result (List Spelled) BlockFault) → block_read form bytes ≡ read
    → ((rows : List Row) → Reads form bytes rows → ⊥) → (fault : BlockFault) × (block_read form bytes ≡ Err fault)
fault-of form bytes (Ok spelled) is none =
    absurd (none (map (λ (s : Spelled). s.row) spelled) (record { spelled = spelled; reads = is; are_rows = refl }))
fault-of form bytes (Err fault) is none = (fault, is)

pub some-fault : (form : RowForm) (bytes : List ℕ) → length bytes ≤ 2 ^ 29
    → ((rows : List Row) → Block form bytes rows → ⊥) → (fault : BlockFault) × (block_read form bytes ≡ Err fault)
some-fault form bytes short none =
    fault-of form bytes (block_read form bytes) refl (λ rows reads. none rows (read-sound form bytes rows short reads))

-- what was read is one list
reads-one : (form : RowForm) (bytes : List ℕ) (a b : List Row) → Reads form bytes a → Reads form bytes b → a ≡ b
reads-one form bytes a b left right =
    let same : left.spelled ≡ right.spelled = cc (left.reads, right.reads) in
    sym left.are_rows ∙ ap (λ (all : List Spelled). map (λ (s : Spelled). s.row) all) same ∙ right.are_rows

-- a block of any form has one list of rows
pub one-list : (form : RowForm) (bytes : List ℕ) (a b : List Row) → Block form bytes a → Block form bytes b → a ≡ b
one-list form bytes a b left right =
    reads-one form bytes a b (read-complete form bytes a left) (read-complete form bytes b right)

-- so a block has one list of spelled rows
pub one-spelled : (form : RowForm) (bytes : List ℕ) (a b : List Row) (left : Block form bytes a) (right : Block form bytes b) → left.spelled ≡ right.spelled
one-spelled form bytes a b left right =
    let first = block-reads form bytes a left in
    let second = block-reads form bytes b right in
    cc (first, second)

-- the bytes of an index say one list of pairs
pub one-pairs : (user_key delta : Bool) (bytes : List ℕ) (a b : List IndexPair) → IndexRows user_key delta bytes a → IndexRows user_key delta bytes b → a ≡ b
one-pairs user_key delta bytes a b left right =
    let same = one-spelled (Index user_key delta) bytes left.rows right.rows left.block right.block in
    pairs-one delta no_handle right.block.spelled a b (subst (λ (all : List Spelled). SayPairs delta no_handle all a) same left.says) right.says

-- each block of an index has its pairs
pub some-pairs : (user_key delta : Bool) (bytes : List ℕ) (rows : List Row) → Block (Index user_key delta) bytes rows
    → (pairs : List IndexPair) × IndexRows user_key delta bytes pairs
some-pairs user_key delta bytes rows block =
    let found = pairs-some user_key delta nothing_before block.spelled (block-follows (Index user_key delta) bytes rows block) in
    (found.0, record { rows = rows; block = block; says = found.1 })
