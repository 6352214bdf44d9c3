-- At a handle stand entries, or pairs of an index, or the block there has a fault, and not both.
use Rattle.std.proofs.Common.{◌≡◌, ◌⊎◌, inl, inr, ℕ, suc, ◌<◌, Bool, List, [], ◌∷◌, length, sym, ap, ◌∙◌, subst, arith}
use Rattle.std.proofs.lemmas.List.{length-map}
use Rattle.sst_num.specs.declared.block_handle.Handle.{Handle}
use Rattle.sst_key.specs.declared.entries.Entry.{Entry}
use Rattle.sst_block.specs.declared.row_form.RowForm.TheVariants.{Entries, Index}
use Rattle.sst_block.specs.Block.{Row, Spelled, Block}
use Rattle.sst_block.specs.IndexRows.{IndexPair, SayPairs, IndexRows}
use Rattle.sst_block.proofs.OneReading.{some-pairs}
use Rattle.sst_meta.specs.declared.index_form.IndexForm.{IndexForm}
use Rattle.sst_meta.proofs.BlocksRead.{RowsAt, rows-once}
use Rattle.sst_bbt_spec.specs.IndexLeads.{HoldsEntries, SaysPairs, HoldsPairs}
use Rattle.sst_bbt_spec.specs.Rows.{row_of, rows_of}
use Rattle.sst_bbt_spec.proofs.EntriesOfRows.{entries-of_rows}
use Rattle.sst_bbt_read.specs.OpeningFaults.{BlockFails, SomeBlockFails}
use Rattle.sst_bbt_read.specs.declared.bbt_fault.BbtFault.{BbtFault}
use Rattle.sst_bbt_read.proofs.BlockDecided.{block-either, block-apart, some-either, some-apart}

-- ---- entries

entries-held : (file : List ℕ) (end : ℕ) (h : Handle) (rows : List Row) → RowsAt Entries file end h rows → 0 < length rows
    → (entries : List Entry) × HoldsEntries file end h entries
entries-held file end h rows at some =
    let of = entries-of_rows rows at.block.forms in
    let many : length rows ≡ length of.entries = ap length of.are ∙ length-map of.entries row_of in (
      of.entries,
      record {
        block = at.bytes;
        framed = at.framed;
        rows = subst (λ (all : List Row). Block Entries at.bytes all) of.are at.block;
        some = omega (arith, many, some);
        seqs = of.seqs;
      },
    )

pub entries-either : (file : List ℕ) (end : ℕ) (h : Handle)
    → ((entries : List Entry) × HoldsEntries file end h entries) ⊎ ((fault : BbtFault) × SomeBlockFails Entries file end h fault)
entries-either file end h =
    elim (some-either Entries file end h) [
      | inl good ↦ inl (entries-held file end h good.0 good.1 good.2)
      | inr bad ↦ inr bad
    ]

pub entries-apart : (file : List ℕ) (end : ℕ) (h : Handle) (entries : List Entry) (fault : BbtFault) → HoldsEntries file end h entries
    → SomeBlockFails Entries file end h fault → ⊥
entries-apart file end h entries fault held fails =
    let many = length-map entries row_of in
    some-apart Entries file end h (rows_of entries) fault (record { bytes = held.block; framed = held.framed; block = held.rows })
    (omega (arith, many, held.some)) fails

-- ---- pairs

-- there is one pair for each row
pairs-many : (delta : Bool) (before : Handle) (spelled : List Spelled) (pairs : List IndexPair) → SayPairs delta before spelled pairs
    → length pairs ≡ length spelled
pairs-many delta before [] pairs say = ap length say
pairs-many delta before (s ∷ rest) [] say = absurd say
pairs-many delta before (s ∷ rest) (pair ∷ pairs) say = ap suc (pairs-many delta pair.handle rest pairs say.2)

rows-many : (user_key delta : Bool) (bytes : List ℕ) (pairs : List IndexPair) (is : IndexRows user_key delta bytes pairs) → length pairs ≡ length is.rows
rows-many user_key delta bytes pairs is =
    let each = pairs-many delta _ is.block.spelled pairs is.says in
    let spelled = length-map is.block.spelled (λ (s : Spelled). s.row) in
    each ∙ sym spelled ∙ ap length is.block.are_rows

rows-said : (file : List ℕ) (end : ℕ) (form : IndexForm) (h : Handle) (rows : List Row) → RowsAt (Index form.user_key form.delta) file end h rows
    → (pairs : List IndexPair) × SaysPairs file end form h pairs
rows-said file end form h rows at =
    let said = some-pairs form.user_key form.delta at.bytes rows at.block in
    (said.0, record { block = at.bytes; framed = at.framed; rows = said.1 })

said-rows : (file : List ℕ) (end : ℕ) (form : IndexForm) (h : Handle) (pairs : List IndexPair) (says : SaysPairs file end form h pairs)
    → RowsAt (Index form.user_key form.delta) file end h says.rows.rows
said-rows file end form h pairs says = record { bytes = says.block; framed = says.framed; block = says.rows.block }

-- an index block says its pairs, or has a fault
pub says-either : (file : List ℕ) (end : ℕ) (form : IndexForm) (h : Handle)
    → ((pairs : List IndexPair) × SaysPairs file end form h pairs) ⊎ ((fault : BbtFault) × BlockFails (Index form.user_key form.delta) file end h fault)
says-either file end form h =
    elim (block-either (Index form.user_key form.delta) file end h) [
      | inl good ↦ inl (rows-said file end form h good.0 good.1)
      | inr bad ↦ inr bad
    ]

pub says-apart : (file : List ℕ) (end : ℕ) (form : IndexForm) (h : Handle) (pairs : List IndexPair) (fault : BbtFault) → SaysPairs file end form h pairs
    → BlockFails (Index form.user_key form.delta) file end h fault → ⊥
says-apart file end form h pairs fault says fails =
    block-apart (Index form.user_key form.delta) file end h says.rows.rows fault (said-rows file end form h pairs says) fails

-- a part of the index has a pair at least
pairs-held : (file : List ℕ) (end : ℕ) (form : IndexForm) (h : Handle) (rows : List Row) → RowsAt (Index form.user_key form.delta) file end h rows
    → 0 < length rows → (pairs : List IndexPair) × HoldsPairs file end form h pairs
pairs-held file end form h rows at some =
    let said = rows-said file end form h rows at in
    let says = said.1 in
    let many = rows-many form.user_key form.delta says.block said.0 says.rows in
    let rows_there = said-rows file end form h said.0 says in
    let same = ap length (rows-once (Index form.user_key form.delta) file end h says.rows.rows rows at.bytes rows_there at.framed at.block) in
    (said.0, record { says = says; some = omega (arith, many, same, some) })

pub pairs-either : (file : List ℕ) (end : ℕ) (form : IndexForm) (h : Handle)
    → ((pairs : List IndexPair) × HoldsPairs file end form h pairs) ⊎ ((fault : BbtFault) × SomeBlockFails (Index form.user_key form.delta) file end h fault)
pairs-either file end form h =
    elim (some-either (Index form.user_key form.delta) file end h) [
      | inl good ↦ inl (pairs-held file end form h good.0 good.1 good.2)
      | inr bad ↦ inr bad
    ]

pub pairs-apart : (file : List ℕ) (end : ℕ) (form : IndexForm) (h : Handle) (pairs : List IndexPair) (fault : BbtFault) → HoldsPairs file end form h pairs
    → SomeBlockFails (Index form.user_key form.delta) file end h fault → ⊥
pairs-apart file end form h pairs fault held fails =
    let says = held.says in
    let many = rows-many form.user_key form.delta says.block pairs says.rows in
    some-apart (Index form.user_key form.delta) file end h says.rows.rows fault (said-rows file end form h pairs says)
    (omega (arith, many, held.some)) fails
