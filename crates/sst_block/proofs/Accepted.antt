-- What an answer to the check of a block says of the rows that its bytes stand for.
use Rattle.std.proofs.Common.{◌≡◌, ℕ, ◌≤◌, ◌^◌, List, length, map, Result, Ok, Err, refl, ap, ◌∙◌}
use Rattle.std.specs.Result.{IfOk}
use Rattle.std.proofs.lemmas.List.{length-map}
use Rattle.sst_num.specs.declared.stops.Refused.{Refused}
use Rattle.sst_num.specs.declared.stops.Refused.TheVariants.{Cause, Memory}
use Rattle.sst_block.specs.declared.row_form.RowForm.{RowForm}
use Rattle.sst_block.specs.declared.fault.BlockFault.{BlockFault}
use Rattle.sst_block.specs.Block.{Row, Spelled, Block}
use Rattle.sst_block.specs.FirstFault.{IsFirstFault}
use Rattle.sst_block.specs.BlockReading.{block_read, Gives}
use Rattle.sst_block.proofs.BlockRead.{read-sound}
use Rattle.sst_block.proofs.FirstFaults.{read-first}
use Rattle.sst_block.proofs.OneReading.{no-rows}

-- a number of rows is answered of a block that stands for so many
pub accepted : (form : RowForm) (block : List ℕ) (answer : Result ℕ (Refused BlockFault)) → length block ≤ 2 ^ 29
    → Gives answer (block_read form block) → IfOk answer (λ n. (rows : List Row) × Block form block rows × (length rows ≡ n))
accepted form block (Ok n) short given =
    let rows : List Row = map (λ (s : Spelled). s.row) given.0 in
    (rows, read-sound form block rows short (record { spelled = given.0; reads = given.1; are_rows = refl }), length-map given.0 (λ (s : Spelled). s.row) ∙ given.2)
accepted form block (Err stop) short given = tt

-- a fault is answered of a block that stands for no rows, and is its first
pub refused : (form : RowForm) (block : List ℕ) (answer : Result ℕ (Refused BlockFault)) (fault : BlockFault)
    → Gives answer (block_read form block) → answer ≡ Err (Cause fault)
    → IsFirstFault form block fault × ((rows : List Row) → Block form block rows → ⊥)
refused form block (Ok n) fault given is = cc
refused form block (Err Memory) fault given is = cc
refused form block (Err (Cause found)) fault given is =
    let same : found ≡ fault = cc in
    let reads = given ∙ ap Err same in
    (read-first form block fault reads, λ rows. no-rows form block fault rows reads)
