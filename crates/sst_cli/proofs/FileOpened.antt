-- A command that opens its file is carried out: the file opened, or the first thing that is wrong with it was found.
use Rattle.std.proofs.Common.{◌≡◌, ◌⊎◌, ℕ, List, [], Some, Result, Ok, Err, All, IsTrue}
use Rattle.sst_num.specs.declared.stops.Stop.{Stop}
use Rattle.sst_num.specs.declared.stops.Stop.TheVariants.{Damage, Device, Memory}
use Rattle.sst_device.specs.Folder.{file_of, misses}
use Rattle.sst_bbt_spec.specs.BlockBased.{Opens}
use Rattle.sst_bbt_spec.specs.Rows.{HasSeq}
use Rattle.sst_bbt_spec.specs.Parts.{Part, stored_in}
use Rattle.sst_bbt_read.specs.OpeningFaults.{FailsToOpen}
use Rattle.sst_bbt_read.specs.declared.bbt_fault.BbtFault.{BbtFault}
use Rattle.sst_cli.specs.Behaviour.{World, Outcome, Carries}
use Rattle.sst_cli.specs.OpenFile.{Damaged, Opened, cut_by, on_file}
use Rattle.sst_cli.specs.Printed.{IsPrinted}
use Rattle.sst_cli.specs.declared.status.Status.{Status}
use Rattle.sst_cli.proofs.Carried.{carries-printed}
use Rattle.sst_cli.proofs.FileFound.{file_opens, file_damaged}
use Rattle.sst_cli.proofs.OneReading.{with_err}

-- it opened, and what is answered of it was printed or cut short
pub carries-opened : {T : Type 0} (name : List ℕ) (answer : List Part → Outcome) (result : Result T (Stop BbtFault)) (reader : T) (parts : List Part) (before after : World) (status : Status) (P : Type 0)
    → result ≡ Ok reader → All HasSeq (stored_in parts)
    → (IsTrue (misses before.told.held name 0) → (result ≡ Err Device) ⊎ (result ≡ Err Memory))
    → ((file : List ℕ) → file_of before.told.held name ≡ Some file → Opens file parts)
    → after.told.held ≡ before.told.held → after.folder ≡ before.folder
    → after.told.left ≡ before.told.left → after.intake ≡ before.intake
    → IsPrinted status (answer parts) before.written after.written before.sink after.sink
    → Carries (on_file name answer) before after status P (Unit {0})
carries-opened name answer result reader parts before after status P is seqs absent told held quiet left intake printed =
    carries-printed (on_file name answer) (Opened parts) before after status P (Unit {0})
    (seqs, file_opens before.told.held name result reader parts is absent told)
    (held, left) held (λ none. absurd none) (λ spared. tt) quiet intake printed

-- it didn't, and its fault was printed or cut short
pub carries-damaged : {T : Type 0} (name : List ℕ) (answer : List Part → Outcome) (result : Result T (Stop BbtFault)) (fault : BbtFault) (before after : World) (status : Status) (P : Type 0)
    → result ≡ Err (Damage fault)
    → (IsTrue (misses before.told.held name 0) → (result ≡ Err Device) ⊎ (result ≡ Err Memory))
    → ((file : List ℕ) → file_of before.told.held name ≡ Some file → FailsToOpen file fault)
    → after.told.held ≡ before.told.held → (result ≡ Err Device) ⊎ (after.folder ≡ before.folder)
    → after.told.left ≡ before.told.left → after.intake ≡ before.intake
    → IsPrinted status (cut_by [] fault) before.written after.written before.sink after.sink
    → Carries (on_file name answer) before after status P (Unit {0})
carries-damaged name answer result fault before after status P is absent told held quiet left intake printed =
    carries-printed (on_file name answer) (Damaged fault) before after status P (Unit {0})
    (file_damaged before.told.held name result fault is absent told)
    (held, left) held (λ none. absurd none) (λ spared. tt) (with_err result (Damage fault) Device _ is (λ e. cc) quiet) intake printed
