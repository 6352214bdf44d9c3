-- The fault with which a file fails to open is one that it shows, and a file that opens shows none.
use Rattle.std.proofs.Common.{◌⊎◌, inl, inr, ℕ, List}
use Rattle.hex.specs.Hex.{IsBytes}
use Rattle.sst_meta.specs.FooterReading.{last_bytes}
use Rattle.sst_bbt_spec.specs.BlockBased.{Opens}
use Rattle.sst_bbt_spec.specs.Parts.{Part}
use Rattle.sst_bbt_read.specs.OpeningFaults.{FailsToOpen}
use Rattle.sst_bbt_read.specs.OpeningSteps.{Shows}
use Rattle.sst_bbt_read.specs.declared.bbt_fault.BbtFault.{BbtFault}
use Rattle.sst_bbt_read.proofs.FirstOpening.{open-first}
use Rattle.sst_bbt_read.proofs.OpeningDecided.{opens-or_fails}
use Rattle.sst_bbt_read.proofs.StepsPass.{opens-passes}

-- the first fault is shown
pub fails-shown : (file : List ℕ) (fault : BbtFault) → IsBytes (last_bytes 53 file) → FailsToOpen file fault → Shows file fault
fails-shown file fault bytes fails = let found = open-first file fault bytes fails in (found.0, found.1.fails)

-- a file that opens shows none
pub opens-shows_none : (file : List ℕ) (parts : List Part) (fault : BbtFault) → Opens file parts → Shows file fault → ⊥
opens-shows_none file parts fault o shows = opens-passes file parts shows.0 o fault shows.1

-- so a file opens, or shows a fault
pub opens-or_shows : (file : List ℕ) → IsBytes (last_bytes 53 file) → ((parts : List Part) × Opens file parts) ⊎ ((fault : BbtFault) × Shows file fault)
opens-or_shows file bytes =
    elim (opens-or_fails file) [
      | inl good ↦ inl good
      | inr bad ↦ inr (bad.0, fails-shown file bad.0 bytes bad.1)
    ]
