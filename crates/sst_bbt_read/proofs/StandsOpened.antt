-- A file that stands for a list opens to the parts through which the list runs, and has no fault.
use Rattle.std.proofs.Common.{ℕ, List, Result, Ok, Err}
use Rattle.sst_num.specs.declared.stops.Stop.{Stop}
use Rattle.sst_num.specs.declared.stops.Stop.TheVariants.{Damage, Device, Memory}
use Rattle.sst_key.specs.declared.entries.Entry.{Entry}
use Rattle.sst_bbt_spec.specs.BlockBased.{BlockBased}
use Rattle.sst_bbt_spec.proofs.PartsLead.{opens-one}
use Rattle.sst_bbt_read.specs.Reader.{Opened, OpensTo}
use Rattle.sst_bbt_read.specs.TableBlocks.{OpenTable, parts_of}
use Rattle.sst_bbt_read.specs.declared.bbt_fault.BbtFault.{BbtFault}
use Rattle.sst_bbt_read.proofs.OpeningDecided.{opens-apart_fails}

pub opens_to : (result : Result OpenTable (Stop BbtFault)) (file : List ℕ) (entries : List Entry) (stands : BlockBased file entries)
    → Opened result file → OpensTo result stands.parts
opens_to (Ok table) file entries stands opened = opens-one file (parts_of table) stands.parts opened stands.opens
opens_to (Err (Damage fault)) file entries stands opened = opens-apart_fails file stands.parts fault stands.opens opened
opens_to (Err Device) file entries stands opened = tt
opens_to (Err Memory) file entries stands opened = tt
