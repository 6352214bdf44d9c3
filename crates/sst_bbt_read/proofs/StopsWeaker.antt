-- An answer that stops by one relation stops by a weaker one, and so for what holds where it is Ok.
use Rattle.std.proofs.Common.{Result, Ok, Err, OnOk}
use Rattle.sst_num.specs.declared.stops.Stop.{Stop}
use Rattle.sst_num.specs.declared.stops.Stop.TheVariants.{Damage, Device, Memory}
use Rattle.sst_bbt_read.specs.Reader.{Stopped}
use Rattle.sst_bbt_read.specs.declared.bbt_fault.BbtFault.{BbtFault}

pub stopped_weaker : {A : Type 0} (result : Result A (Stop BbtFault)) (P Q : BbtFault → Type 0) → ((fault : BbtFault) → P fault → Q fault) → Stopped result P → Stopped result Q
stopped_weaker (Ok x) P Q weaker is = tt
stopped_weaker (Err (Damage fault)) P Q weaker is = weaker fault is
stopped_weaker (Err Device) P Q weaker is = tt
stopped_weaker (Err Memory) P Q weaker is = tt

pub ok_weaker : {A : Type 0} (result : Result A (Stop BbtFault)) (P Q : Type 0) → (P → Q) → OnOk result P → OnOk result Q
ok_weaker (Ok x) P Q weaker is = weaker is
ok_weaker (Err stop) P Q weaker is = tt
