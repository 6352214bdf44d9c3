-- What the answers of calls that read a file say of what the file reads as. Where a device failed or memory ran out an
-- answer says nothing.
-- Pinned by: a_failing_folder, stored_blocks, an_absent_file
use Rattle.std.specs.Prelude.{◌≡◌, Result, Ok, Err}
use Rattle.sst_num.specs.declared.stops.Stop.{Stop}
use Rattle.sst_num.specs.declared.stops.Stop.TheVariants.{Damage, Device, Memory}
use Rattle.sst_device.specs.declared.folder.DevStop.{DevStop}
use Rattle.sst_device.specs.declared.folder.DevStop.TheVariants as device

-- a stop of an object outside as one of a call that reads a file
abbrev pub stop_of : {X : Type 0} → DevStop → Stop X
stop_of device.Failed = Device
stop_of device.Memory = Memory

-- a stop with its fault as a fault of another type
abbrev pub stop_as : {X Y : Type 0} → (X → Y) → Stop X → Stop Y
stop_as f (Damage fault) = Damage (f fault)
stop_as f Device = Device
stop_as f Memory = Memory

-- an answer is what was read: the value, or the fault
-- Pinned by: open.told
abbrev pub Answers : {A X : Type 0} → Result A (Stop X) → Result A X → Type 0
Answers (Ok x) read = read ≡ Ok x
Answers (Err (Damage fault)) read = read ≡ Err fault
Answers (Err Device) read = Unit {0}
Answers (Err Memory) read = Unit {0}
