-- What a call over an object outside says beside its answer: that its faults are counted, and each is told as one.
use Rattle.std.specs.Prelude.{◌≡◌, ◌⊎◌, ℕ, ◌≤◌, Option}
use Rattle.sst_device.specs.Faults.{Rose}
use Rattle.sst_device.specs.Folder.{Files}

-- A call over a stream hides no fault. `Failed` says that the call answers that a device failed; the numbers are the count
-- of faults before the call and after it.
-- Pinned by: put_all.faults, read_line.faults
pub record CountsFaults (Failed : Type 0) (before now : ℕ) : Type 0 where
  pub counts : before ≤ now
  pub hides_none : Failed ⊎ (now ≡ before)
  pub cause : Failed → Rose before now

-- A call only reads a folder, and hides no fault. `Missed` says that the folder tells that it lacks what the call needs: a
-- miss is told as a failure too, and counts nothing.
-- Pinned by: draw.folder, load.folder, open.folder
pub record OnlyReads (Failed Missed : Type 0) (held left : Option Files) (before now : ℕ) : Type 0 where
  pub same_files : left ≡ held
  pub counts : before ≤ now
  pub hides_none : Failed ⊎ (now ≡ before)
  pub cause : Failed → Missed ⊎ Rose before now
