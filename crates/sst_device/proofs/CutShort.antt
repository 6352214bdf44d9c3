-- What a call that writes a piece leaves after an error: the bytes of a prefix are written.
use Rattle.std.proofs.Common.{◌≡◌, ℕ, ◌+◌, ◌≤◌, IsFalse, refl, arith, List, Some, Result, Ok, Err, OnOk, OnErr, ap, ◌∙◌, ◌⊎◌, inl, inr}
use Rattle.sst_device.specs.declared.folder.DevStop.{DevStop}
use Rattle.sst_device.specs.Folder.{Files, edit_file, misses}
use Rattle.sst_device.specs.Plans.{FailsWhere}
use Rattle.sst_device.proofs.MemFiles.{edit-none, misses-less}
use Rattle.sst_device.proofs.Plans.{fine-nowhere}

module _ (change : ℕ → List ℕ → List ℕ) (none : (bytes : List ℕ) → change 0 bytes ≡ bytes) (held new : Files) (name : List ℕ) where
  kept-none : new ≡ held → Some new ≡ edit_file (Some held) name (change 0)
  kept-none same = ap Some same ∙ edit-none name held (change 0) none

  -- where the files stay after an error, none of the bytes was written
  pub prefix-kept : (result : Result (Unit {0}) DevStop) → OnErr result (new ≡ held)
      → OnErr result ((n : ℕ) × (Some new ≡ edit_file (Some held) name (change n)))
  prefix-kept (Ok x) same = tt
  prefix-kept (Err e) same = (0, kept-none same)

  -- where a call that may itself run out of memory wrote the first bytes
  pub prefix-cut : (count : ℕ) (result : Result (Unit {0}) DevStop) → OnOk result (Some new ≡ edit_file (Some held) name (change count))
      → OnErr result (new ≡ held) → (n : ℕ) × (Some new ≡ edit_file (Some held) name (change n))
  prefix-cut count (Ok x) written same = (count, written)
  prefix-cut count (Err e) written same = (0, kept-none same)

  -- it wrote as many as there were of `most`, or nothing
  pub cut-or-kept : (count most : ℕ) (result : Result (Unit {0}) DevStop) → OnOk result (Some new ≡ edit_file (Some held) name (change count))
      → OnErr result (new ≡ held) → change count ≡ change most → (Some new ≡ edit_file (Some held) name (change most)) ⊎ (Some new ≡ Some held)
  cut-or-kept count most (Ok x) written same alike = inl (written ∙ ap (edit_file (Some held) name) alike)
  cut-or-kept count most (Err e) written same alike = inr (ap Some same)

  -- where a call that writes within the file alone wrote nothing
  pub within-kept : (at : ℕ) (result : Result (Unit {0}) DevStop) → OnErr result (new ≡ held)
      → OnErr result ((n : ℕ) × ((n ≡ 0) ⊎ IsFalse (misses (Some held) name (at + n))) × (Some new ≡ edit_file (Some held) name (change n)))
  within-kept at (Ok x) same = tt
  within-kept at (Err e) same = (0, inl refl, kept-none same)

  -- where it wrote the first bytes, or nothing
  pub within-cut : (at count whole : ℕ) (result : Result (Unit {0}) DevStop) → OnOk result (Some new ≡ edit_file (Some held) name (change count))
      → OnErr result (new ≡ held) → FailsWhere (misses (Some held) name (at + whole)) result → count ≤ whole
      → (n : ℕ) × ((n ≡ 0) ⊎ IsFalse (misses (Some held) name (at + n))) × (Some new ≡ edit_file (Some held) name (change n))
  within-cut at count whole (Ok x) written same fails less =
      (count, inr (misses-less (Some held) name (at + count) (at + whole) (omega (arith, less)) (fine-nowhere (misses (Some held) name (at + whole)) (Ok x) fails)), written)
  within-cut at count whole (Err e) written same fails less = (0, inl refl, kept-none same)
