-- What a block-based writer keeps between its calls.
use Rattle.std.specs.Prelude.{◌≡◌, ◌⊎◌, ℕ, true, List, None}
use Rattle.sst_key.specs.declared.entries.Entry.{Entry}
use Rattle.sst_bbt_write.specs.Cut.{cut_of}
use Rattle.sst_bbt_write.specs.Keeps.{Keeps}
use Rattle.sst_bbt_write.specs.declared.bbt_options.BbtOptions.{BbtOptions}
use Rattle.sst_bbt_write.specs.declared.bbt_writer.BbtWriter.{BbtWriter}

-- memory ran out in an earlier call
-- Pinned by: add.memory, add.later
abbrev pub HasFailed : BbtWriter → Type 0
HasFailed w = w.failed ≡ true

-- the writer was made with the options, the list was added to it, and these bytes were appended: it keeps the list as
-- the options cut it into data blocks
-- Pinned by: add.ok, finish.written
pub record After (w : BbtWriter) (options : BbtOptions) (entries : List Entry) (bytes : List ℕ) : Type 0 where
  pub chosen : w.options ≡ options
  pub keeps : Keeps w None (cut_of options entries) entries bytes

-- the writer has failed, or some list was added to it
-- Pinned by: finish.written, a_list_as_heavy_as_it_may_be
abbrev pub IsInUse : BbtWriter → Type 0
IsInUse w = HasFailed w ⊎ ((options : BbtOptions) × (entries : List Entry) × (bytes : List ℕ) × After w options entries bytes)
