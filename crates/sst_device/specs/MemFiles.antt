-- What the files of a folder in memory stand for.
-- Pinned by: put_file.ok, folders_in_memory
use Rattle.std.specs.Prelude.{ℕ, Bool, List, map, nat_eq}
use Rattle.std.specs.Cmp.Lexicographic.{pointwise}
use Rattle.std.specs.FinMap.{from_entries}
use Rattle.std.specs.String.{string_bytes}
use Rattle.sst_device.specs.Folder.{Files}
use Rattle.sst_device.specs.declared.memory.files.MemFile.{MemFile}

-- a file as an entry of the folder: the bytes of its name, and its bytes
abbrev pub file_entry : MemFile → List ℕ × List ℕ
file_entry file = (string_bytes file.name, file.bytes.items)

-- the folder of some files; the first of two files of one name counts
abbrev pub files_of : List MemFile → Files
files_of files = from_entries (map file_entry files)

-- the file has this name
abbrev pub is_named : List ℕ → MemFile → Bool
is_named name file = pointwise nat_eq name (string_bytes file.name)
