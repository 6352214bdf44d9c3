-- What a folder tells of its files, and what its calls make of them. A folder may tell nothing: then each
-- of these is `None` and says nothing.
-- Pinned by: one_file_changes, folders_in_memory
use Rattle.std.specs.Prelude.{ℕ, ◌+◌, Bool, true, false, List, ◌++◌, length, take, drop, nat_lt, Option, Some, None, option_and_then}
use Rattle.std.specs.Option.{option_map}
use Rattle.std.specs.Ordering.{nat_cmp}
use Rattle.std.specs.Cmp.Lexicographic.{slice_cmp}
use Rattle.std.specs.FinMap.{FinMap, get, insert}

-- the bytes of each file, by the bytes of its name
-- Pinned by: folders_in_memory
abbrev pub Files : Type 0
Files = FinMap (slice_cmp nat_cmp) (List ℕ)

-- the bytes of the named file, where they are told
-- Pinned by: file, folders_in_memory
abbrev pub file_of : Option Files → List ℕ → Option (List ℕ)
file_of held name = option_and_then (λ files. get files name) held

-- the named file holds these bytes, whatever it held before; no other file changes
abbrev pub put_file : Option Files → List ℕ → List ℕ → Option Files
put_file held name bytes = option_map (λ files. insert files name bytes) held

-- the files with `change` done to the bytes that the named file has, if it is there
abbrev pub changed_file : Files → List ℕ → (List ℕ → List ℕ) → Option (List ℕ) → Files
changed_file files name change None = files
changed_file files name change (Some bytes) = insert files name (change bytes)

-- `change` was done to the bytes of the named file; no other file changes
abbrev pub edit_file : Option Files → List ℕ → (List ℕ → List ℕ) → Option Files
edit_file held name change = option_map (λ files. changed_file files name change (get files name)) held

-- the file isn't there, or ends before `end`
-- Pinned by: folders_in_memory, stored_blocks
abbrev pub ends_before : Option (List ℕ) → ℕ → Bool
ends_before None end = true
ends_before (Some bytes) end = nat_lt (length bytes) end

-- a call that needs the first `end` bytes of the named file misses: the folder tells that they aren't there
-- Pinned by: read_at.miss, read_at.failed, folders_in_memory
abbrev pub misses : Option Files → List ℕ → ℕ → Bool
misses None name end = false
misses (Some files) name end = ends_before (get files name) end

-- the bytes with the piece written over those from `at` on
abbrev pub written_over : ℕ → List ℕ → List ℕ → List ℕ
written_over at piece bytes = take at bytes ++ (piece ++ drop (at + length piece) bytes)
