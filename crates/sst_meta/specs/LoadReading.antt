-- What a table file says of itself, as it is read, or the first thing that is wrong, in this order: the file's length;
-- the kind of table; the footer; the metaindex; range tombstones; the properties; the order of user keys; then the names
-- that are looked at, in bytewise order. A global sequence number, which isn't read yet, comes last, but another kind of
-- table comes as soon as it is seen.
-- RocksDB: BlockBasedTable::Open, ReadPropertiesBlock and ReadRangeDelBlock in
-- table/block_based/block_based_table_reader.cc; ReadTableProperties and FindMetaBlock in table/meta_blocks.cc. Which
-- values are refused is this project's own.
use Rattle.std.specs.Prelude.{ℕ, ◌^◌, ◌==◌, nat_lt, if◌then◌else◌, Bool, false, List, length, Option, None, Some, bytes_eq, Result, Ok, Err}
use Rattle.std.specs.Option.{is_some}
use Rattle.sst_num.specs.NumberReading.{varint_at, fixed_at, handle_at}
use Rattle.sst_num.specs.declared.block_handle.Handle.{Handle}
use Rattle.sst_block.specs.declared.row_form.RowForm.TheVariants.{Names}
use Rattle.sst_block.specs.Block.{Row}
use Rattle.sst_key.specs.declared.calls.Format.{Format}
use Rattle.sst_meta.specs.BlockFooter.{footer_start}
use Rattle.sst_meta.specs.Blocks.{then_open, block_at}
use Rattle.sst_meta.specs.Footer.{later_length}
use Rattle.sst_meta.specs.FooterReading.{footer_read, format_at, last_bytes}
use Rattle.sst_meta.specs.Names.{name_bytes, range_tombstones, comparator, bytewise}
use Rattle.sst_meta.specs.Pairs.{value_of}
use Rattle.sst_meta.specs.declared.footer.Footer.{Footer}
use Rattle.sst_meta.specs.declared.loading.Loaded.{Loaded}
use Rattle.sst_meta.specs.declared.name.Name.{Name}
use Rattle.sst_meta.specs.declared.name.Name.TheVariants as name
use Rattle.sst_meta.specs.declared.meta_fault.MetaFault.{MetaFault}
use Rattle.sst_meta.specs.declared.meta_fault.MetaFault.TheVariants as meta

-- the footer by the format of the file; a plain or a cuckoo table isn't read yet
-- RocksDB: table/format.cc, DecodeFrom
-- Pinned by: a_footer_is_read, other_endings
abbrev pub by_format : List ℕ → Option Format → Result Footer MetaFault
by_format tail None = footer_read tail
by_format tail (Some Format.Block) = footer_read tail
by_format tail (Some Format.Plain) = Err meta.NotYet
by_format tail (Some Format.Cuckoo) = Err meta.NotYet

-- what the last 53 bytes of a file say, or the whole of a shorter file
-- RocksDB: table/format.cc, DecodeFrom
-- Pinned by: a_footer_is_read, other_endings
unfoldable pub end_read : List ℕ → Result Footer MetaFault
end_read tail = by_format tail (format_at tail)

-- what was read, if it took all of so many bytes
-- Own.
-- Pinned by: names_that_are_faults, properties_that_are_faults
abbrev pub exactly : {A : Type 0} → ℕ → Option (A × ℕ) → Option A
exactly n None = None
exactly n (Some read) = if read.1 == n then Some read.0 else None

-- the handle, or the varint, that a value is and nothing else
-- RocksDB: table/format.cc, util/coding.h
-- Pinned by: names_that_are_faults, properties_that_are_faults
unfoldable pub handle_in : List ℕ → Option Handle
handle_in value = exactly (length value) (handle_at value)

unfoldable pub varint_in : List ℕ → Option ℕ
varint_in value = exactly (length value) (varint_at value)

-- the number of n bytes that a value is and nothing else
-- RocksDB: table/format.cc, util/coding.h
-- Pinned by: names_that_are_faults, properties_that_are_faults
abbrev pub fixed_in : ℕ → List ℕ → Option ℕ
fixed_in n value = if length value == n then fixed_at n value else None

-- the number is there, and is this one
-- Own.
-- Pinned by: properties_that_are_faults
abbrev pub is_number : ℕ → Option ℕ → Bool
is_number n None = false
is_number n (Some m) = m == n

-- the number is there, and is below this one
-- Own.
-- Pinned by: properties_that_are_faults
abbrev pub is_below : ℕ → Option ℕ → Bool
is_below n None = false
is_below n (Some m) = nat_lt m n

-- the user keys are bytewise in order, or nothing is said of their order
-- Pinned by: properties_that_are_faults
abbrev pub comparator_fault : Option (List ℕ) → Option MetaFault
comparator_fault None = None
comparator_fault (Some value) = if bytes_eq value bytewise then None else Some meta.Comparator

-- the type of the index: 0 and 1 are one row for each data block, 2 has two levels
-- RocksDB: include/rocksdb/table.h, IndexType; 3 is refused
-- Pinned by: properties_that_are_faults
abbrev pub index_type_by : Option ℕ → Option MetaFault
index_type_by None = Some (meta.BadProperty name.IndexType)
index_type_by (Some type) = if nat_lt 2 type then Some (meta.IndexType type) else None

abbrev pub index_type_fault : Option (List ℕ) → Option MetaFault
index_type_fault None = None
index_type_fault (Some value) = index_type_by (fixed_in 4 value)

-- the value is there, and is this number of four bytes
-- Own.
-- Pinned by: properties_that_are_faults
abbrev pub is_valued : ℕ → Option (List ℕ) → Bool
is_valued n None = false
is_valued n (Some value) = is_number n (fixed_in 4 value)

-- the file is marked: it was made outside a database, and all its entries have one sequence number, which it says
-- RocksDB: sst_file_writer_collectors.h; what is refused is own
-- Pinned by: properties_that_are_faults
abbrev pub is_marked : Option (List ℕ) → Bool
is_marked external = is_valued 2 external

-- a marked file has the sequence number, which is below 2^56
-- RocksDB: sst_file_writer_collectors.h; what is refused is own
-- Pinned by: properties_that_are_faults
abbrev pub global_in : Option (List ℕ) → Option MetaFault
global_in None = Some (meta.MissingProperty name.GlobalSequence)
global_in (Some value) =
    if is_below (2 ^ 56) (fixed_in 8 value) then None else Some (meta.BadProperty name.GlobalSequence)

abbrev pub global_fault : Option (List ℕ) → Option (List ℕ) → Option MetaFault
global_fault external global = if is_marked external then global_in global else None

-- a file that was made outside a database has version 1, which says nothing more, or version 2, which marks it
-- RocksDB: sst_file_writer_collectors.h; what is refused is own
-- Pinned by: properties_that_are_faults
abbrev pub external_fault : Option (List ℕ) → Option MetaFault
external_fault None = None
external_fault (Some value) =
    if is_valued 1 (Some value) then None
    else if is_valued 2 (Some value) then None
    else Some (meta.BadProperty name.ExternalVersion)

-- a flag of the index is a varint
-- RocksDB: table_properties.cc
-- Pinned by: properties_that_are_faults, what_files_say_of_themselves
abbrev pub flag_fault : Name → Option (List ℕ) → Option MetaFault
flag_fault name None = None
flag_fault name (Some value) = if is_some (varint_in value) then None else Some (meta.BadProperty name)

-- a form that isn't read yet: the file is marked
-- Own, for now.
-- Pinned by: properties_that_are_faults, what_files_say_of_themselves
abbrev pub form_fault : List Row → Option MetaFault
form_fault props =
    if is_marked (value_of (name_bytes name.ExternalVersion) props) then Some meta.NotYet else None

-- one fault, or else another
-- Pinned by: properties_that_are_faults
abbrev pub or_else : Option MetaFault → Option MetaFault → Option MetaFault
or_else None next = next
or_else (Some fault) next = Some fault

-- the first fault of the properties that are looked at: the order of user keys, then the others by their names, then a
-- mark, which isn't read yet
-- Pinned by: properties_that_are_faults
unfoldable pub props_fault : List Row → Option MetaFault
props_fault props =
    or_else (comparator_fault (value_of comparator props))
    (or_else (index_type_fault (value_of (name_bytes name.IndexType) props))
    (or_else (global_fault (value_of (name_bytes name.ExternalVersion) props) (value_of (name_bytes name.GlobalSequence) props))
    (or_else (external_fault (value_of (name_bytes name.ExternalVersion) props))
    (or_else (flag_fault name.IndexKeyIsUserKey (value_of (name_bytes name.IndexKeyIsUserKey) props))
    (or_else (flag_fault name.IndexValueIsDeltaEncoded (value_of (name_bytes name.IndexValueIsDeltaEncoded) props))
    (form_fault props))))))

-- the properties, if they have no fault
-- Own.
-- Pinned by: a_file_loads_as_it_says, properties_that_are_good
abbrev pub unless_fault : List Row → Option MetaFault → Result (Option (List Row)) MetaFault
unless_fault props None = Ok (Some props)
unless_fault props (Some fault) = Err fault

abbrev pub sound_props : List Row → Result (Option (List Row)) MetaFault
sound_props props = unless_fault props (props_fault props)

-- the properties in the block at a handle
-- Pinned by: names_that_are_faults
abbrev pub props_in : List ℕ → ℕ → Option Handle → Result (Option (List Row)) MetaFault
props_in file end None = Err (meta.BadProperty name.Properties)
props_in file end (Some h) = then_open (block_at meta.Frame (meta.Block h) Names file end h) sound_props

-- the properties to which the metaindex leads; a file with no such name has none
-- Pinned by: names_that_are_faults
abbrev pub props_at : List ℕ → ℕ → Option (List ℕ) → Result (Option (List Row)) MetaFault
props_at file end None = Ok None
props_at file end (Some value) = props_in file end (handle_in value)

-- the properties of a file whose metaindex has these rows
-- Pinned by: names_that_are_faults
unfoldable pub props_read : List ℕ → ℕ → List Row → Result (Option (List Row)) MetaFault
props_read file end names =
    if is_some (value_of range_tombstones names) then Err meta.RangeTombstones
    else props_at file end (value_of (name_bytes name.Properties) names)

-- all that was read
-- Pinned by: a_file_loads_as_it_says, no_names
abbrev pub as_loaded : List ℕ → Footer → List Row → Option (List Row) → Loaded
as_loaded file footer names props = record { len = length file; footer = footer; names = names; props = props }

-- the metaindex and what it leads to
-- Pinned by: a_file_loads_as_it_says, no_names
abbrev pub names_read : List ℕ → ℕ → Footer → Result Loaded MetaFault
names_read file end footer =
    then_open (block_at meta.Frame (meta.Block footer.meta) Names file end footer.meta)
    (λ names. then_open (props_read file end names) (λ props. Ok (as_loaded file footer names props)))

-- what the file says of itself, or the first thing that is wrong
-- Pinned by: a_file_loads_as_it_says, a_file_of_two_to_the_forty_bytes
unfoldable pub load_read : List ℕ → Result Loaded MetaFault
load_read file =
    if nat_lt (length file) (2 ^ 40)
    then then_open (end_read (last_bytes later_length file)) (names_read file (footer_start file))
    else Err meta.FileLong
