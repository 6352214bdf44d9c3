-- The properties of a file that is written: they may stand in one block, which is short, and are read again.
use Rattle.std.proofs.Common.{inl, inr, ℕ, zero, suc, ◌≤◌, Bool, true, false, List, [], ◌∷◌, length, All, refl, sum_by, arith}
use Rattle.std.proofs.lemmas.List.Elements.{All-nil, All-cons}
use Rattle.std.proofs.lemmas.List.Sums.{sum_by-cons}
use Rattle.sst_num.specs.Spelling.{fixed, varint}
use Rattle.sst_block.specs.declared.row_form.RowForm.TheVariants.{Names}
use Rattle.sst_block.specs.Block.{Row, IsRow, AreOrdered}
use Rattle.sst_block.specs.Builder.{row_room}
use Rattle.sst_block.proofs.Size.{length-varint, block_of-le}
use Rattle.sst_index.specs.declared.flags.IndexFlags.{IndexFlags}
use Rattle.sst_meta.specs.Meta.{IsFlag, IsIndexType}
use Rattle.sst_meta.specs.MetaRows.{AreMetaRows}
use Rattle.sst_meta.specs.Names as names
use Rattle.sst_meta.specs.PropertyNames as property_names
use Rattle.sst_meta.specs.declared.name.Name.TheVariants as name
use Rattle.sst_meta.specs.Put.{AreProps, props_for}
use Rattle.sst_bbt_write.specs.declared.bbt_options.BbtOptions.{BbtOptions}
use Rattle.sst_bbt_write.specs.Written.{flag_number, index_type, property, properties}
use Rattle.sst_bbt_write.specs.declared.properties.Sizes.{Sizes}

-- the names of the properties are in bytewise order
properties-ordered : (options : BbtOptions) (flags : IndexFlags) (sizes : Sizes) → AreOrdered Names (properties options flags sizes)
properties-ordered options flags sizes = (refl, (refl, (refl, (refl, (refl, (refl, (refl, (refl, (refl, (refl, (refl, tt)))))))))))

-- a number's property has a value of at most ten bytes
number-value : (name : List ℕ) (v : ℕ) → length (property name (varint v)).value ≤ 10
number-value name v = length-varint v

-- that of the index's type has one of four
type-value : (parts : ℕ) → length (fixed 4 (index_type parts)) ≤ 4
type-value zero = omega arith
type-value (suc parts) = omega arith

-- they take at most 1,500 bytes
properties-room : (options : BbtOptions) (flags : IndexFlags) (sizes : Sizes) → sum_by row_room (properties options flags sizes) ≤ 1500
properties-room options flags sizes =
    omega (
      arith,
      type-value options.parts,
      number-value (names.name_bytes name.IndexKeyIsUserKey) (flag_number flags.user_key),
      number-value (names.name_bytes name.IndexValueIsDeltaEncoded) (flag_number flags.delta),
      number-value property_names.data_size sizes.data_size,
      number-value property_names.filter_size 0,
      number-value property_names.format_version options.version,
      number-value property_names.index_size sizes.index_size,
      number-value property_names.num_data_blocks sizes.blocks,
      number-value property_names.num_entries sizes.entries,
      number-value property_names.raw_key_size sizes.keys,
      number-value property_names.raw_value_size sizes.values,
    )

pub properties-short : (options : BbtOptions) (flags : IndexFlags) (sizes : Sizes) → length (props_for (properties options flags sizes)) ≤ 1508
properties-short options flags sizes = omega (arith, properties-room options flags sizes, block_of-le Names 65536 (properties options flags sizes))

-- the values that a reader looks at are good
type-good : (parts : ℕ) → IsIndexType (fixed 4 (index_type parts))
type-good zero = inl refl
type-good (suc parts) = inr (inr refl)

flag-good : (flag : Bool) → IsFlag (varint (flag_number flag))
flag-good true = (1, omega arith, refl)
flag-good false = (0, omega arith, refl)

-- rows that take few bytes may stand in a block of names
few-forms : (rows : List Row) → sum_by row_room rows ≤ 65544 → All (IsRow Names) rows
few-forms [] few = All-nil (IsRow Names)
few-forms (row ∷ rows) few =
    let sum = sum_by-cons row_room row rows in
    All-cons (IsRow Names) row rows (omega (arith, sum, few), tt) (few-forms rows (omega (arith, sum, few)))

pub properties-rows : (options : BbtOptions) (flags : IndexFlags) (sizes : Sizes) → AreMetaRows (properties options flags sizes)
properties-rows options flags sizes = record {
  forms = few-forms (properties options flags sizes) (omega (arith, properties-room options flags sizes));
  ordered = properties-ordered options flags sizes;
  room = omega (arith, properties-room options flags sizes);
}

pub properties-are : (options : BbtOptions) (flags : IndexFlags) (sizes : Sizes) → AreProps (properties options flags sizes)
properties-are options flags sizes = record {
  forms = few-forms (properties options flags sizes) (omega (arith, properties-room options flags sizes));
  ordered = properties-ordered options flags sizes;
  short = omega (arith, properties-short options flags sizes);
  good = record { comparator_is = refl; index_type = type-good options.parts; user_key_flag = flag-good flags.user_key; delta_flag = flag-good flags.delta; unmarked = tt };
}
