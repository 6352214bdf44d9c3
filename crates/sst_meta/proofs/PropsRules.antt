-- The properties have no fault exactly where those that are looked at are good, and a fault of them is one that the file
-- shows.
use Rattle.std.proofs.Common.{◌≡◌, ℕ, if◌then◌else◌, false, List, Option, None, Some, refl}
use Rattle.sst_block.specs.Block.{Row}
use Rattle.sst_device.proofs.Choices.{by_test}
use Rattle.sst_meta.specs.LoadReading.{comparator_fault, index_type_fault, is_valued, is_marked, global_fault, external_fault, flag_fault, props_fault}
use Rattle.sst_meta.specs.Meta.{AreGood}
use Rattle.sst_meta.specs.Names.{name_bytes, comparator}
use Rattle.sst_meta.specs.Pairs.{value_of}
use Rattle.sst_meta.specs.declared.name.Name.TheVariants as name
use Rattle.sst_meta.specs.declared.meta_fault.MetaFault.{MetaFault}
use Rattle.sst_meta.specs.declared.meta_fault.MetaFault.TheVariants as meta
use Rattle.sst_meta.proofs.ValueRules.{or_else-none, comparator-good, comparator-none, index_type-good, index_type-none, global-good, external-good, external-none, flag-good, flag-none}

-- a form that isn't read yet, by the version of a file that was made outside a database
abbrev form : Option (List ℕ) → Option MetaFault
form external = if is_marked external then Some meta.NotYet else None

form-none : (external : Option (List ℕ)) → is_valued 2 external ≡ false → form external ≡ None
form-none external e = rw e refl

form-unmarked : (external : Option (List ℕ)) → form external ≡ None → is_valued 2 external ≡ false
form-unmarked external e = by_test (is_valued 2 external) (Some meta.NotYet) None None e (λ _ e. cc) (λ is _. is)

-- good properties have no fault
pub good-no_fault : (props : List Row) → AreGood props → props_fault props ≡ None
unfolding props_fault
good-no_fault props good =
    let a = comparator-good (value_of comparator props) good.comparator_is in
    let b = index_type-good (value_of (name_bytes name.IndexType) props) good.index_type in
    let c = external-good (value_of (name_bytes name.ExternalVersion) props) good.unmarked in
    let d = flag-good name.IndexKeyIsUserKey (value_of (name_bytes name.IndexKeyIsUserKey) props) good.user_key_flag in
    let f = flag-good name.IndexValueIsDeltaEncoded (value_of (name_bytes name.IndexValueIsDeltaEncoded) props) good.delta_flag in
    let g = global-good (value_of (name_bytes name.ExternalVersion) props) (value_of (name_bytes name.GlobalSequence) props) c.1 in
    rw (a, b, g, c.0, d, f) (form-none (value_of (name_bytes name.ExternalVersion) props) c.1)

-- properties without a fault are good
pub no_fault-good : (props : List Row) → props_fault props ≡ None → AreGood props
unfolding props_fault
no_fault-good props e =
    let a = or_else-none (comparator_fault (value_of comparator props)) _ e in
    let b = or_else-none (index_type_fault (value_of (name_bytes name.IndexType) props)) _ a.1 in
    let c = or_else-none (global_fault (value_of (name_bytes name.ExternalVersion) props) (value_of (name_bytes name.GlobalSequence) props)) _ b.1 in
    let d = or_else-none (external_fault (value_of (name_bytes name.ExternalVersion) props)) _ c.1 in
    let f = or_else-none (flag_fault name.IndexKeyIsUserKey (value_of (name_bytes name.IndexKeyIsUserKey) props)) _ d.1 in
    let g = or_else-none (flag_fault name.IndexValueIsDeltaEncoded (value_of (name_bytes name.IndexValueIsDeltaEncoded) props)) _ f.1 in
    let unmarked = form-unmarked (value_of (name_bytes name.ExternalVersion) props) g.1 in
    record {
      comparator_is = comparator-none (value_of comparator props) a.0;
      index_type = index_type-none (value_of (name_bytes name.IndexType) props) b.0;
      user_key_flag = flag-none name.IndexKeyIsUserKey (value_of (name_bytes name.IndexKeyIsUserKey) props) f.0;
      delta_flag = flag-none name.IndexValueIsDeltaEncoded (value_of (name_bytes name.IndexValueIsDeltaEncoded) props) g.0;
      unmarked = external-none (value_of (name_bytes name.ExternalVersion) props) d.0 unmarked;
    }
