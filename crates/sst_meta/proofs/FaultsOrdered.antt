-- The first of the faults of properties, where each is joined to those before it.
use Rattle.std.proofs.Common.{◌≡◌, ℕ, List, Option, None, Some, refl}
use Rattle.sst_block.specs.Block.{Row}
use Rattle.sst_meta.specs.LoadReading.{or_else, comparator_fault, index_type_fault, global_fault, external_fault, flag_fault, form_fault, props_fault}
use Rattle.sst_meta.specs.Names.{name_bytes, comparator}
use Rattle.sst_meta.specs.Pairs.{value_of}
use Rattle.sst_meta.specs.declared.meta_fault.MetaFault.{MetaFault}
use Rattle.sst_meta.specs.declared.name.Name.TheVariants as name

first_of_seven : (a b c d e f g : Option MetaFault)
    → or_else (or_else (or_else (or_else (or_else (or_else a b) c) d) e) f) g ≡ or_else a (or_else b (or_else c (or_else d (or_else e (or_else f g)))))
first_of_seven (Some x) b c d e f g = refl
first_of_seven None (Some x) c d e f g = refl
first_of_seven None None (Some x) d e f g = refl
first_of_seven None None None (Some x) e f g = refl
first_of_seven None None None None (Some x) f g = refl
first_of_seven None None None None None (Some x) g = refl
first_of_seven None None None None None None g = refl

-- joined one after another they are the first of them
joined_seven : (a b c d e f g ab ac ad ae af ag : Option MetaFault) → ab ≡ or_else a b → ac ≡ or_else ab c → ad ≡ or_else ac d → ae ≡ or_else ad e
    → af ≡ or_else ae f → ag ≡ or_else af g → ag ≡ or_else a (or_else b (or_else c (or_else d (or_else e (or_else f g)))))
joined_seven a b c d e f g ab ac ad ae af ag eb ec ed ee ef eg = rw (eg, ef, ee, ed, ec, eb) (first_of_seven a b c d e f g)

-- and where they are those of the properties, it is the fault of these
pub joined_faults : (props : List Row) (a b c d e f g ab ac ad ae af ag : Option MetaFault) (external global : Option (List ℕ))
    → ab ≡ or_else a b → ac ≡ or_else ab c → ad ≡ or_else ac d → ae ≡ or_else ad e → af ≡ or_else ae f → ag ≡ or_else af g
    → a ≡ comparator_fault (value_of comparator props)
    → b ≡ index_type_fault (value_of (name_bytes name.IndexType) props)
    → external ≡ value_of (name_bytes name.ExternalVersion) props → global ≡ value_of (name_bytes name.GlobalSequence) props
    → c ≡ global_fault external global
    → d ≡ external_fault (value_of (name_bytes name.ExternalVersion) props)
    → e ≡ flag_fault name.IndexKeyIsUserKey (value_of (name_bytes name.IndexKeyIsUserKey) props)
    → f ≡ flag_fault name.IndexValueIsDeltaEncoded (value_of (name_bytes name.IndexValueIsDeltaEncoded) props)
    → g ≡ form_fault props → ag ≡ props_fault props
unfolding props_fault
joined_faults props a b c d e f g ab ac ad ae af ag external global eb ec ed ee ef eg a_is b_is external_is global_is c_is d_is e_is f_is g_is =
    rw (joined_seven a b c d e f g ab ac ad ae af ag eb ec ed ee ef eg, a_is, b_is, c_is, external_is, global_is, d_is, e_is, f_is, g_is) refl
