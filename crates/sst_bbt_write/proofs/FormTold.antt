-- The properties that are written tell the form of the index.
use Rattle.std.proofs.Common.{◌≡◌, ℕ, zero, suc, Bool, true, false, not, bytes_eq, Some, refl}
use Rattle.sst_num.specs.Spelling.{fixed, varint}
use Rattle.sst_index.specs.declared.flags.IndexFlags.{IndexFlags}
use Rattle.sst_meta.specs.IndexForms.{index_form}
use Rattle.sst_meta.specs.declared.index_form.IndexForm.{IndexForm}
use Rattle.sst_bbt_write.specs.Written.{index_type, flag_number, properties}
use Rattle.sst_bbt_write.proofs.PartsLead.{is_parted, form_with}
use Rattle.sst_bbt_write.specs.declared.bbt_options.BbtOptions.{BbtOptions}
use Rattle.sst_bbt_write.specs.declared.properties.Sizes.{Sizes}

parted-told : (parts : ℕ) → bytes_eq (fixed 4 (index_type parts)) (fixed 4 2) ≡ is_parted parts
parted-told zero = refl
parted-told (suc k) = refl

flag-told : (flag : Bool) → not (bytes_eq (varint (flag_number flag)) (varint 0)) ≡ flag
unfolding varint
flag-told true = refl
flag-told false = refl

form-made : (p q u v d e : Bool) → p ≡ q → u ≡ v → d ≡ e
    → ◌≡◌ {A = IndexForm} (record { parted = p; user_key = u; delta = d }) (record { parted = q; user_key = v; delta = e })
form-made p q u v d e parted user_key delta = rw (parted, user_key, delta) refl

pub form-told : (options : BbtOptions) (flags : IndexFlags) (sizes : Sizes) → index_form (Some (properties options flags sizes)) ≡ form_with options.parts flags
form-told options flags sizes =
    form-made (bytes_eq (fixed 4 (index_type options.parts)) (fixed 4 2)) (is_parted options.parts) (not (bytes_eq (varint (flag_number flags.user_key)) (varint 0))) flags.user_key
    (not (bytes_eq (varint (flag_number flags.delta)) (varint 0))) flags.delta (parted-told options.parts) (flag-told flags.user_key) (flag-told flags.delta)
