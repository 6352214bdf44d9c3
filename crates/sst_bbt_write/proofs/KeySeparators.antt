-- A separator as an index has it, read as a stored key: it stands between the last key of a block and the first of the next.
use Rattle.std.proofs.Common.{◌≡◌, ◌≢◌, ℕ, Bool, true, false, Option, None, Some, List, refl, sym, ap, ◌∙◌, subst}
use Rattle.std.specs.Ordering.{nat_cmp}
use Rattle.std.specs.Cmp.Lexicographic.{slice_cmp}
use Rattle.std.specs.declared.cmp.Ordering.TheVariants.{Less, Greater}
use Rattle.sst_key.specs.declared.entries.Entry.{Entry}
use Rattle.sst_key.specs.Entry.{key_of, tag}
use Rattle.sst_key.specs.InternalKey.{user_of, internal_cmp}
use Rattle.sst_key.proofs.KeyParts.{user_of-key}
use Rattle.sst_index.specs.Ends.{separator_in}
use Rattle.sst_index.specs.Separators.{separator_of, separator_between}
use Rattle.sst_index.proofs.Separated.{between-first, between-second, between-user_first, between-user_second, after-first, after-user_first}
use Rattle.sst_bbt_spec.specs.Parts as parts
use Rattle.sst_bbt_spec.proofs.UserKeys.{alone-upto, alone-after}

-- the separator of a block that ends with one key, and behind which the next begins with another, if there is one
abbrev pub separator_for : Bool → List ℕ → Option (List ℕ) → List ℕ
separator_for user_key last next = parts.separator_of user_key (separator_in user_key (separator_of last next))

user-is : (e : Entry) → user_of (key_of e) ≡ e.user
user-is e = user_of-key e.user (tag e.seq e.kind)

-- it isn't before the last key
stored_first : (last : List ℕ) (next : Option (List ℕ)) → internal_cmp last (separator_of last next) ≢ Greater
stored_first last None = after-first last
stored_first last (Some next) = between-first last next

user_first : (last : List ℕ) (next : Option (List ℕ)) → slice_cmp nat_cmp (user_of last) (user_of (separator_of last next)) ≢ Greater
user_first last None = after-user_first last
user_first last (Some next) = between-user_first last next

pub upto-separator : (user_key : Bool) (e : Entry) (next : Option (List ℕ)) → internal_cmp (key_of e) (separator_for user_key (key_of e) next) ≢ Greater
upto-separator false e next = stored_first (key_of e) next
upto-separator true e next =
    let s = user_of (separator_of (key_of e) next) in
    alone-upto s e (subst (λ (u : List ℕ). slice_cmp nat_cmp u s ≢ Greater) (user-is e) (user_first (key_of e) next))

-- and it is before the next key; where it is a user key, if the two have different ones
pub after-separator : (user_key : Bool) (last : List ℕ) (f : Entry) → internal_cmp last (key_of f) ≡ Less → (user_key ≡ true → user_of last ≢ user_of (key_of f))
    → internal_cmp (separator_for user_key last (Some (key_of f))) (key_of f) ≡ Less
after-separator false last f less apart = between-second last (key_of f) less
after-separator true last f less apart =
    let s = user_of (separator_between last (key_of f)) in
    alone-after s f (ap (λ (u : List ℕ). slice_cmp nat_cmp s u) (sym (user-is f)) ∙ between-user_second last (key_of f) less (apart refl))
