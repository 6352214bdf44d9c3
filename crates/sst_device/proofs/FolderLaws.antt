-- What one call on a folder makes of what another left.
use Rattle.std.proofs.Common.{◌≡◌, ◌⊎◌, ℕ, ◌≤◌, List, [], ◌++◌, length, Bool, true, false, cond, IsTrue, Option, None, Some, refl, sym, ap, ◌∙◌, inl, inr, arith}
use Rattle.std.specs.Option.{option_map}
use Rattle.std.specs.Ordering.{is_eq, eq_by_cmp, nat_cmp}
use Rattle.std.specs.Cmp.Lexicographic.{slice_cmp, nat_list_cmp_total}
use Rattle.std.specs.FinMap.{get, insert, get-insert}
use Rattle.std.proofs.lemmas.Bool.{le-ltb, false≢true}
use Rattle.sst_key.proofs.KeyParts.{slice_cmp-same}
use Rattle.sst_device.specs.Folder.{Files, file_of, put_file, edit_file, changed_file, misses, ends_before}
use Rattle.sst_device.specs.Faults.{Rose}
use Rattle.sst_device.proofs.Maps.{insert-insert, same_name}

-- the file that was put is there
get-put : (files : Files) (name bytes : List ℕ) → get (insert files name bytes) name ≡ Some bytes
get-put files name bytes =
    get-insert nat_list_cmp_total files name bytes name
    ∙ ap (λ (r : Bool). cond r (Some bytes) (get files name)) (ap is_eq (slice_cmp-same name))

-- an edit of a file that was put
pub edit_file-put_file : (held : Option Files) (name bytes : List ℕ) (change : List ℕ → List ℕ)
    → edit_file (put_file held name bytes) name change ≡ put_file held name (change bytes)
edit_file-put_file None name bytes change = refl
edit_file-put_file (Some files) name bytes change =
    ap Some (ap (changed_file (insert files name bytes) name change) (get-put files name bytes) ∙ insert-insert files name bytes (change bytes))

-- a file that was put isn't missed
pub misses-put_file : (held : Option Files) (name bytes : List ℕ) → misses (put_file held name bytes) name 0 ≡ false
misses-put_file None name bytes = refl
misses-put_file (Some files) name bytes =
    ap (λ (o : Option (List ℕ)). ends_before o 0) (get-put files name bytes) ∙ le-ltb (length bytes) 0 (omega arith)

-- what an append to a file that was begun leaves
pub appended_to_new : (old mid new : Option Files) (name piece : List ℕ) → mid ≡ put_file old name []
    → new ≡ edit_file mid name (λ bytes. bytes ++ piece) → new ≡ put_file old name piece
appended_to_new old mid new name piece begun added =
    added ∙ ap (λ (held : Option Files). edit_file held name (λ bytes. bytes ++ piece)) begun
    ∙ edit_file-put_file old name [] (λ bytes. bytes ++ piece)

-- a failing append to a file that was begun has a fault as its cause
pub append_cause : (old mid : Option Files) (name : List ℕ) (before then_ now : ℕ) → mid ≡ put_file old name []
    → before ≤ then_ → IsTrue (misses mid name 0) ⊎ Rose then_ now → Rose before now
append_cause old mid name before then_ now begun counts (inl missed) =
    let none = ap (λ (held : Option Files). misses held name 0) begun ∙ misses-put_file old name [] in
    absurd (false≢true (sym none ∙ missed))
append_cause old mid name before then_ now begun counts (inr rose) = omega (arith, rose)

not-true : (r : Bool) → (r ≡ true → ⊥) → r ≡ false
not-true true never = absurd (never refl)
not-true false never = refl

-- the bytes of another file than the one that was put
get-other : (files : Files) (name other bytes : List ℕ) → (name ≡ other → ⊥) → get (insert files name bytes) other ≡ get files other
get-other files name other bytes differ =
    let another = not-true (eq_by_cmp (slice_cmp nat_cmp) other name) (λ same. differ (sym (same_name other name same))) in
    get-insert nat_list_cmp_total files name bytes other ∙ ap (λ (r : Bool). cond r (Some bytes) (get files other)) another

-- the named file has the bytes that were put, or what was done to its bytes
pub put-there : (files : Files) (name bytes : List ℕ) → file_of (put_file (Some files) name bytes) name ≡ Some bytes
put-there files name bytes = get-put files name bytes

edit-of : (files : Files) (name : List ℕ) (change : List ℕ → List ℕ) (found : Option (List ℕ)) → get files name ≡ found
    → get (changed_file files name change found) name ≡ option_map change found
edit-of files name change None is = is
edit-of files name change (Some bytes) is = get-put files name (change bytes)

pub edit-there : (held : Option Files) (name : List ℕ) (change : List ℕ → List ℕ)
    → file_of (edit_file held name change) name ≡ option_map change (file_of held name)
edit-there None name change = refl
edit-there (Some files) name change = edit-of files name change (get files name) refl

-- each other file is as it was
pub put-no-other : (held : Option Files) (name other bytes : List ℕ) → (name ≡ other → ⊥)
    → file_of (put_file held name bytes) other ≡ file_of held other
put-no-other None name other bytes differ = refl
put-no-other (Some files) name other bytes differ = get-other files name other bytes differ

edit-of-other : (files : Files) (name other : List ℕ) (change : List ℕ → List ℕ) (found : Option (List ℕ)) → (name ≡ other → ⊥)
    → get (changed_file files name change found) other ≡ get files other
edit-of-other files name other change None differ = refl
edit-of-other files name other change (Some bytes) differ = get-other files name other (change bytes) differ

pub edit-no-other : (held : Option Files) (name other : List ℕ) (change : List ℕ → List ℕ) → (name ≡ other → ⊥)
    → file_of (edit_file held name change) other ≡ file_of held other
edit-no-other None name other change differ = refl
edit-no-other (Some files) name other change differ = edit-of-other files name other change (get files name) differ
