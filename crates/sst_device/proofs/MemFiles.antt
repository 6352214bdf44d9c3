-- What a look-up and a change in a list of files are to the folder that the list stands for.
use Rattle.std.proofs.Common.{◌≡◌, ℕ, zero, suc, ◌+◌, ◌<◌, List, [], ◌∷◌, ◌++◌, true, false, cond, Option, None, Some, refl, sym, ap, ◌∙◌, arith, length, get_or, set, take, drop, map, position, ◌≤◌, IsTrue}
use Rattle.std.proofs.lemmas.Bool.{le-ltb, lt-ltb, ltb-false}
use Rattle.std.specs.List.{position_from}
use Rattle.std.specs.Ordering.{nat_cmp, eq_by_cmp}
use Rattle.std.specs.Cmp.Lexicographic.{slice_cmp, nat_list_cmp_total, texts_ties}
use Rattle.std.proofs.lemmas.Cmp.{eq_by_cmp_equiv}
use Rattle.std.specs.String.{string_bytes}
use Rattle.std.specs.FinMap.{get, insert, get-insert, get-empty, from_entries, from_entries_push, get-from_entries}
use Rattle.std.proofs.lemmas.List.{map-append, take-append-drop}
use Rattle.std.proofs.Math.Seq.{take-append_seam}
use Rattle.std.proofs.lemmas.List.Quantifiers.{position-Some}
use Rattle.std.proofs.lemmas.Iterator.Adapters.{position_from-zero}
use Rattle.sst_device.specs.declared.memory.files.MemFile.{MemFile}
use Rattle.sst_device.specs.MemFiles.{file_entry, files_of, is_named}
use Rattle.sst_device.specs.Folder.{Files, written_over, edit_file, changed_file, ends_before, misses}
use Rattle.sst_device.proofs.Maps.{name_cmp_same, same_name, insert-insert, insert-swap, insert-same}

-- the name of a file that is named so
named_so : (name : List ℕ) (file : MemFile) → is_named name file ≡ true → name ≡ string_bytes file.name
named_so name file e = same_name name (string_bytes file.name) (sym (texts_ties name (string_bytes file.name)) ∙ e)

get-first : (name : List ℕ) (file : MemFile) (files : List MemFile) → is_named name file ≡ true → get (files_of (file ∷ files)) name ≡ Some file.bytes.items
get-first name file files e = get-insert nat_list_cmp_total (files_of files) (string_bytes file.name) file.bytes.items name
    ∙ ap (λ b. cond b (Some file.bytes.items) (get (files_of files) name)) (sym (texts_ties name (string_bytes file.name)) ∙ e)

get-later : (name : List ℕ) (file : MemFile) (files : List MemFile) → is_named name file ≡ false → get (files_of (file ∷ files)) name ≡ get (files_of files) name
get-later name file files e = get-insert nat_list_cmp_total (files_of files) (string_bytes file.name) file.bytes.items name
    ∙ ap (λ b. cond b (Some file.bytes.items) (get (files_of files) name)) (sym (texts_ties name (string_bytes file.name)) ∙ e)

get-absent_from : (name : List ℕ) (j : ℕ) (files : List MemFile) → position_from (is_named name) j files ≡ None → get (files_of files) name ≡ None
get-absent_from name j [] e = get-empty (slice_cmp nat_cmp) name
get-absent_from name j (file ∷ files) e =
    elim (is_named name file) as (λ b. is_named name file ≡ b → cond b (Some j) (position_from (is_named name) (j + 1) files) ≡ None → get (files_of (file ∷ files)) name ≡ None) [
      | true ↦ λ is no. absurd cc
      | false ↦ λ is no. get-later name file files is ∙ get-absent_from name (j + 1) files no
    ] refl e

-- a name that no file has
pub get-absent : (name : List ℕ) (files : List MemFile) → position (is_named name) files ≡ None → get (files_of files) name ≡ None
get-absent name files e = get-absent_from name 0 files (sym (position_from-zero (is_named name) files) ∙ e)

-- the file at `i` is the first of this name
record IsFirst (name : List ℕ) (files : List MemFile) (i : ℕ) (any : MemFile) : Type 0 where
  within : i < length files
  here : is_named name (get_or files i any) ≡ true
  before : (k : ℕ) → k < i → is_named name (get_or files k any) ≡ false

first_of_later : (name : List ℕ) (file : MemFile) (files : List MemFile) (i : ℕ) (any : MemFile) → IsFirst name (file ∷ files) (suc i) any → IsFirst name files i any
first_of_later name file files i any f = record {
  within = let w = f.within in omega arith;
  here = f.here;
  before = λ k below. f.before (suc k) (omega arith);
}

get-at : (name : List ℕ) (files : List MemFile) (i : ℕ) (any : MemFile) → IsFirst name files i any → get (files_of files) name ≡ Some (get_or files i any).bytes.items
get-at name [] i any f = absurd (let w = f.within in omega arith)
get-at name (file ∷ files) zero any f = get-first name file files f.here
get-at name (file ∷ files) (suc i) any f =
    get-later name file files (f.before 0 (omega arith)) ∙ get-at name files i any (first_of_later name file files i any f)

apart : (name : List ℕ) (file : MemFile) → is_named name file ≡ false → string_bytes file.name ≡ name → ⊥
apart name file e same =
    let tied = texts_ties name (string_bytes file.name) in
    let alike = ap (eq_by_cmp (slice_cmp nat_cmp) name) same in
    let itself = (eq_by_cmp_equiv nat_list_cmp_total).refl name in
    absurd cc

set-at : (name : List ℕ) (files : List MemFile) (i : ℕ) (any file : MemFile) → IsFirst name files i any → string_bytes file.name ≡ name
    → files_of (set files i file) ≡ insert (files_of files) name file.bytes.items
set-at name [] i any new f same = absurd (let w = f.within in omega arith)
set-at name (file ∷ files) zero any new f same =
    ap (λ n. insert (files_of files) n new.bytes.items) same ∙ sym (insert-insert (files_of files) name file.bytes.items new.bytes.items)
    ∙ ap (λ n. insert (insert (files_of files) n file.bytes.items) name new.bytes.items) (named_so name file f.here)
set-at name (file ∷ files) (suc i) any new f same =
    ap (λ m. insert m (string_bytes file.name) file.bytes.items) (set-at name files i any new (first_of_later name file files i any f) same)
    ∙ sym (insert-swap (files_of files) (string_bytes file.name) name file.bytes.items new.bytes.items (apart name file (f.before 0 (omega arith))))

first : (name : List ℕ) (files : List MemFile) (i : ℕ) (any : MemFile) → position (is_named name) files ≡ Some i → IsFirst name files i any
first name files i any e = let p = position-Some (is_named name) files i any e in record { within = p.0; here = p.1; before = p.2 }

named_at : (name : List ℕ) (files : List MemFile) (i : ℕ) (any file : MemFile) → IsFirst name files i any → string_bytes file.name ≡ string_bytes (get_or files i any).name
    → string_bytes file.name ≡ name
named_at name files i any file f same = same ∙ sym (named_so name (get_or files i any) f.here)

-- where a look-up in the list found a file: at `i`, the first of this name
pub record FoundAt (name : List ℕ) (files : List MemFile) (i : ℕ) (file : MemFile) : Type 0 where
  pub found : position (is_named name) files ≡ Some i
  pub is : file ≡ get_or files i file

pub found_at : (name : List ℕ) (looked files : List MemFile) (i : ℕ) (file : MemFile) → Some i ≡ position (is_named name) looked → looked ≡ files
    → file ≡ get_or files i file → FoundAt name files i file
found_at name looked files i file found same is = record { found = sym (found ∙ ap (position (is_named name)) same); is = is }

pub get-found : (name : List ℕ) (files : List MemFile) (i : ℕ) (file : MemFile) → FoundAt name files i file → get (files_of files) name ≡ Some file.bytes.items
get-found name files i file f = get-at name files i file (first name files i file f.found) ∙ ap (λ g. Some g.bytes.items) (sym f.is)

-- the file found is put in anew, under its name, with other bytes
pub set-found : (name : List ℕ) (files : List MemFile) (i : ℕ) (old new : MemFile) → FoundAt name files i old → string_bytes new.name ≡ string_bytes old.name
    → files_of (set files i new) ≡ insert (files_of files) name new.bytes.items
set-found name files i old new f same =
    let at = first name files i old f.found in
    set-at name files i old new at (named_at name files i old new at (same ∙ ap (λ g. string_bytes g.name) f.is))

-- the file found is put in anew with its bytes changed
pub edit-found : (name : List ℕ) (files : List MemFile) (i : ℕ) (old new : MemFile) (change : List ℕ → List ℕ) → FoundAt name files i old
    → string_bytes new.name ≡ string_bytes old.name → new.bytes.items ≡ change old.bytes.items
    → Some (files_of (set files i new)) ≡ edit_file (Some (files_of files)) name change
edit-found name files i old new change f same changed =
    ap Some (set-found name files i old new f same ∙ ap (insert (files_of files) name) changed)
    ∙ ap (λ found. Some (changed_file (files_of files) name change found)) (sym (get-found name files i old f))

-- the file found is put in anew with the bytes that it had
pub kept-found : (name : List ℕ) (files : List MemFile) (i : ℕ) (old new : MemFile) → FoundAt name files i old → string_bytes new.name ≡ string_bytes old.name
    → new.bytes.items ≡ old.bytes.items → files_of (set files i new) ≡ files_of files
kept-found name files i old new f same kept =
    set-found name files i old new f same ∙ ap (insert (files_of files) name) kept
    ∙ insert-same (files_of files) name old.bytes.items (get-found name files i old f)

-- a file of a new name
pub push-absent : (name : List ℕ) (files : List MemFile) (file : MemFile) → position (is_named name) files ≡ None → string_bytes file.name ≡ name
    → files_of (files ++ file ∷ []) ≡ insert (files_of files) name file.bytes.items
push-absent name files file none same =
    ap from_entries (map-append file_entry files (file ∷ [])) ∙ ap (λ n. from_entries (map file_entry files ++ (n, file.bytes.items) ∷ [])) same
    ∙ from_entries_push nat_list_cmp_total name_cmp_same (map file_entry files) name file.bytes.items
    (sym (get-from_entries nat_list_cmp_total (map file_entry files) name) ∙ get-absent name files none)

-- an edit that writes nothing leaves the folder as it was
pub edit-none : (name : List ℕ) (held : Files) (change : List ℕ → List ℕ) → ((bytes : List ℕ) → change bytes ≡ bytes) → Some held ≡ edit_file (Some held) name change
edit-none name held change none =
    elim (get held name) as (λ found. get held name ≡ found → Some held ≡ Some (changed_file held name change found)) [
      | None ↦ λ is. refl
      | Some bytes ↦ λ is. ap Some (sym (ap (insert held name) (none bytes) ∙ insert-same held name bytes is))
    ] refl

-- what a look-up found ends too soon, or reaches as far
pub ends-absent : (found : Option (List ℕ)) (end : ℕ) → found ≡ None → IsTrue (ends_before found end)
ends-absent found end e = ap (λ f. ends_before f end) e

pub ends-short : (found : Option (List ℕ)) (bytes : List ℕ) (end : ℕ) → found ≡ Some bytes → length bytes < end → IsTrue (ends_before found end)
ends-short found bytes end e short = ap (λ f. ends_before f end) e ∙ lt-ltb (length bytes) end short

pub ends-far : (found : Option (List ℕ)) (bytes : List ℕ) (end : ℕ) → found ≡ Some bytes → end ≤ length bytes → IsTrue (ends_before found end) → ⊥
ends-far found bytes end e reaches missed = let found = ap (λ f. ends_before f end) e ∙ le-ltb (length bytes) end reaches in absurd cc

-- what reaches as far as `more` reaches as far as any less
ends-less : (found : Option (List ℕ)) (less more : ℕ) → less ≤ more → ends_before found more ≡ false → ends_before found less ≡ false
ends-less None less more within e = absurd cc
ends-less (Some bytes) less more within e = le-ltb (length bytes) less (let far = ltb-false (length bytes) more e in omega arith)

-- where the first `more` bytes of a file are there, so are less
pub misses-less : (held : Option Files) (name : List ℕ) (less more : ℕ) → less ≤ more → misses held name more ≡ false → misses held name less ≡ false
misses-less None name less more within e = refl
misses-less (Some files) name less more within e = ends-less (get files name) less more within e

-- nothing written over bytes leaves them
pub written_over-nil : (at : ℕ) (bytes : List ℕ) → written_over at [] bytes ≡ bytes
written_over-nil at bytes = let e : at + 0 ≡ at = omega arith in ap (λ n. take at bytes ++ drop n bytes) e ∙ take-append-drop at bytes

pub same_written : (at start : ℕ) (piece part bytes known : List ℕ) → start ≡ at → part ≡ piece → known ≡ bytes → written_over start part known ≡ written_over at piece bytes
same_written at start piece part bytes known e f g =
    ap (λ n. written_over n part known) e ∙ ap (λ l. written_over at l known) f ∙ ap (written_over at piece) g

-- a vector of `len` elements after as many were written over all of its elements
pub refilled : (len : ℕ) (written old : List ℕ) → len ≡ length old → length written ≡ length old → take len (written ++ drop (length written) old) ≡ written
refilled len written old of_old of_new =
    ap (λ n. take n (written ++ drop (length written) old)) (of_old ∙ sym of_new) ∙ take-append_seam written (drop (length written) old)
