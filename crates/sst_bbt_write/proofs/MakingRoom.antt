-- Before an entry is added the data block is ended if it is full, and the index is told of the entry.
use Rattle.std.proofs.Common.{◌≡◌, ℕ, true, false, None, Some, List, [], ◌∷◌, ◌++◌, refl, sym, ap, subst, arith}
use Rattle.std.proofs.lemmas.List.{append-nil}
use Rattle.sst_key.specs.declared.entries.Entry.{Entry}
use Rattle.sst_key.specs.Entry.{key_of}
use Rattle.sst_index.specs.Ends.{BlockEnd}
use Rattle.sst_index.specs.Index as index
use Rattle.sst_bbt_write.specs.declared.bbt_writer.BbtWriter.{BbtWriter}
use Rattle.sst_bbt_write.specs.declared.bbt_options.BbtOptions.{BbtOptions}
use Rattle.sst_bbt_write.specs.Cut.{Blocks, cut_of, is_full}
use Rattle.sst_bbt_write.specs.Keeps.{Awaits, MayEnd, Keeps, ended_now, with_room}
use Rattle.sst_bbt_write.specs.Written.{Fits, ends_from, index_options, next_key}
use Rattle.sst_bbt_write.proofs.Keeping.{keeps-with}
use Rattle.sst_bbt_write.proofs.CutSteps.{cut_of-begun, full-some, room-full, room-short}

-- the entry may be added to the list
pub awaits-next : (w : BbtWriter) (options : BbtOptions) (entries : List Entry) (bytes : List ℕ) (e : Entry)
    → Keeps w None (cut_of options entries) entries bytes → w.key.items ≡ key_of e → Fits (entries ++ e ∷ []) → Awaits w e (cut_of options entries) entries bytes
awaits-next w options entries bytes e kept key fits =
    record { keeps = kept; begun = cut_of-begun options entries; key = key; fits = fits }

-- the entry comes behind the ended blocks, if none is begun
told-ends : (options : BbtOptions) (ended : List (List Entry)) (current : List Entry) (key : List ℕ) → (current ≡ [] → ended ≡ [])
    → ends_from options 0 ended (next_key (current ∷ []) None) ≡ ends_from options 0 ended (next_key (current ∷ []) (Some key))
told-ends options ended [] key begun = let none = begun refl in rw none refl
told-ends options ended (e ∷ rest) key begun = refl

keeps-told : (w : BbtWriter) (e : Entry) (cut : Blocks) (entries : List Entry) (bytes : List ℕ) → Awaits w e cut entries bytes → Keeps w (Some (key_of e)) cut entries bytes
keeps-told w e cut entries bytes awaits =
    let told = told-ends w.options cut.ended cut.current (key_of e) awaits.begun in
    keeps-with w w None (Some (key_of e)) cut entries bytes awaits.keeps (subst (λ (l : List BlockEnd). index.Holds w.index (index_options w.options) l) told awaits.keeps.index) refl

-- the block that is full may be ended before the entry
pub ends-full : (w new : BbtWriter) (e : Entry) (cut : Blocks) (entries : List Entry) (bytes key : List ℕ) → Awaits w e cut entries bytes → is_full w.options cut.current ≡ true
    → Keeps new None cut entries bytes → key ≡ key_of e → MayEnd new (Some key) (e ∷ []) cut entries bytes
ends-full w new e cut entries bytes key awaits full kept key_is =
    let some = full-some w.options cut.current full in
    let rows = kept.rows in
    record { keeps = kept; some = omega arith; key = ap Some key_is; fits = awaits.fits }

-- then it is the room that was made
pub keeps-full : (w : BbtWriter) (e : Entry) (options : BbtOptions) (cut : Blocks) (entries : List Entry) (bytes key : List ℕ) → Keeps w (Some key) (ended_now cut) entries bytes
    → is_full options cut.current ≡ true → key ≡ key_of e → Keeps w (Some (key_of e)) (with_room options cut) entries bytes
keeps-full w e options cut entries bytes key kept full key_is =
    subst (λ (k : List ℕ). Keeps w (Some k) (with_room options cut) entries bytes) key_is
    (subst (λ (b : Blocks). Keeps w (Some key) b entries bytes) (sym (room-full options cut full)) kept)

-- a block that isn't full stays
pub keeps-short : (w : BbtWriter) (e : Entry) (cut : Blocks) (entries : List Entry) (bytes : List ℕ) → Awaits w e cut entries bytes
    → is_full w.options cut.current ≡ false → Keeps w (Some (key_of e)) (with_room w.options cut) entries (bytes ++ [])
keeps-short w e cut entries bytes awaits short =
    subst (λ (l : List ℕ). Keeps w (Some (key_of e)) (with_room w.options cut) entries l) (sym (append-nil bytes))
    (subst (λ (b : Blocks). Keeps w (Some (key_of e)) b entries bytes) (sym (room-short w.options cut short)) (keeps-told w e cut entries bytes awaits))
