-- Between two rows the key before fits the room that is used again for it.
use Rattle.std.proofs.Common.{◌≡◌, ℕ, ◌+◌, ◌-◌, ◌*◌, ◌<◌, ◌≤◌, Bool, false, List, length, take, drop, refl, subst, sym, length-append, arith}
use Rattle.std.specs.Prelude.{Ok}
use Rattle.std.proofs.lemmas.List.{length-take}
use Rattle.sst_num.specs.declared.block_handle.Handle.{Handle}
use Rattle.sst_block.specs.declared.row_form.RowForm.{RowForm}
use Rattle.sst_block.specs.declared.row.Lengths.{Lengths}
use Rattle.sst_block.specs.BlockReading.{row_read, handle_after}
use Rattle.sst_block.specs.Rows.{key_held, row_lent, row_length, FitsIn, IsLongEnough}
use Rattle.sst_block.specs.Restarts.{Open, met_by}
use Rattle.sst_block.proofs.Pass.{Along, Along-more}

-- what the loop over the rows keeps
pub record AlongInRoom (form : RowForm) (o : Open) (rows left : List ℕ) (at count : ℕ) (first : Bool) (key : List ℕ) (handle : Handle) (unmet : Open) : Type 0 where
  pub along : Along form o rows left at count first key handle unmet
  pub short : length key ≤ 65544

-- the key of a row whose lengths agree isn't too long
key-short : (before bytes : List ℕ) (l : Lengths) → FitsIn (length before) (length bytes) l → length ((row_lent before bytes l).0.row.key) ≤ 65544
key-short before bytes l fits =
    let front = length-take l.shared before in
    let rest = length-take l.rest (drop l.used bytes) in
    let both = length-append (take l.shared before) (take l.rest (drop l.used bytes)) in
    let key = fits.key in
    omega (arith, front, rest, both, key)

-- one row more
pub AlongInRoom-more : (form : RowForm) (o : Open) (rows left after : List ℕ) (at count : ℕ) (first : Bool) (before key value : List ℕ) (handle next_handle : Handle) (unmet others : Open) (l : Lengths)
    → AlongInRoom form o rows left at count first before handle unmet → 0 < length left
    → Ok (row_lent before left l) ≡ row_read form at (record { key = key_held first before; handle = handle }) left
    → FitsIn (length before) (length left) l → key ≡ (row_lent before left l).0.row.key → IsLongEnough form key
    → others ≡ met_by l.shared at unmet → 4 * others.missing ≤ length others.left
    → after ≡ drop (row_length l) left → value ≡ take l.value (drop (l.used + l.rest) left) → next_handle ≡ handle_after form handle l.shared value
    → AlongInRoom form o rows after (at + (length left - length after)) (count + 1) false key next_handle others
AlongInRoom-more form o rows left after at count first before key value handle next_handle unmet others l k some exact fits is long met_too whole rest cut says =
    record {
      along = Along-more form o rows left after at count first before key key value handle next_handle unmet others l k.along some exact fits is long met_too whole rest refl cut says;
      short = subst (λ (b : List ℕ). length b ≤ 65544) (sym is) (key-short before left l fits);
    }
