-- The rows of a list of entries with one more, and how long a key is.
use Rattle.std.proofs.Common.{◌≡◌, ◌+◌, List, [], ◌∷◌, ◌++◌, length, length-append, arith}
use Rattle.std.proofs.lemmas.List.{map-append}
use Rattle.sst_num.specs.Spelling.{fixed}
use Rattle.sst_num.proofs.Fixed.{length-fixed}
use Rattle.sst_key.specs.declared.entries.Entry.{Entry}
use Rattle.sst_key.specs.Entry.{key_of, tag}
use Rattle.sst_bbt_spec.specs.Rows.{row_of, rows_of}

pub rows_of-append : (entries : List Entry) (e : Entry) → rows_of (entries ++ e ∷ []) ≡ rows_of entries ++ row_of e ∷ []
rows_of-append entries e = map-append row_of entries (e ∷ [])

-- how long a key is
pub length-key_of : (e : Entry) → length (key_of e) ≡ length e.user + 8
length-key_of e = omega (arith, length-append e.user (fixed 8 (tag e.seq e.kind)), length-fixed 8 (tag e.seq e.kind))
