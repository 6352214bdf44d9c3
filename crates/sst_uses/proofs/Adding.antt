-- How far the entries of a list were added to a writer.
use Rattle.std.proofs.Common.{◌≡◌, ℕ, ◌+◌, List, [], ◌∷◌, ◌++◌, take, drop, Some, slice_get, Result, Err, sym, ap, ◌∙◌}
use Rattle.std.proofs.lemmas.List.{take-append-drop, append_assoc}
use Rattle.sst_num.specs.declared.stops.Refused.{Refused}
use Rattle.sst_num.specs.declared.stops.Refused.TheVariants.{Cause}
use Rattle.sst_key.specs.declared.entries.Entry.{Entry}
use Rattle.sst_key.specs.declared.faults.WriteFault.{WriteFault}
use Rattle.sst_bbt_write.specs.Reasons.{reason}
use Rattle.sst_bbt_write.specs.Written.{Written}
use Rattle.sst_bbt_write.specs.declared.bbt_options.BbtOptions.{BbtOptions}
use Rattle.sst_uses.specs.Uses.{IsRefused}
use Rattle.sst_uses.proofs.Copied.{one_on}

-- the reason that is handed on is the one that came
pub came : {T : Type 0} (result : Result T (Refused WriteFault)) (passed first : Refused WriteFault) (fault : WriteFault) → result ≡ Err passed → passed ≡ first
    → result ≡ Err (Cause fault) → first ≡ Cause fault
came {T} result passed first fault is same told =
    let both : ◌≡◌ {A = Result T (Refused WriteFault)} (Err passed) (Err (Cause fault)) = sym is ∙ told in
    let one : passed ≡ Cause fault = cc in sym same ∙ one

-- a list is what comes before an entry of it, the entry, and the rest
split : (entries : List Entry) (i : ℕ) (e : Entry) → slice_get entries i ≡ Some e → entries ≡ take i entries ++ e ∷ drop (i + 1) entries
split entries i e at =
    sym (take-append-drop (i + 1) entries) ∙ ap (λ (front : List Entry). front ++ drop (i + 1) entries) (sym (one_on entries i e at))
    ∙ append_assoc (take i entries) (e ∷ []) (drop (i + 1) entries)

-- the entry that is refused stands in the list
pub refused_at : (entries : List Entry) (i : ℕ) (e given : Entry) (fault : WriteFault) → slice_get entries i ≡ Some e → given ≡ e
    → reason (take i entries) given ≡ Some fault → IsRefused entries fault
refused_at entries i e given fault at same why = record {
  front = take i entries;
  entry = e;
  back = drop (i + 1) entries;
  parts = split entries i e at;
  why = ap (reason (take i entries)) (sym same) ∙ why;
}

-- what is written for the entries so far, which are all, is written for the list
pub whole : (options : BbtOptions) (file all : List ℕ) (done entries : List Entry) → file ≡ all → done ≡ entries → Written options all done
    → Written options file entries
whole options file all done entries same are written = rw (same, sym are) written
