-- What a builder keeps of one data block more.
use Rattle.std.proofs.Common.{◌≡◌, ℕ, ◌+◌, ◌-◌, Bool, false, ◌||◌, List, [], ◌∷◌, ◌++◌, length, length-append, refl, sym, ap, ◌∙◌, arith}
use Rattle.std.specs.List.{flat_map, list_any}
use Rattle.std.proofs.lemmas.Grind.{flat_map-append}
use Rattle.std.proofs.lemmas.List.{append-nil}
use Rattle.std.proofs.lemmas.List.Folds.{list_any-append}
use Rattle.sst_num.specs.declared.block_handle.Handle.{Handle}
use Rattle.sst_index.specs.declared.builder.IndexBuilder.{IndexBuilder}
use Rattle.sst_index.specs.declared.builder.IndexRow.{IndexRow}
use Rattle.sst_index.specs.Ends.{BlockEnd, AreEnds, shares_user, stored_separator}
use Rattle.sst_index.specs.Index.{Holds, rows_from}
use Rattle.sst_index.specs.IndexBytes.{IndexOptions}

keys-more : (ends : List BlockEnd) (e : BlockEnd) → flat_map stored_separator (ends ++ e ∷ []) ≡ flat_map stored_separator ends ++ stored_separator e
keys-more ends e = flat_map-append stored_separator ends (e ∷ []) ∙ ap (λ (l : List ℕ). flat_map stored_separator ends ++ l) (append-nil (stored_separator e))

rows-more : (at n : ℕ) (ends : List BlockEnd) (e : BlockEnd) → n ≡ at + length (flat_map stored_separator ends)
    → rows_from at (ends ++ e ∷ []) ≡ rows_from at ends ++ record { start = n; length = length (stored_separator e); handle = e.handle } ∷ []
rows-more at n [] e place =
    let here : at ≡ n = omega (arith, place) in
    rw here refl
rows-more at n (x ∷ ends) e place =
    let m = at + length (stored_separator x) in
    ap (λ (rows : List IndexRow). record { start = at; length = length (stored_separator x); handle = x.handle } ∷ rows)
    (rows-more m n ends e (omega (arith, place, length-append (stored_separator x) (flat_map stored_separator ends))))

or-false : (a b : Bool) → (a || (b || false)) ≡ (a || b)
or-false a b = grind arith

shares-more : (ends : List BlockEnd) (e : BlockEnd) → list_any shares_user (ends ++ e ∷ []) ≡ (list_any shares_user ends || shares_user e)
shares-more ends e = list_any-append shares_user ends (e ∷ []) ∙ or-false (list_any shares_user ends) (shares_user e)

row_made : (start m n : ℕ) (h : Handle) → m ≡ n → ◌≡◌ {A = List IndexRow} (record { start = start; length = m; handle = h } ∷ []) (record { start = start; length = n; handle = h } ∷ [])
row_made start m n h e = rw e refl

-- the builder holds the block as well
pub holds_more : (old new : IndexBuilder) (o : IndexOptions) (ends : List BlockEnd) (e : BlockEnd) → Holds old o ends → AreEnds (ends ++ e ∷ [])
    → new.failed ≡ old.failed → new.version ≡ old.version → new.interval ≡ old.interval → new.parts ≡ old.parts
    → new.keys.items ≡ old.keys.items ++ stored_separator e
    → (start n : ℕ) → start ≡ length old.keys.items → n ≡ length new.keys.items - start
    → new.rows.items ≡ old.rows.items ++ record { start = start; length = n; handle = e.handle } ∷ []
    → new.shares ≡ (old.shares || shares_user e)
    → Holds new o (ends ++ e ∷ [])
holds_more old new o ends e holds stand failed version interval parts keys start n begins long rows shares =
    let place : start ≡ 0 + length (flat_map stored_separator ends) = omega (arith, begins, ap length holds.keys_are) in
    let size : n ≡ length (stored_separator e) = omega (arith, long, begins, ap length keys, length-append old.keys.items (stored_separator e)) in
    record {
      sound = failed ∙ holds.sound;
      version_is = version ∙ holds.version_is;
      interval_is = interval ∙ holds.interval_is;
      parts_is = parts ∙ holds.parts_is;
      options = holds.options;
      keys_are = keys ∙ ap (λ (l : List ℕ). l ++ stored_separator e) holds.keys_are ∙ sym (keys-more ends e);
      rows_are = rows ∙ ap (λ (l : List IndexRow). l ++ record { start = start; length = n; handle = e.handle } ∷ []) holds.rows_are
          ∙ ap (λ (l : List IndexRow). rows_from 0 ends ++ l) (row_made start n (length (stored_separator e)) e.handle size)
          ∙ sym (rows-more 0 start ends e place);
      shares_is = shares ∙ ap (λ (b : Bool). b || shares_user e) holds.shares_is ∙ sym (shares-more ends e);
      stand = stand;
    }
