-- What an open table answers, where its file stands for a list.
use Rattle.std.proofs.Common.{◌≡◌, ℕ, true, List, Option, None, Some, slice_get, Result, Err, refl, sym, ap, ◌∙◌}
use Rattle.std.specs.Option.{is_some}
use Rattle.sst_num.specs.declared.stops.Stop.{Stop}
use Rattle.sst_num.specs.declared.stops.Stop.TheVariants.{Damage, Device, Memory}
use Rattle.sst_key.specs.declared.entries.Entry.{Entry}
use Rattle.sst_key.specs.declared.calls.Answer.{Answer}
use Rattle.sst_bbt_read.specs.Positions.{Moved, Found}
use Rattle.sst_bbt_read.specs.Seats.{OpenReader}
use Rattle.sst_bbt_read.specs.declared.bbt_fault.BbtFault.{BbtFault}
use Rattle.sst_bbt_read.specs.declared.cursor.Cursor.{Cursor}
use Rattle.sst_uses.specs.Uses.{shown_at}

-- a stop that is handed on is the one that came
pub same-damage : {A B : Type 0} (stop : Stop BbtFault) (fault : BbtFault) → ◌≡◌ {A = Result A (Stop BbtFault)} (Err stop) (Err (Damage fault))
    → ◌≡◌ {A = Result B (Stop BbtFault)} (Err stop) (Err (Damage fault))
same-damage stop fault is = let same : stop ≡ Damage fault = cc in ap Err same

-- a file that stands for a list isn't called damaged by a Get, and by no move
pub no-damage-get : {A : Type 0} (stop : Stop BbtFault) (r : OpenReader) (c : Cursor) (file : List ℕ) (entries : List Entry) (place : Option ℕ) (fault : BbtFault)
    → Found (Err stop) r c file entries place → ◌≡◌ {A = Result A (Stop BbtFault)} (Err stop) (Err (Damage fault)) → ⊥
no-damage-get (Damage other) r c file entries place fault found is = found
no-damage-get Device r c file entries place fault found is = cc
no-damage-get Memory r c file entries place fault found is = cc

pub no-damage-move : {A : Type 0} (stop : Stop BbtFault) (r : OpenReader) (c : Cursor) (file : List ℕ) (entries : List Entry) (answer : Answer) (fault : BbtFault)
    → Moved (Err stop) r c file entries answer → ◌≡◌ {A = Result A (Stop BbtFault)} (Err stop) (Err (Damage fault)) → ⊥
no-damage-move (Damage other) r c file entries answer fault moved is = moved
no-damage-move Device r c file entries answer fault moved is = cc
no-damage-move Memory r c file entries answer fault moved is = cc

-- the entry on which a cursor stands is the one at its place
pub one-shown : (entries : List Entry) (place : Option ℕ) (e : Entry) → is_some place ≡ true → ((i : ℕ) → place ≡ Some i → slice_get entries i ≡ Some e)
    → Some e ≡ shown_at entries place
one-shown entries None e some at = absurd cc
one-shown entries (Some i) e some at = sym (at i refl)

pub came-damage : {A : Type 0} (result : Result A (Stop BbtFault)) (passed first : Stop BbtFault) (fault : BbtFault) → result ≡ Err passed → passed ≡ first
    → result ≡ Err (Damage fault) → ◌≡◌ {A = Result A (Stop BbtFault)} (Err first) (Err (Damage fault))
came-damage result passed first fault is same told = ap Err (sym same) ∙ sym is ∙ told
