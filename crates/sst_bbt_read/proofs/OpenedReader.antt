-- What opening a file comes to, by what is kept of it.
use Rattle.std.proofs.Common.{◌≡◌, ℕ, false, true, List, replicate, count_by, Bool, cond, Option, Some, Result, Ok, Err, slice_get, refl, sym, ap, ◌∙◌, subst, arith}
use Rattle.std.proofs.lemmas.List.{length-replicate, get_or-replicate}
use Rattle.std.proofs.lemmas.List.Folds.{sum_by-replicate}
use Rattle.std.proofs.lemmas.Option.{slice_get_within, get_or_from_slice_get}
use Rattle.sst_num.specs.declared.stops.Stop.{Stop}
use Rattle.sst_num.specs.declared.stops.Stop.TheVariants.{Damage, Device, Memory}
use Rattle.sst_device.specs.Folder.{Files, file_of}
use Rattle.sst_bbt_spec.specs.BlockBased.{Opens}
use Rattle.sst_bbt_spec.specs.Parts.{Part}
use Rattle.sst_bbt_spec.proofs.PartsLead.{opens-one}
use Rattle.sst_bbt_read.specs.Kept.{Keeps}
use Rattle.sst_bbt_read.specs.Positions.{Belongs, OpensAs}
use Rattle.sst_bbt_read.specs.Reader.{OpensTo}
use Rattle.sst_bbt_read.specs.Seats.{OpenReader}
use Rattle.sst_bbt_read.specs.TableBlocks.{OpenTable, IsOpenTable, parts_of}
use Rattle.sst_bbt_read.specs.declared.bbt_fault.BbtFault.{BbtFault}
use Rattle.sst_bbt_read.specs.declared.cursor.Cursor.{Cursor}
use Rattle.sst_bbt_read.proofs.JoinedParts.{table-seqs}

-- the file opens to the parts that are kept, and to no others
pub opens-as : (r : OpenReader) (table : OpenTable) (file : List ℕ) → r.table ≡ table → Opens file (parts_of table) → OpensAs (Ok r) file
opens-as r table file same opens =
    let own : Opens file (parts_of r.table) = subst (λ (t : OpenTable). Opens file (parts_of t)) (sym same) opens in
    (λ parts others. opens-one file (parts_of r.table) parts own others, (parts_of r.table, own))

-- the parts are kept
pub opens-kept : (r : OpenReader) (table : OpenTable) (held : Option Files) (name : List ℕ) → r.table ≡ table → IsOpenTable table
    → ((file : List ℕ) → file_of held name ≡ Some file → Opens file (parts_of table))
    → (parts : List Part) × Keeps r parts × ((file : List ℕ) → file_of held name ≡ Some file → Opens file parts)
opens-kept r table held name same is opens =
    let own : IsOpenTable r.table = subst IsOpenTable (sym same) is in (
      parts_of r.table,
      (refl, table-seqs r.table own),
      λ file told. subst (λ (t : OpenTable). Opens file (parts_of t)) (sym same) (opens file told),
    )

-- a file that stands for a list isn't damaged
pub no-damage : (stop : Stop BbtFault) (parts : List Part) (fault : BbtFault) → OpensTo (Err stop) parts
    → ◌≡◌ {A = Result OpenReader (Stop BbtFault)} (Err stop) (Err (Damage fault)) → ⊥
no-damage (Damage other) parts fault opens is = opens
no-damage Device parts fault opens is = cc
no-damage Memory parts fault opens is = cc

-- no seat is taken
pub none-open : (n : ℕ) → count_by (λ (taken : Bool). taken) (replicate n false) ≡ 0
none-open n = let all = sum_by-replicate (λ (taken : Bool). cond taken 1 0) n false in omega (arith, all)

pub none-belongs : (r : OpenReader) (n : ℕ) (c : Cursor) → r.seats ≡ replicate n false → Belongs r c → ⊥
none-belongs r n c seats belongs =
    let at : slice_get (replicate n false) c.number ≡ Some true = ap (λ (s : List Bool). slice_get s c.number) (sym seats) ∙ belongs.seated in
    let within = slice_get_within (replicate n false) c.number true at in
    let long = length-replicate n false in
    let is = sym (get_or_from_slice_get (replicate n false) c.number true false at) ∙ get_or-replicate n c.number false false (omega (arith, within, long)) in
    cc
