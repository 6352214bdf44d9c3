-- A walk that goes back stands at a row where it said so.
use Rattle.std.proofs.Common.{◌≡◌, ◌∙◌, ℕ, ◌-◌, nat_lt, Bool, true, List, length, Option, Some, refl, sym, arith}
use Rattle.std.proofs.lemmas.Bool.{lt-ltb, ltb-true, ne_eqb}
use Rattle.sst_block.specs.declared.iter.BlockIter.{BlockIter}
use Rattle.sst_block.specs.Block.{Row}
use Rattle.sst_block.specs.Iter.{Walks, place_of, place_before}

pub record BackWalk (it : BlockIter) (there : Bool) : Type 0 where
  pub rows : List Row
  pub place : Option ℕ
  pub walks : Walks it rows place
  pub some : there ≡ true → (i : ℕ) × (place ≡ Some i)

pub BackWalk-stands : (it : BlockIter) (there : Bool) → BackWalk it there → there ≡ true → (rows : List Row) × (i : ℕ) × Walks it rows (Some i)
BackWalk-stands it there b is =
    let at = b.some is in
    let same = at.1 in
    (b.rows, at.0, rw same at b.walks)

-- it begins at the last row
pub BackWalk-last : (it : BlockIter) (there : Bool) (rows : List Row) → Walks it rows (place_of rows (length rows - 1)) → there ≡ nat_lt 0 (length rows)
    → BackWalk it there
BackWalk-last it there rows w told =
    record {
      rows = rows;
      place = place_of rows (length rows - 1);
      walks = w;
      some = λ is.
          let within = ltb-true 0 (length rows) (sym told ∙ is) in
          (length rows - 1, rw (lt-ltb (length rows - 1) (length rows) (omega (arith, within))) refl);
    }

-- it goes on from there
pub BackWalk-prev : (it moved : BlockIter) (there told : Bool) → BackWalk it there → there ≡ true
    → ((rows : List Row) (i : ℕ) → Walks it rows (Some i) → Walks moved rows (place_before i))
    → ((rows : List Row) (i : ℕ) → Walks it rows (Some i) → told ≡ nat_lt 0 i) → BackWalk moved told
BackWalk-prev it moved there told b is moves tells =
    let s = BackWalk-stands it there b is in
    let i : ℕ = s.1 in
    record {
      rows = s.0;
      place = place_before i;
      walks = moves s.0 i s.2;
      some = λ there.
          let later = ltb-true 0 i (sym (tells s.0 i s.2) ∙ there) in
          (i - 1, rw (ne_eqb i 0 (λ none. omega (arith, later, none))) refl);
    }
