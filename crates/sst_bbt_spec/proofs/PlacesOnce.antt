-- A place of a tree and the number of its entry tell each other, and each entry has a place.
use Rattle.std.proofs.Common.{◌≡◌, ℕ, zero, suc, ◌+◌, ◌-◌, ◌<◌, ◌≤◌, List, [], ◌∷◌, length, take, slice_get, Some, length-append, refl, sym, ap, ◌∙◌, subst, inl, inr, arith}
use Rattle.std.proofs.lemmas.Bool.{cases_lt}
use Rattle.std.proofs.lemmas.Option.{same_Some}
use Rattle.sst_bbt_spec.specs.Way.{IndexedBlock, joined}
use Rattle.sst_bbt_spec.specs.Parts.{Part, stored_in}
use Rattle.sst_bbt_spec.specs.FoundParts.{Place, IsNumbered}

-- ---- in a part

-- a row of a block, and the number of its entry among those of the blocks
record RowIn (blocks : List IndexedBlock) (block row number : ℕ) : Type 0 where
  pub is : IndexedBlock
  pub at : slice_get blocks block ≡ Some is
  pub low : row < length is.entries
  pub counts : number ≡ length (joined (take block blocks)) + row

row-low : (b : IndexedBlock) (blocks : List IndexedBlock) (row number : ℕ) → RowIn (b ∷ blocks) 0 row number → (number ≡ row) × (row < length b.entries)
row-low b blocks row number r =
    let size : length b.entries ≡ length r.is.entries = ap (λ (x : IndexedBlock). length x.entries) (same_Some b r.is r.at) in
    (omega (arith, r.counts), omega (arith, r.low, size))

-- without the first block
record Behind (b : IndexedBlock) (blocks : List IndexedBlock) (block row number : ℕ) : Type 0 where
  pub left : ℕ
  pub within : RowIn blocks block row left
  pub counts : number ≡ length b.entries + left

row-behind : (b : IndexedBlock) (blocks : List IndexedBlock) (block row number : ℕ) → RowIn (b ∷ blocks) (suc block) row number → Behind b blocks block row number
row-behind b blocks block row number r =
    record {
      left = length (joined (take block blocks)) + row;
      within = record { is = r.is; at = r.at; low = r.low; counts = refl };
      counts = omega (arith, r.counts, length-append b.entries (joined (take block blocks)));
    }

rows-once : (blocks : List IndexedBlock) (block other row last number : ℕ) → RowIn blocks block row number → RowIn blocks other last number
    → (block ≡ other) × (row ≡ last)
rows-once [] block other row last number r s = let none = r.at in cc
rows-once (b ∷ blocks) zero zero row last number r s =
    let here = row-low b blocks row number r in
    let there = row-low b blocks last number s in
    (refl, omega (arith, here.0, there.0))
rows-once (b ∷ blocks) zero (suc other) row last number r s =
    let here = row-low b blocks row number r in
    let there = row-behind b blocks other last number s in
    absurd (omega (arith, here.0, here.1, there.counts))
rows-once (b ∷ blocks) (suc block) zero row last number r s =
    let here = row-behind b blocks block row number r in
    let there = row-low b blocks last number s in
    absurd (omega (arith, here.counts, there.0, there.1))
rows-once (b ∷ blocks) (suc block) (suc other) row last number r s =
    let here = row-behind b blocks block row number r in
    let there = row-behind b blocks other last number s in
    let same : there.left ≡ here.left = omega (arith, here.counts, there.counts) in
    let again : RowIn blocks other last here.left = record { is = there.within.is; at = there.within.at; low = there.within.low; counts = sym same ∙ there.within.counts } in
    let both = rows-once blocks block other row last here.left here.within again in
    (ap suc both.0, both.1)

row-fits : (blocks : List IndexedBlock) (block row number : ℕ) → RowIn blocks block row number → number < length (joined blocks)
row-fits [] block row number r = let none = r.at in cc
row-fits (b ∷ blocks) zero row number r =
    let here = row-low b blocks row number r in
    omega (arith, here.0, here.1, length-append b.entries (joined blocks))
row-fits (b ∷ blocks) (suc block) row number r =
    let here = row-behind b blocks block row number r in
    omega (arith, here.counts, row-fits blocks block row here.left here.within, length-append b.entries (joined blocks))

subtracted : (n k : ℕ) → k ≤ n → (m : ℕ) × (n ≡ k + m)
subtracted n k most = (n - k, omega (arith, most))

-- each number has a row
row-there : (blocks : List IndexedBlock) (number : ℕ) → number < length (joined blocks) → (block : ℕ) × (row : ℕ) × RowIn blocks block row number
row-there [] number low = absurd (omega (arith, low))
row-there (b ∷ blocks) number low =
    elim (cases_lt number (length b.entries)) [
      | inl here ↦ (0, number, record { is = b; at = refl; low = here; counts = omega arith })
      | inr past ↦ (
          let size = length-append b.entries (joined blocks) in
          let rest = subtracted number (length b.entries) past in
          let more = row-there blocks rest.0 (omega (arith, low, size, rest.1)) in (
            suc more.0,
            more.1,
            record {
              is = more.2.is;
              at = more.2.at;
              low = more.2.low;
              counts = omega (arith, rest.1, more.2.counts, length-append b.entries (joined (take more.0 blocks)));
            },
          ))
    ]

-- ---- in a tree

-- a row of a part, and the number of its entry in the list of all
record PlaceIn (parts : List Part) (part block row number : ℕ) : Type 0 where
  pub is : Part
  pub at : slice_get parts part ≡ Some is
  pub inside : ℕ
  pub within : RowIn is.blocks block row inside
  pub counts : number ≡ length (stored_in (take part parts)) + inside

place-low : (p : Part) (parts : List Part) (block row number : ℕ) → PlaceIn (p ∷ parts) 0 block row number → RowIn p.blocks block row number
place-low p parts block row number r =
    let same : r.is ≡ p = sym (same_Some p r.is r.at) in
    let counted : number ≡ r.inside = omega (arith, r.counts) in
    let within = subst (λ (x : Part). RowIn x.blocks block row r.inside) same r.within in
    subst (λ (n : ℕ). RowIn p.blocks block row n) (sym counted) within

record Beyond (p : Part) (parts : List Part) (part block row number : ℕ) : Type 0 where
  pub left : ℕ
  pub within : PlaceIn parts part block row left
  pub counts : number ≡ length (joined p.blocks) + left

place-beyond : (p : Part) (parts : List Part) (part block row number : ℕ) → PlaceIn (p ∷ parts) (suc part) block row number
    → Beyond p parts part block row number
place-beyond p parts part block row number r =
    record {
      left = length (stored_in (take part parts)) + r.inside;
      within = record { is = r.is; at = r.at; inside = r.inside; within = r.within; counts = refl };
      counts = omega (arith, r.counts, length-append (joined p.blocks) (stored_in (take part parts)));
    }

places-once : (parts : List Part) (part other block last row end number : ℕ) → PlaceIn parts part block row number → PlaceIn parts other last end number
    → (part ≡ other) × (block ≡ last) × (row ≡ end)
places-once [] part other block last row end number r s = let none = r.at in cc
places-once (p ∷ parts) zero zero block last row end number r s =
    let both = rows-once p.blocks block last row end number (place-low p parts block row number r) (place-low p parts last end number s) in
    (refl, both.0, both.1)
places-once (p ∷ parts) zero (suc other) block last row end number r s =
    let here = row-fits p.blocks block row number (place-low p parts block row number r) in
    let there = place-beyond p parts other last end number s in
    absurd (omega (arith, here, there.counts))
places-once (p ∷ parts) (suc part) zero block last row end number r s =
    let here = place-beyond p parts part block row number r in
    let there = row-fits p.blocks last end number (place-low p parts last end number s) in
    absurd (omega (arith, here.counts, there))
places-once (p ∷ parts) (suc part) (suc other) block last row end number r s =
    let here = place-beyond p parts part block row number r in
    let there = place-beyond p parts other last end number s in
    let same : there.left ≡ here.left = omega (arith, here.counts, there.counts) in
    let again = subst (λ (n : ℕ). PlaceIn parts other last end n) same there.within in
    let all = places-once parts part other block last row end here.left here.within again in
    (ap suc all.0, all.1, all.2)

place-there : (parts : List Part) (number : ℕ) → number < length (stored_in parts)
    → (part : ℕ) × (block : ℕ) × (row : ℕ) × PlaceIn parts part block row number
place-there [] number low = absurd (omega (arith, low))
place-there (p ∷ parts) number low =
    elim (cases_lt number (length (joined p.blocks))) [
      | inl here ↦ (
          let found = row-there p.blocks number here in
          (0, found.0, found.1, record { is = p; at = refl; inside = number; within = found.2; counts = omega arith }))
      | inr past ↦ (
          let size = length-append (joined p.blocks) (stored_in parts) in
          let rest = subtracted number (length (joined p.blocks)) past in
          let more = place-there parts rest.0 (omega (arith, low, size, rest.1)) in
          let there = more.3 in (
            suc more.0,
            more.1,
            more.2,
            record {
              is = there.is;
              at = there.at;
              inside = there.inside;
              within = there.within;
              counts = omega (arith, rest.1, there.counts, length-append (joined p.blocks) (stored_in (take more.0 parts)));
            },
          ))
    ]

-- ---- by the words of the tree

placed-in : (parts : List Part) (place : Place) (number : ℕ) → IsNumbered parts place number → PlaceIn parts place.part place.block place.row number
placed-in parts place number at =
    record {
      is = at.part;
      at = at.at_part;
      inside = length (joined (take place.block at.part.blocks)) + place.row;
      within = record { is = at.block; at = at.at_block; low = at.at_row; counts = refl };
      counts = at.counts;
    }

place-made : (a b c d e f : ℕ) → a ≡ d → b ≡ e → c ≡ f
    → ◌≡◌ {A = Place} (record { part = a; block = b; row = c }) (record { part = d; block = e; row = f })
place-made a b c d e f parts blocks rows = rw (parts, blocks, rows) refl

-- one place has a number
pub one-place : (parts : List Part) (a b : Place) (number : ℕ) → IsNumbered parts a number → IsNumbered parts b number → a ≡ b
one-place parts a b number left right =
    let all = places-once parts a.part b.part a.block b.block a.row b.row number (placed-in parts a number left) (placed-in parts b number right) in
    place-made a.part a.block a.row b.part b.block b.row all.0 all.1 all.2

-- a place has one number
pub one-number : (parts : List Part) (place : Place) (m n : ℕ) → IsNumbered parts place m → IsNumbered parts place n → m ≡ n
one-number parts place m n left right =
    let same = same_Some left.part right.part (sym left.at_part ∙ right.at_part) in
    let counted : length (joined (take place.block left.part.blocks)) ≡ length (joined (take place.block right.part.blocks)) =
    ap (λ (x : Part). length (joined (take place.block x.blocks))) same in
    omega (arith, left.counts, right.counts, counted)

-- each number has a place
pub some-place : (parts : List Part) (number : ℕ) → number < length (stored_in parts) → (place : Place) × IsNumbered parts place number
some-place parts number low =
    let found = place-there parts number low in
    let at = found.3 in
    let counted = at.within.counts in
    let place : Place = record { part = found.0; block = found.1; row = found.2 } in (
      place,
      record {
        part = at.is;
        at_part = at.at;
        block = at.within.is;
        at_block = at.within.at;
        at_row = at.within.low;
        counts = omega (arith, at.counts, counted);
      },
    )
