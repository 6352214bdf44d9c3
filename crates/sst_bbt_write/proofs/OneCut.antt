-- A list is cut into blocks in one way: of two ways, a block that is a front of another is full before it ends there.
use Rattle.std.proofs.Common.{◌≡◌, ◌⊎◌, inl, inr, ◌<◌, List, [], ◌∷◌, ◌++◌, length, IsTrue, refl, sym, ap, ◌∙◌, length-append, arith}
use Rattle.sst_key.specs.declared.entries.Entry.{Entry}
use Rattle.sst_bbt_write.specs.Cut.{is_full, entries_in, IsLean, AreBlocks}
use Rattle.sst_bbt_write.proofs.FullBlocks.{full-some}
use Rattle.sst_bbt_write.specs.declared.bbt_options.BbtOptions.{BbtOptions}

-- a list is another with some entries more
abbrev IsLonger : List Entry → List Entry → Type 0
IsLonger long short = (more : List Entry) × (long ≡ short ++ more) × (0 < length more)

-- of two fronts of a list one is the other, or has more
fronts : (x y p q : List Entry) → x ++ p ≡ y ++ q → ((x ≡ y) × (p ≡ q)) ⊎ (IsLonger y x ⊎ IsLonger x y)
fronts [] [] p q same = inl (refl, same)
fronts [] (b ∷ y) p q same = inr (inl (b ∷ y, refl, omega arith))
fronts (a ∷ x) [] p q same = inr (inr (a ∷ x, refl, omega arith))
fronts (a ∷ x) (b ∷ y) p q same =
    let head : a ≡ b = cc in
    let tail : x ++ p ≡ y ++ q = cc in
    elim (fronts x y p q tail) [
      | inl both ↦ inl (ap (λ (l : List Entry). a ∷ l) both.0 ∙ ap (λ (e : Entry). e ∷ y) head, both.1)
      | inr (inl (more, is, some)) ↦ inr (inl (more, ap (λ (l : List Entry). b ∷ l) is ∙ ap (λ (e : Entry). e ∷ (x ++ more)) (sym head), some))
      | inr (inr (more, is, some)) ↦ inr (inr (more, ap (λ (l : List Entry). a ∷ l) is ∙ ap (λ (e : Entry). e ∷ (y ++ more)) head, some))
    ]

-- ---- the first of some blocks

first-some : (options : BbtOptions) (block : List Entry) (rest : List (List Entry)) → AreBlocks options (block ∷ rest) → 0 < length block
first-some options block [] are = are.0
first-some options block (next ∷ rest) are = full-some options block are.0

first-lean : (options : BbtOptions) (block : List Entry) (rest : List (List Entry)) → AreBlocks options (block ∷ rest) → IsLean options block
first-lean options block [] are = are.1
first-lean options block (next ∷ rest) are = are.1

-- it is full where entries follow
first-full : (options : BbtOptions) (block : List Entry) (rest : List (List Entry)) → AreBlocks options (block ∷ rest) → 0 < length (entries_in rest)
    → IsTrue (is_full options block)
first-full options block [] are some = absurd (omega (arith, some))
first-full options block (next ∷ rest) are some = are.0

others-are : (options : BbtOptions) (block : List Entry) (rest : List (List Entry)) → AreBlocks options (block ∷ rest) → AreBlocks options rest
others-are options block [] are = tt
others-are options block (next ∷ rest) are = are.2

-- a block isn't a front of the first of other blocks of the list
not-longer : (options : BbtOptions) (x y : List Entry) (a b : List (List Entry)) → AreBlocks options (x ∷ a) → AreBlocks options (y ∷ b)
    → x ++ entries_in a ≡ y ++ entries_in b → IsLonger y x → ⊥
not-longer options x y a b left right same (more, is, some) =
    let whole = ap (λ (l : List Entry). length l) same in
    let long = ap (λ (l : List Entry). length l) is in
    let follow : 0 < length (entries_in a) =
    omega (arith, whole, long, some, length-append x (entries_in a), length-append y (entries_in b), length-append x more) in
    first-lean options y b right x more is some (first-full options x a left follow)

pub blocks-one : (options : BbtOptions) (a b : List (List Entry)) → AreBlocks options a → AreBlocks options b → entries_in a ≡ entries_in b → a ≡ b
blocks-one options [] [] left right same = refl
blocks-one options [] (y ∷ b) left right same =
    absurd (omega (arith, first-some options y b right, ap (λ (l : List Entry). length l) same, length-append y (entries_in b)))
blocks-one options (x ∷ a) [] left right same =
    absurd (omega (arith, first-some options x a left, ap (λ (l : List Entry). length l) same, length-append x (entries_in a)))
blocks-one options (x ∷ a) (y ∷ b) left right same =
    elim (fronts x y (entries_in a) (entries_in b) same) [
      | inl both ↦
          let more = blocks-one options a b (others-are options x a left) (others-are options y b right) both.1 in
          ap (λ (l : List (List Entry)). x ∷ l) more ∙ ap (λ (block : List Entry). block ∷ b) both.0
      | inr (inl longer) ↦ absurd (not-longer options x y a b left right same longer)
      | inr (inr longer) ↦ absurd (not-longer options y x b a right left (sym same) longer)
    ]
