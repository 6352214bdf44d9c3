-- An input reads as one thing.
use Rattle.std.proofs.Common.{◌≡◌, ◌⊎◌, Option, Some, Result, Ok, Err, sym, ◌∙◌, inl, inr}

pub same_some : {A : Type 0} (o : Option A) (x y : A) → o ≡ Some x → o ≡ Some y → x ≡ y
same_some o x y a b = let both = sym a ∙ b in cc

pub same_ok : {A B : Type 0} (r : Result A B) (x y : A) → r ≡ Ok x → r ≡ Ok y → x ≡ y
same_ok r x y a b = let both = sym a ∙ b in cc

pub same_err : {A B : Type 0} (r : Result A B) (x y : B) → r ≡ Err x → r ≡ Err y → x ≡ y
same_err r x y a b = let both = sym a ∙ b in cc

pub not_both : {A B : Type 0} (r : Result A B) (x : A) (y : B) → r ≡ Ok x → r ≡ Err y → ⊥
not_both r x y a b = let both = sym a ∙ b in cc

-- what is so but for one error is so with an answer
pub with_ok : {A B : Type 0} (r : Result A B) (x : A) (y : B) (P : Type 0) → r ≡ Ok x → (r ≡ Err y) ⊎ P → P
with_ok r x y P is (inl err) = absurd (not_both r x y is err)
with_ok r x y P is (inr holds) = holds

-- and with another error
pub with_err : {A B : Type 0} (r : Result A B) (x y : B) (P : Type 0) → r ≡ Err x → (x ≡ y → ⊥) → (r ≡ Err y) ⊎ P → P
with_err r x y P is apart (inl err) = absurd (apart (same_err r x y is err))
with_err r x y P is apart (inr holds) = holds
