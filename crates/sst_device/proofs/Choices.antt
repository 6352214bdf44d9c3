-- What a choice by a test tells.
use Rattle.std.proofs.Common.{◌≡◌, Bool, true, false, cond, refl}

-- by cases on a test
pub by_test : {A P : Type 0} (t : Bool) (x y z : A) → cond t x y ≡ z → (t ≡ true → x ≡ z → P) → (t ≡ false → y ≡ z → P) → P
by_test true x y z e when other = when refl e
by_test false x y z e when other = other refl e
