-- How many bytes a varint has at most.
use Rattle.std.proofs.Common.{ℕ, zero, suc, ◌+◌, ◌/◌, ◌%◌, ◌≤◌, if◌then◌else◌, Bool, true, false, nat_lt, List, [], ◌∷◌, length, arith}
use Rattle.sst_num.specs.Spelling.{groups, varint}

pub length-if : (test : Bool) (v : ℕ) (other : List ℕ) (n : ℕ) → 1 ≤ n → length other ≤ n → length (if test then v ∷ [] else other) ≤ n
length-if true v other n some h = some
length-if false v other n some h = h

-- no number takes more groups than there are
length-groups : (n v : ℕ) → length (groups n v) ≤ suc n
length-groups zero v = omega arith
length-groups (suc n) v =
    let rest = length-groups n (v / 128) in
    length-if (nat_lt v 128) v ((v % 128 + 128) ∷ groups n (v / 128)) (suc (suc n)) (omega arith) (omega arith)

-- a varint has at most ten bytes
pub length-varint : (v : ℕ) → length (varint v) ≤ 10
unfolding varint
length-varint v = length-groups 9 v
