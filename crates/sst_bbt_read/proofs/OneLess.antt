-- The place before another, as the code of a reader finds it.
use Rattle.std.proofs.Common.{◌≡◌, ℕ, zero, suc, ◌-◌, ◌≤◌, List, length, Option, None, Some, refl, ap, ◌∙◌, arith}
use Rattle.std.specs.Option.{SomeIff}
use Rattle.sst_key.specs.declared.entries.Entry.{Entry}
use Rattle.sst_key.specs.ListMachine.{place_before, last_of}
use Rattle.sst_bbt_read.specs.Cursors.{IsPlace}
use Rattle.sst_bbt_read.specs.TableBlocks.{OpenTable}

-- one less, where there is one
pub one_less : (n : ℕ) (place : Option ℕ) → SomeIff place (1 ≤ n) (n - 1) → place ≡ place_before n
one_less zero None is = refl
one_less zero (Some i) is = absurd (omega (arith, is.0))
one_less (suc n) None is = absurd (is (omega arith))
one_less (suc n) (Some i) is = ap (λ (k : ℕ). Some k) (omega (arith, is.1))

pub before-belongs : (entries : List Entry) (n : ℕ) (place : Option ℕ) → SomeIff place (1 ≤ n) (n - 1) → n ≤ length entries → IsPlace entries place
before-belongs entries n None is within = tt
before-belongs entries n (Some i) is within = omega (arith, is.0, is.1, within)

-- the last of all
pub last-place : (table now : OpenTable) (n : ℕ) → table ≡ now → n ≡ length table.entries → place_before n ≡ last_of now.entries
last-place table now n same long = ap place_before (long ∙ ap (λ (t : OpenTable). length t.entries) same)
