-- Halving an ordered list finds how many entries pass a test that holds up to a place and not from there on.
use Rattle.std.proofs.Common.{◌≡◌, ℕ, ◌<◌, ◌≤◌, Bool, true, false, List, length, count_by, slice_index_or, sym, ap, ◌∙◌, inl, inr, arith}
use Rattle.std.specs.List.Sorted.{IsPartitionedBy, IsPartitionPoint}
use Rattle.std.proofs.lemmas.Bool.{cases_lt}
use Rattle.std.proofs.lemmas.Option.{get_or_from_slice_get}
use Rattle.sst_key.specs.declared.entries.Entry.{Entry}
use Rattle.sst_key.specs.Entry.{IsOrdered}
use Rattle.sst_key.specs.ListMachine.{is_before_target, is_up_to_target}
use Rattle.sst_key.proofs.Counting.{Runs, runs, passes-ahead, fails-behind, ahead-from_pass, stands, count-in_length}
use Rattle.sst_key.proofs.TargetOrder.{before-ahead, up_to-ahead}

-- the entries that pass come first
parted : (p : Entry → Bool) (xs : List Entry) → Runs p xs → IsPartitionedBy p xs
parted p xs r i j d low within passes =
    let later = stands xs j within in
    let sooner = stands xs i (omega arith) in
    let at_j : slice_index_or xs j d ≡ later.0 = get_or_from_slice_get xs j later.0 d later.1 in
    let at_i : slice_index_or xs i d ≡ sooner.0 = get_or_from_slice_get xs i sooner.0 d sooner.1 in
    let count : j < count_by p xs = ahead-from_pass p xs r j later.0 later.1 (sym (ap p at_j) ∙ passes) in
    ap p at_i ∙ passes-ahead p xs r i sooner.0 sooner.1 (omega arith)

-- the place up to which they pass is how many do
point-is_count : (p : Entry → Bool) (xs : List Entry) (i : ℕ) → Runs p xs → i ≤ length xs
    → IsPartitionPoint (λ y. p y ≡ true) (λ y. p y ≡ false) xs i → i ≡ count_by p xs
point-is_count p xs i r within point =
    let most = count-in_length p xs in
    elim (cases_lt i (count_by p xs)) [
      | inl low ↦
          let here = stands xs i (omega arith) in
          let passes = passes-ahead p xs r i here.0 here.1 low in
          let fails = sym (ap p (get_or_from_slice_get xs i here.0 here.0 here.1)) ∙ point.1 i here.0 (omega arith) (omega arith) in
          cc
      | inr high ↦ elim (cases_lt (count_by p xs) i) [
        | inl more ↦
            let here = stands xs (count_by p xs) (omega arith) in
            let fails = fails-behind p xs r (count_by p xs) here.0 here.1 (omega arith) in
            let passes = sym (ap p (get_or_from_slice_get xs (count_by p xs) here.0 here.0 here.1)) ∙ point.0 (count_by p xs) here.0 (omega arith) more in
            cc
        | inr same ↦ omega arith
      ]
    ]

pub before-parted : (user : List ℕ) (seq : ℕ) (xs : List Entry) → IsOrdered xs → IsPartitionedBy (is_before_target user seq) xs
before-parted user seq xs ordered = parted (is_before_target user seq) xs (runs (is_before_target user seq) (before-ahead user seq) xs ordered)

pub before-count : (user : List ℕ) (seq : ℕ) (xs : List Entry) (i : ℕ) → IsOrdered xs → i ≤ length xs
    → IsPartitionPoint (λ y. is_before_target user seq y ≡ true) (λ y. is_before_target user seq y ≡ false) xs i
    → i ≡ count_by (is_before_target user seq) xs
before-count user seq xs i ordered = point-is_count (is_before_target user seq) xs i (runs (is_before_target user seq) (before-ahead user seq) xs ordered)

pub up_to-parted : (user : List ℕ) (seq : ℕ) (xs : List Entry) → IsOrdered xs → IsPartitionedBy (is_up_to_target user seq) xs
up_to-parted user seq xs ordered = parted (is_up_to_target user seq) xs (runs (is_up_to_target user seq) (up_to-ahead user seq) xs ordered)

pub up_to-count : (user : List ℕ) (seq : ℕ) (xs : List Entry) (i : ℕ) → IsOrdered xs → i ≤ length xs
    → IsPartitionPoint (λ y. is_up_to_target user seq y ≡ true) (λ y. is_up_to_target user seq y ≡ false) xs i
    → i ≡ count_by (is_up_to_target user seq) xs
up_to-count user seq xs i ordered = point-is_count (is_up_to_target user seq) xs i (runs (is_up_to_target user seq) (up_to-ahead user seq) xs ordered)
