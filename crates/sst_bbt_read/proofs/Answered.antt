-- The entry that an answer shows is the one at the position after it, but for Get.
use Rattle.std.proofs.Common.{◌≡◌, ℕ, List, Option, None, Some, slice_get, option_and_then, refl}
use Rattle.sst_key.specs.declared.entries.Entry.{Entry}
use Rattle.sst_key.specs.ListMachine.{lands, steps_on, steps_back, next_of, prev_of}
use Rattle.sst_bbt_read.specs.Cursors.{entry_shown}

pub lands-shown : (entries : List Entry) (place : Option ℕ)
    → entry_shown entries (lands place) ≡ option_and_then (λ i. slice_get entries i) (lands place).position
lands-shown entries None = refl
lands-shown entries (Some i) = refl

pub on-shown : (entries : List Entry) (place : Option ℕ)
    → entry_shown entries (steps_on entries place) ≡ option_and_then (λ i. slice_get entries i) (steps_on entries place).position
on-shown entries None = refl
on-shown entries (Some i) = lands-shown entries (next_of entries i)

pub back-shown : (entries : List Entry) (place : Option ℕ)
    → entry_shown entries (steps_back place) ≡ option_and_then (λ i. slice_get entries i) (steps_back place).position
back-shown entries None = refl
back-shown entries (Some i) = lands-shown entries (prev_of i)
