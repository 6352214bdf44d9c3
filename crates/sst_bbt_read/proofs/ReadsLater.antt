-- A call that reads a folder after others that only read it, too, and an answer that is passed on.
use Rattle.std.proofs.Common.{◌≡◌, ◌⊎◌, IsTrue, ℕ, List, Option, Result, Err, inl, inr, sym, ap, ◌∙◌, subst, arith}
use Rattle.sst_num.specs.declared.stops.Stop.{Stop}
use Rattle.sst_num.specs.declared.stops.Stop.TheVariants.{Device}
use Rattle.sst_device.specs.Faults.{Rose}
use Rattle.sst_device.specs.Folder.{Files, misses}
use Rattle.sst_device.specs.Outside.{OnlyReads}
use Rattle.sst_bbt_read.specs.declared.bbt_fault.BbtFault.{BbtFault}

later_cause : (held mid : Option Files) (name : List ℕ) (end first then_ final : ℕ) → mid ≡ held → then_ ≡ first → IsTrue (misses mid name end) ⊎ Rose then_ final
    → IsTrue (misses held name end) ⊎ Rose first final
later_cause held mid name end first then_ final same counts (inl missed) = inl (subst (λ (h : Option Files). IsTrue (misses h name end)) same missed)
later_cause held mid name end first then_ final same counts (inr rose) = inr (omega (arith, counts, rose))

later_hides : (A B : Type 0) (first then_ final : ℕ) → then_ ≡ first → (A → B) → A ⊎ (final ≡ then_) → B ⊎ (final ≡ first)
later_hides A B first then_ final counts on (inl failed) = inl (on failed)
later_hides A B first then_ final counts on (inr same) = inr (same ∙ counts)

-- the files and the count of faults were the same when the last call began
pub reads_later : (A B : Type 0) (held mid last : Option Files) (name : List ℕ) (end first then_ final : ℕ) → mid ≡ held → then_ ≡ first → (A → B) → (B → A)
    → OnlyReads A (IsTrue (misses mid name end)) mid last then_ final → OnlyReads B (IsTrue (misses held name end)) held last first final
reads_later A B held mid last name end first then_ final same counts on back reads = record {
  same_files = reads.same_files ∙ same;
  counts = omega (arith, reads.counts, counts);
  hides_none = later_hides A B first then_ final counts on reads.hides_none;
  cause = λ failed. later_cause held mid name end first then_ final same counts (reads.cause (back failed));
}

-- the folder was left as it was, and no device failed
pub reads_none : (B Missed : Type 0) (held last : Option Files) (first final : ℕ) → last ≡ held → final ≡ first → (B → ⊥) → OnlyReads B Missed held last first final
reads_none B Missed held last first final same counts fine = record {
  same_files = same;
  counts = omega (arith, counts);
  hides_none = inr counts;
  cause = λ failed. absurd (fine failed);
}

-- a call that didn't fail has left the count
pub fine_count : (A : Type 0) (before now : ℕ) → A ⊎ (now ≡ before) → (A → ⊥) → now ≡ before
fine_count A before now (inl failed) fine = absurd (fine failed)
fine_count A before now (inr same) fine = same

-- an answer that is passed on fails as it did
passed_on : {T U : Type 0} (result : Result T (Stop BbtFault)) (passed stop : Stop BbtFault) → result ≡ Err passed → passed ≡ stop
    → ◌≡◌ {A = Result U (Stop BbtFault)} (Err stop) (Err Device) → result ≡ Err Device
passed_on result passed stop is same failed = let one : stop ≡ Device = cc in is ∙ ap Err (same ∙ one)

passed_back : {T U : Type 0} (result : Result T (Stop BbtFault)) (passed stop : Stop BbtFault) → result ≡ Err passed → passed ≡ stop → result ≡ Err Device
    → ◌≡◌ {A = Result U (Stop BbtFault)} (Err stop) (Err Device)
passed_back {T = T} result passed stop is same failed =
    let both : ◌≡◌ {A = Result T (Stop BbtFault)} (Err passed) (Err Device) = sym is ∙ failed in
    let one : passed ≡ Device = cc in ap Err (sym same ∙ one)

-- so does the call that passes it on, where the folder was as before when the last call began
pub reads_passed : {T U : Type 0} (result : Result T (Stop BbtFault)) (passed stop : Stop BbtFault) (held mid last : Option Files) (name : List ℕ) (end first then_ final : ℕ)
    → result ≡ Err passed → passed ≡ stop → mid ≡ held → then_ ≡ first
    → OnlyReads (◌≡◌ {A = Result U (Stop BbtFault)} (Err stop) (Err Device)) (IsTrue (misses mid name end)) mid last then_ final
    → OnlyReads (result ≡ Err Device) (IsTrue (misses held name end)) held last first final
reads_passed result passed stop held mid last name end first then_ final is same files counts reads =
    reads_later _ (result ≡ Err Device) held mid last name end first then_ final files counts (λ failed. passed_on result passed stop is same failed)
    (λ failed. passed_back result passed stop is same failed) reads
