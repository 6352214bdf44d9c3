-- What a run of `write` comes to, by how it ends.
use Rattle.std.proofs.Common.{◌≡◌, ◌⊎◌, ℕ, List, Some, Result, Ok, Err, refl, subst, inl, inr}
use Rattle.std.specs.Io.KnownBytes.{append_known}
use Rattle.sst_key.specs.declared.entries.Entry.{Entry}
use Rattle.sst_device.specs.Folder.{put_file}
use Rattle.sst_text.specs.Taken.{IsTakenTo}
use Rattle.sst_cli.specs.Behaviour.{World, IsFault, IsWhole, Ends}
use Rattle.sst_cli.specs.InputReading.{read_input}
use Rattle.sst_cli.specs.Refusals.{refusal_text}
use Rattle.sst_cli.specs.Words.{WriteLine}
use Rattle.sst_cli.specs.WriteCommand.{Wrote, write_command}
use Rattle.sst_cli.specs.declared.input.refusal.Refusal.{Refusal}
use Rattle.sst_cli.specs.declared.status.Status.{Status}
use Rattle.sst_cli.specs.declared.status.Status.TheVariants.{Done, Input}
use Rattle.sst_cli.proofs.OneReading.{same_ok, same_err, not_both}
use Rattle.sst_cli.proofs.RunEnds.{whole_or_fault, whole_unless, not_done, not_input}

-- a run that came to its end wrote the list that it found
whole_wrote : (write : WriteLine) (before after : World) (status : Status) (text : List ℕ) (entries : List Entry) (reading : Result (List Entry) Refusal)
    → read_input text ≡ reading → IsWhole (write_command write) reading before after status → before.told.left ≡ Some text → read_input text ≡ Ok entries
    → Wrote status write entries before.told.held after.told.held after.told.left before.written after.written
whole_wrote write before after status text entries (Ok made) is whole told reads =
    subst (λ (es : List Entry). Wrote status write es before.told.held after.told.held after.told.left before.written after.written)
    (same_ok (read_input text) made entries is reads)
    (record { done = whole.ends; file = whole.leaves.0; read = whole.leaves.1 text told; printed = whole.printed })
whole_wrote write before after status text entries (Err refusal) is whole told reads = absurd (not_both (read_input text) entries refusal reads is)

pub written : (write : WriteLine) (before after : World) (status : Status) (text : List ℕ) (entries : List Entry)
    → Ends (write_command write) before after status → before.told.left ≡ Some text → read_input text ≡ Ok entries
    → IsFault status ⊎ Wrote status write entries before.told.held after.told.held after.told.left before.written after.written
written write before after status text entries ends told reads =
    elim (whole_or_fault (write_command write) before after status ends) [
      | inl fault ↦ inl fault
      | inr found ↦ inr (whole_wrote write before after status text entries found.0 (found.1 text told) found.2 told reads)
    ]

whole_refused : (write : WriteLine) (before after : World) (status : Status) (text : List ℕ) (refusal : Refusal) (reading : Result (List Entry) Refusal)
    → read_input text ≡ reading → IsWhole (write_command write) reading before after status → read_input text ≡ Err refusal
    → (status ≡ Input) × (after.written ≡ append_known before.written (refusal_text refusal))
whole_refused write before after status text refusal (Ok made) is whole reads = absurd (not_both (read_input text) made refusal is reads)
whole_refused write before after status text refusal (Err found) is whole reads =
    subst (λ (r : Refusal). (status ≡ Input) × (after.written ≡ append_known before.written (refusal_text r)))
    (same_err (read_input text) found refusal is reads) (whole.ends, whole.printed)

pub refused : (write : WriteLine) (before after : World) (status : Status) (text : List ℕ) (refusal : Refusal)
    → Ends (write_command write) before after status → before.told.left ≡ Some text → read_input text ≡ Err refusal
    → IsFault status ⊎ ((status ≡ Input) × (after.written ≡ append_known before.written (refusal_text refusal)))
refused write before after status text refusal ends told reads =
    elim (whole_or_fault (write_command write) before after status ends) [
      | inl fault ↦ inl fault
      | inr found ↦ inr (whole_refused write before after status text refusal found.0 (found.1 text told) found.2 reads)
    ]

whole_near : (write : WriteLine) (before after : World) (status : Status) (text : List ℕ) (refusal : Refusal) (reading : Result (List Entry) Refusal)
    → read_input text ≡ reading → IsWhole (write_command write) reading before after status → before.told.left ≡ Some text → read_input text ≡ Err refusal
    → IsTakenTo refusal.line text after.told.left
whole_near write before after status text refusal (Ok made) is whole told reads = absurd (not_both (read_input text) made refusal is reads)
whole_near write before after status text refusal (Err found) is whole told reads =
    subst (λ (r : Refusal). IsTakenTo r.line text after.told.left) (same_err (read_input text) found refusal is reads) (whole.leaves.1 text told)

pub near : (write : WriteLine) (before after : World) (status : Status) (text : List ℕ) (refusal : Refusal)
    → Ends (write_command write) before after status → before.told.left ≡ Some text → read_input text ≡ Err refusal → status ≡ Input
    → IsTakenTo refusal.line text after.told.left
near write before after status text refusal ends told reads input =
    let found = whole_unless (write_command write) before after status ends (not_input status input) in
    whole_near write before after status text refusal found.0 (found.1 text told) found.2 told reads

whole_done : (write : WriteLine) (before after : World) (status : Status) (text : List ℕ) (reading : Result (List Entry) Refusal)
    → read_input text ≡ reading → IsWhole (write_command write) reading before after status → before.told.left ≡ Some text → status ≡ Done
    → (entries : List Entry) × (read_input text ≡ Ok entries)
    × Wrote status write entries before.told.held after.told.held after.told.left before.written after.written
whole_done write before after status text (Ok entries) is whole told done =
    (entries, is, record { done = done; file = whole.leaves.0; read = whole.leaves.1 text told; printed = whole.printed })
whole_done write before after status text (Err refusal) is whole told done = let input = whole.ends in absurd (cc (input, done))

pub done : (write : WriteLine) (before after : World) (status : Status) (text : List ℕ)
    → Ends (write_command write) before after status → status ≡ Done → before.told.left ≡ Some text
    → (entries : List Entry) × (read_input text ≡ Ok entries)
    × Wrote status write entries before.told.held after.told.held after.told.left before.written after.written
done write before after status text ends is told =
    let found = whole_unless (write_command write) before after status ends (not_done status is) in
    whole_done write before after status text found.0 (found.1 text told) found.2 told is

whole_input : (write : WriteLine) (before after : World) (status : Status) (reading : Result (List Entry) Refusal)
    → IsWhole (write_command write) reading before after status → status ≡ Input
    → (refusal : Refusal) × (reading ≡ Err refusal) × ((bytes : List ℕ) × (after.told.held ≡ put_file before.told.held write.name bytes))
whole_input write before after status (Ok entries) whole input = let done = whole.ends in absurd (cc (done, input))
whole_input write before after status (Err refusal) whole input = (refusal, refl, whole.leaves.0)

pub input_only : (write : WriteLine) (before after : World) (status : Status) (text : List ℕ)
    → Ends (write_command write) before after status → status ≡ Input → before.told.left ≡ Some text
    → (refusal : Refusal) × (read_input text ≡ Err refusal)
input_only write before after status text ends is told =
    let found = whole_unless (write_command write) before after status ends (not_input status is) in
    let refused = whole_input write before after status found.0 found.2 is in
    (refused.0, rw refused.1 at (found.1 text told))

pub begun : (write : WriteLine) (before after : World) (status : Status)
    → Ends (write_command write) before after status → status ≡ Input
    → (bytes : List ℕ) × (after.told.held ≡ put_file before.told.held write.name bytes)
begun write before after status ends is =
    let found = whole_unless (write_command write) before after status ends (not_input status is) in
    (whole_input write before after status found.0 found.2 is).2

whole_status : (write : WriteLine) (before after : World) (status : Status) (reading : Result (List Entry) Refusal)
    → IsWhole (write_command write) reading before after status → (status ≡ Done) ⊎ (status ≡ Input)
whole_status write before after status (Ok entries) whole = inl whole.ends
whole_status write before after status (Err refusal) whole = inr whole.ends

pub statuses : (write : WriteLine) (before after : World) (status : Status) → Ends (write_command write) before after status
    → (status ≡ Done) ⊎ ((status ≡ Input) ⊎ IsFault status)
statuses write before after status ends =
    elim (whole_or_fault (write_command write) before after status ends) [
      | inl fault ↦ inr (inr fault)
      | inr found ↦ elim (whole_status write before after status found.0 found.2) [
        | inl done ↦ inl done
        | inr input ↦ inr (inl input)
      ]
    ]
