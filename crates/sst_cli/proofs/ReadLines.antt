-- What a line says to a writer.
use Rattle.std.proofs.Common.{◌≡◌, ℕ, ◌≤◌, Bool, true, false, if◌then◌else◌, List, [], ◌∷◌, ◌++◌, length, Some, None, Result, Err, refl, sym, ap, ◌∙◌}
use Rattle.std.proofs.lemmas.Bool.{le-ltb}
use Rattle.sst_key.specs.declared.entries.Entry.{Entry}
use Rattle.sst_key.specs.declared.faults.WriteFault.{WriteFault}
use Rattle.sst_cli.specs.declared.input.refusal.Refusal.{Refusal}
use Rattle.sst_cli.specs.declared.input.refusal.Reason.TheVariants as why
use Rattle.sst_cli.specs.declared.input.entries.InputStop.{InputStop}
use Rattle.sst_cli.specs.declared.input.entries.InputStop.TheVariants as stop
use Rattle.sst_bbt_write.specs.declared.bbt_options.BbtOptions.{BbtOptions}
use Rattle.sst_bbt_write.specs.declared.bbt_writer.BbtWriter.{BbtWriter}
use Rattle.sst_bbt_write.specs.After.{After}
use Rattle.sst_bbt_write.specs.Reasons.{reason}
use Rattle.sst_text.specs.Texts.{entry_of_line}
use Rattle.sst_cli.specs.InputReading.{read_line, by_entry, by_reason, refused_at}
use Rattle.sst_cli.specs.ReadingResult.{HasAdded, IsRefused}

-- what a line within its limit says
pub read_line-short : (entries : List Entry) (line : List ℕ) → length line ≤ 40000000 → read_line entries line ≡ by_entry entries (entry_of_line line)
unfolding read_line
read_line-short entries line short = rw (le-ltb 40000000 (length line) short) refl

-- an entry that the writer took
pub entry_added : (options : BbtOptions) (entries : List Entry) (bytes line : List ℕ) (e : Entry) (writer : BbtWriter) (old new piece : List ℕ)
    → read_line entries line ≡ by_entry entries (Some e) → reason entries e ≡ None
    → new ≡ old ++ piece → After writer options (entries ++ e ∷ []) (bytes ++ piece) → HasAdded options entries bytes line writer old new
entry_added options entries bytes line e writer old new piece reads good put after =
    record { entry = e; reads = reads ∙ ap (by_reason e) good; piece = piece; put = put; after = after }

-- an entry that the writer refused
pub entry_refused : (entries : List Entry) (line : List ℕ) (e : Entry) (fault : WriteFault) (number : ℕ) (answer : InputStop) (refusal : Refusal)
    → read_line entries line ≡ by_entry entries (Some e) → reason entries e ≡ Some fault
    → answer ≡ stop.Refused (refused_at number (why.Refused fault)) → answer ≡ stop.Refused refusal → IsRefused (read_line entries line) number refusal
entry_refused entries line e fault number answer refusal reads given said is =
    record { why = why.Refused fault; reads = reads ∙ ap (by_reason e) given; said = cc }

-- the entry that room for a line's entry holds, where the line is one
pub line_entry : (line : List ℕ) (is : Bool) (held e : Entry) → (if is then Some held else None) ≡ entry_of_line line → is ≡ true → e ≡ held
    → entry_of_line line ≡ Some e
line_entry line is held e read so same = sym read ∙ ap (λ (b : Bool). if b then Some held else None) so ∙ ap Some (sym same)

-- there is none where it isn't
pub line_none : (line : List ℕ) (is : Bool) (held : Entry) → (if is then Some held else None) ≡ entry_of_line line → is ≡ false → entry_of_line line ≡ None
line_none line is held read so = sym read ∙ ap (λ (b : Bool). if b then Some held else None) so

-- a line that isn't an entry line
pub line_refused : (entries : List Entry) (line : List ℕ) (number : ℕ) (answer : InputStop) (refusal : Refusal)
    → length line ≤ 40000000 → entry_of_line line ≡ None
    → answer ≡ stop.Refused (refused_at number why.Line) → answer ≡ stop.Refused refusal → IsRefused (read_line entries line) number refusal
line_refused entries line number answer refusal short none said is =
    record { why = why.Line; reads = read_line-short entries line short ∙ ap (by_entry entries) none; said = cc }

-- the stop of an answer
pub given_answer : {T : Type 0} (answer given : InputStop) → ◌≡◌ {A = Result T InputStop} (Err answer) (Err given) → answer ≡ given
given_answer answer given is = cc

-- the stop that a call passed on
pub passed_answer : {T : Type 0} (result : Result T InputStop) (passed came given : InputStop) → result ≡ Err passed → passed ≡ came → result ≡ Err given → came ≡ given
passed_answer {T} result passed came given is same told =
    let both : ◌≡◌ {A = Result T InputStop} (Err passed) (Err given) = sym is ∙ told in sym same ∙ given_answer passed given both
