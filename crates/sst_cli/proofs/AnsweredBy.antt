-- What two cursors of a reader come to while the calls of a list are answered.
use Rattle.std.proofs.Common.{◌≡◌, ◌⊎◌, ℕ, Bool, if◌then◌else◌, List, ◌++◌, Option, None, Some, Result, Ok, Err, OnOk, option_and_then, slice_get, inl, inr, refl, sym, ap, ◌∙◌, subst}
use Rattle.std.specs.Option.{is_some}
use Rattle.sst_num.specs.declared.stops.Stop.{Stop}
use Rattle.sst_num.specs.declared.stops.Stop.TheVariants.{Device}
use Rattle.sst_key.specs.declared.entries.Entry.{Entry}
use Rattle.sst_key.specs.declared.calls.Answer.{Answer}
use Rattle.sst_key.specs.declared.calls.Call.{Call}
use Rattle.sst_key.specs.declared.calls.Call.TheVariants as calls
use Rattle.sst_key.specs.declared.calls.Reply.{Reply}
use Rattle.sst_key.specs.declared.calls.Target.{Target}
use Rattle.sst_key.specs.declared.calls.Reply.TheVariants as reply
use Rattle.sst_key.specs.ListMachine.{lands, shows, steps_on}
use Rattle.sst_bbt_spec.specs.Parts.{Part, stored_in}
use Rattle.sst_bbt_spec.specs.PartWay.{answer_in_parts, get_in_parts}
use Rattle.sst_bbt_spec.proofs.PartLaws.{shown-none}
use Rattle.sst_bbt_read.specs.Cursors.{entry_shown}
use Rattle.sst_bbt_read.specs.Kept.{Answers, AnswersGet, StandsOn}
use Rattle.sst_bbt_read.specs.Positions.{AreTwo, IsSame}
use Rattle.sst_bbt_read.specs.Seats.{OpenReader}
use Rattle.sst_bbt_read.specs.declared.bbt_fault.BbtFault.{BbtFault}
use Rattle.sst_bbt_read.specs.declared.cursor.Cursor.{Cursor}
use Rattle.sst_bbt_read.proofs.Answered.{lands-shown, on-shown, back-shown}
use Rattle.sst_cli.specs.Answering.{IsMove, StandBoth, replied, reply_text}
use Rattle.sst_cli.specs.Replies.{answer_line}

-- a move that answers doesn't fail, so the folder counts no fault
pub quiet-move : {Q : Type 0} (result : Result Reply (Stop BbtFault)) (r : OpenReader) (c : Cursor) (parts : List Part) (answer : Answer)
    → Answers result r c parts answer → (result ≡ Err Device) ⊎ Q → Q
quiet-move (Ok said) r c parts answer is (inl failed) = absurd cc
quiet-move (Ok said) r c parts answer is (inr same) = same
quiet-move (Err stop) r c parts answer is told = absurd is

pub quiet-get : {Q : Type 0} (result : Result Bool (Stop BbtFault)) (r : OpenReader) (c : Cursor) (parts : List Part) (place : Option ℕ)
    → AnswersGet result r c parts place → (result ≡ Err Device) ⊎ Q → Q
quiet-get (Ok found) r c parts place is (inl failed) = absurd cc
quiet-get (Ok found) r c parts place is (inr same) = same
quiet-get (Err stop) r c parts place is told = absurd is

-- where it stands after it
pub stands-after : (result : Result Reply (Stop BbtFault)) (r : OpenReader) (c : Cursor) (parts : List Part) (answer : Answer)
    → Answers result r c parts answer → StandsOn r c parts answer.position
stands-after (Ok said) r c parts answer is = is.1
stands-after (Err stop) r c parts answer is = absurd is

pub stands-found : (result : Result Bool (Stop BbtFault)) (r : OpenReader) (c : Cursor) (parts : List Part) (place : Option ℕ)
    → AnswersGet result r c parts place → StandsOn r c parts place
stands-found (Ok found) r c parts place is = is.1
stands-found (Err stop) r c parts place is = absurd is

-- a Get answers as a move to where it leads
found-reply : (place : Option ℕ) → (if is_some place then reply.Shown else reply.None) ≡ (lands place).reply
found-reply None = refl
found-reply (Some i) = refl

pub landed-at : (place : Option ℕ) → (lands place).position ≡ place
landed-at None = refl
landed-at (Some i) = refl

pub get-answers : (result : Result Bool (Stop BbtFault)) (r : OpenReader) (c : Cursor) (parts : List Part) (place : Option ℕ)
    → AnswersGet result r c parts place → Answers (replied result) r c parts (lands place)
get-answers (Ok found) r c parts place is =
    (ap (λ (b : Bool). if b then reply.Shown else reply.None) is.0 ∙ found-reply place, subst (StandsOn r c parts) (sym (landed-at place)) is.1)
get-answers (Err stop) r c parts place is = is

-- the line of a Get
shows-line : (entries : List Entry) (call : Call) (position place : Option ℕ)
    → reply_text (lands place).reply (option_and_then (λ i. slice_get entries i) (lands place).position) call ≡ answer_line entries call (shows position place)
shows-line entries call position None = refl
shows-line entries call position (Some i) = refl

pub get-line : (parts : List Part) (call : Call) (target : Target) (user : List ℕ) (position : Option ℕ) → call ≡ calls.Get target → user ≡ target.user
    → reply_text (lands (get_in_parts None parts user target.seq)).reply (option_and_then (λ i. slice_get (stored_in parts) i) (lands (get_in_parts None parts user target.seq)).position) call
    ≡ answer_line (stored_in parts) call (answer_in_parts None parts position call)
get-line parts call target user position is same =
    shows-line (stored_in parts) call position (get_in_parts None parts user target.seq)
    ∙ ap (λ (u : List ℕ). answer_line (stored_in parts) call (shows position (get_in_parts None parts u target.seq))) same
    ∙ ap (λ (c : Call). answer_line (stored_in parts) call (answer_in_parts None parts position c)) (sym is)

-- the line of a move
shown-line : (entries : List Entry) (call : Call) (answer : Answer) → entry_shown entries answer ≡ option_and_then (λ i. slice_get entries i) answer.position
    → reply_text answer.reply (option_and_then (λ i. slice_get entries i) answer.position) call ≡ answer_line entries call answer
shown-line entries call answer same = ap (λ (e : Option Entry). reply_text answer.reply e call) (sym same)

move-shown : (parts : List Part) (position : Option ℕ) (call : Call) → IsMove call
    → entry_shown (stored_in parts) (answer_in_parts None parts position call) ≡ option_and_then (λ i. slice_get (stored_in parts) i) (answer_in_parts None parts position call).position
move-shown parts position (calls.Get target) is = absurd is
move-shown parts position calls.First is = lands-shown (stored_in parts) _
move-shown parts position calls.Last is = lands-shown (stored_in parts) _
move-shown parts position (calls.Seek target) is = lands-shown (stored_in parts) _
move-shown parts position (calls.SeekForPrev target) is = lands-shown (stored_in parts) _
move-shown parts position calls.Next is =
    subst
    (λ (es : List Entry). entry_shown (stored_in parts) (steps_on es position) ≡ option_and_then (λ i. slice_get (stored_in parts) i) (steps_on es position).position)
    (sym (shown-none (stored_in parts))) (on-shown (stored_in parts) position)
move-shown parts position calls.Prev is = back-shown (stored_in parts) position

pub move-line : (parts : List Part) (call : Call) (position : Option ℕ) → IsMove call
    → reply_text (answer_in_parts None parts position call).reply (option_and_then (λ i. slice_get (stored_in parts) i) (answer_in_parts None parts position call).position) call
    ≡ answer_line (stored_in parts) call (answer_in_parts None parts position call)
move-line parts call position is = shown-line (stored_in parts) call (answer_in_parts None parts position call) (move-shown parts position call is)

-- the text with one line more
pub more-text : {T E : Type 0} (result : Result T E) (new old a b : List ℕ) → a ≡ b → OnOk result (new ≡ old ++ a) → OnOk result (new ≡ old ++ b)
more-text (Ok x) new old a b same is = is ∙ ap (λ (l : List ℕ). old ++ l) same
more-text (Err e) new old a b same is = tt

-- two cursors after a call, which are the same two
pub still-two : (a b c d : Cursor) → IsSame a c → IsSame b d → AreTwo a b → AreTwo c d
still-two a b c d first second two = λ one. two (first ∙ one ∙ sym second)

pub two-back : (a b : Cursor) → AreTwo a b → AreTwo b a
two-back a b two = λ one. two (sym one)

-- ---- two cursors on the blocks that are kept

abbrev Stands : OpenReader → Cursor → List Part → Type 0
Stands r c parts = (place : Option ℕ) × StandsOn r c parts place

abbrev Somewhere : OpenReader → Cursor → Cursor → Type 0
Somewhere r c d = (parts : List Part) × StandBoth r c d parts

pub some-parts : (r : OpenReader) (c d : Cursor) → Somewhere r c d → List Part
some-parts r c d (parts, both) = parts

pub some-both : (r : OpenReader) (c d : Cursor) (s : Somewhere r c d) → StandBoth r c d (some-parts r c d s)
unfolding some-parts
some-both r c d (parts, both) = both

pub first-of : (r : OpenReader) (c d : Cursor) (parts : List Part) → StandBoth r c d parts → Stands r c parts
first-of r c d parts (first, second) = first

pub second-of : (r : OpenReader) (c d : Cursor) (parts : List Part) → StandBoth r c d parts → Stands r d parts
second-of r c d parts (first, second) = second

-- the other cursor stands on the same blocks
pub other-on : (r : OpenReader) (c d : Cursor) (parts : List Part) (place : Option ℕ) → StandsOn r c parts place → Somewhere r c d → Stands r d parts
other-on r c d parts place stands s =
    let other = second-of r c d (some-parts r c d s) (some-both r c d s) in
    (other.0, record { keeps = stands.keeps; belongs = other.1.belongs; stands = other.1.stands })
