-- What a move over the entries that a reader keeps comes to, in the relations of a reader and its cursors to a file.
use Rattle.std.proofs.Common.{◌≡◌, ℕ, ◌+◌, ◌<◌, ◌↔◌, Bool, true, false, nat_lt, if◌then◌else◌, List, length, Option, None, Some, Result, Ok, slice_get, refl, sym, ap, ◌∙◌, subst, arith}
use Rattle.std.specs.Option.{is_some}
use Rattle.sst_num.specs.declared.stops.Stop.{Stop}
use Rattle.sst_key.specs.declared.entries.Entry.{Entry}
use Rattle.sst_key.specs.declared.calls.Answer.{Answer}
use Rattle.sst_key.specs.declared.calls.Call.{Call}
use Rattle.sst_key.specs.declared.calls.Call.TheVariants as call
use Rattle.sst_key.specs.declared.calls.Format.TheVariants.{Block}
use Rattle.sst_key.specs.declared.calls.Reply.{Reply}
use Rattle.sst_key.specs.declared.calls.Reply.TheVariants.{NotPositioned}
use Rattle.sst_key.specs.ListMachine.{answer_of, get_of, lands, next_of, prev_of}
use Rattle.sst_device.specs.Folder.{Files}
use Rattle.sst_bbt_spec.specs.BlockBased.{Opens}
use Rattle.sst_bbt_spec.specs.Mark.{shown_in}
use Rattle.sst_bbt_spec.specs.Parts.{Part, stored_in}
use Rattle.sst_bbt_spec.specs.PartWay.{answer_in_parts, get_in_parts}
use Rattle.sst_bbt_spec.proofs.Stands.{stands-separate, opens-seqs}
use Rattle.sst_bbt_spec.proofs.PartLaws.{part-answer, get-in_list, shown-none}
use Rattle.sst_bbt_read.specs.Cursors.{IsPlace, Comes}
use Rattle.sst_bbt_read.specs.Kept.{StandsOn, Answers, AnswersGet, OthersStand, KeptMove, KeptGet}
use Rattle.sst_bbt_read.specs.Positions.{Belongs, is_placed, left_from, rest, On, At, SameReader, OthersStay, Goes, Moved, Finds, Found}
use Rattle.sst_bbt_read.specs.Seats.{OpenReader}
use Rattle.sst_bbt_read.specs.TableBlocks.{parts_of}
use Rattle.sst_bbt_read.specs.declared.bbt_fault.BbtFault.{BbtFault}
use Rattle.sst_bbt_read.specs.declared.cursor.Cursor.{Cursor}

-- ---- the reader stays

pub same-reader : (held : Option Files) (r : OpenReader) → SameReader held r r
same-reader held r = record { name = refl; seats = (refl, refl); of = λ file told of. of }

pub others-stay : (held : Option Files) (r : OpenReader) (c : Cursor) → OthersStay held r r c
others-stay held r c = record {
  belongs = λ d two belongs. belongs;
  rests = λ d two belongs. refl;
  on = λ d file place two told on. on;
  at = λ d file entries place two told at. at;
}

others-stand : (r : OpenReader) (c : Cursor) → OthersStand r r c
others-stand r c = λ d parts place two stands. stands

pub still-belongs : (r : OpenReader) (c d : Cursor) → d.number ≡ c.number → IsPlace r.table.entries d.place → Belongs r c → Belongs r d
still-belongs r c d number is belongs = record { seated = ap (λ (n : ℕ). slice_get r.seats n) number ∙ belongs.seated; place = is }

-- ---- a move

-- over the entries of the reader's table a cursor came from one place to another by a call, with this reply
pub record Came (r : OpenReader) (c d : Cursor) (reply : Reply) (call : Call) : Type 0 where
  pub number : d.number ≡ c.number
  pub comes : Comes reply d.place (answer_in_parts None (parts_of r.table) c.place call)
  pub is : IsPlace r.table.entries d.place

answers : (r : OpenReader) (c d : Cursor) (reply : Reply) (call : Call) → Came r c d reply call → (parts : List Part) (place : Option ℕ)
    → StandsOn r c parts place → Answers (Ok reply) r d parts (answer_in_parts None parts place call)
answers r c d reply call came parts place stands =
    let same : answer_in_parts None (parts_of r.table) c.place call ≡ answer_in_parts None parts place call =
    ap (λ (p : List Part). answer_in_parts None p c.place call) stands.keeps.0 ∙ ap (λ (p : Option ℕ). answer_in_parts None parts p call) stands.stands in (
      came.comes.0 ∙ ap (λ (a : Answer). a.reply) same,
      record {
        keeps = stands.keeps;
        belongs = still-belongs r c d came.number came.is stands.belongs;
        stands = came.comes.1 ∙ ap (λ (a : Answer). a.position) same;
      },
    )

pub kept-move : (r : OpenReader) (c d : Cursor) (reply : Reply) (call : Call) → Came r c d reply call → KeptMove (Ok reply) r r c d call
kept-move r c d reply call came = record { answers = answers r c d reply call came; others = others-stand r c }

on-kept : (r : OpenReader) (c : Cursor) (file : List ℕ) (parts : List Part) (place : Option ℕ) → Opens file parts → On r c file place → StandsOn r c parts place
on-kept r c file parts place opens on = record { keeps = (on.of parts opens, opens-seqs file parts opens); belongs = on.belongs; stands = on.stands }

pub goes : (r : OpenReader) (c d : Cursor) (reply : Reply) (call : Call) → Came r c d reply call → (file : List ℕ) (parts : List Part) (place : Option ℕ)
    → Opens file parts → On r c file place → Goes (Ok reply) r d file (answer_in_parts None parts place call)
goes r c d reply call came file parts place opens on =
    let kept = answers r c d reply call came parts place (on-kept r c file parts place opens on) in
    (kept.0, record { of = on.of; belongs = kept.1.belongs; stands = kept.1.stands })

pub moved : (r : OpenReader) (c d : Cursor) (reply : Reply) (call : Call) → Came r c d reply call → (file : List ℕ) (entries : List Entry) (place : Option ℕ)
    → At r c file entries place → Moved (Ok reply) r d file entries (answer_of Block 0 entries place call)
moved r c d reply call came file entries place at =
    let stands = at.stands_for in
    let went = goes r c d reply call came file stands.parts place stands.opens at.on in
    let same : answer_in_parts None stands.parts place call ≡ answer_of Block 0 entries place call =
    part-answer None stands.parts place call (stands-separate file entries stands) (opens-seqs file stands.parts stands.opens)
    ∙ ap (λ (es : List Entry). answer_of Block 0 es place call) (shown-none (stored_in stands.parts) ∙ stands.runs.joined_is) in (
      went.0 ∙ ap (λ (a : Answer). a.reply) same,
      record { stands_for = stands; on = subst (λ (p : Option ℕ). On r d file p) (ap (λ (a : Answer). a.position) same) went.1 },
    )

-- ---- a Get

pub record Got (r : OpenReader) (c d : Cursor) (found : Bool) (user : List ℕ) (seq : ℕ) : Type 0 where
  pub number : d.number ≡ c.number
  pub at : d.place ≡ get_in_parts None (parts_of r.table) user seq
  pub tells : found ≡ is_some d.place
  pub is : IsPlace r.table.entries d.place

answers-get : (r : OpenReader) (c d : Cursor) (found : Bool) (user : List ℕ) (seq : ℕ) → Got r c d found user seq → (parts : List Part) (place : Option ℕ)
    → StandsOn r c parts place → AnswersGet (Ok found) r d parts (get_in_parts None parts user seq)
answers-get r c d found user seq got parts place stands =
    let at = got.at ∙ ap (λ (p : List Part). get_in_parts None p user seq) stands.keeps.0 in (
      got.tells ∙ ap (λ (p : Option ℕ). is_some p) at,
      record { keeps = stands.keeps; belongs = still-belongs r c d got.number got.is stands.belongs; stands = at },
    )

pub kept-get : (r : OpenReader) (c d : Cursor) (found : Bool) (user : List ℕ) (seq : ℕ) → Got r c d found user seq → KeptGet (Ok found) r r c d user seq
kept-get r c d found user seq got = record { answers = answers-get r c d found user seq got; others = others-stand r c }

pub finds : (r : OpenReader) (c d : Cursor) (found : Bool) (user : List ℕ) (seq : ℕ) → Got r c d found user seq → (file : List ℕ) (parts : List Part) (place : Option ℕ)
    → Opens file parts → On r c file place → Finds (Ok found) r d file (get_in_parts None parts user seq)
finds r c d found user seq got file parts place opens on =
    let kept = answers-get r c d found user seq got parts place (on-kept r c file parts place opens on) in
    (kept.0, record { of = on.of; belongs = kept.1.belongs; stands = kept.1.stands })

pub found-at : (r : OpenReader) (c d : Cursor) (found : Bool) (user : List ℕ) (seq : ℕ) → Got r c d found user seq → (file : List ℕ) (entries : List Entry) (place : Option ℕ)
    → At r c file entries place → Found (Ok found) r d file entries (get_of entries user seq)
found-at r c d found user seq got file entries place at =
    let stands = at.stands_for in
    let went = finds r c d found user seq got file stands.parts place stands.opens at.on in
    let same : get_in_parts None stands.parts user seq ≡ get_of entries user seq =
    get-in_list None stands.parts user seq (stands-separate file entries stands) (opens-seqs file stands.parts stands.opens)
    ∙ ap (λ (es : List Entry). get_of es user seq) (shown-none (stored_in stands.parts) ∙ stands.runs.joined_is) in (
      went.0 ∙ ap (λ (p : Option ℕ). is_some p) same,
      record { stands_for = stands; on = subst (λ (p : Option ℕ). On r d file p) same went.1 },
    )

-- ---- steps

-- a move that lands somewhere doesn't answer that there was no position
lands-not : (place : Option ℕ) (reply : Reply) → reply ≡ (lands place).reply → reply ≡ NotPositioned → ⊥
lands-not None reply is nowhere = cc
lands-not (Some i) reply is nowhere = cc

same-ok : (a b : Reply) → ◌≡◌ {A = Result Reply (Stop BbtFault)} (Ok a) (Ok b) → a ≡ b
same-ok a b same = cc

abbrev IsNowhere : Reply → Option ℕ → Type 0
IsNowhere reply place = ◌≡◌ {A = Result Reply (Stop BbtFault)} (Ok reply) (Ok NotPositioned) ↔ (is_some place ≡ false)

pub on-nowhere : (parts : List Part) (place : Option ℕ) (reply : Reply) → reply ≡ (answer_in_parts None parts place call.Next).reply → IsNowhere reply place
on-nowhere parts None reply is = (λ told. refl, λ none. ap Ok is)
on-nowhere parts (Some i) reply is =
    (λ told. absurd (lands-not (next_of (shown_in None parts) i) reply is (same-ok reply NotPositioned told)), λ none. cc)

pub back-nowhere : (parts : List Part) (place : Option ℕ) (reply : Reply) → reply ≡ (answer_in_parts None parts place call.Prev).reply → IsNowhere reply place
back-nowhere parts None reply is = (λ told. refl, λ none. ap Ok is)
back-nowhere parts (Some i) reply is = (λ told. absurd (lands-not (prev_of i) reply is (same-ok reply NotPositioned told)), λ none. cc)

-- the place after, if there is one
on-by-one : (test : Bool) (i j : ℕ) → Some j ≡ (lands (if test then Some (i + 1) else None)).position → j ≡ i + 1
on-by-one true i j is = cc
on-by-one false i j is = cc

-- a step on leaves fewer entries
lowered : (entries : List Entry) (parts : List Part) (place next : Option ℕ) → IsPlace entries place → IsPlace entries next
    → next ≡ (answer_in_parts None parts place call.Next).position → is_some place ≡ true → left_from entries next < left_from entries place
lowered entries parts None next within there at placed = cc
lowered entries parts (Some i) None within there at placed = omega (arith, within)
lowered entries parts (Some i) (Some j) within there at placed =
    let one = on-by-one (nat_lt (i + 1) (length (shown_in None parts))) i j at in
    omega (arith, within, there, one)

pub lowers : (r : OpenReader) (c d : Cursor) (reply : Reply) → Came r c d reply call.Next → Belongs r c → is_placed c ≡ true → rest r d < rest r c
lowers r c d reply came belongs placed = lowered r.table.entries (parts_of r.table) c.place d.place belongs.place came.is came.comes.1 placed

-- the number of entries that are left is 0 exactly nowhere
rest-of : (entries : List Entry) (place : Option ℕ) → IsPlace entries place → (is_some place ≡ true) ↔ (0 < left_from entries place)
rest-of entries None within = (λ placed. cc, λ some. absurd (omega (arith, some)))
rest-of entries (Some i) within = (λ placed. omega (arith, within), λ some. refl)

pub rest-is : (r : OpenReader) (c : Cursor) → Belongs r c → (is_placed c ≡ true) ↔ (0 < rest r c)
rest-is r c belongs = rest-of r.table.entries c.place belongs.place

-- ---- the entry that is shown

pub shown : (r : OpenReader) (c : Cursor) (parts : List Part) (i at : ℕ) (e : Entry) → c.place ≡ Some at → slice_get (stored_in (parts_of r.table)) at ≡ Some e
    → parts_of r.table ≡ parts → c.place ≡ Some i → slice_get (stored_in parts) i ≡ Some e
shown r c parts i at e stands here keeps place =
    let both : Some i ≡ Some at = sym place ∙ stands in
    let same : i ≡ at = cc in
    ap (λ (n : ℕ). slice_get (stored_in parts) n) same ∙ ap (λ (p : List Part). slice_get (stored_in p) at) (sym keeps) ∙ here

pub shown-at : (r : OpenReader) (c : Cursor) (file : List ℕ) (entries : List Entry) (i at : ℕ) (e : Entry) → c.place ≡ Some at → slice_get (stored_in (parts_of r.table)) at ≡ Some e
    → At r c file entries (Some i) → slice_get entries i ≡ Some e
shown-at r c file entries i at e stands here is =
    let for = is.stands_for in
    ap (λ (es : List Entry). slice_get es i) (sym for.runs.joined_is)
    ∙ shown r c for.parts i at e stands here (is.on.of for.parts for.opens) is.on.stands

-- ---- a reader whose fields are these

pub came : (r now : OpenReader) (c d : Cursor) (reply : Reply) (call : Call) → r ≡ now → d.number ≡ c.number
    → Comes reply d.place (answer_in_parts None (parts_of r.table) c.place call) → IsPlace r.table.entries d.place → Came now c d reply call
came r now c d reply call same number comes is = subst (λ (x : OpenReader). Came x c d reply call) same (record { number = number; comes = comes; is = is })

pub got : (r now : OpenReader) (c d : Cursor) (found : Bool) (user : List ℕ) (seq : ℕ) → r ≡ now → d.number ≡ c.number
    → d.place ≡ get_in_parts None (parts_of r.table) user seq → found ≡ is_some d.place → IsPlace r.table.entries d.place → Got now c d found user seq
got r now c d found user seq same number at tells is =
    subst (λ (x : OpenReader). Got x c d found user seq) same (record { number = number; at = at; tells = tells; is = is })

pub here : (r now : OpenReader) (at : ℕ) (e : Entry) → r ≡ now → slice_get (stored_in (parts_of r.table)) at ≡ Some e → slice_get (stored_in (parts_of now.table)) at ≡ Some e
here r now at e same is = subst (λ (x : OpenReader). slice_get (stored_in (parts_of x.table)) at ≡ Some e) same is
