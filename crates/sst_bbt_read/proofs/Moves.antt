-- Where a move over the entries of a table lands is where it lands over its parts.
use Rattle.std.proofs.Common.{◌≡◌, ℕ, ◌<◌, List, length, slice_get, slice_index_or, Option, None, Some, option_and_then, refl, sym, ap, ◌∙◌, subst}
use Rattle.std.proofs.lemmas.Option.{slice_get_read}
use Rattle.sst_key.specs.declared.calls.Reply.{Reply}
use Rattle.sst_key.specs.declared.entries.Entry.{Entry}
use Rattle.sst_key.specs.ListMachine.{is_of_user, where_passes, place_in, lands, next_of, steps_on, last_of}
use Rattle.sst_bbt_spec.specs.Mark.{shown_in}
use Rattle.sst_bbt_spec.specs.Parts.{stored_in}
use Rattle.sst_bbt_spec.specs.PartWay.{seek_passed_in, prev_passed_in, seek_in_parts, seek_for_prev_in_parts, get_in_parts}
use Rattle.sst_bbt_spec.specs.Way.{last_passed}
use Rattle.sst_bbt_read.specs.Cursors.{Comes}
use Rattle.sst_bbt_read.specs.TableBlocks.{OpenTable, IsOpenTable, parts_of}
use Rattle.sst_bbt_read.proofs.JoinedParts.{stored-table, shown-table}

-- a table whose fields are these is one
pub open-now : (table now : OpenTable) → table ≡ now → IsOpenTable table → IsOpenTable now
open-now table now same is = subst IsOpenTable same is

-- its entries as they are shown
pub shown-now : (table now : OpenTable) → table ≡ now → IsOpenTable table → shown_in None (parts_of now) ≡ now.entries
shown-now table now same is = shown-table now (open-now table now same is)

-- a move landed at a place of the entries
pub landed-at : (table now : OpenTable) (reply : Reply) (place : Option ℕ) (to : List Entry → Option ℕ) → table ≡ now → IsOpenTable table
    → Comes reply place (lands place) → place ≡ to now.entries → Comes reply place (lands (to (shown_in None (parts_of now))))
landed-at table now reply place to same is comes at =
    let lands_at : place ≡ to (shown_in None (parts_of now)) = at ∙ ap to (sym (shown-now table now same is)) in
    subst (λ (p : Option ℕ). Comes reply place (lands p)) lands_at comes

-- a step on landed there
pub stepped-on : (table now : OpenTable) (reply : Reply) (before place : Option ℕ) (i : ℕ) → table ≡ now → IsOpenTable table
    → Comes reply place (lands place) → place ≡ next_of now.entries i → before ≡ Some i
    → Comes reply place (steps_on (shown_in None (parts_of now)) before)
stepped-on table now reply before place i same is comes at from =
    let on = landed-at table now reply place (λ (es : List Entry). next_of es i) same is comes at in
    subst (λ (p : Option ℕ). Comes reply place (steps_on (shown_in None (parts_of now)) p)) (sym from) on

-- ---- after what is passed

-- Seek passed so many entries
pub seek-after : (table now : OpenTable) (user : List ℕ) (seq n : ℕ) (place : Option ℕ) → table ≡ now → IsOpenTable table
    → Some n ≡ seek_passed_in None (parts_of now) user seq → place ≡ place_in now.entries n → place ≡ seek_in_parts None (parts_of now) user seq
seek-after table now user seq n place same is passed at =
    let entries = shown_in None (parts_of now) in
    at ∙ ap (λ (es : List Entry). place_in es n) (sym (shown-now table now same is)) ∙ ap (option_and_then (λ n. place_in entries n)) passed

-- SeekForPrev passed all parts
pub prev-past : (table now : OpenTable) (user : List ℕ) (seq : ℕ) (place : Option ℕ) → table ≡ now → IsOpenTable table
    → None ≡ prev_passed_in None (parts_of now) user seq → place ≡ last_of now.entries → place ≡ seek_for_prev_in_parts None (parts_of now) user seq
prev-past table now user seq place same is passed at =
    at ∙ ap last_of (sym (shown-now table now same is)) ∙ ap (last_passed (shown_in None (parts_of now))) passed

-- Get looks at the entry where Seek lands
pub get-there : (table now : OpenTable) (user : List ℕ) (seq : ℕ) (place there : Option ℕ) → table ≡ now → IsOpenTable table
    → there ≡ seek_in_parts None (parts_of now) user seq
    → place ≡ option_and_then (λ i. where_passes (is_of_user user) i (slice_get now.entries i)) there → place ≡ get_in_parts None (parts_of now) user seq
get-there table now user seq place there same is seeks at =
    let look : List Entry → Option ℕ → Option ℕ = λ es. option_and_then (λ i. where_passes (is_of_user user) i (slice_get es i)) in
    at ∙ ap (λ (es : List Entry). look es there) (sym (shown-now table now same is)) ∙ ap (look (shown_in None (parts_of now))) seeks

-- ---- the entry

-- the entry at a place
pub entry-at : (table now : OpenTable) (i : ℕ) (e : Entry) → table ≡ now → IsOpenTable table → i < length now.entries
    → e ≡ slice_index_or table.entries i e → slice_get (stored_in (parts_of now)) i ≡ Some e
entry-at table now i e same is within at =
    let here : e ≡ slice_index_or now.entries i e = at ∙ ap (λ (t : OpenTable). slice_index_or t.entries i e) same in
    ap (λ (es : List Entry). slice_get es i) (stored-table now (open-now table now same is))
    ∙ slice_get_read now.entries (length now.entries) i e refl within here

-- it is lent by its parts
pub lent-entry : (e : Entry) (user value : List ℕ) → user ≡ e.user → value ≡ e.value
    → ◌≡◌ {A = Entry} e (record { user = user; seq = e.seq; kind = e.kind; value = value })
lent-entry e user value users values = rw (users, values) refl
