-- One more row of a builder: what stands in the block for its value, and the handle that it says there.
use Rattle.std.proofs.Common.{◌≡◌, ℕ, zero, suc, ◌^◌, ◌<◌, Bool, true, false, List, [], ◌∷◌, ◌++◌, length, refl, sym, subst, ap, ◌∙◌, arith}
use Rattle.std.proofs.Math.Nat.{zero-mod}
use Rattle.std.proofs.lemmas.Bool.{lt-ltb}
use Rattle.std.proofs.lemmas.Option.{same_Some}
use Rattle.sst_num.specs.Spelling.{handle_spelling}
use Rattle.sst_num.specs.NumberReading.{handle_at}
use Rattle.sst_num.specs.declared.block_handle.Handle.{Handle}
use Rattle.sst_num.proofs.NumberReading.{handle_at-handle}
use Rattle.sst_block.specs.declared.row_form.RowForm.{RowForm}
use Rattle.sst_block.specs.declared.row_form.RowForm.TheVariants.{Entries, Names, Index}
use Rattle.sst_block.specs.declared.builder.BlockBuilder.{BlockBuilder}
use Rattle.sst_block.specs.Block.{Row, Spelled, common, row_spelling, no_handle, IsDifference, SaysHandle, SayHandles, LeadTo}
use Rattle.sst_block.specs.IndexRows.{IndexPair, SayPairs}
use Rattle.sst_block.specs.Builder.{spelled_of, shared_by, value_put, row_put, IsReady, Holds, HoldsPairs, GivesHandle, Takes}
use Rattle.sst_block.proofs.Said.{leads-one}
use Rattle.sst_block.proofs.Steps.{length-chosen}
use Rattle.sst_block.proofs.Kept.{spelled-more}
use Rattle.sst_block.proofs.Held.{of-holder}

-- only behind a row something is shared
shared-some : (interval : ℕ) (rows : List Row) (key : List ℕ) → 0 < shared_by interval rows key → 0 < length (spelled_of interval rows)
shared-some interval [] key some =
    let first = zero-mod interval in
    let none : 0 < 0 = rw first at some in
    absurd (omega (arith, none))
shared-some interval (row ∷ rows) key some = omega (arith, length-chosen interval 0 [] (row ∷ rows))

-- a row that is put says the handle that was given
value-says : (user_key delta : Bool) (before h : Handle) (shared many : ℕ) (key value difference : List ℕ) → (0 < shared → 0 < many) → h.offset < 2 ^ 64 → h.size < 2 ^ 64
    → value ≡ handle_spelling h → (delta ≡ true → 0 < many → IsDifference before difference h)
    → SaysHandle delta before (record { shared = shared; row = record { key = key; value = value_put (Index user_key delta) shared value difference } }) h
value-says user_key false before h shared many key value difference some low small whole differs = (low, small, whole)
value-says user_key true before h zero many key value difference some low small whole differs = (low, small, whole)
value-says user_key true before h (suc shared) many key value difference some low small whole differs =
    let test = lt-ltb 0 (suc shared) (omega arith) in
    let put : value_put (Index user_key true) (suc shared) value difference ≡ difference = rw test refl in
    (low, small, subst (λ (v : List ℕ). IsDifference before v h) (sym put) (differs refl (some (omega arith))))

-- one more row says a handle
says-push : (user_key : Bool) (before last h : Handle) (spelled : List Spelled) (s : Spelled) → SayHandles (Index user_key true) before spelled
    → LeadTo (Index user_key true) before spelled last → SaysHandle true last s h → SayHandles (Index user_key true) before (spelled ++ s ∷ [])
says-push user_key before last h [] s says leads more = (h, subst (λ (b : Handle). SaysHandle true b s h) leads more, tt)
says-push user_key before last h (x ∷ rest) s says leads more =
    let same = leads-one (Index user_key true) before x leads.0 says.0 leads.1 says.1 in
    let rest_leads = subst (λ (b : Handle). LeadTo (Index user_key true) b rest last) same leads.2 in
    (says.0, says.1, says-push user_key says.0 last h rest s says.2 rest_leads more)

handles-push : (form : RowForm) (spelled : List Spelled) (shared : ℕ) (key value delta : List ℕ) → (0 < shared → 0 < length spelled) → SayHandles form no_handle spelled
    → GivesHandle form spelled value delta
    → SayHandles form no_handle (spelled ++ record { shared = shared; row = record { key = key; value = value_put form shared value delta } } ∷ [])
handles-push Entries spelled shared key value delta some says given = tt
handles-push Names spelled shared key value delta some says given = tt
handles-push (Index user_key false) spelled shared key value delta some says given = tt
handles-push (Index user_key true) spelled shared key value delta some says given =
    let (before, h, leads, low, small, whole, differs) = given in
    says-push user_key no_handle before h spelled _ says leads
    (value-says user_key true before h shared (length spelled) key value delta some low small whole (λ same. differs))

-- one more row that is put keeps the handles
pub handles-more : (form : RowForm) (interval : ℕ) (rows : List Row) (row : Row) (delta : List ℕ) → SayHandles form no_handle (spelled_of interval rows)
    → GivesHandle form (spelled_of interval rows) row.value delta → SayHandles form no_handle (spelled_of interval (rows ++ row_put form interval rows row delta ∷ []))
handles-more form interval rows row delta says given =
    subst (λ (l : List Spelled). SayHandles form no_handle l) (sym (spelled-more interval rows (row_put form interval rows row delta)))
    (handles-push form (spelled_of interval rows) (shared_by interval rows row.key) row.key row.value delta (shared-some interval rows row.key) says given)

-- what the calls leave is the row that is put
pub stored-is : (form f : RowForm) (interval : ℕ) (rows : List Row) (bytes restarts last lent : List ℕ) (count since shared : ℕ) (key value delta stored : List ℕ)
    → IsReady form interval rows bytes restarts last count since → f ≡ form → lent ≡ last → shared ≡ common lent key → stored ≡ value_put f shared value delta
    → stored ≡ (row_put form interval rows (record { key = key; value = value }) delta).value
stored-is form f interval rows bytes restarts last lent count since shared key value delta stored ready same held front is =
    let shares : shared ≡ shared_by interval rows key = front ∙ ap (λ (l : List ℕ). common l key) held ∙ sym (ready.shares key) in
    is ∙ ap (λ (g : RowForm). value_put g shared value delta) same ∙ ap (λ (n : ℕ). value_put form n value delta) shares

pub spelling-is : (form f : RowForm) (bytes made key stored value : List ℕ) (shared : ℕ) → f ≡ form → stored ≡ value
    → made ≡ bytes ++ row_spelling f (record { shared = shared; row = record { key = key; value = stored } })
    → made ≡ bytes ++ row_spelling form (record { shared = shared; row = record { key = key; value = value } })
spelling-is form f bytes made key stored value shared same stored_is is =
    is ∙ ap (λ (g : RowForm). bytes ++ row_spelling g (record { shared = shared; row = record { key = key; value = stored } })) same
    ∙ ap (λ (v : List ℕ). bytes ++ row_spelling form (record { shared = shared; row = record { key = key; value = v } })) stored_is

-- a builder that was given a row holds one row more
pub holds-more : (old new : BlockBuilder) (row : Row) (difference : List ℕ) (form : RowForm) (interval : ℕ) (rows : List Row) (t : Takes old row difference)
    → Holds old form interval rows → Holds new t.form t.interval (t.rows ++ row_put t.form t.interval t.rows row difference ∷ [])
    → Holds new form interval (rows ++ row_put form interval rows row difference ∷ [])
holds-more old new row difference form interval rows t h more =
    of-holder old form t.form interval t.interval rows t.rows (λ f i r. Holds new f i (r ++ row_put f i r row difference ∷ [])) h t.holds more

-- rows that say pairs lead to a handle, and to one alone
lead-of : (user_key delta : Bool) (before : Handle) (spelled : List Spelled) (pairs : List IndexPair) → SayPairs delta before spelled pairs
    → (h : Handle) × LeadTo (Index user_key delta) before spelled h
lead-of user_key delta before [] pairs says = (before, refl)
lead-of user_key delta before (s ∷ rest) [] says = absurd says
lead-of user_key delta before (s ∷ rest) (pair ∷ pairs) says =
    let more = lead-of user_key delta pair.handle rest pairs says.2 in
    (more.0, (pair.handle, says.1, more.1))

lead-one : (form : RowForm) (before h k : Handle) (spelled : List Spelled) → LeadTo form before spelled h → LeadTo form before spelled k → h ≡ k
lead-one form before h k [] one other = one ∙ sym other
lead-one form before h k (s ∷ rest) one other =
    let same = leads-one form before s one.0 other.0 one.1 other.1 in
    lead-one form other.0 h k rest (subst (λ (b : Handle). LeadTo form b rest h) same one.2) other.2

-- one spelling is of one handle
spelling-one : (h k : Handle) → h.offset < 2 ^ 64 → h.size < 2 ^ 64 → k.offset < 2 ^ 64 → k.size < 2 ^ 64 → handle_spelling h ≡ handle_spelling k → h ≡ k
spelling-one h k h_low h_small k_low k_small same =
    let one = handle_at-handle h [] h_low h_small in
    let other = handle_at-handle k [] k_low k_small in
    let read = sym one ∙ ap (λ (v : List ℕ). handle_at (v ++ [])) same ∙ other in
    ap (λ (p : Handle × ℕ). p.0) (same_Some _ _ read)

-- the difference that was given is that of the handle behind the last
given-difference : (user_key delta : Bool) (spelled : List Spelled) (value difference : List ℕ) (last h : Handle) → GivesHandle (Index user_key delta) spelled value difference
    → LeadTo (Index user_key delta) no_handle spelled last → h.offset < 2 ^ 64 → h.size < 2 ^ 64 → value ≡ handle_spelling h
    → delta ≡ true → 0 < length spelled → IsDifference last difference h
given-difference user_key false spelled value difference last h given leads low small whole is some = cc
given-difference user_key true spelled value difference last h given leads low small whole is some =
    let (before, k, from, k_low, k_small, k_whole, differs) = given in
    let start = lead-one (Index user_key true) no_handle before last spelled from leads in
    let same = spelling-one k h k_low k_small low small (sym k_whole ∙ whole) in
    subst (λ (b : Handle). IsDifference b difference h) start (subst (λ (x : Handle). IsDifference before difference x) same (differs some))

pairs-push : (delta : Bool) (user_key : Bool) (before last h : Handle) (spelled : List Spelled) (pairs : List IndexPair) (s : Spelled) → SayPairs delta before spelled pairs
    → LeadTo (Index user_key delta) before spelled last → SaysHandle delta last s h
    → SayPairs delta before (spelled ++ s ∷ []) (pairs ++ record { separator = s.row.key; handle = h } ∷ [])
pairs-push delta user_key before last h [] pairs s says leads more =
    let start = subst (λ (b : Handle). SaysHandle delta b s h) leads more in
    let one : SayPairs delta before (s ∷ []) (record { separator = s.row.key; handle = h } ∷ []) = (refl, start, refl) in
    subst (λ (l : List IndexPair). SayPairs delta before (s ∷ []) (l ++ record { separator = s.row.key; handle = h } ∷ [])) (sym says) one
pairs-push delta user_key before last h (x ∷ rest) [] s says leads more = absurd says
pairs-push delta user_key before last h (x ∷ rest) (pair ∷ pairs) s says leads more =
    let same = leads-one (Index user_key delta) before x leads.0 pair.handle leads.1 says.1 in
    let rest_leads = subst (λ (b : Handle). LeadTo (Index user_key delta) b rest last) same leads.2 in
    (says.0, says.1, pairs-push delta user_key pair.handle last h rest pairs s says.2 rest_leads more)

-- a builder that holds pairs, and was given a row, holds one pair more
pub pairs-more : (old new : BlockBuilder) (row : Row) (difference : List ℕ) (user_key delta : Bool) (interval : ℕ) (pairs : List IndexPair) (h : Handle)
    → Takes old row difference → (held : HoldsPairs old user_key delta interval pairs) → h.offset < 2 ^ 64 → h.size < 2 ^ 64 → row.value ≡ handle_spelling h
    → Holds new (Index user_key delta) interval (held.rows ++ row_put (Index user_key delta) interval held.rows row difference ∷ [])
    → HoldsPairs new user_key delta interval (pairs ++ record { separator = row.key; handle = h } ∷ [])
pairs-more old new row difference user_key delta interval pairs h t held low small whole holds =
    let form = Index user_key delta in
    let rows = held.rows in
    let spelled = spelled_of interval rows in
    let given = of-holder old form t.form interval t.interval rows t.rows (λ f i r. GivesHandle f (spelled_of i r) row.value difference) held.holds t.holds t.given in
    let last = lead-of user_key delta no_handle spelled pairs held.says in
    let shared = shared_by interval rows row.key in
    let says = value-says user_key delta last.0 h shared (length spelled) row.key row.value difference (shared-some interval rows row.key) low small whole
    (given-difference user_key delta spelled row.value difference last.0 h given last.1 low small whole) in
    let more = pairs-push delta user_key no_handle last.0 h spelled pairs (record { shared = shared; row = row_put form interval rows row difference }) held.says last.1 says in
    record {
      rows = rows ++ row_put form interval rows row difference ∷ [];
      holds = holds;
      says = subst (λ (l : List Spelled). SayPairs delta no_handle l (pairs ++ record { separator = row.key; handle = h } ∷ [])) (sym (spelled-more interval rows (row_put form interval rows row difference))) more;
    }

-- a builder of an index without rows holds no pairs
pub pairs-none : (b : BlockBuilder) (form : RowForm) (user_key delta : Bool) (interval : ℕ) → form ≡ Index user_key delta → Holds b form interval []
    → HoldsPairs b user_key delta interval []
pairs-none b form user_key delta interval is holds =
    record { rows = []; holds = subst (λ (f : RowForm). Holds b f interval []) is holds; says = refl }
