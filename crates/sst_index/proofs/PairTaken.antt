-- A builder of an index block takes a pair that may come next, and holds it.
use Rattle.std.proofs.Common.{◌≡◌, inr, ℕ, zero, suc, ◌%◌, ◌==◌, ◌<◌, pos, ◌-ℤ◌, Bool, true, false, Option, None, Some, List, [], ◌∷◌, ◌++◌, length, All, IfSome, refl, sym, ap, ◌∙◌, subst, arith}
use Rattle.std.proofs.lemmas.Bool.{lt-ltb}
use Rattle.std.proofs.lemmas.List.Elements.{All-push}
use Rattle.sst_num.specs.Spelling.{IsSigned64, signed_varint, handle_spelling}
use Rattle.sst_num.specs.declared.block_handle.Handle.{Handle}
use Rattle.sst_key.specs.Limits.{block_limit}
use Rattle.sst_block.specs.declared.row_form.RowForm.TheVariants.{Index}
use Rattle.sst_block.specs.Block.{Row, IsRow, AreOrdered, no_handle, IsDifference}
use Rattle.sst_block.specs.Builder.{Holds, CanAdd, GivesHandle, shared_by, spelled_of, value_put, row_put}
use Rattle.sst_block.specs.Chosen.{block_of}
use Rattle.sst_block.specs.IndexRows.{IndexPair}
use Rattle.sst_index.specs.declared.flags.IndexFlags.{IndexFlags}
use Rattle.sst_index.specs.declared.top.TopBuilder.{TopBuilder}
use Rattle.sst_index.specs.Behind.{AreBehind, last_handle, last_of, difference_of}
use Rattle.sst_index.specs.IndexBlock.{form_of, handle_value, index_rows, rows_of_pairs}
use Rattle.sst_index.specs.Top.{HoldsPairs, TakesPair, IsPair}
use Rattle.sst_index.proofs.Behind.{NextBehind, behind-push, behind-last}
use Rattle.sst_index.proofs.PairRows.{next_row, rows-more, first-shares, differs, all-say, says-leads, is_row}

-- what tells a handle by the one before is the difference of their sizes, where something is shared
told : (flags : IndexFlags) (interval : ℕ) (pairs : List IndexPair) (key : List ℕ) (h : Handle) → 0 < shared_by interval (rows_of_pairs flags interval pairs) key
    → difference_of (last_of pairs) h ≡ signed_varint (pos h.size -ℤ pos (last_handle no_handle pairs).size)
told flags interval [] key h some = absurd (omega (arith, some, first-shares (0 % interval == 0) key))
told flags interval (p ∷ pairs) key h some = refl

-- the value that stands in a row
put-value : (user_key delta : Bool) (shared : ℕ) (before h : Handle) (value difference : List ℕ) → value ≡ handle_spelling h
    → (delta ≡ true → 0 < shared → difference ≡ signed_varint (pos h.size -ℤ pos before.size))
    → value_put (Index user_key delta) shared value difference ≡ handle_value delta shared before h
put-value user_key false shared before h value difference whole is = whole
put-value user_key true zero before h value difference whole is = whole
put-value user_key true (suc shared) before h value difference whole is =
    let test = lt-ltb 0 (suc shared) (omega arith) in
    let put : value_put (Index user_key true) (suc shared) value difference ≡ difference = rw test refl in
    put ∙ is refl (omega arith)

-- the row that is put is that of the pair
pub put-row : (flags : IndexFlags) (interval : ℕ) (pairs : List IndexPair) (pair : IndexPair) (value difference : List ℕ) → value ≡ handle_spelling pair.handle
    → (flags.delta ≡ true → difference ≡ difference_of (last_of pairs) pair.handle)
    → row_put (form_of flags) interval (rows_of_pairs flags interval pairs) (record { key = pair.separator; value = value }) difference ≡ next_row flags interval pairs pair
put-row flags interval pairs pair value difference whole is =
    ap (λ (v : List ℕ). record { key = pair.separator; value = v })
    (put-value flags.user_key flags.delta (shared_by interval (rows_of_pairs flags interval pairs) pair.separator) (last_handle no_handle pairs) pair.handle value difference whole
    (λ d some. is d ∙ told flags interval pairs pair.separator pair.handle some))

-- the handle is given as the form has it
gives-next : (flags : IndexFlags) (interval : ℕ) (pairs : List IndexPair) (h : Handle) (value difference : List ℕ) → NextBehind (last_of pairs) h
    → difference ≡ difference_of (last_of pairs) h → 0 < length (spelled_of interval (rows_of_pairs flags interval pairs)) → IsDifference (last_handle no_handle pairs) difference h
gives-next flags interval [] h value difference next is some = absurd (omega (arith, some))
gives-next flags interval (p ∷ pairs) h value difference next is some = differs (last_handle p.handle pairs) h difference next is

gives : (user_key delta : Bool) (interval : ℕ) (pairs : List IndexPair) (pair : IndexPair) (value difference : List ℕ) → All (IsPair user_key) pairs → (delta ≡ true → AreBehind pairs)
    → IsPair user_key pair → value ≡ handle_spelling pair.handle → (delta ≡ true → NextBehind (last_of pairs) pair.handle)
    → (delta ≡ true → difference ≡ difference_of (last_of pairs) pair.handle)
    → GivesHandle (Index user_key delta) (spelled_of interval (index_rows delta interval 0 [] no_handle pairs)) value difference
gives user_key false interval pairs pair value difference are behind is whole next told_by = tt
gives user_key true interval pairs pair value difference are behind is whole next told_by =
    let flags : IndexFlags = record { user_key = user_key; delta = true } in
    let spelled = spelled_of interval (index_rows true interval 0 [] no_handle pairs) in (
      last_handle no_handle pairs,
      pair.handle,
      says-leads user_key true no_handle spelled pairs (all-say user_key true interval pairs are behind),
      is.offset,
      is.size,
      whole,
      gives-next flags interval pairs pair.handle value difference (next refl) (told_by refl),
    )

-- the block builder takes the row of a pair that may come
pub takes_row : (t : TopBuilder) (pair : IndexPair) → (r : TakesPair t pair) → (value difference : List ℕ) → value ≡ handle_spelling pair.handle
    → (t.delta ≡ true → difference ≡ difference_of t.before pair.handle) → CanAdd t.block (record { key = pair.separator; value = value }) difference
takes_row t pair r value difference whole told_by =
    let flags = r.flags in
    let rows = rows_of_pairs flags r.interval r.pairs in
    let by = λ (d : flags.delta ≡ true). told_by (r.holds.delta_is ∙ d) ∙ ap (λ (b : Option Handle). difference_of b pair.handle) r.holds.before_is in
    let more = rows-more flags r.interval r.pairs pair in
    let put = sym (put-row flags r.interval r.pairs pair value difference whole by) in
    inr (record {
      form = form_of flags;
      interval = r.interval;
      rows = rows;
      holds = r.holds.block;
      has_form = subst (λ (row : Row). IsRow (form_of flags) row) put (is_row flags.user_key flags.delta _ _ pair r.form);
      given = gives flags.user_key flags.delta r.interval r.pairs pair value difference r.holds.pairs_are r.holds.behind r.form whole
          (λ d. behind-last r.pairs pair (r.behind d)) by;
      ordered = subst (λ (row : Row). AreOrdered (form_of flags) (rows ++ row ∷ [])) put (subst (λ (l : List Row). AreOrdered (form_of flags) l) more r.ordered);
      short = subst (λ (row : Row). length (block_of (form_of flags) r.interval (rows ++ row ∷ [])) < block_limit) put
          (subst (λ (l : List Row). length (block_of (form_of flags) r.interval l) < block_limit) more r.short);
    })

-- the difference of the sizes is within 64 bits
signed-if : (before : Option Handle) (h : Handle) → NextBehind before h → IfSome before (λ b. IsSigned64 (pos h.size -ℤ pos b.size))
signed-if None h next = tt
signed-if (Some before) h next = next.signed

pub takes_signed : (t : TopBuilder) (pair : IndexPair) → (r : TakesPair t pair) → t.delta ≡ true → IfSome t.before (λ b. IsSigned64 (pos pair.handle.size -ℤ pos b.size))
takes_signed t pair r d =
    signed-if t.before pair.handle (subst (λ (b : Option Handle). NextBehind b pair.handle) (sym r.holds.before_is) (behind-last r.pairs pair (r.behind (sym r.holds.delta_is ∙ d))))

-- a builder has one form
same_form : (t : TopBuilder) (f g : IndexFlags) (i j : ℕ) (ps qs : List IndexPair) → HoldsPairs t f i ps → HoldsPairs t g j qs → f.user_key ≡ g.user_key
same_form t f g i j ps qs a b =
    let same : Index f.user_key f.delta ≡ Index g.user_key g.delta = sym a.block.form_is ∙ b.block.form_is in
    cc

last_more : (before : Handle) (pairs : List IndexPair) (pair : IndexPair) → last_handle before (pairs ++ pair ∷ []) ≡ pair.handle
last_more before [] pair = refl
last_more before (p ∷ pairs) pair = last_more p.handle pairs pair

last_of-more : (pairs : List IndexPair) (pair : IndexPair) → last_of (pairs ++ pair ∷ []) ≡ Some pair.handle
last_of-more [] pair = refl
last_of-more (p ∷ pairs) pair = ap Some (last_more p.handle pairs pair)

-- with its row it holds the pair
pub holds_more : (t new : TopBuilder) (pair : IndexPair) → (r : TakesPair t pair) → (flags : IndexFlags) (interval : ℕ) (pairs : List IndexPair) → HoldsPairs t flags interval pairs
    → new.failed ≡ t.failed → new.delta ≡ t.delta → new.before ≡ Some pair.handle
    → (value difference : List ℕ) → value ≡ handle_spelling pair.handle → (t.delta ≡ true → difference ≡ difference_of t.before pair.handle)
    → Holds new.block (form_of flags) interval (rows_of_pairs flags interval pairs ++ row_put (form_of flags) interval (rows_of_pairs flags interval pairs) (record { key = pair.separator; value = value }) difference ∷ [])
    → HoldsPairs new flags interval (pairs ++ pair ∷ [])
holds_more t new pair r flags interval pairs holds failed delta before value difference whole told_by added =
    let rows = rows_of_pairs flags interval pairs in
    let by = λ (d : flags.delta ≡ true). told_by (holds.delta_is ∙ d) ∙ ap (λ (b : Option Handle). difference_of b pair.handle) holds.before_is in
    let is = subst (λ (u : Bool). IsPair u pair) (same_form t r.flags flags r.interval interval r.pairs pairs r.holds holds) r.form in
    let same : last_of r.pairs ≡ last_of pairs = sym r.holds.before_is ∙ holds.before_is in
    let next = λ (d : flags.delta ≡ true). subst (λ (b : Option Handle). NextBehind b pair.handle) same
    (behind-last r.pairs pair (r.behind (sym r.holds.delta_is ∙ holds.delta_is ∙ d))) in
    record {
      sound = failed ∙ holds.sound;
      delta_is = delta ∙ holds.delta_is;
      before_is = before ∙ sym (last_of-more pairs pair);
      pairs_are = All-push (IsPair flags.user_key) pairs pair holds.pairs_are is;
      behind = λ d. behind-push pairs pair (holds.behind d) (next d);
      block = subst (λ (l : List Row). Holds new.block (form_of flags) interval l) (sym (rows-more flags interval pairs pair))
          (subst (λ (row : Row). Holds new.block (form_of flags) interval (rows ++ row ∷ [])) (put-row flags interval pairs pair value difference whole by) added);
    }
