-- The rows of an index block as they are kept: what they say, with each separator as a stored key.
use Rattle.std.proofs.Common.{◌≡◌, ℕ, zero, suc, ◌+◌, ◌<◌, ◌≤◌, Bool, true, false, List, [], ◌∷◌, ◌++◌, length, length-append, map, take, All, Some, slice_get, sym, ap, ◌∙◌, subst, arith}
use Rattle.std.proofs.lemmas.Bool.{lt-ltb}
use Rattle.std.proofs.lemmas.List.{map-append, length-map, take_all}
use Rattle.std.proofs.lemmas.List.Elements.{All-nil, All-cons, All-head, All-tail}
use Rattle.std.specs.declared.cmp.Ordering.TheVariants.{Less}
use Rattle.std.specs.Cmp.Lexicographic.{slice_cmp}
use Rattle.std.specs.Ordering.{nat_cmp}
use Rattle.sst_num.specs.declared.block_handle.Handle.{Handle}
use Rattle.sst_num.specs.Spelling.{fixed}
use Rattle.sst_num.proofs.Fixed.{length-fixed}
use Rattle.sst_key.specs.InternalKey.{internal_cmp}
use Rattle.sst_block.specs.declared.iter.BlockIter.{BlockIter}
use Rattle.sst_block.specs.declared.row_form.RowForm.{RowForm}
use Rattle.sst_block.specs.declared.row_form.RowForm.TheVariants.{Index}
use Rattle.sst_block.specs.Block.{Row, Spelled, Block, IsRow, AreOrdered, key_cmp, no_handle}
use Rattle.sst_block.specs.IndexRows.{IndexPair, SayPairs, IndexRows}
use Rattle.sst_block.specs.Iter.{Walks, WalksIn, place_of}
use Rattle.sst_block.proofs.OneReading.{one-list, some-pairs}
use Rattle.sst_block.proofs.RowsCopied.{KeyAt}
use Rattle.sst_bbt_spec.specs.Parts.{separator_of}
use Rattle.sst_bbt_spec.proofs.UserKeys.{cmp-alone}
use Rattle.sst_bbt_read.specs.KeptLeads.{lead_of, leads_of, lead_rows, AreLeads}
use Rattle.sst_bbt_read.specs.declared.kept_table.index_leads.IndexLead.{IndexLead}
use Rattle.sst_bbt_read.proofs.ListFront.{first_more}

-- ---- the walk

-- a walk over an index block stands at the n-th row, and the rows before it are kept
pub record LeadsCopied (user_key delta : Bool) (block : List ℕ) (walk : BlockIter) (n : ℕ) (leads : List IndexLead) : Type 0 where
  pub walks : (pairs : List IndexPair) (is : IndexRows user_key delta block pairs) → WalksIn walk (Index user_key delta) block is.rows is.block (place_of is.rows n)
  pub copied : (pairs : List IndexPair) → IndexRows user_key delta block pairs → leads ≡ leads_of user_key (take n pairs)

-- a block of so many rows says as many pairs
pub counted : (user_key delta : Bool) (block : List ℕ) (count : ℕ) (rows : List Row) (pairs : List IndexPair) → Block (Index user_key delta) block rows
    → length rows ≡ count → (is : IndexRows user_key delta block pairs) → length is.rows ≡ count
counted user_key delta block count rows pairs b many is =
    ap length (one-list (Index user_key delta) block is.rows rows is.block b) ∙ many

-- it stands where it moved to
pub stands_in : (walk : BlockIter) (form : RowForm) (block : List ℕ) (rows : List Row) (b : Block form block rows) (n : ℕ) → n < length rows
    → WalksIn walk form block rows b (place_of rows n) → WalksIn walk form block rows b (Some n)
stands_in walk form block rows b n within w = let here = lt-ltb n (length rows) within in rw here at w

pub walks_rows : (walk : BlockIter) (form : RowForm) (block : List ℕ) (rows : List Row) (b : Block form block rows) (n : ℕ)
    → WalksIn walk form block rows b (Some n) → Walks walk rows (Some n)
walks_rows walk form block rows b n w = record { form = form; bytes = block; block = b; walks = w }

-- so it stands at each row before the last
pub here : (user_key delta : Bool) (block : List ℕ) (count : ℕ) (walk : BlockIter) (n : ℕ) (leads : List IndexLead) (rows : List Row)
    → LeadsCopied user_key delta block walk n leads → Block (Index user_key delta) block rows → length rows ≡ count → n < count
    → (pairs : List IndexPair) (is : IndexRows user_key delta block pairs) → WalksIn walk (Index user_key delta) block is.rows is.block (Some n)
here user_key delta block count walk n leads rows so b many more pairs is =
    stands_in walk (Index user_key delta) block is.rows is.block n (omega (arith, more, counted user_key delta block count rows pairs b many is)) (so.walks pairs is)

pub at_row : (user_key delta : Bool) (block : List ℕ) (count : ℕ) (walk : BlockIter) (n : ℕ) (leads : List IndexLead) (rows : List Row)
    → LeadsCopied user_key delta block walk n leads → Block (Index user_key delta) block rows → length rows ≡ count → n < count
    → (rows : List Row) × (i : ℕ) × Walks walk rows (Some i)
at_row user_key delta block count walk n leads rows so b many more =
    let said = some-pairs user_key delta block rows b in
    let w = here user_key delta block count walk n leads rows so b many more said.0 said.1 in
    (said.1.rows, n, walks_rows walk (Index user_key delta) block said.1.rows said.1.block n w)

-- rows say as many pairs
said_length : (delta : Bool) (before : Handle) (spelled : List Spelled) (pairs : List IndexPair) → SayPairs delta before spelled pairs → length spelled ≡ length pairs
said_length delta before [] pairs says = ap length (sym says)
said_length delta before (s ∷ rest) [] says = absurd says
said_length delta before (s ∷ rest) (pair ∷ pairs) says = ap suc (said_length delta pair.handle rest pairs says.2)

-- all rows are kept
pub leads_all : (user_key delta : Bool) (block : List ℕ) (count : ℕ) (n : ℕ) (leads : List IndexLead) (rows : List Row) (pairs : List IndexPair)
    → Block (Index user_key delta) block rows → length rows ≡ count → count ≤ n → IndexRows user_key delta block pairs → leads ≡ leads_of user_key (take n pairs)
    → leads ≡ leads_of user_key pairs
leads_all user_key delta block count n leads rows pairs b many all is front =
    let rows_are = counted user_key delta block count rows pairs b many is in
    let spelled_are : length is.block.spelled ≡ length is.rows = sym (length-map is.block.spelled (λ (s : Spelled). s.row)) ∙ ap length is.block.are_rows in
    let said = said_length delta no_handle is.block.spelled pairs is.says in
    front ∙ ap (leads_of user_key) (take_all n pairs (omega (arith, rows_are, spelled_are, said, all)))

-- a row's key is the separator of its pair
pair_key : (delta : Bool) (before : Handle) (spelled : List Spelled) (pairs : List IndexPair) (i : ℕ) (row : Row) (pair : IndexPair) → SayPairs delta before spelled pairs
    → slice_get (map (λ (s : Spelled). s.row) spelled) i ≡ Some row → slice_get pairs i ≡ Some pair → row.key ≡ pair.separator
pair_key delta before [] pairs i row pair says at there = cc
pair_key delta before (s ∷ rest) [] i row pair says at there = absurd says
pair_key delta before (s ∷ rest) (p ∷ pairs) zero row pair says at there =
    let left : s.row ≡ row = cc in
    let right : p ≡ pair = cc in
    sym (ap (λ (r : Row). r.key) left) ∙ says.0 ∙ ap (λ (q : IndexPair). q.separator) right
pair_key delta before (s ∷ rest) (p ∷ pairs) (suc i) row pair says at there = pair_key delta p.handle rest pairs i row pair says.2 at there

lead_made : (user_key : Bool) (key : List ℕ) (h : Handle) (pair : IndexPair) → key ≡ pair.separator → h ≡ pair.handle
    → record { separator = separator_of user_key key; handle = h } ≡ lead_of user_key pair
lead_made user_key key h pair k is =
    ap (λ (l : List ℕ). record { separator = separator_of user_key l; handle = h }) k
    ∙ ap (λ (g : Handle). record { separator = separator_of user_key pair.separator; handle = g }) is

-- one row more
pub leads_more : (user_key delta : Bool) (block : List ℕ) (pairs : List IndexPair) (n : ℕ) (leads now : List IndexLead) (key separator : List ℕ) (h : Handle)
    → (is : IndexRows user_key delta block pairs) → KeyAt is.rows n key → (pair : IndexPair) × (slice_get pairs n ≡ Some pair) × (h ≡ pair.handle)
    → separator ≡ separator_of user_key key → now ≡ leads ++ record { separator = separator; handle = h } ∷ [] → leads ≡ leads_of user_key (take n pairs)
    → now ≡ leads_of user_key (take (n + 1) pairs)
leads_more user_key delta block pairs n leads now key separator h is (row, at, k) (pair, there, same) stored grown front =
    let spelled : slice_get (map (λ (s : Spelled). s.row) is.block.spelled) n ≡ Some row = ap (λ (rows : List Row). slice_get rows n) is.block.are_rows ∙ at in
    let name = k ∙ pair_key delta no_handle is.block.spelled pairs n row pair is.says spelled there in
    grown ∙ ap (λ (l : List IndexLead). l ++ record { separator = separator; handle = h } ∷ []) front
    ∙ ap (λ (l : List ℕ). leads_of user_key (take n pairs) ++ record { separator = l; handle = h } ∷ []) stored
    ∙ ap (λ (l : IndexLead). leads_of user_key (take n pairs) ++ l ∷ []) (lead_made user_key key h pair name same)
    ∙ sym (map-append (lead_of user_key) (take n pairs) (pair ∷ []))
    ∙ ap (leads_of user_key) (first_more pairs n pair there)

-- ---- what is kept

long_one : (user_key delta : Bool) (row : Row) (key : List ℕ) → row.key ≡ key → IsRow (Index user_key delta) row → 8 ≤ length (separator_of user_key key)
long_one true delta row key same is = omega (arith, length-append key (fixed 8 0), length-fixed 8 0)
long_one false true row key same is = subst (λ (l : List ℕ). 8 ≤ length l) same is.1
long_one false false row key same is = subst (λ (l : List ℕ). 8 ≤ length l) same is.1.0

leads_long : (user_key delta : Bool) (before : Handle) (spelled : List Spelled) (pairs : List IndexPair) → SayPairs delta before spelled pairs
    → All (IsRow (Index user_key delta)) (map (λ (s : Spelled). s.row) spelled) → All (λ (lead : IndexLead). 8 ≤ length lead.separator) (leads_of user_key pairs)
leads_long user_key delta before [] pairs says forms =
    subst (λ (ps : List IndexPair). All (λ (lead : IndexLead). 8 ≤ length lead.separator) (leads_of user_key ps)) (sym says) (All-nil (λ (lead : IndexLead). 8 ≤ length lead.separator))
leads_long user_key delta before (s ∷ rest) [] says forms = absurd says
leads_long user_key delta before (s ∷ rest) (pair ∷ pairs) says forms =
    let rows = map (λ (t : Spelled). t.row) rest in
    All-cons (λ (lead : IndexLead). 8 ≤ length lead.separator) (lead_of user_key pair) (leads_of user_key pairs)
    (long_one user_key delta s.row pair.separator says.0 (All-head (IsRow (Index user_key delta)) s.row rows forms))
    (leads_long user_key delta pair.handle rest pairs says.2 (All-tail (IsRow (Index user_key delta)) s.row rows forms))

before_stored : (user_key delta : Bool) (a b x y : List ℕ) → a ≡ x → b ≡ y → key_cmp (Index user_key delta) a b ≡ Less
    → internal_cmp (separator_of user_key x) (separator_of user_key y) ≡ Less
before_stored true delta a b x y left right less = let at : slice_cmp nat_cmp x y ≡ Less = rw (sym left, sym right) less in cmp-alone x y ∙ at
before_stored false delta a b x y left right less = rw (sym left, sym right) less

leads_ordered : (user_key delta : Bool) (before : Handle) (spelled : List Spelled) (pairs : List IndexPair) → SayPairs delta before spelled pairs
    → AreOrdered (Index user_key delta) (map (λ (s : Spelled). s.row) spelled) → AreOrdered (Index false false) (lead_rows (leads_of user_key pairs))
leads_ordered user_key delta before [] pairs says ordered =
    subst (λ (ps : List IndexPair). AreOrdered (Index false false) (lead_rows (leads_of user_key ps))) (sym says) tt
leads_ordered user_key delta before (s ∷ rest) [] says ordered = absurd says
leads_ordered user_key delta before (s ∷ []) (pair ∷ pairs) says ordered =
    subst (λ (ps : List IndexPair). AreOrdered (Index false false) (lead_rows (leads_of user_key (pair ∷ ps)))) (sym says.2) tt
leads_ordered user_key delta before (s ∷ t ∷ rest) (pair ∷ []) says ordered = absurd says.2
leads_ordered user_key delta before (s ∷ t ∷ rest) (pair ∷ next ∷ pairs) says ordered = (
  before_stored user_key delta s.row.key t.row.key pair.separator next.separator says.0 says.2.0 ordered.0,
  leads_ordered user_key delta pair.handle (t ∷ rest) (next ∷ pairs) says.2 ordered.1,
)

-- the rows of an index block, as they are kept, have stored keys in order
pub are_leads : (user_key delta : Bool) (block : List ℕ) (pairs : List IndexPair) → IndexRows user_key delta block pairs → AreLeads (leads_of user_key pairs)
are_leads user_key delta block pairs is = record {
  long = leads_long user_key delta no_handle is.block.spelled pairs is.says
      (subst (λ (rows : List Row). All (IsRow (Index user_key delta)) rows) (sym is.block.are_rows) is.block.forms);
  ordered = leads_ordered user_key delta no_handle is.block.spelled pairs is.says
      (subst (λ (rows : List Row). AreOrdered (Index user_key delta) rows) (sym is.block.are_rows) is.block.ordered);
}

-- those of a block with these rows
pub kept_leads : (user_key delta : Bool) (block : List ℕ) (rows : List Row) (leads : List IndexLead) → Block (Index user_key delta) block rows
    → ((pairs : List IndexPair) → IndexRows user_key delta block pairs → leads ≡ leads_of user_key pairs)
    → (pairs : List IndexPair) × IndexRows user_key delta block pairs × (leads ≡ leads_of user_key pairs) × AreLeads leads
kept_leads user_key delta block rows leads b all =
    let said = some-pairs user_key delta block rows b in
    let same = all said.0 said.1 in
    (said.0, said.1, same, subst AreLeads (sym same) (are_leads user_key delta block said.0 said.1))
