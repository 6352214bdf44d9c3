-- A seat of a reader is taken or given back: what the reader keeps stays, and so does each cursor with another seat.
use Rattle.std.proofs.Common.{◌≡◌, ◌≢◌, ℕ, ◌+◌, ◌<◌, Bool, true, false, not, cond, List, [], ◌∷◌, length, count_by, position, slice_get, slice_index_or, slice_set, Option, None, Some, refl, sym, ap, ◌∙◌, subst, arith}
use Rattle.std.specs.List.{position_from}
use Rattle.std.proofs.lemmas.Iterator.Adapters.{position_from-zero}
use Rattle.std.proofs.lemmas.List.{length-set, get_or-set_same, get_or-set_other}
use Rattle.std.proofs.lemmas.List.Sums.{count_by-le-length, sum_by-cons, sum_by-set}
use Rattle.std.proofs.lemmas.List.Quantifiers.{position-Some}
use Rattle.std.proofs.lemmas.Option.{slice_get_within, slice_get-get_or, get_or_from_slice_get}
use Rattle.sst_key.specs.declared.entries.Entry.{Entry}
use Rattle.sst_bbt_spec.specs.BlockBased.{BlockBased}
use Rattle.sst_bbt_spec.specs.Parts.{Part}
use Rattle.sst_bbt_read.specs.Kept.{Keeps, StandsOn}
use Rattle.sst_bbt_read.specs.Positions.{Of, Belongs, rest, On, At}
use Rattle.sst_bbt_read.specs.Seats.{OpenReader, seats_of, open_of}
use Rattle.sst_bbt_read.specs.declared.cursor.Cursor.{Cursor}

abbrev one : Bool → ℕ
one taken = cond taken 1 0

-- the reader with one seat so
abbrev pub reseated : OpenReader → ℕ → Bool → OpenReader
reseated r n taken = record { name = r.name; table = r.table; seats = slice_set r.seats n taken }

-- ---- counts

abbrev counted : List Bool → ℕ
counted seats = count_by (λ (taken : Bool). taken) seats

-- a seat is set
pub counted-set : (seats : List Bool) (n : ℕ) (old new : Bool) → slice_get seats n ≡ Some old
    → counted (slice_set seats n new) + one old ≡ counted seats + one new
counted-set seats n old new at =
    let is = get_or_from_slice_get seats n old old at in
    ap (λ (taken : Bool). counted (slice_set seats n new) + one taken) (sym is)
    ∙ sum_by-set one seats n new old (slice_get_within seats n old at)

-- where none is free, all are taken
none-from : (i : ℕ) (seats : List Bool) → position_from (λ (taken : Bool). not taken) i seats ≡ None → counted seats ≡ length seats
none-from i [] none = refl
none-from i (false ∷ rest) none = cc
none-from i (true ∷ rest) none =
    let one_more = sum_by-cons one true rest in
    let more = none-from (i + 1) rest none in
    omega (arith, one_more, more)

pub none-free : (seats : List Bool) → position (λ (taken : Bool). not taken) seats ≡ None → counted seats ≡ length seats
none-free seats none = none-from 0 seats (sym (position_from-zero (λ (taken : Bool). not taken) seats) ∙ none)

-- the first that is free
falsely : (taken : Bool) → not taken ≡ true → taken ≡ false
falsely true is = cc
falsely false is = refl

pub first-free : (seats : List Bool) (n : ℕ) → position (λ (taken : Bool). not taken) seats ≡ Some n → slice_get seats n ≡ Some false
first-free seats n at =
    let found = position-Some (λ (taken : Bool). not taken) seats n true at in
    slice_get-get_or seats n true found.0 ∙ ap Some (falsely (slice_index_or seats n true) found.1)

-- where one is free, not all are taken
pub one-free : (seats : List Bool) (n : ℕ) → slice_get seats n ≡ Some false → counted seats < length seats
one-free seats n at =
    let more = counted-set seats n false true at in
    let most = count_by-le-length (λ (taken : Bool). taken) (slice_set seats n true) in
    let long = length-set seats n true in
    omega (arith, more, most, long)

-- ---- cursors

-- the seat itself
pub seat-set : (seats : List Bool) (n : ℕ) (old new : Bool) → slice_get seats n ≡ Some old → slice_get (slice_set seats n new) n ≡ Some new
seat-set seats n old new at =
    let within = slice_get_within seats n old at in
    let long = length-set seats n new in
    slice_get-get_or (slice_set seats n new) n old (omega (arith, within, long)) ∙ ap Some (get_or-set_same seats n new old within)

-- another seat
pub seat-other : (seats : List Bool) (n m : ℕ) (new is : Bool) → n ≢ m → slice_get seats m ≡ Some is → slice_get (slice_set seats n new) m ≡ Some is
seat-other seats n m new is two at =
    let within = slice_get_within seats m is at in
    let long = length-set seats n new in
    slice_get-get_or (slice_set seats n new) m is (omega (arith, within, long))
    ∙ ap Some (get_or-set_other seats n m new is (λ same. two (sym same)) ∙ get_or_from_slice_get seats m is is at)

-- a cursor with another seat belongs to the reader as before
pub still-belongs : (r now : OpenReader) (n : ℕ) (taken : Bool) (d : Cursor) → r ≡ now → n ≢ d.number → Belongs now d → Belongs (reseated r n taken) d
still-belongs r now n taken d same two belongs =
    let own = subst (λ (x : OpenReader). Belongs x d) (sym same) belongs in
    record { seated = seat-other r.seats n d.number taken true two own.seated; place = own.place }

-- and stands where it stood
pub still-on : (r now : OpenReader) (n : ℕ) (taken : Bool) (d : Cursor) (file : List ℕ) (place : Option ℕ) → r ≡ now → n ≢ d.number → On now d file place
    → On (reseated r n taken) d file place
still-on r now n taken d file place same two on =
    let own = subst (λ (x : OpenReader). On x d file place) (sym same) on in
    record { of = own.of; belongs = still-belongs r now n taken d same two on.belongs; stands = own.stands }

pub still-at : (r now : OpenReader) (n : ℕ) (taken : Bool) (d : Cursor) (file : List ℕ) (entries : List Entry) (place : Option ℕ) → r ≡ now → n ≢ d.number
    → At now d file entries place → At (reseated r n taken) d file entries place
still-at r now n taken d file entries place same two at =
    record { stands_for = at.stands_for; on = still-on r now n taken d file place same two at.on }

pub still-kept : (r now : OpenReader) (n : ℕ) (taken : Bool) (d : Cursor) (parts : List Part) (place : Option ℕ) → r ≡ now → n ≢ d.number
    → StandsOn now d parts place → StandsOn (reseated r n taken) d parts place
still-kept r now n taken d parts place same two stands =
    let own = subst (λ (x : OpenReader). StandsOn x d parts place) (sym same) stands in
    record { keeps = own.keeps; belongs = still-belongs r now n taken d same two stands.belongs; stands = own.stands }

-- the reader is of the same file
pub still-of : (r now : OpenReader) (n : ℕ) (taken : Bool) (file : List ℕ) → r ≡ now → Of now file → Of (reseated r n taken) file
still-of r now n taken file same of = subst (λ (x : OpenReader). Of x file) (sym same) of

pub still-rest : (r now : OpenReader) (n : ℕ) (taken : Bool) (d : Cursor) → r ≡ now → rest (reseated r n taken) d ≡ rest now d
still-rest r now n taken d same = ap (λ (x : OpenReader). rest x d) same

-- a cursor of the reader has another seat than the one that was free
pub not-seated : (r now : OpenReader) (n : ℕ) (d : Cursor) → r ≡ now → slice_get r.seats n ≡ Some false → Belongs now d → n ≢ d.number
not-seated r now n d same free belongs = λ one.
    let own = subst (λ (x : OpenReader). Belongs x d) (sym same) belongs in
    let both : Some false ≡ Some true = sym free ∙ ap (λ (k : ℕ). slice_get r.seats k) one ∙ own.seated in
    cc

-- ---- numbers of seats

-- a cursor gave its seat back
pub closed-seats : (r now : OpenReader) (c : Cursor) → r ≡ now → Belongs now c
    → (open_of now ≡ open_of (reseated r c.number false) + 1) × (seats_of (reseated r c.number false) ≡ seats_of now)
closed-seats r now c same belongs =
    let own = subst (λ (x : OpenReader). Belongs x c) (sym same) belongs in
    let less = counted-set r.seats c.number true false own.seated in
    let count : open_of r ≡ open_of now = ap open_of same in
    (omega (arith, less, count), length-set r.seats c.number false ∙ ap seats_of same)

-- a cursor took a free seat
pub opened-seats : (r now : OpenReader) (n : ℕ) → r ≡ now → slice_get r.seats n ≡ Some false
    → (open_of (reseated r n true) ≡ open_of now + 1) × (seats_of (reseated r n true) ≡ seats_of now)
opened-seats r now n same free =
    let more = counted-set r.seats n false true free in
    let count : open_of r ≡ open_of now = ap open_of same in
    (omega (arith, more, count), length-set r.seats n true ∙ ap seats_of same)

-- all seats are taken exactly where none is free
pub full-none : (r now : OpenReader) → r ≡ now → position (λ (taken : Bool). not taken) r.seats ≡ None → open_of now ≡ seats_of now
full-none r now same none = sym (ap open_of same) ∙ none-free r.seats none ∙ ap seats_of same

pub full-not : (r now : OpenReader) (n : ℕ) → r ≡ now → position (λ (taken : Bool). not taken) r.seats ≡ Some n → open_of now ≡ seats_of now → ⊥
full-not r now n same some full =
    let less = one-free r.seats n (first-free r.seats n some) in
    let all : open_of r ≡ seats_of r = ap open_of same ∙ full ∙ sym (ap seats_of same) in
    absurd (omega (arith, less, all))

-- ---- a new cursor

abbrev pub cursor-at : ℕ → Cursor
cursor-at n = record { number = n; place = None }

pub new-belongs : (r : OpenReader) (n : ℕ) → slice_get r.seats n ≡ Some false → Belongs (reseated r n true) (cursor-at n)
new-belongs r n free = record { seated = seat-set r.seats n false true free; place = tt }

pub new-on : (r now : OpenReader) (n : ℕ) (file : List ℕ) → r ≡ now → slice_get r.seats n ≡ Some false → Of now file → On (reseated r n true) (cursor-at n) file None
new-on r now n file same free of = record { of = still-of r now n true file same of; belongs = new-belongs r n free; stands = refl }

pub new-at : (r now : OpenReader) (n : ℕ) (file : List ℕ) (entries : List Entry) → r ≡ now → slice_get r.seats n ≡ Some false → Of now file → BlockBased file entries
    → At (reseated r n true) (cursor-at n) file entries None
new-at r now n file entries same free of stands = record { stands_for = stands; on = new-on r now n file same free of }

pub new-kept : (r now : OpenReader) (n : ℕ) (parts : List Part) → r ≡ now → slice_get r.seats n ≡ Some false → Keeps now parts
    → StandsOn (reseated r n true) (cursor-at n) parts None
new-kept r now n parts same free keeps =
    let own = subst (λ (x : OpenReader). Keeps x parts) (sym same) keeps in
    record { keeps = own; belongs = new-belongs r n free; stands = refl }
