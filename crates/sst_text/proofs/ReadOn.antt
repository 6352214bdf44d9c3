-- What reading on to the end of a line keeps, and what a piece adds.
use Rattle.std.proofs.Common.{◌≡◌, ℕ, suc, ◌+◌, ◌<◌, List, [], ◌∷◌, ◌++◌, length, take, drop, Option, Some, None, refl, sym, ap, ◌∙◌, append_assoc, arith}
use Rattle.std.specs.Io.KnownBytes.{prepend_known}
use Rattle.std.proofs.lemmas.List.{append-nil, drop-drop}
use Rattle.sst_text.specs.Texts.{cut}
use Rattle.sst_text.specs.Lines.{BeginsLong}
use Rattle.sst_text.proofs.Cut.{cut-append_none}
use Rattle.sst_text.proofs.Refill.{take-past}

-- no line end was read so far, and what was to come is what was read and what is left
pub record ReadOn (start now : Option (List ℕ)) (old bytes : List ℕ) (before faults : ℕ) : Type 0 where
  pub none : cut 10 bytes ≡ None
  pub told : prepend_known old start ≡ prepend_known bytes now
  pub counts : faults ≡ before

-- two pieces that are known in turn
pub prepend_known-append : (front piece : List ℕ) (known : Option (List ℕ)) → prepend_known front (prepend_known piece known) ≡ prepend_known (front ++ piece) known
prepend_known-append front piece None = refl
prepend_known-append front piece (Some rest) = ap Some (sym (append_assoc front piece rest))

-- after a piece, the same is to come
pub told_on : (start now next : Option (List ℕ)) (old bytes piece all : List ℕ)
    → prepend_known old start ≡ prepend_known bytes now → now ≡ prepend_known piece next → all ≡ bytes ++ piece
    → prepend_known old start ≡ prepend_known all next
told_on start now next old bytes piece all told more is =
    told ∙ ap (prepend_known bytes) more ∙ prepend_known-append bytes piece next ∙ ap (λ (b : List ℕ). prepend_known b next) (sym is)

-- no line end in what was read and none in the piece
pub none_on : (bytes piece all : List ℕ) → cut 10 bytes ≡ None → cut 10 piece ≡ None → all ≡ bytes ++ piece → cut 10 all ≡ None
none_on bytes piece all none more is = rw (is, cut-append_none 10 bytes piece none, more) refl

pub drop-past : (front rest : List ℕ) (n : ℕ) → drop (length front + n) (front ++ rest) ≡ drop n rest
drop-past [] rest n = let none : 0 + n ≡ n = omega arith in rw none refl
drop-past (x ∷ front) rest n =
    let next : suc (length front) + n ≡ suc (length front + n) = omega arith in
    rw next (drop-past front rest n)

-- a line end in the piece is the first in all that was read
pub found_on : (bytes piece all : List ℕ) (k at : ℕ) → k ≡ length bytes → cut 10 bytes ≡ None
    → cut 10 piece ≡ Some (take at piece, drop 1 (drop at piece)) → all ≡ bytes ++ piece
    → cut 10 all ≡ Some (take (k + at) all, drop 1 (drop (k + at) all))
found_on bytes piece all k at len none found is =
    rw (is, len, cut-append_none 10 bytes piece none, found, take-past bytes piece at, drop-past bytes piece at) refl

-- more bytes than a line may have, and no line end
pub long_on : (bytes : List ℕ) → cut 10 bytes ≡ None → 40000000 < length bytes → BeginsLong bytes
long_on bytes none long = record { front = bytes; rest = []; parts = sym (append-nil bytes); long = long; none = none }

pub drop-front : (front rest : List ℕ) → drop (length front) (front ++ rest) ≡ rest
drop-front [] rest = refl
drop-front (x ∷ front) rest = drop-front front rest

-- the part that wasn't searched is the piece
pub piece_is : (bytes piece all part : List ℕ) (k : ℕ) → k ≡ length bytes → all ≡ bytes ++ piece → part ≡ drop k all → part ≡ piece
piece_is bytes piece all part k len is cut_off = cut_off ∙ ap (λ n. drop n all) len ∙ ap (drop (length bytes)) is ∙ drop-front bytes piece

-- what is left after a line and its line end
pub passed : (bytes unread : List ℕ) (start n : ℕ) → drop start bytes ≡ unread → drop (start + n + 1) bytes ≡ drop 1 (drop n unread)
passed bytes unread start n is =
    sym (ap (λ (x : List ℕ). drop 1 (drop n x)) (sym is) ∙ ap (drop 1) (drop-drop n start bytes) ∙ drop-drop 1 (start + n) bytes)
