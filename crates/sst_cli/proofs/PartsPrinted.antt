-- How a text is printed piece by piece.
use Rattle.std.proofs.Common.{◌≡◌, ℕ, List, [], ◌++◌, length, take, drop, Option, Result, Ok, Err, OnOk, OnErr, refl, sym, ap, ◌∙◌, append_assoc}
use Rattle.std.proofs.lemmas.List.{append-nil, take-append-drop}
use Rattle.std.specs.Io.KnownBytes.{append_known}
use Rattle.sst_key.proofs.KeyParts.{take-front}
use Rattle.sst_cli.specs.PartPrinted.{PartPrinted}
use Rattle.sst_cli.proofs.AnswersPrinted.{append_known-append}
use Rattle.sst_cli.proofs.Carried.{append_known-nil}

-- nothing is printed yet
pub part-begun : (whole rest : List ℕ) (before : Option (List ℕ)) → whole ≡ rest → PartPrinted whole before before [] rest
part-begun whole rest before is = record { put = []; printed = append_known-nil before; parts = is }

-- more of the rest waits
pub part-waits : (whole : List ℕ) (before now : Option (List ℕ)) (waiting rest more left : List ℕ) → waiting ++ rest ≡ more ++ left
    → PartPrinted whole before now waiting rest → PartPrinted whole before now more left
part-waits whole before now waiting rest more left same so_far = record {
  put = so_far.put;
  printed = so_far.printed;
  parts = so_far.parts ∙ ap (λ (l : List ℕ). so_far.put ++ l) same;
}

-- what waited was put, or a part of it
pub part-puts : (whole : List ℕ) (before now later : Option (List ℕ)) (waiting rest piece left : List ℕ) → waiting ≡ piece ++ left → later ≡ append_known now piece
    → PartPrinted whole before now waiting rest → PartPrinted whole before later left rest
part-puts whole before now later waiting rest piece left split printed so_far = record {
  put = so_far.put ++ piece;
  printed = printed ∙ ap (λ (k : Option (List ℕ)). append_known k piece) so_far.printed ∙ append_known-append before so_far.put piece;
  parts = so_far.parts ∙ ap (λ (l : List ℕ). so_far.put ++ (l ++ rest)) split ∙ ap (λ (l : List ℕ). so_far.put ++ l) (append_assoc piece left rest)
      ∙ sym (append_assoc so_far.put piece (left ++ rest));
}

-- what was put so far is a prefix of the text
pub part-prefix : (whole : List ℕ) (before now : Option (List ℕ)) (waiting rest : List ℕ)
    → PartPrinted whole before now waiting rest → (n : ℕ) × (now ≡ append_known before (take n whole))
part-prefix whole before now waiting rest so_far =
    let front : take (length so_far.put) whole ≡ so_far.put =
    ap (λ (l : List ℕ). take (length so_far.put) l) so_far.parts ∙ take-front so_far.put (waiting ++ rest) in
    (length so_far.put, so_far.printed ∙ ap (append_known before) (sym front))

-- and a fault while it was put leaves a longer one
pub part-cut : (whole : List ℕ) (before now later : Option (List ℕ)) (waiting rest : List ℕ) (n : ℕ) → later ≡ append_known now (take n waiting)
    → PartPrinted whole before now waiting rest → (m : ℕ) × (later ≡ append_known before (take m whole))
part-cut whole before now later waiting rest n cut so_far =
    part-prefix whole before later (drop n waiting) rest
    (part-puts whole before now later waiting rest (take n waiting) (drop n waiting) (sym (take-append-drop n waiting)) cut so_far)

-- the whole text was printed
pub part-whole : (whole : List ℕ) (before now : Option (List ℕ)) → PartPrinted whole before now [] [] → now ≡ append_known before whole
part-whole whole before now so_far = so_far.printed ∙ ap (append_known before) (sym (so_far.parts ∙ append-nil so_far.put))

-- the last piece was put
pub part-ended : {T E : Type 0} (r : Result T E) (whole : List ℕ) (before now later : Option (List ℕ)) (waiting rest left : List ℕ) → rest ≡ []
    → OnOk r ((piece : List ℕ) × (waiting ≡ piece ++ left) × (later ≡ append_known now piece)) → OnOk r (◌≡◌ {A = ℕ} 0 0 → left ≡ [])
    → PartPrinted whole before now waiting rest → OnOk r (later ≡ append_known before whole)
part-ended (Ok x) whole before now later waiting rest left none put all so_far =
    let last = part-puts whole before now later waiting rest put.0 left put.1 put.2 so_far in
    let nothing : left ≡ [] = all refl in
    part-whole whole before later (rw (none, nothing) at last)
part-ended (Err e) whole before now later waiting rest left none put all so_far = tt

-- or a fault came while it was put
pub part-ended_cut : {T E : Type 0} (r : Result T E) (whole : List ℕ) (before now later : Option (List ℕ)) (waiting rest : List ℕ)
    → OnErr r ((n : ℕ) × (later ≡ append_known now (take n waiting)))
    → PartPrinted whole before now waiting rest → OnErr r ((n : ℕ) × (later ≡ append_known before (take n whole)))
part-ended_cut (Ok x) whole before now later waiting rest cut so_far = tt
part-ended_cut (Err e) whole before now later waiting rest cut so_far = part-cut whole before now later waiting rest cut.0 cut.1 so_far
