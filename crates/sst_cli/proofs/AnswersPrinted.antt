-- How the answers to a list of calls are printed, line by line and piece by piece.
use Rattle.std.proofs.Common.{◌≡◌, ℕ, suc, ◌+◌, ◌<◌, ◌≤◌, List, [], ◌∷◌, ◌++◌, length, take, drop, slice_index_or, Option, None, Some, Result, Ok, Err, OnOk, OnErr, refl, sym, ap, ◌∙◌, append_assoc, arith}
use Rattle.std.proofs.Math.Seq.{drop-cons}
use Rattle.std.proofs.lemmas.List.{append-nil, take-append-drop, drop_all}
use Rattle.std.specs.Io.KnownBytes.{append_known}
use Rattle.sst_key.specs.declared.calls.Call.{Call}
use Rattle.sst_key.proofs.KeyParts.{take-front}
use Rattle.sst_cli.specs.Replies.{answer_line, way_from, way_text, Printing}
use Rattle.sst_bbt_spec.specs.Parts.{Part, stored_in}
use Rattle.sst_bbt_spec.specs.PartWay.{answer_in_parts}
use Rattle.sst_cli.proofs.Carried.{append_known-nil}

pub append_known-append : (known : Option (List ℕ)) (a b : List ℕ) → append_known (append_known known a) b ≡ append_known known (a ++ b)
append_known-append None a b = refl
append_known-append (Some bytes) a b = ap Some (append_assoc bytes a b)

from-cons : (parts : List Part) (position : Option ℕ) (call : Call) (rest : List Call)
    → way_from parts position (call ∷ rest)
    ≡ answer_line (stored_in parts) call (answer_in_parts None parts position call) ++ way_from parts (answer_in_parts None parts position call).position rest
unfolding way_from
from-cons parts position call rest = refl

from-nil : (parts : List Part) (position : Option ℕ) → way_from parts position [] ≡ []
unfolding way_from
from-nil parts position = refl

-- nothing is printed yet
pub begun : (parts : List Part) (calls : List Call) (before : Option (List ℕ)) → Printing parts calls before before [] None calls
begun parts calls before = record { put = []; printed = append_known-nil before; whole = refl }

-- the next line waits
pub waits : (parts : List Part) (calls : List Call) (before now : Option (List ℕ)) (text more : List ℕ) (position next : Option ℕ) (call : Call) (rest left : List Call)
    → rest ≡ call ∷ left → more ≡ text ++ answer_line (stored_in parts) call (answer_in_parts None parts position call)
    → next ≡ (answer_in_parts None parts position call).position
    → Printing parts calls before now text position rest → Printing parts calls before now more next left
waits parts calls before now text more position next call rest left split line moved so_far =
    let one = answer_line (stored_in parts) call (answer_in_parts None parts position call) in
    let others = way_from parts next left in
    let parts : way_from parts position rest ≡ one ++ others =
    ap (λ (r : List Call). way_from parts position r) split ∙ from-cons parts position call left ∙ ap (λ (p : Option ℕ). one ++ way_from parts p left) (sym moved) in
    record {
      put = so_far.put;
      printed = so_far.printed;
      whole = so_far.whole ∙ ap (λ (l : List ℕ). so_far.put ++ (text ++ l)) parts
          ∙ ap (λ (l : List ℕ). so_far.put ++ l) (sym (append_assoc text one others)) ∙ ap (λ (l : List ℕ). so_far.put ++ (l ++ others)) (sym line);
    }

-- what waited was put, or a part of it
pub puts : (parts : List Part) (calls : List Call) (before now later : Option (List ℕ)) (text piece waiting : List ℕ) (position : Option ℕ) (rest : List Call)
    → text ≡ piece ++ waiting → later ≡ append_known now piece
    → Printing parts calls before now text position rest → Printing parts calls before later waiting position rest
puts parts calls before now later text piece waiting position rest split printed so_far =
    let others = way_from parts position rest in
    record {
      put = so_far.put ++ piece;
      printed = printed ∙ ap (λ (k : Option (List ℕ)). append_known k piece) so_far.printed ∙ append_known-append before so_far.put piece;
      whole = so_far.whole ∙ ap (λ (l : List ℕ). so_far.put ++ (l ++ others)) split ∙ ap (λ (l : List ℕ). so_far.put ++ l) (append_assoc piece waiting others)
          ∙ sym (append_assoc so_far.put piece (waiting ++ others));
    }

-- what was put so far is a prefix of the text
pub is_prefix : (parts : List Part) (calls : List Call) (before now : Option (List ℕ)) (text : List ℕ) (position : Option ℕ) (rest : List Call)
    → Printing parts calls before now text position rest → (n : ℕ) × (now ≡ append_known before (take n (way_text parts calls)))
is_prefix parts calls before now text position rest so_far =
    let others = text ++ way_from parts position rest in
    let front : take (length so_far.put) (way_text parts calls) ≡ so_far.put =
    ap (λ (l : List ℕ). take (length so_far.put) l) so_far.whole ∙ take-front so_far.put others in
    (length so_far.put, so_far.printed ∙ ap (λ (l : List ℕ). append_known before l) (sym front))

-- and a fault while it was put leaves a longer one
pub is_prefix_cut : (parts : List Part) (calls : List Call) (before now later : Option (List ℕ)) (text : List ℕ) (position : Option ℕ) (rest : List Call) (n : ℕ)
    → later ≡ append_known now (take n text) → Printing parts calls before now text position rest
    → (m : ℕ) × (later ≡ append_known before (take m (way_text parts calls)))
is_prefix_cut parts calls before now later text position rest n printed so_far =
    is_prefix parts calls before later (drop n text) position rest
    (puts parts calls before now later text (take n text) (drop n text) position rest (sym (take-append-drop n text)) printed so_far)

-- after the last call all is printed once nothing waits
pub is_whole : (parts : List Part) (calls : List Call) (before now : Option (List ℕ)) (position : Option ℕ)
    → Printing parts calls before now [] position [] → now ≡ append_known before (way_text parts calls)
is_whole parts calls before now position so_far =
    so_far.printed ∙ ap (λ (l : List ℕ). append_known before l)
    (sym (so_far.whole ∙ ap (λ (l : List ℕ). so_far.put ++ ([] ++ l)) (from-nil parts position) ∙ append-nil so_far.put))

-- the line of the call at a place waits
pub next_call : (parts : List Part) (calls : List Call) (before now : Option (List ℕ)) (text more : List ℕ) (position next : Option ℕ) (at : ℕ) (call : Call)
    → at < length calls → call ≡ slice_index_or calls at call → more ≡ text ++ answer_line (stored_in parts) call (answer_in_parts None parts position call)
    → next ≡ (answer_in_parts None parts position call).position
    → Printing parts calls before now text position (drop at calls) → Printing parts calls before now more next (drop (at + 1) calls)
next_call parts calls before now text more position next at call within is line moved so_far =
    let one_on : at + 1 ≡ suc at = omega arith in
    let split : drop at calls ≡ call ∷ drop (suc at) calls = drop-cons calls at call within ∙ ap (λ (c : Call). c ∷ drop (suc at) calls) (sym is) in
    rw one_on (waits parts calls before now text more position next call (drop at calls) (drop (suc at) calls) split line moved so_far)

-- the last piece was put
pub ended : {T E : Type 0} (r : Result T E) (parts : List Part) (calls : List Call) (before now later : Option (List ℕ)) (text waiting : List ℕ) (position : Option ℕ) (at : ℕ)
    → length calls ≤ at → OnOk r ((piece : List ℕ) × (text ≡ piece ++ waiting) × (later ≡ append_known now piece)) → OnOk r (◌≡◌ {A = ℕ} 0 0 → waiting ≡ [])
    → Printing parts calls before now text position (drop at calls) → OnOk r (later ≡ append_known before (way_text parts calls))
ended (Ok x) parts calls before now later text waiting position at past put none so_far =
    let all = puts parts calls before now later text put.0 waiting position (drop at calls) put.1 put.2 so_far in
    let rest : drop at calls ≡ [] = drop_all at calls past in
    let nothing : waiting ≡ [] = none refl in
    is_whole parts calls before later position (rw (rest, nothing) at all)
ended (Err e) parts calls before now later text waiting position at past put none so_far = tt

-- or a fault came while it was put
pub ended_cut : {T E : Type 0} (r : Result T E) (parts : List Part) (calls : List Call) (before now later : Option (List ℕ)) (text : List ℕ) (position : Option ℕ) (rest : List Call)
    → OnErr r ((n : ℕ) × (later ≡ append_known now (take n text)))
    → Printing parts calls before now text position rest → OnErr r ((n : ℕ) × (later ≡ append_known before (take n (way_text parts calls))))
ended_cut (Ok x) parts calls before now later text position rest cut so_far = tt
ended_cut (Err e) parts calls before now later text position rest cut so_far =
    is_prefix_cut parts calls before now later text position rest cut.0 cut.1 so_far
