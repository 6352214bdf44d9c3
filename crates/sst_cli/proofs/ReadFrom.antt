-- How the text that is still to come is read, line by line.
use Rattle.std.proofs.Common.{◌≡◌, ℕ, ◌+◌, ◌<◌, ◌≤◌, ◌==◌, Bool, true, false, cond, List, [], ◌∷◌, ◌++◌, length, Some, None, Result, Ok, Err, refl, sym, ap, ◌∙◌, length-append, arith}
use Rattle.std.proofs.lemmas.Bool.{le-ltb, lt-ltb}
use Rattle.std.proofs.lemmas.List.{append-nil}
use Rattle.sst_cli.specs.declared.input.refusal.Reason.{Reason}
use Rattle.sst_cli.specs.declared.input.refusal.Reason.TheVariants as why
use Rattle.sst_cli.specs.declared.input.refusal.Refusal.{Refusal}
use Rattle.sst_text.specs.Texts.{cut}
use Rattle.sst_text.specs.Lines.{BeginsLong}
use Rattle.sst_cli.specs.NextLine.{IsUnended}
use Rattle.sst_cli.specs.InputReading.{result_match, onto_first, pieces_of, refused_at, read_last, read_pieces, read_from}
use Rattle.sst_text.proofs.Cut.{cut-parts}
use Rattle.sst_text.proofs.PastLine.{none_first}

cond_pieces : (t : Bool) (b : ℕ) (pieces : List (List ℕ)) (first : List ℕ) (others : List (List ℕ)) → pieces ≡ first ∷ others
    → (f : List ℕ) × ((o : List (List ℕ)) × (cond t ([] ∷ pieces) (onto_first b pieces) ≡ f ∷ o))
cond_pieces true b pieces first others is = ([], (pieces, refl))
cond_pieces false b pieces first others is = (b ∷ first, (others, ap (onto_first b) is))

-- a text has a first piece
pub pieces_some : (text : List ℕ) → (first : List ℕ) × ((others : List (List ℕ)) × (pieces_of text ≡ first ∷ others))
pieces_some [] = ([], ([], refl))
pieces_some (b ∷ text) = let rest = pieces_some text in cond_pieces (b == 10) b (pieces_of text) rest.0 rest.1.0 rest.1.1

-- some bytes before the first piece
onto_front : List ℕ → List (List ℕ) → List (List ℕ)
onto_front [] pieces = pieces
onto_front (x ∷ front) pieces = onto_first x (onto_front front pieces)

onto_front-first : (front first : List ℕ) (others : List (List ℕ)) → onto_front front (first ∷ others) ≡ (front ++ first) ∷ others
unfolding onto_front
onto_front-first [] first others = refl
onto_front-first (x ∷ front) first others = ap (onto_first x) (onto_front-first front first others)

pieces_of-front : (front text : List ℕ) → cut 10 front ≡ None → pieces_of (front ++ text) ≡ onto_front front (pieces_of text)
unfolding onto_front
pieces_of-front [] text none = refl
pieces_of-front (x ∷ front) text none =
    let parts = none_first x front none in
    rw parts.0 (ap (onto_first x) (pieces_of-front front text parts.1))

-- some bytes without a line end, and what follows them
pub pieces_after : (front text first : List ℕ) (others : List (List ℕ)) → cut 10 front ≡ None → pieces_of text ≡ first ∷ others
    → pieces_of (front ++ text) ≡ (front ++ first) ∷ others
pieces_after front text first others none is =
    pieces_of-front front text none ∙ ap (onto_front front) is ∙ onto_front-first front first others

-- a line and its line end
pub pieces_of-line : (text line after : List ℕ) → cut 10 text ≡ Some (line, after) → pieces_of text ≡ line ∷ pieces_of after
pieces_of-line text line after found =
    let parts = cut-parts 10 text line after found in
    ap pieces_of parts.0 ∙ pieces_after line (10 ∷ after) [] (pieces_of after) parts.1 refl ∙ ap (λ (l : List ℕ). l ∷ pieces_of after) (append-nil line)

-- what a line says after some items
abbrev pub Says : Type 0 → Type 0
Says A = List A → List ℕ → Result A Reason

-- a line past the limit of a line is refused for that, whatever came before
abbrev pub IsLimited : {A : Type 0} → Says A → Type 0
IsLimited {A} read = (items : List A) (line : List ℕ) → 40000000 < length line → read items line ≡ Err why.LineLong

-- the next line ends before the text does, and is read by itself
read_from-step : {A : Type 0} (read : Says A) (number : ℕ) (items : List A) (text line after : List ℕ) → cut 10 text ≡ Some (line, after)
    → read_from read number items text
    ≡ result_match (read items line) (λ x. read_from read (number + 1) (items ++ x ∷ []) after) (λ w. Err (refused_at number w))
unfolding read_from
read_from-step {A} read number items text line after found =
    let rest = pieces_some after in
    let pieces = pieces_of-line text line after found ∙ ap (λ (ps : List (List ℕ)). line ∷ ps) rest.1.1 in
    let more : List (List ℕ) → Result (List A) Refusal =
    λ ps. result_match (read items line) (λ x. read_pieces read (number + 1) (items ++ x ∷ []) ps) (λ w. Err (refused_at number w)) in
    ap (read_pieces read number items) pieces ∙ ap more (sym rest.1.1)

-- the next line is taken
pub read_from-item : {A : Type 0} (read : Says A) (number : ℕ) (items : List A) (text line after : List ℕ) (x : A) → cut 10 text ≡ Some (line, after)
    → read items line ≡ Ok x → read_from read number items text ≡ read_from read (number + 1) (items ++ x ∷ []) after
read_from-item read number items text line after x found reads = read_from-step read number items text line after found ∙ rw reads refl

-- the next line is refused
pub read_from-refused : {A : Type 0} (read : Says A) (number : ℕ) (items : List A) (text line after : List ℕ) (w : Reason) → cut 10 text ≡ Some (line, after)
    → read items line ≡ Err w → read_from read number items text ≡ Err (refused_at number w)
read_from-refused read number items text line after w found reads = read_from-step read number items text line after found ∙ rw reads refl

-- a first piece past the limit of a line, whatever follows
read_pieces-long : {A : Type 0} (read : Says A) → IsLimited read → (number : ℕ) (items : List A) (first : List ℕ) (others : List (List ℕ)) → 40000000 < length first
    → read_pieces read number items (first ∷ others) ≡ Err (refused_at number why.LineLong)
read_pieces-long read limited number items [] [] long = absurd (omega arith)
read_pieces-long read limited number items (b ∷ first) [] long = rw (lt-ltb 40000000 (length (b ∷ first)) long) refl
read_pieces-long read limited number items first (next ∷ rest) long = rw (limited items first long) refl

pub read_from-long : {A : Type 0} (read : Says A) → IsLimited read → (number : ℕ) (items : List A) (text : List ℕ) → BeginsLong text
    → read_from read number items text ≡ Err (refused_at number why.LineLong)
unfolding read_from
read_from-long read limited number items text long =
    let after = pieces_some long.rest in
    let pieces = ap pieces_of long.parts ∙ pieces_after long.front long.rest after.0 after.1.0 long.none after.1.1 in
    let past : 40000000 < length (long.front ++ after.0) = let sum = length-append long.front after.0 in let many = long.long in omega arith in
    ap (read_pieces read number items) pieces ∙ read_pieces-long read limited number items (long.front ++ after.0) after.1.0 past

read_last-unended : {A : Type 0} (number : ℕ) (items : List A) (text : List ℕ) → 0 < length text → length text ≤ 40000000
    → read_last number items text ≡ Err (refused_at number why.Line)
read_last-unended number items [] some short = absurd (omega arith)
read_last-unended number items (b ∷ rest) some short = rw (le-ltb 40000000 (length (b ∷ rest)) short) refl

-- some bytes without a line end, and nothing after them
pub read_from-unended : {A : Type 0} (read : Says A) (number : ℕ) (items : List A) (text : List ℕ) → IsUnended text
    → read_from read number items text ≡ Err (refused_at number why.Line)
unfolding read_from
read_from-unended read number items text unended =
    let whole = ap pieces_of (sym (append-nil text)) ∙ pieces_after text [] [] [] unended.none refl ∙ ap (λ (b : List ℕ). b ∷ []) (append-nil text) in
    ap (read_pieces read number items) whole ∙ read_last-unended number items text unended.some unended.short

-- nothing more
pub read_from-end : {A : Type 0} (read : Says A) (number : ℕ) (items : List A) → read_from read number items [] ≡ Ok items
unfolding read_from
read_from-end read number items = refl
