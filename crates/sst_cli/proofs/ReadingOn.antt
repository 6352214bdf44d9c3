-- What reading on, line by line, keeps: reading the whole input is reading on after what was read so far.
use Rattle.std.proofs.Common.{◌≡◌, inl, inr, ℕ, ◌+◌, ◌<◌, List, [], ◌∷◌, ◌++◌, length, take, drop, Option, Some, None, Ok, Err, refl, sym, ap, ◌∙◌, subst, length-append}
use Rattle.std.specs.Option.{option_map}
use Rattle.std.specs.Io.KnownBytes.{prepend_known}
use Rattle.sst_cli.specs.declared.input.refusal.Refusal.{Refusal}
use Rattle.sst_cli.specs.declared.input.refusal.Reason.{Reason}
use Rattle.sst_text.specs.Texts.{cut}
use Rattle.sst_text.specs.Lines.{IsRead}
use Rattle.sst_cli.specs.NextLine.{IsNext, HasNoLine}
use Rattle.sst_cli.specs.InputReading.{refused_at, read_from}
use Rattle.sst_cli.specs.ReadingResult.{IsRefused}
use Rattle.sst_text.proofs.Cut.{cut-append_some, cut-length}
use Rattle.sst_cli.proofs.ReadFrom.{Says, IsLimited, read_from-item, read_from-refused, read_from-long, read_from-unended, read_from-end}

-- reading the whole input is reading what is left after these items
abbrev pub IsReadTo : {A : Type 0} → Says A → List A → Option (List ℕ) → Option (List ℕ) → Type 0
IsReadTo read items start left =
    option_map (read_from read 1 []) start ≡ option_map (read_from read (length items + 1) items) left

-- the same is left, however much of it lies at hand
IsReadTo-same : {A : Type 0} (read : Says A) (items : List A) (start left next : Option (List ℕ)) → IsReadTo read items start left → left ≡ next → IsReadTo read items start next
IsReadTo-same read items start left next said same = subst (λ (o : Option (List ℕ)). IsReadTo read items start o) same said

length-more : {A : Type 0} (items : List A) (x : A) → length (items ++ x ∷ []) ≡ length items + 1
length-more items x = length-append items (x ∷ [])

-- after a line that was taken
IsReadTo-item : {A : Type 0} (read : Says A) (items : List A) (x : A) (start next : Option (List ℕ)) (bytes line after : List ℕ)
    → IsReadTo read items start (prepend_known bytes next) → cut 10 bytes ≡ Some (line, after) → read items line ≡ Ok x
    → IsReadTo read (items ++ x ∷ []) start (prepend_known after next)
IsReadTo-item read items x start None bytes line after said found reads = said
IsReadTo-item read items x start (Some rest) bytes line after said found reads =
    said
    ∙ ap Some (read_from-item read (length items + 1) items (bytes ++ rest) line (after ++ rest) x (cut-append_some 10 bytes rest line after found) reads
    ∙ ap (λ n. read_from read (n + 1) (items ++ x ∷ []) (after ++ rest)) (sym (length-more items x)))

-- what is left of an input that is told is told
left_told : {A : Type 0} (read : Says A) (items : List A) (start left : Option (List ℕ)) (text : List ℕ) → IsReadTo read items start left → start ≡ Some text
    → (rest : List ℕ) × (left ≡ Some rest) × (read_from read 1 [] text ≡ read_from read (length items + 1) items rest)
left_told read items None left text said told = absurd cc
left_told read items (Some all) None text said told = absurd cc
left_told read items (Some all) (Some rest) text said told =
    let same : all ≡ text = cc in
    let both : read_from read 1 [] all ≡ read_from read (length items + 1) items rest = cc in
    (rest, refl, ap (read_from read 1 []) (sym same) ∙ both)

-- at the end of the input
said_end : {A : Type 0} (read : Says A) (items : List A) (start next : Option (List ℕ)) (text bytes : List ℕ)
    → IsReadTo read items start (prepend_known bytes next) → start ≡ Some text → bytes ≡ [] → IsRead next
    → (read_from read 1 [] text ≡ Ok items) × (next ≡ Some [])
said_end read items start None text bytes said told none empty =
    let left = left_told read items start None text said told in let other = left.1 in absurd cc
said_end read items start (Some rest) text bytes said told none empty =
    let left = left_told read items start (Some (bytes ++ rest)) text said told in
    let all : bytes ++ rest ≡ [] = ap (λ (b : List ℕ). b ++ rest) none ∙ empty in
    let given : left.0 ≡ bytes ++ rest = let same = left.1 in cc in
    (left.2 ∙ ap (read_from read (length items + 1) items) (given ∙ all) ∙ read_from-end read (length items + 1) items, ap Some empty)

-- at a line that there is a reason to refuse
said_reason : {A : Type 0} (read : Says A) (items : List A) (start next : Option (List ℕ)) (text bytes line after : List ℕ) (w : Reason)
    → IsReadTo read items start (prepend_known bytes next) → start ≡ Some text → cut 10 bytes ≡ Some (line, after) → read items line ≡ Err w
    → read_from read 1 [] text ≡ Err (refused_at (length items + 1) w)
said_reason read items start None text bytes line after w said told found reads =
    let left = left_told read items start None text said told in let other = left.1 in absurd cc
said_reason read items start (Some rest) text bytes line after w said told found reads =
    let left = left_told read items start (Some (bytes ++ rest)) text said told in
    let given : left.0 ≡ bytes ++ rest = let same = left.1 in cc in
    left.2 ∙ ap (read_from read (length items + 1) items) given
    ∙ read_from-refused read (length items + 1) items (bytes ++ rest) line (after ++ rest) w (cut-append_some 10 bytes rest line after found) reads

-- at a line that is refused
said_refused : {A : Type 0} (read : Says A) (items : List A) (start next : Option (List ℕ)) (text bytes line after : List ℕ) (number : ℕ) (refusal : Refusal)
    → IsReadTo read items start (prepend_known bytes next) → start ≡ Some text → cut 10 bytes ≡ Some (line, after)
    → number ≡ length items + 1 → IsRefused (read items line) number refusal → read_from read 1 [] text ≡ Err refusal
said_refused read items start next text bytes line after number refusal said told found counted refused =
    said_reason read items start next text bytes line after refused.why said told found refused.reads
    ∙ ap Err (ap (λ n. refused_at n refused.why) (sym counted) ∙ sym refused.said)

-- where no line can be read
read_from-no_line : {A : Type 0} (read : Says A) → IsLimited read → (number : ℕ) (items : List A) (text : List ℕ) (refusal : Refusal) → HasNoLine number text refusal
    → read_from read number items text ≡ Err refusal
read_from-no_line read limited number items text refusal (inl long) =
    read_from-long read limited number items text long.0 ∙ ap Err (sym long.1)
read_from-no_line read limited number items text refusal (inr unended) =
    read_from-unended read number items text unended.0 ∙ ap Err (sym unended.1)

said_no_line : {A : Type 0} (read : Says A) → IsLimited read → (items : List A) (start left : Option (List ℕ)) (text : List ℕ) (refusal : Refusal)
    → IsReadTo read items start left → start ≡ Some text → ((rest : List ℕ) → left ≡ Some rest → HasNoLine (length items + 1) rest refusal)
    → read_from read 1 [] text ≡ Err refusal
said_no_line read limited items start left text refusal said told none =
    let given = left_told read items start left text said told in
    given.2 ∙ read_from-no_line read limited (length items + 1) items given.0 refusal (none given.0 given.1)

-- ---- after the next line was looked for

-- a line that was found ends before the unread bytes do
pub next_inside : (unread : List ℕ) (left : Option (List ℕ)) (n : ℕ) → IsNext (Some n) unread left → n < length unread
next_inside unread left n next = cut-length 10 unread (drop 1 (drop n unread)) n next.1

-- the line that was found was taken
pub next_taken : {A : Type 0} (read : Says A) (items : List A) (x : A) (start before left : Option (List ℕ)) (unread : List ℕ) (n : ℕ)
    → IsReadTo read items start before → before ≡ prepend_known unread left → IsNext (Some n) unread left → read items (take n unread) ≡ Ok x
    → IsReadTo read (items ++ x ∷ []) start (prepend_known (drop 1 (drop n unread)) left)
next_taken read items x start before left unread n said same next reads =
    IsReadTo-item read items x start left unread (take n unread) (drop 1 (drop n unread)) (IsReadTo-same read items start before (prepend_known unread left) said same) next.1 reads

-- the line that was found was refused
pub next_refused : {A : Type 0} (read : Says A) (items : List A) (start before left : Option (List ℕ)) (text unread : List ℕ) (n number : ℕ) (refusal : Refusal)
    → IsReadTo read items start before → before ≡ prepend_known unread left → IsNext (Some n) unread left → start ≡ Some text
    → number ≡ length items → IsRefused (read items (take n unread)) (number + 1) refusal → read_from read 1 [] text ≡ Err refusal
next_refused read items start before left text unread n number refusal said same next told counted refused =
    said_refused read items start left text unread (take n unread) (drop 1 (drop n unread)) (number + 1) refusal
    (IsReadTo-same read items start before (prepend_known unread left) said same) told next.1 (ap (λ n. n + 1) counted) refused

-- no line was found, and the input has ended
pub next_none : {A : Type 0} (read : Says A) (items : List A) (start before left : Option (List ℕ)) (text unread : List ℕ)
    → IsReadTo read items start before → before ≡ prepend_known unread left → IsNext None unread left → start ≡ Some text
    → (read_from read 1 [] text ≡ Ok items) × (left ≡ Some [])
next_none read items start before left text unread said same next told =
    said_end read items start left text unread (IsReadTo-same read items start before (prepend_known unread left) said same) told next.0 next.1

-- no line can be read, and that was the answer
pub next_not_read : {A : Type 0} (read : Says A) → IsLimited read → (items : List A) (start before : Option (List ℕ)) (text : List ℕ) (number : ℕ) (refusal : Refusal)
    → IsReadTo read items start before → start ≡ Some text → number ≡ length items
    → ((rest : List ℕ) → before ≡ Some rest → HasNoLine (number + 1) rest refusal) → read_from read 1 [] text ≡ Err refusal
next_not_read read limited items start before text number refusal said told counted none =
    said_no_line read limited items start before text refusal said told (λ rest lies. subst (λ n. HasNoLine (n + 1) rest refusal) counted (none rest lies))
