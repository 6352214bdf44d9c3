-- A line that reads as a call is the line that is written for it, but for the case of hex digits.
use Rattle.std.proofs.Common.{◌≡◌, ℕ, nat_le, true, false, cond, List, [], ◌∷◌, ◌++◌, length, map, codes, Option, None, Some, refl, sym, ap, ◌∙◌, subst}
use Rattle.std.specs.Char.{to_ascii_lowercase}
use Rattle.std.specs.Fmt.{decimal}
use Rattle.std.specs.Str.{bytes_eq}
use Rattle.std.proofs.lemmas.List.{append-nil}
use Rattle.std.proofs.lemmas.Option.{option_and_then_some, cond_some}
use Rattle.std.proofs.lemmas.Slice.Eq.{bytes_eq-Decides}
use Rattle.sst_key.specs.declared.calls.Target.{Target}
use Rattle.sst_key.specs.declared.calls.Call.{Call}
use Rattle.sst_key.specs.declared.calls.Call.TheVariants.{Get, First, Last, Seek, SeekForPrev, Next, Prev}
use Rattle.sst_text.specs.Texts.{cut, bytes_field, seq_field}
use Rattle.sst_text.specs.EntryText.{hex_text}
use Rattle.sst_text.specs.CallText.{target_of, plain_call, call_to, call_of_parts, call_of_line, call_name, target_in, target_text, call_line}
use Rattle.sst_text.proofs.FieldTexts.{cut-some, seq_field-text, bytes_field-text}
use Rattle.sst_text.proofs.LineTexts.{SameButCase, from_lower, case-append}

same_some : {A : Type 0} (x y : A) → Some x ≡ Some y → x ≡ y
same_some x y e = cc

-- ---- the target

-- the text of a target whose user key is in whatever case
abbrev TargetText : List ℕ → Target → Type 0
TargetText text target = (user : List ℕ) × (text ≡ user ++ (32 ∷ decimal target.seq)) × (map to_ascii_lowercase user ≡ hex_text target.user)

target_of-text : (text : List ℕ) (target : Target) → target_of text ≡ Some target → TargetText text target
target_of-text text target e =
    option_and_then_some _ (cut 32 text) target e (λ fields is ef.
    option_and_then_some _ (seq_field fields.1) target ef (λ seq is_seq es.
    option_and_then_some _ (bytes_field fields.0) target es (λ user is_user eu.
    subst (TargetText text) (cond_some (nat_le (length user) 65536) (record { user = user; seq = seq }) target eu).1
    (fields.0, cut-some 32 text fields is ∙ ap (λ (t : List ℕ). fields.0 ++ (32 ∷ t)) (seq_field-text fields.1 seq is_seq), bytes_field-text fields.0 user is_user))))

-- ---- the name

-- the call is of that name and that target
abbrev Names : List ℕ → Option Target → Call → Type 0
Names name target call = (name ≡ call_name call) × (target_in call ≡ target)

choose_name : (name word : List ℕ) (target : Option Target) (one call : Call) (rest : Option Call) → call_name one ≡ word → target_in one ≡ target
    → (rest ≡ Some call → Names name target call) → cond (bytes_eq name word) (Some one) rest ≡ Some call → Names name target call
choose_name name word target one call rest is has more e =
    elim (bytes_eq name word) as (λ t. (bytes_eq name word ≡ t) → cond t (Some one) rest ≡ Some call → Names name target call) [
      | true ↦ λ test e. subst (Names name target) (same_some one call e) ((bytes_eq-Decides name word).0 test ∙ sym is, has)
      | false ↦ λ test e. more e
    ] refl e

plain_call-named : (name : List ℕ) (call : Call) → plain_call name ≡ Some call → Names name None call
plain_call-named name call =
    choose_name name (codes "first") None First call _ refl refl
    (choose_name name (codes "last") None Last call _ refl refl
    (choose_name name (codes "next") None Next call _ refl refl
    (choose_name name (codes "prev") None Prev call None refl refl (λ e. absurd cc))))

call_to-named : (name : List ℕ) (target : Target) (call : Call) → call_to name target ≡ Some call → Names name (Some target) call
call_to-named name target call =
    choose_name name (codes "get") (Some target) (Get target) call _ refl refl
    (choose_name name (codes "seek") (Some target) (Seek target) call _ refl refl
    (choose_name name (codes "seek_for_prev") (Some target) (SeekForPrev target) call None refl refl (λ e. absurd cc)))

-- ---- the line

-- what stands after the name of a call: nothing, or a blank and its target
abbrev pub AfterName : List ℕ → Option Target → Type 0
AfterName text None = text ≡ []
AfterName text (Some target) = (user : List ℕ) × (text ≡ 32 ∷ (user ++ (32 ∷ decimal target.seq))) × (map to_ascii_lowercase user ≡ hex_text target.user)

abbrev pub CallTexts : List ℕ → Call → Type 0
CallTexts line call = (after : List ℕ) × (line ≡ call_name call ++ after) × AfterName after (target_in call)

call_of_parts-texts : (line : List ℕ) (parts : Option (List ℕ × List ℕ)) (call : Call) → cut 32 line ≡ parts → call_of_parts line parts ≡ Some call → CallTexts line call
call_of_parts-texts line None call is e =
    let named = plain_call-named line call e in
    ([], named.0 ∙ sym (append-nil (call_name call)), subst (AfterName []) (sym named.1) refl)
call_of_parts-texts line (Some parts) call is e =
    option_and_then_some (call_to parts.0) (target_of parts.1) call e (λ target is_target more.
    let named = call_to-named parts.0 target call more in
    let text = target_of-text parts.1 target is_target in
    let after : AfterName (32 ∷ parts.1) (Some target) = (text.0, ap (λ (t : List ℕ). 32 ∷ t) text.1, text.2) in
    (32 ∷ parts.1, cut-some 32 line parts is ∙ ap (λ (t : List ℕ). t ++ (32 ∷ parts.1)) named.0, subst (AfterName (32 ∷ parts.1)) (sym named.1) after))

pub call_of_line-texts : (line : List ℕ) (call : Call) → call_of_line line ≡ Some call → CallTexts line call
call_of_line-texts line call e = call_of_parts-texts line (cut 32 line) call refl e

pub plain_line : (line : List ℕ) (call : Call) → call_of_line line ≡ Some call → target_in call ≡ None → line ≡ call_name call
plain_line line call e none =
    let texts = call_of_line-texts line call e in
    let no_more : AfterName texts.0 None = subst (AfterName texts.0) none texts.2 in
    texts.1 ∙ ap (λ (t : List ℕ). call_name call ++ t) no_more ∙ append-nil (call_name call)

pub target_line : (line : List ℕ) (call : Call) (target : Target) → call_of_line line ≡ Some call → target_in call ≡ Some target
    → (user : List ℕ) × (line ≡ call_name call ++ (32 ∷ (user ++ (32 ∷ decimal target.seq)))) × (map to_ascii_lowercase user ≡ hex_text target.user)
target_line line call target e some =
    let texts = call_of_line-texts line call e in
    let after : AfterName texts.0 (Some target) = subst (AfterName texts.0) some texts.2 in
    (after.0, texts.1 ∙ ap (λ (t : List ℕ). call_name call ++ t) after.1, after.2)

after_name-case : (text : List ℕ) (target : Option Target) → AfterName text target → SameButCase text (target_text target)
after_name-case text None after = ap (map to_ascii_lowercase) after
after_name-case text (Some target) after =
    ap (map to_ascii_lowercase) after.1
    ∙ case-append (32 ∷ []) (32 ∷ []) (after.0 ++ (32 ∷ decimal target.seq)) (hex_text target.user ++ (32 ∷ decimal target.seq)) refl
    (case-append after.0 (hex_text target.user) (32 ∷ decimal target.seq) (32 ∷ decimal target.seq) (from_lower after.0 (hex_text target.user) after.2) refl)

pub call_of_line-line : (line : List ℕ) (call : Call) → call_of_line line ≡ Some call → SameButCase line (call_line call)
call_of_line-line line call e =
    let texts = call_of_line-texts line call e in
    ap (map to_ascii_lowercase) texts.1 ∙ case-append (call_name call) (call_name call) texts.0 (target_text (target_in call)) refl (after_name-case texts.0 (target_in call) texts.2)
