-- The words are a command by the first of them exactly where they are one by their places.
use Rattle.std.proofs.Common.{◌≡◌, ℕ, ◌&&◌, Bool, true, false, cond, List, [], ◌∷◌, codes, Option, None, Some, option_and_then, refl, ap, subst}
use Rattle.std.specs.Option.{option_map}
use Rattle.std.specs.Str.{bytes_eq}
use Rattle.std.specs.Cmp.Lexicographic.{bytes_decides}
use Rattle.sst_cli.specs.Command.{Command, Write, Calls, Get, Scan, command_of}
use Rattle.sst_cli.specs.Words.{WriteLine, GetLine, ScanLine, write_line, out_name, calls_name, get_line, scan_line}

first_test : {A : Type 0} (s t : Bool) (o : Option A) (x : A) → cond (s && t) o None ≡ Some x → s ≡ true
first_test true t o x e = refl
first_test false t o x e = absurd cc

one_test : {A : Type 0} (s : Bool) (y x : A) → cond s (Some y) None ≡ Some x → s ≡ true
one_test true y x e = refl
one_test false y x e = absurd cc

bound_test : {A B : Type 0} (s : Bool) (y : A) (f : A → Option B) (x : B) → option_and_then f (cond s (Some y) None) ≡ Some x → s ≡ true
bound_test true y f x e = refl
bound_test false y f x e = absurd cc

map_test : {A B : Type 0} (s : Bool) (y : A) (f : A → B) (x : B) → option_map f (cond s (Some y) None) ≡ Some x → s ≡ true
map_test true y f x e = refl
map_test false y f x e = absurd cc

pub is_write : (words : List (List ℕ)) (write : WriteLine) → write_line words ≡ Some write → command_of words ≡ Some (Write write)
is_write [] write e = absurd cc
is_write (a ∷ []) write e = absurd cc
is_write (a ∷ b ∷ []) write e = absurd cc
is_write (a ∷ b ∷ [] ∷ options) write e = absurd cc
is_write (a ∷ b ∷ (x ∷ name) ∷ options) write e =
    let first = first_test (bytes_eq a (codes "write")) (bytes_eq b (codes "block")) _ write e in
    rw first (ap (option_map Write) (rw first at e))

pub is_calls : (words : List (List ℕ)) (name : List ℕ) → calls_name words ≡ Some name → command_of words ≡ Some (Calls name)
is_calls [] name e = absurd cc
is_calls (a ∷ []) name e = absurd cc
is_calls (a ∷ [] ∷ []) name e = absurd cc
is_calls (a ∷ (x ∷ rest) ∷ []) name e =
    let second = one_test (bytes_eq a (codes "calls")) (x ∷ rest) name e in
    let first : a ≡ codes "calls" = (bytes_decides a (codes "calls")).0 second in
    let not_write : bytes_eq a (codes "write") ≡ false = ap (λ (w : List ℕ). bytes_eq w (codes "write")) first in
    rw (not_write, second) (ap (option_map Calls) (rw second at e))
is_calls (a ∷ b ∷ c ∷ rest) name e = absurd cc

pub is_get : (words : List (List ℕ)) (line : GetLine) → get_line words ≡ Some line → command_of words ≡ Some (Get line)
is_get [] line e = absurd cc
is_get (a ∷ []) line e = absurd cc
is_get (a ∷ b ∷ []) line e = absurd cc
is_get (a ∷ b ∷ c ∷ []) line e = absurd cc
is_get (a ∷ [] ∷ user ∷ seq ∷ []) line e = absurd cc
is_get (a ∷ (x ∷ rest) ∷ user ∷ seq ∷ []) line e =
    let second = bound_test (bytes_eq a (codes "get")) (x ∷ rest) _ line e in
    let first : a ≡ codes "get" = (bytes_decides a (codes "get")).0 second in
    let not_write : bytes_eq a (codes "write") ≡ false = ap (λ (w : List ℕ). bytes_eq w (codes "write")) first in
    let not_calls : bytes_eq a (codes "calls") ≡ false = ap (λ (w : List ℕ). bytes_eq w (codes "calls")) first in
    rw (not_write, not_calls, second) (ap (option_map Get) (rw second at e))
is_get (a ∷ b ∷ user ∷ seq ∷ next ∷ rest) line e = absurd cc

-- words whose first one is this and that are a `scan` by their places
scan_by : (a : List ℕ) (rest : List (List ℕ)) (line : ScanLine) → bytes_eq a (codes "scan") ≡ true → scan_line (a ∷ rest) ≡ Some line
    → command_of (a ∷ rest) ≡ Some (Scan line)
scan_by a rest line test e =
    let first : a ≡ codes "scan" = (bytes_decides a (codes "scan")).0 test in
    let not_write : bytes_eq a (codes "write") ≡ false = ap (λ (w : List ℕ). bytes_eq w (codes "write")) first in
    let not_calls : bytes_eq a (codes "calls") ≡ false = ap (λ (w : List ℕ). bytes_eq w (codes "calls")) first in
    let not_get : bytes_eq a (codes "get") ≡ false = ap (λ (w : List ℕ). bytes_eq w (codes "get")) first in
    rw (not_write, not_calls, not_get, test) (ap (option_map Scan) e)

pub is_scan : (words : List (List ℕ)) (line : ScanLine) → scan_line words ≡ Some line → command_of words ≡ Some (Scan line)
is_scan [] line e = absurd cc
is_scan (a ∷ []) line e = absurd cc
is_scan (a ∷ [] ∷ []) line e = absurd cc
is_scan (a ∷ (x ∷ name) ∷ []) line e = scan_by a ((x ∷ name) ∷ []) line (map_test (bytes_eq a (codes "scan")) (x ∷ name) _ line e) e
is_scan (a ∷ [] ∷ seq ∷ []) line e = absurd cc
is_scan (a ∷ (x ∷ name) ∷ seq ∷ []) line e = scan_by a ((x ∷ name) ∷ seq ∷ []) line (bound_test (bytes_eq a (codes "scan")) (x ∷ name) _ line e) e
is_scan (a ∷ b ∷ c ∷ next ∷ rest) line e = absurd cc

-- ---- what each test says, whichever commands there are

-- words of which a test makes a command, or the tests after it, are of that command
sound_step : {A : Type 0} (test : Bool) (make : A → Command) (o : Option A) (rest : Option Command) (command : Command) (P : Command → Type 0)
    → ((x : A) → o ≡ Some x → P (make x)) → (rest ≡ Some command → P command) → cond test (option_map make o) rest ≡ Some command → P command
sound_step true make None rest command P here later e = absurd cc
sound_step true make (Some x) rest command P here later e = let same : make x ≡ command = cc in subst P same (here x refl)
sound_step false make o rest command P here later e = later e

-- and words of which neither does are none
none_step : {A : Type 0} (test : Bool) (make : A → Command) (o : Option A) (rest : Option Command) → o ≡ None → rest ≡ None → cond test (option_map make o) rest ≡ None
none_step true make None rest here later = refl
none_step true make (Some x) rest here later = absurd cc
none_step false make o rest here later = later

-- the words are a command by their places
abbrev IsOf : List (List ℕ) → Command → Type 0
IsOf words (Write write) = write_line words ≡ Some write
IsOf words (Calls name) = calls_name words ≡ Some name
IsOf words (Get line) = get_line words ≡ Some line
IsOf words (Scan line) = scan_line words ≡ Some line

command_is : (words : List (List ℕ)) (command : Command) → command_of words ≡ Some command → IsOf words command
command_is [] command e = absurd cc
command_is (a ∷ rest) command e =
    let words = a ∷ rest in
    sound_step (bytes_eq a (codes "write")) Write (write_line words) _ command (IsOf words) (λ write is. is)
    (sound_step (bytes_eq a (codes "calls")) Calls (calls_name words) _ command (IsOf words) (λ name is. is)
    (sound_step (bytes_eq a (codes "get")) Get (get_line words) _ command (IsOf words) (λ line is. is)
    (sound_step (bytes_eq a (codes "scan")) Scan (scan_line words) None command (IsOf words) (λ line is. is) (λ none. absurd cc)))) e

pub write_is : (words : List (List ℕ)) (write : WriteLine) → command_of words ≡ Some (Write write) → write_line words ≡ Some write
write_is words write e = command_is words (Write write) e

pub calls_is : (words : List (List ℕ)) (name : List ℕ) → command_of words ≡ Some (Calls name) → calls_name words ≡ Some name
calls_is words name e = command_is words (Calls name) e

pub get_is : (words : List (List ℕ)) (line : GetLine) → command_of words ≡ Some (Get line) → get_line words ≡ Some line
get_is words line e = command_is words (Get line) e

pub scan_is : (words : List (List ℕ)) (line : ScanLine) → command_of words ≡ Some (Scan line) → scan_line words ≡ Some line
scan_is words line e = command_is words (Scan line) e

none_where : {A : Type 0} (o : Option A) → ((x : A) → o ≡ Some x → ⊥) → o ≡ None
none_where None never = refl
none_where (Some x) never = absurd (never x refl)

not_some : {A : Type 0} (o : Option A) (x : A) → o ≡ None → o ≡ Some x → ⊥
not_some o x none some = cc

no_map : {A B : Type 0} (f : A → B) (o : Option A) → option_map f o ≡ None → o ≡ None
no_map f None e = refl
no_map f (Some x) e = absurd cc

pub none_is : (words : List (List ℕ)) → command_of words ≡ None → (out_name words ≡ None) × (calls_name words ≡ None) × (get_line words ≡ None) × (scan_line words ≡ None)
none_is words none =
    let no_write = none_where (write_line words) (λ write is. not_some (command_of words) (Write write) none (is_write words write is)) in
    let no_calls = none_where (calls_name words) (λ name is. not_some (command_of words) (Calls name) none (is_calls words name is)) in
    let no_get = none_where (get_line words) (λ line is. not_some (command_of words) (Get line) none (is_get words line is)) in
    let no_scan = none_where (scan_line words) (λ line is. not_some (command_of words) (Scan line) none (is_scan words line is)) in
    (ap (option_map (λ (line : WriteLine). line.name)) no_write, no_calls, no_get, no_scan)

pub is_none : (words : List (List ℕ)) → out_name words ≡ None → calls_name words ≡ None → get_line words ≡ None → scan_line words ≡ None → command_of words ≡ None
is_none [] no_out no_calls no_get no_scan = refl
is_none (a ∷ rest) no_out no_calls no_get no_scan =
    none_step (bytes_eq a (codes "write")) Write (write_line (a ∷ rest)) _ (no_map (λ (line : WriteLine). line.name) (write_line (a ∷ rest)) no_out)
    (none_step (bytes_eq a (codes "calls")) Calls (calls_name (a ∷ rest)) _ no_calls
    (none_step (bytes_eq a (codes "get")) Get (get_line (a ∷ rest)) _ no_get
    (none_step (bytes_eq a (codes "scan")) Scan (scan_line (a ∷ rest)) None no_scan refl)))
