-- The options of some words, said one after the other; what is said is within its limits.
use Rattle.std.proofs.Common.{◌≡◌, ℕ, ◌+◌, ◌≤◌, ◌&&◌, true, false, if◌then◌else◌, List, [], ◌∷◌, map, drop, Option, Some, None, refl, ap, ◌∙◌, subst, arith}
use Rattle.std.specs.Prelude.{slice_get, option_and_then, nat_le, codes}
use Rattle.std.specs.Option.{option_map}
use Rattle.std.proofs.lemmas.Option.{slice_get-map, same_Some}
use Rattle.std.proofs.lemmas.Bool.{leb-true}
use Rattle.sst_block.proofs.NextRow.{drop-at}
use Rattle.sst_cli.specs.declared.options.Said.{Said}
use Rattle.sst_cli.specs.Options.{behind, number_within, version_number, block_number, restart_number, index_restart_number, parts_number, once, say_parts, say_index_restart, say_restart, say_block, say_version, say, say_all, or_default, chosen_of, none_said, options_of}
use Rattle.sst_cli.specs.Words.{WriteLine, write_line, line_with}
use Rattle.std.specs.Str.{bytes_eq}
use Rattle.sst_text.specs.Texts.{seq_field}
use Rattle.sst_bbt_write.specs.declared.bbt_options.BbtOptions.{BbtOptions}
use Rattle.sst_bbt_write.specs.Written.{MayBeChosen}

-- one word is said, and then those behind it
pub say-step : {A : Type 0} (f : A → List ℕ) (words : List A) (i : ℕ) (word : A) (said now : Said) → slice_get words i ≡ Some word → say (f word) said ≡ Some now
    → say_all (drop i (map f words)) said ≡ say_all (drop (i + 1) (map f words)) now
say-step f words i word said now at is =
    let here : slice_get (map f words) i ≡ Some (f word) = slice_get-map f words i ∙ ap (option_map f) at in
    ap (λ (l : List (List ℕ)). say_all l said) (drop-at (map f words) i (f word) here)
    ∙ ap (option_and_then (λ next. say_all (drop (i + 1) (map f words)) next)) is

-- and nothing is said where one word can't be
pub say-stop : {A : Type 0} (f : A → List ℕ) (words : List A) (i : ℕ) (word : A) (said : Said) → slice_get words i ≡ Some word → say (f word) said ≡ None
    → say_all (drop i (map f words)) said ≡ None
say-stop f words i word said at is =
    let here : slice_get (map f words) i ≡ Some (f word) = slice_get-map f words i ∙ ap (option_map f) at in
    ap (λ (l : List (List ℕ)). say_all l said) (drop-at (map f words) i (f word) here)
    ∙ ap (option_and_then (λ next. say_all (drop (i + 1) (map f words)) next)) is

-- ---- within the limits

-- a number that is said is within these limits
abbrev pub SaidWithin : ℕ → ℕ → Option ℕ → Type 0
SaidWithin least most o = (n : ℕ) → o ≡ Some n → (least ≤ n) × (n ≤ most)

-- what is said is within its limits
record IsSaid (said : Said) : Type 0 where
  pub version : SaidWithin 2 4 said.version
  pub restart : SaidWithin 1 65536 said.restart
  pub index_restart : SaidWithin 1 65536 said.index_restart
  pub parts : SaidWithin 0 65536 said.parts

within : (least most n m : ℕ) → number_within least most n ≡ Some m → (least ≤ m) × (m ≤ most)
within least most n m is =
    elim (nat_le least n) as (λ b. nat_le least n ≡ b → (if b && nat_le n most then Some n else None) ≡ Some m → (least ≤ m) × (m ≤ most)) [
      | false ↦ λ low some. cc
      | true ↦ λ low some.
          elim (nat_le n most) as (λ b. nat_le n most ≡ b → (if b then Some n else None) ≡ Some m → (least ≤ m) × (m ≤ most)) [
            | false ↦ λ high some. cc
            | true ↦ λ high some.
                let same = same_Some n m some in
                let first = leb-true least n low in
                let last = leb-true n most high in
                (omega (arith, same, first), omega (arith, same, last))
          ] refl some
    ] refl is

behind-some : (o : Option ℕ) (least most m : ℕ) → option_and_then (λ n. number_within least most n) o ≡ Some m → (least ≤ m) × (m ≤ most)
behind-some None least most m is = cc
behind-some (Some n) least most m is = within least most n m is

version-within : (word : List ℕ) (n : ℕ) → version_number word ≡ Some n → (2 ≤ n) × (n ≤ 4)
unfolding version_number
version-within word n is = behind-some (option_and_then seq_field (behind (codes "version=") word)) 2 4 n is

restart-within : (word : List ℕ) (n : ℕ) → restart_number word ≡ Some n → (1 ≤ n) × (n ≤ 65536)
unfolding restart_number
restart-within word n is = behind-some (option_and_then seq_field (behind (codes "restart=") word)) 1 65536 n is

index_restart-within : (word : List ℕ) (n : ℕ) → index_restart_number word ≡ Some n → (1 ≤ n) × (n ≤ 65536)
unfolding index_restart_number
index_restart-within word n is = behind-some (option_and_then seq_field (behind (codes "index-restart=") word)) 1 65536 n is

parts-within : (word : List ℕ) (n : ℕ) → parts_number word ≡ Some n → (0 ≤ n) × (n ≤ 65536)
unfolding parts_number
parts-within word n is = behind-some (option_and_then seq_field (behind (codes "parts=") word)) 0 65536 n is

-- a number that is said once is the one that was said
once-is : (before : Option ℕ) (n m : ℕ) → once before n ≡ Some m → n ≡ m
once-is None n m is = same_Some n m is
once-is (Some k) n m is = cc

map-some : {A B : Type 0} (f : A → B) (o : Option A) (y : B) → option_map f o ≡ Some y → (x : A) × (o ≡ Some x) × (f x ≡ y)
map-some f None y is = cc
map-some f (Some x) y is = (x, refl, same_Some (f x) y is)

-- the number that is said once is within the limits
said-within : (least most : ℕ) (before : Option ℕ) (n m : ℕ) → once before n ≡ Some m → (least ≤ n) × (n ≤ most) → SaidWithin least most (Some m)
said-within least most before n m is good =
    λ k some.
    let first : n ≡ m = once-is before n m is in
    let same : m ≡ k = same_Some m k some in
    (omega (arith, good.0, first, same), omega (arith, good.1, first, same))

said-parts : (o : Option ℕ) (word : List ℕ) (said now : Said) → parts_number word ≡ o → IsSaid said → say_parts o said ≡ Some now → IsSaid now
said-parts None word said now read are is = cc
said-parts (Some n) word said now read are is =
    let found = map-some (λ (m : ℕ). record { version = said.version; block_size = said.block_size; restart = said.restart; index_restart = said.index_restart; parts = Some m }) (once said.parts n) now is in
    subst IsSaid found.2
    (record {
      version = are.version;
      restart = are.restart;
      index_restart = are.index_restart;
      parts = said-within 0 65536 said.parts n found.0 found.1 (parts-within word n read);
    })

said-index_restart : (o : Option ℕ) (word : List ℕ) (said now : Said) → index_restart_number word ≡ o → IsSaid said → say_index_restart o word said ≡ Some now → IsSaid now
said-index_restart None word said now read are is = said-parts (parts_number word) word said now refl are is
said-index_restart (Some n) word said now read are is =
    let found = map-some (λ (m : ℕ). record { version = said.version; block_size = said.block_size; restart = said.restart; index_restart = Some m; parts = said.parts }) (once said.index_restart n) now is in
    subst IsSaid found.2
    (record {
      version = are.version;
      restart = are.restart;
      index_restart = said-within 1 65536 said.index_restart n found.0 found.1 (index_restart-within word n read);
      parts = are.parts;
    })

said-restart : (o : Option ℕ) (word : List ℕ) (said now : Said) → restart_number word ≡ o → IsSaid said → say_restart o word said ≡ Some now → IsSaid now
said-restart None word said now read are is = said-index_restart (index_restart_number word) word said now refl are is
said-restart (Some n) word said now read are is =
    let found = map-some (λ (m : ℕ). record { version = said.version; block_size = said.block_size; restart = Some m; index_restart = said.index_restart; parts = said.parts }) (once said.restart n) now is in
    subst IsSaid found.2
    (record {
      version = are.version;
      restart = said-within 1 65536 said.restart n found.0 found.1 (restart-within word n read);
      index_restart = are.index_restart;
      parts = are.parts;
    })

said-block : (o : Option ℕ) (word : List ℕ) (said now : Said) → IsSaid said → say_block o word said ≡ Some now → IsSaid now
said-block None word said now are is = said-restart (restart_number word) word said now refl are is
said-block (Some n) word said now are is =
    let found = map-some (λ (m : ℕ). record { version = said.version; block_size = Some m; restart = said.restart; index_restart = said.index_restart; parts = said.parts }) (once said.block_size n) now is in
    subst IsSaid found.2
    (record {
      version = are.version;
      restart = are.restart;
      index_restart = are.index_restart;
      parts = are.parts;
    })

said-version : (o : Option ℕ) (word : List ℕ) (said now : Said) → version_number word ≡ o → IsSaid said → say_version o word said ≡ Some now → IsSaid now
said-version None word said now read are is = said-block (block_number word) word said now are is
said-version (Some n) word said now read are is =
    let found = map-some (λ (m : ℕ). record { version = Some m; block_size = said.block_size; restart = said.restart; index_restart = said.index_restart; parts = said.parts }) (once said.version n) now is in
    subst IsSaid found.2
    (record {
      version = said-within 2 4 said.version n found.0 found.1 (version-within word n read);
      restart = are.restart;
      index_restart = are.index_restart;
      parts = are.parts;
    })

said-all : (words : List (List ℕ)) (said now : Said) → IsSaid said → say_all words said ≡ Some now → IsSaid now
said-all [] said now are is = subst IsSaid (same_Some said now is) are
said-all (word ∷ rest) said now are is =
    elim (say word said) as (λ o. say word said ≡ o → option_and_then (λ next. say_all rest next) o ≡ Some now → IsSaid now) [
      | None ↦ λ read some. cc
      | Some next ↦ λ read some. said-all rest next now (said-version (version_number word) word said next refl are read) some
    ] refl is

default-within : (least most : ℕ) (o : Option ℕ) (n : ℕ) → (least ≤ n) × (n ≤ most) → SaidWithin least most o
    → (least ≤ or_default o n) × (or_default o n ≤ most)
default-within least most None n good said = good
default-within least most (Some m) n good said = said m refl

-- the options of words may be chosen
pub may-be : (words : List (List ℕ)) (options : BbtOptions) → options_of words ≡ Some options → MayBeChosen options
may-be words options is =
    let found = map-some chosen_of (say_all words none_said) options is in
    let none : IsSaid none_said = record { version = λ n none. cc; restart = λ n none. cc; index_restart = λ n none. cc; parts = λ n none. cc } in
    let said = said-all words none_said found.0 none found.1 in
    let version = default-within 2 4 found.0.version 2 (omega arith, omega arith) said.version in
    let restart = default-within 1 65536 found.0.restart 16 (omega arith, omega arith) said.restart in
    let index_restart = default-within 1 65536 found.0.index_restart 1 (omega arith, omega arith) said.index_restart in
    let parts = default-within 0 65536 found.0.parts 0 (omega arith, omega arith) said.parts in
    subst MayBeChosen found.2
    (record {
      version_least = version.0;
      version_most = version.1;
      restart_least = restart.0;
      restart_most = restart.1;
      index_restart_least = index_restart.0;
      index_restart_most = index_restart.1;
      parts_most = parts.1;
    })

-- so may those of a `write`
pub line-may : (words : List (List ℕ)) (line : WriteLine) → write_line words ≡ Some line → MayBeChosen line.options
line-may [] line is = cc
line-may (command ∷ []) line is = cc
line-may (command ∷ format ∷ []) line is = cc
line-may (command ∷ format ∷ [] ∷ options) line is = cc
line-may (command ∷ format ∷ (b ∷ name) ∷ options) line is =
    elim (bytes_eq command (codes "write") && bytes_eq format (codes "block")) as (λ t. (if t then line_with (b ∷ name) (options_of options) else None) ≡ Some line → MayBeChosen line.options) [
      | false ↦ λ some. cc
      | true ↦ λ some.
          let found = map-some (λ (o : BbtOptions). record { name = b ∷ name; options = o }) (options_of options) line some in
          let same : found.0 ≡ line.options = ap (λ (l : WriteLine). l.options) found.2 in
          subst MayBeChosen same (may-be options found.0 found.1)
    ] is
