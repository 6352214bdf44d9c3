-- What the loop over the lines of an input keeps.
use Rattle.std.proofs.Common.{◌≡◌, ℕ, ◌-◌, ◌^◌, ◌<◌, ◌≤◌, List, [], ◌∷◌, ◌++◌, length, Option, refl, sym, subst, arith}
use Rattle.sst_key.specs.declared.entries.Entry.{Entry}
use Rattle.std.proofs.lemmas.Bool.{lt-ltb}
use Rattle.sst_bbt_write.specs.declared.bbt_options.BbtOptions.{BbtOptions}
use Rattle.sst_bbt_write.specs.declared.bbt_writer.BbtWriter.{BbtWriter}
use Rattle.sst_bbt_write.specs.After.{After}
use Rattle.sst_cli.specs.InputReading.{read_line}
use Rattle.sst_cli.specs.ReadingResult.{HoldsInput}
use Rattle.sst_bbt_write.proofs.Rows.{weight-append}
use Rattle.sst_cli.proofs.ReadFrom.{IsLimited}
use Rattle.sst_cli.proofs.ReadingOn.{IsReadTo}
use Rattle.sst_cli.proofs.Taken.{IsPast}

-- a line past its limit is refused for that, whatever entries came before
pub read_line-limited : IsLimited read_line
unfolding read_line
read_line-limited entries line long = rw (lt-ltb 40000000 (length line) long) refl

-- the entries so far were added, reading the whole input is reading on after them, and at most a piece of it is held
pub record Adding (start left : Option (List ℕ)) (held : List ℕ) (first writer : BbtWriter) (file : List ℕ) (before faults : ℕ) : Type 0 where
  pub entries : List Entry
  pub after : After writer first.options entries file
  pub said : IsReadTo read_line entries start left
  pub past : IsPast (length entries) start left
  pub short : length held ≤ 65536
  pub counts : faults ≡ before

-- a writer weighs less than the limit still leaves, by more after each entry
pub weight-falls : (writer next : BbtWriter) (options : BbtOptions) (entries : List Entry) (e : Entry) (bytes more : List ℕ) → After writer options entries bytes
    → After next options (entries ++ e ∷ []) more → 2 ^ 28 - next.weight < 2 ^ 28 - writer.weight
weight-falls writer next options entries e bytes more before after =
    let old = before.keeps.weighs in
    let new = after.keeps.weighs in
    let light = after.keeps.fits.light in
    let sum = weight-append entries e in
    omega arith

-- a writer of no entry is one with its own options
pub begun : (writer : BbtWriter) (options : BbtOptions) → After writer options [] [] → After writer writer.options [] []
begun writer options after = subst (λ (o : BbtOptions). After writer o [] []) (sym after.chosen) after

-- the writer took the entries of the whole input
pub holds_input : (first writer : BbtWriter) (bytes : List ℕ) (input left : Option (List ℕ)) (options : BbtOptions) → After first options [] []
    → HoldsInput writer first.options bytes input left → HoldsInput writer options bytes input left
holds_input first writer bytes input left options after holds =
    subst (λ (o : BbtOptions). HoldsInput writer o bytes input left) after.chosen holds
