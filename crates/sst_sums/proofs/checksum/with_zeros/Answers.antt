-- The tables are those of their definition, computed once for all their entries.
use Rattle.std.proofs.Common.{◌≡◌, ℕ, ◌+◌, ◌%◌, ◌<◌, List, [], map, get_or, refl, sym, ap, ◌∙◌, arith, subst}
use Rattle.std.proofs.lemmas.Nat.{and_mask}
use Rattle.std.proofs.lemmas.List.FromFn.{get_or-map-range_with_len}
use Rattle.std.specs.List.{range_with_len}
use Rattle.sst_sums.specs.Slices.{octet, octets}
use Rattle.sst_sums.specs.declared.tables.TheConstants.{TABLES}
use Rattle.sst_sums.proofs.checksum.with_zeros.Goals as goal

row : ℕ → List ℕ
row k = map (octets (k + 1)) (range_with_len 0 256)

tables_are : TABLES ≡ map row (range_with_len 0 32)
unfolding octet octets row
tables_are = refl

entry : (k x : ℕ) → k < 32 → x < 256 → get_or (get_or TABLES k []) x 0 ≡ octets (k + 1) x
unfolding row
entry k x small byte =
    ap (λ tables. get_or (get_or tables k []) x 0) tables_are
    ∙ ap (λ table. get_or table x 0) (get_or-map-range_with_len row 0 32 k k [] small (omega arith))
    ∙ get_or-map-range_with_len (octets (k + 1)) 0 256 x x 0 byte (omega arith)

pub returns : goal.returns
returns c =
    subst (λ (x : ℕ). get_or (get_or TABLES c.args.zeros []) x 0 ≡ octets (c.args.zeros + 1) (c.args.mixed % 256))
    (sym (and_mask c.args.mixed 8))
    (entry c.args.zeros (c.args.mixed % 256) c.requires (omega arith))
