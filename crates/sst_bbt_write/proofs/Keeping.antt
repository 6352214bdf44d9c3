-- What a writer keeps, between its calls and with another key at hand.
use Rattle.std.proofs.Common.{◌≡◌, ℕ, ◌<◌, false, Option, None, List, [], ◌∷◌, ◌++◌, length, refl, sym, ap, subst, arith}
use Rattle.std.proofs.lemmas.List.{append-nil}
use Rattle.std.proofs.lemmas.List.Elements.{All-nil}
use Rattle.sst_key.specs.declared.entries.Entry.{Entry}
use Rattle.sst_block.specs.declared.row_form.RowForm.TheVariants.{Entries}
use Rattle.sst_block.specs.Builder.{Holds}
use Rattle.sst_index.specs.Index as index
use Rattle.sst_bbt_write.specs.declared.bbt_writer.BbtWriter.{BbtWriter}
use Rattle.sst_bbt_write.specs.declared.bbt_options.BbtOptions.{BbtOptions}
use Rattle.sst_bbt_write.specs.After.{After}
use Rattle.sst_bbt_write.specs.Cut.{Blocks, cut_of}
use Rattle.sst_bbt_write.specs.Keeps.{MayEnd, HasEntry, Keeps, with_room, with_entry}
use Rattle.sst_bbt_write.specs.Written.{Fits, MayBeChosen, ends_from, index_options, next_key}
use Rattle.sst_bbt_write.proofs.CutSteps.{cut_of-steps}
use Rattle.sst_bbt_write.proofs.Rows.{Fits-nil}

-- the block has an entry where it counts a row
pub kept-some : (w : BbtWriter) (next : Option (List ℕ)) (cut : Blocks) (entries : List Entry) (bytes : List ℕ) → Keeps w next cut entries bytes → 0 < w.rows → 0 < length cut.current
kept-some w next cut entries bytes kept some = let rows = kept.rows in omega arith

-- the last block may be ended
pub ends-last : (w : BbtWriter) (cut : Blocks) (entries : List Entry) (bytes : List ℕ) → Keeps w None cut entries bytes → 0 < w.rows → MayEnd w None [] cut entries bytes
ends-last w cut entries bytes kept some =
    record { keeps = kept; some = some; key = refl; fits = subst Fits (sym (append-nil entries)) kept.fits }

-- so it is when an entry was added in its two steps
pub after-added : (w : BbtWriter) (options : BbtOptions) (entries : List Entry) (e : Entry) (bytes : List ℕ) → w.options ≡ options
    → Keeps w None (with_entry (with_room options (cut_of options entries)) e) (entries ++ e ∷ []) bytes → After w options (entries ++ e ∷ []) bytes
after-added w options entries e bytes same kept =
    record {
      chosen = same;
      keeps = subst (λ (b : Blocks). Keeps w None b (entries ++ e ∷ []) bytes) (sym (cut_of-steps options entries e)) kept;
    }

-- the room that a writer makes is that of its options
pub room-of : (w : BbtWriter) (options : BbtOptions) (cut : Blocks) → w.options ≡ options → with_room w.options cut ≡ with_room options cut
room-of w options cut same = ap (λ (o : BbtOptions). with_room o cut) same

-- the other writer is this one, but for the key at hand
abbrev pub IsAlike : BbtWriter → BbtWriter → Type 0
IsAlike w new =
    new ≡ record {
      alloc = w.alloc;
      options = w.options;
      block = w.block;
      rows = w.rows;
      index = w.index;
      blocks = w.blocks;
      data_size = w.data_size;
      last = w.last;
      key = new.key;
      count = w.count;
      keys = w.keys;
      values = w.values;
      weight = w.weight;
      failed = w.failed;
    }

-- what a writer keeps it keeps with another key at hand, told of another entry behind the list
pub keeps-with : (w new : BbtWriter) (next told : Option (List ℕ)) (cut : Blocks) (entries : List Entry) (bytes : List ℕ) → Keeps w next cut entries bytes
    → index.Holds w.index (index_options w.options) (ends_from w.options 0 cut.ended (next_key (cut.current ∷ []) told))
    → IsAlike w new → Keeps new told cut entries bytes
keeps-with w new next told cut entries bytes kept holds same =
    subst (λ (b : BbtWriter). Keeps b told cut entries bytes) (sym same)
    (record {
      sound = kept.sound;
      chosen = kept.chosen;
      joined = kept.joined;
      filled = kept.filled;
      block = kept.block;
      rows = kept.rows;
      index = holds;
      blocks = kept.blocks;
      data_size = kept.data_size;
      appended = kept.appended;
      last = kept.last;
      count = kept.count;
      keys = kept.keys;
      values = kept.values;
      weighs = kept.weighs;
      fits = kept.fits;
    })

pub keeps-other : (w new : BbtWriter) (next : Option (List ℕ)) (cut : Blocks) (entries : List Entry) (bytes : List ℕ) → Keeps w next cut entries bytes
    → IsAlike w new → Keeps new next cut entries bytes
keeps-other w new next cut entries bytes kept same = keeps-with w new next next cut entries bytes kept kept.index same

-- a writer keeps the list of no entry
pub after-none : (w : BbtWriter) (options : BbtOptions) → w.options ≡ options → MayBeChosen w.options → w.failed ≡ false → Holds w.block Entries w.options.restart [] → w.rows ≡ 0 → index.Holds w.index (index_options w.options) []
    → w.blocks ≡ 0 → w.data_size ≡ 0 → w.last.items ≡ [] → w.count ≡ 0 → w.keys ≡ 0 → w.values ≡ 0 → w.weight ≡ 0 → After w options [] []
unfolding cut_of
after-none w options same chosen sound block rows index_holds blocks data_size last count keys values weighs =
    record {
      chosen = same;
      keeps = record {
        sound = sound;
        chosen = chosen;
        joined = refl;
        filled = All-nil HasEntry;
        block = block;
        rows = rows;
        index = index_holds;
        blocks = blocks;
        data_size = data_size;
        appended = refl;
        last = last;
        count = count;
        keys = keys;
        values = values;
        weighs = weighs;
        fits = Fits-nil;
      };
    }
