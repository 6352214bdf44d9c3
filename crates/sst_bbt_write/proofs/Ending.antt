-- The data block that isn't ended may be ended: the index takes it, and what the writer then keeps.
use Rattle.std.proofs.Common.{◌≡◌, inr, ℕ, ◌+◌, ◌^◌, ◌<◌, Option, None, List, [], ◌∷◌, ◌++◌, length, length-append, refl, sym, ap, ◌∙◌, subst, arith}
use Rattle.std.proofs.lemmas.List.{append-nil}
use Rattle.sst_key.specs.declared.entries.Entry.{Entry}
use Rattle.sst_key.specs.Entry.{key_of, weight}
use Rattle.sst_block.specs.declared.row_form.RowForm.TheVariants.{Entries}
use Rattle.sst_block.specs.declared.builder.BlockBuilder.{BlockBuilder}
use Rattle.sst_block.specs.Builder as builder
use Rattle.sst_block.specs.Builder.{last_key}
use Rattle.sst_device.specs.Framed.{frame_of}
use Rattle.sst_index.specs.declared.builder.IndexBuilder.{IndexBuilder}
use Rattle.sst_index.specs.Ends.{AreEnds, BlockEnd}
use Rattle.sst_index.specs.Index.{CanAdd, Holds}
use Rattle.sst_index.specs.IndexBytes.{IndexOptions}
use Rattle.sst_meta.proofs.FramedParts.{length-frame}
use Rattle.sst_bbt_spec.specs.Rows.{rows_of}
use Rattle.sst_bbt_write.specs.declared.bbt_writer.BbtWriter.{BbtWriter}
use Rattle.sst_bbt_write.specs.Cut.{Blocks, data_block, entries_in}
use Rattle.sst_bbt_write.specs.Keeps.{MayEnd, Keeps, ended_now}
use Rattle.sst_bbt_write.specs.Written.{Fits, data_part, ends_from, index_options, next_key}
use Rattle.sst_bbt_write.proofs.BlockEnds.{end_at, ends_from-more, ends-are}
use Rattle.sst_bbt_write.proofs.CutSteps.{AreOf, of-ended}
use Rattle.sst_bbt_write.proofs.DataRoom.{blocks-few, data-le, data_part-le, data_part-more, weight-both}
use Rattle.sst_bbt_write.specs.declared.bbt_options.BbtOptions.{BbtOptions}

-- the last key of a list is that of its end
last-of_back : (before : List ℕ) (front back : List Entry) → 0 < length back → last_key before (rows_of (front ++ back)) ≡ last_key [] (rows_of back)
last-of_back before [] [] some = absurd (omega arith)
last-of_back before [] (e ∷ rest) some = refl
last-of_back before (e ∷ front) back some = last-of_back (key_of e) front back some

-- the first key of a block with an entry, whatever comes behind
first-key : (block : List Entry) (a b : Option (List ℕ)) → 0 < length block → next_key (block ∷ []) a ≡ next_key (block ∷ []) b
first-key [] a b some = absurd (omega arith)
first-key (e ∷ rest) a b some = refl

pub of-kept : (w : BbtWriter) (next : Option (List ℕ)) (cut : Blocks) (entries : List Entry) (bytes : List ℕ) → Keeps w next cut entries bytes → AreOf entries cut
of-kept w next cut entries bytes kept = record { joined = kept.joined; filled = kept.filled }

-- what the index is given of the block
abbrev pub given_end : BbtWriter → List ℕ → Option (List ℕ) → ℕ → BlockEnd
given_end w last next size = record { last = last; next_first = next; handle = record { offset = w.data_size; size = size } }

-- what is known of it, and of the lengths
pub record IsGiven (w : BbtWriter) (last : List ℕ) (next : Option (List ℕ)) (cut : Blocks) (size : ℕ) : Type 0 where
  pub ends : ends_from w.options 0 cut.ended (next_key (cut.current ∷ []) None) ++ given_end w last next size ∷ []
      ≡ ends_from w.options 0 (cut.ended ++ cut.current ∷ []) next
  pub stand : AreEnds (ends_from w.options 0 cut.ended (next_key (cut.current ∷ []) None) ++ given_end w last next size ∷ [])
  pub blocks : w.blocks < 2 ^ 60
  pub stored : w.data_size + (size + 5) < 2 ^ 60

end-is : (options : BbtOptions) (last : List ℕ) (next : Option (List ℕ)) (offset size at : ℕ) (block : List Entry) → last ≡ last_key [] (rows_of block)
    → offset ≡ at → size ≡ length (data_block options block)
    → ◌≡◌ {A = BlockEnd} (record { last = last; next_first = next; handle = record { offset = offset; size = size } }) (end_at options at block next)
end-is options last next offset size at block key place long = rw (key, place, long) refl

pub is_given : (w : BbtWriter) (last : List ℕ) (next : Option (List ℕ)) (coming : List Entry) (cut : Blocks) (entries : List Entry) (bytes : List ℕ) (size : ℕ)
    → MayEnd w next coming cut entries bytes → last ≡ w.last.items → size ≡ length (data_block w.options cut.current) → IsGiven w last next cut size
is_given w last next coming cut entries bytes size ending last_is long =
    let kept = ending.keeps in
    let rows = kept.rows in
    let counted = ending.some in
    let some : 0 < length cut.current = omega arith in
    let are = of-kept w None cut entries bytes kept in
    let now = of-ended entries cut are some in
    let more = cut.ended ++ cut.current ∷ [] in
    let all : entries ≡ entries_in more = now.joined ∙ append-nil (entries_in more) in
    let key = last_is ∙ kept.last ∙ ap (λ (l : List Entry). last_key [] (rows_of l)) are.joined ∙ last-of_back [] (entries_in cut.ended) cut.current some in
    let at : w.data_size ≡ length (data_part w.options cut.ended) = kept.data_size ∙ ap length kept.appended in
    let place : w.data_size ≡ 0 + length (data_part w.options cut.ended) = omega (arith, at) in
    let ends = ap (λ (k : Option (List ℕ)). ends_from w.options 0 cut.ended k ++ given_end w last next size ∷ []) (first-key cut.current None next some)
    ∙ ap (λ (e : BlockEnd). ends_from w.options 0 cut.ended (next_key (cut.current ∷ []) next) ++ e ∷ [])
    (end-is w.options last next w.data_size size (0 + length (data_part w.options cut.ended)) cut.current key place long)
    ∙ sym (ends_from-more w.options 0 cut.ended cut.current next) in
    let stand = ends-are w.options more coming now.filled (subst (λ (l : List Entry). Fits (l ++ coming)) all ending.fits) in
    let sum = ap weight are.joined ∙ weight-both (entries_in cut.ended) cut.current in
    let light = kept.fits.light in
    let blocks = kept.blocks in
    record {
      ends = ends;
      stand = subst AreEnds (sym ends) (subst (λ (k : Option (List ℕ)). AreEnds (ends_from w.options 0 more k)) (sym ending.key) stand);
      blocks = omega (arith, blocks-few cut.ended are.filled);
      stored = omega (arith, data_part-le w.options cut.ended are.filled, data-le w.options cut.current);
    }

-- the index takes it
pub index_takes : (w : BbtWriter) (last : List ℕ) (next : Option (List ℕ)) (coming : List Entry) (cut : Blocks) (entries : List Entry) (bytes : List ℕ) (size : ℕ)
    → MayEnd w next coming cut entries bytes → last ≡ w.last.items → size ≡ length (data_block w.options cut.current) → CanAdd w.index (given_end w last next size)
index_takes w last next coming cut entries bytes size ending last_is long =
    let given = is_given w last next coming cut entries bytes size ending last_is long in
    inr (record {
      options = index_options w.options;
      ends = ends_from w.options 0 cut.ended (next_key (cut.current ∷ []) None);
      holds = ending.keeps.index;
      stand = given.stand;
    })

-- what the writer then keeps
pub ended_keeps : (w : BbtWriter) (last : List ℕ) (next : Option (List ℕ)) (coming : List Entry) (cut : Blocks) (entries : List Entry) (bytes : List ℕ) (size : ℕ)
    → MayEnd w next coming cut entries bytes → last ≡ w.last.items → size ≡ length (data_block w.options cut.current)
    → (empty : BlockBuilder) → builder.Holds empty Entries w.options.restart []
    → (block : List ℕ) → block ≡ data_block w.options cut.current
    → (index : IndexBuilder)
    → ((o : IndexOptions) (ends : List BlockEnd) → Holds w.index o ends → AreEnds (ends ++ given_end w last next size ∷ [])
    → Holds index o (ends ++ given_end w last next size ∷ []))
    → Keeps (record {
      alloc = w.alloc;
      options = w.options;
      block = empty;
      rows = 0;
      index = index;
      blocks = w.blocks + 1;
      data_size = w.data_size + (size + 5);
      last = w.last;
      key = w.key;
      count = w.count;
      keys = w.keys;
      values = w.values;
      weight = w.weight;
      failed = w.failed;
    }) next (ended_now cut) entries (bytes ++ frame_of block)
ended_keeps w last next coming cut entries bytes size ending last_is long empty none block block_is index added =
    let kept = ending.keeps in
    let rows = kept.rows in
    let counted = ending.some in
    let now = of-ended entries cut (of-kept w None cut entries bytes kept) (omega arith) in
    let given = is_given w last next coming cut entries bytes size ending last_is long in
    let put = added (index_options w.options) (ends_from w.options 0 cut.ended (next_key (cut.current ∷ []) None)) kept.index given.stand in
    let blocks = kept.blocks in
    let at = kept.data_size in
    record {
      sound = kept.sound;
      chosen = kept.chosen;
      joined = now.joined;
      filled = now.filled;
      block = none;
      rows = refl;
      index = subst (λ (l : List BlockEnd). Holds index (index_options w.options) l) given.ends put;
      blocks = omega (arith, length-append cut.ended (cut.current ∷ []));
      data_size = omega (arith, length-append bytes (frame_of block), length-frame block, long, ap length block_is);
      appended = ap (λ (l : List ℕ). l ++ frame_of block) kept.appended ∙ ap (λ (l : List ℕ). data_part w.options cut.ended ++ frame_of l) block_is ∙ sym (data_part-more w.options cut.ended cut.current);
      last = kept.last;
      count = kept.count;
      keys = kept.keys;
      values = kept.values;
      weighs = kept.weighs;
      fits = kept.fits;
    }
