-- What a writer appends at the end is what stands behind the data blocks, and with it the file is the one of the list.
use Rattle.std.proofs.Common.{◌≡◌, ℕ, ◌+◌, ◌-◌, ◌^◌, ◌<◌, None, List, ◌++◌, length, length-append, refl, sym, ap, ◌∙◌, subst, append_assoc, arith}
use Rattle.std.proofs.lemmas.List.{append-nil}
use Rattle.sst_key.specs.declared.entries.Entry.{Entry}
use Rattle.sst_key.specs.Entry.{weight}
use Rattle.sst_num.specs.declared.block_handle.Handle.{Handle}
use Rattle.sst_index.specs.declared.flags.IndexFlags.{IndexFlags}
use Rattle.sst_index.specs.IndexBytes.{index_bytes, top_handle}
use Rattle.sst_meta.specs.Put.{ending_of}
use Rattle.sst_bbt_spec.specs.BlockBased.{BlockBased}
use Rattle.sst_bbt_write.specs.declared.bbt_writer.BbtWriter.{BbtWriter}
use Rattle.sst_bbt_write.specs.declared.bbt_options.BbtOptions.{BbtOptions}
use Rattle.sst_bbt_write.specs.declared.properties.Sizes.{Sizes}
use Rattle.sst_bbt_write.specs.Cut.{cut_of, ended_all, entries_in}
use Rattle.sst_bbt_write.specs.Keeps.{Keeps, all_ended}
use Rattle.sst_bbt_write.specs.Written.{Fits, MayBeChosen, Written, data_part, end_part, ends_of, file_of_blocks, flags_for, index_options, index_part, index_place, properties, sizes_of, table_of}
use Rattle.sst_bbt_write.proofs.CutSteps.{blocks-last}
use Rattle.sst_bbt_write.proofs.DataRoom.{data_part-le}
use Rattle.sst_bbt_write.proofs.IndexSize.{index_bytes-short}
use Rattle.sst_bbt_write.proofs.Stands.{stands}

-- what grew twice grew
pub grown : (old middle new : List ℕ) → ((rest : List ℕ) × (middle ≡ old ++ rest)) → ((rest : List ℕ) × (new ≡ middle ++ rest)) → (rest : List ℕ) × (new ≡ old ++ rest)
grown old middle new first second =
    (first.0 ++ second.0, second.1 ∙ ap (λ (l : List ℕ). l ++ second.0) first.1 ∙ append_assoc old first.0 second.0)

-- the numbers of the properties are those of the list
pub rest-sizes : (w : BbtWriter) (blocks : List (List Entry)) (entries : List Entry) (bytes out grown : List ℕ) (n : ℕ) → Keeps w None (all_ended blocks) entries bytes
    → grown ≡ out ++ index_part w.options blocks → n ≡ length grown - length out
    → ◌≡◌ {A = Sizes} (record { data_size = w.data_size; index_size = n; blocks = w.blocks; entries = w.count; keys = w.keys; values = w.values }) (sizes_of w.options blocks entries)
rest-sizes w blocks entries bytes out grown n kept put long =
    let size : n ≡ length (index_part w.options blocks) = omega (arith, long, ap length put, length-append out (index_part w.options blocks)) in
    let at : w.data_size ≡ length (data_part w.options blocks) = kept.data_size ∙ ap length kept.appended in
    rw (at, size, kept.blocks, kept.count, kept.keys, kept.values) refl

-- they fit their numbers
pub rest-base : (w : BbtWriter) (blocks : List (List Entry)) (entries : List Entry) (bytes : List ℕ) → Keeps w None (all_ended blocks) entries bytes → w.data_size < 2 ^ 40
rest-base w blocks entries bytes kept =
    let at : w.data_size ≡ length (data_part w.options blocks) = kept.data_size ∙ ap length kept.appended in
    let sum = ap weight kept.joined ∙ ap weight (append-nil (entries_in blocks)) in
    let light = kept.fits.light in
    omega (arith, at, sum, light, data_part-le w.options blocks kept.filled)

pub rest-fits : (w : BbtWriter) (blocks : List (List Entry)) (entries : List Entry) (bytes out grown : List ℕ) (n : ℕ) → Keeps w None (all_ended blocks) entries bytes
    → grown ≡ out ++ index_part w.options blocks → n ≡ length grown - length out → w.data_size + n < 2 ^ 60
rest-fits w blocks entries bytes out grown n kept put long =
    let size : n ≡ length (index_part w.options blocks) = omega (arith, long, ap length put, length-append out (index_part w.options blocks)) in
    let short = index_bytes-short (index_options w.options) (length (data_part w.options blocks)) (ends_of w.options blocks) kept.index.stand in
    omega (arith, rest-base w blocks entries bytes kept, size, short)

-- the index of the blocks is put
pub index-put : (w : BbtWriter) (blocks : List (List Entry)) (entries : List Entry) (bytes out grown : List ℕ) → Keeps w None (all_ended blocks) entries bytes
    → grown ≡ out ++ index_bytes (index_options w.options) w.data_size (ends_of w.options blocks) → grown ≡ out ++ index_part w.options blocks
index-put w blocks entries bytes out grown kept put =
    put ∙ ap (λ (n : ℕ). out ++ index_bytes (index_options w.options) n (ends_of w.options blocks)) (kept.data_size ∙ ap length kept.appended)

pub index-stands : (w : BbtWriter) (blocks : List (List Entry)) (entries : List Entry) (bytes : List ℕ) (index : Handle) → Keeps w None (all_ended blocks) entries bytes
    → index ≡ top_handle (index_options w.options) w.data_size (ends_of w.options blocks) → index ≡ index_place w.options blocks
index-stands w blocks entries bytes index kept is =
    is ∙ ap (λ (n : ℕ). top_handle (index_options w.options) n (ends_of w.options blocks)) (kept.data_size ∙ ap length kept.appended)

-- what is put behind the data blocks is what stands there
pub rest-is : (options : BbtOptions) (blocks : List (List Entry)) (entries : List Entry) (flags : IndexFlags) (index : Handle) (sizes : Sizes) (out grown new : List ℕ)
    → grown ≡ out ++ index_part options blocks → index ≡ index_place options blocks → flags ≡ flags_for options blocks → sizes ≡ sizes_of options blocks entries
    → new ≡ grown ++ ending_of (sizes.data_size + sizes.index_size) options.version index (properties options flags sizes)
    → new ≡ out ++ end_part options blocks (sizes_of options blocks entries)
rest-is options blocks entries flags index sizes out grown new put place flags_are sizes_are is =
    let s = sizes_of options blocks entries in
    let ending : IndexFlags → Handle → Sizes → List ℕ = λ f h n. ending_of (n.data_size + n.index_size) options.version h (properties options f n) in
    is ∙ ap (λ (f : IndexFlags). grown ++ ending f index sizes) flags_are
    ∙ ap (λ (h : Handle). grown ++ ending (flags_for options blocks) h sizes) place
    ∙ ap (λ (n : Sizes). grown ++ ending (flags_for options blocks) (index_place options blocks) n) sizes_are
    ∙ ap (λ (l : List ℕ). l ++ ending (flags_for options blocks) (index_place options blocks) s) put
    ∙ append_assoc out (index_part options blocks) (ending (flags_for options blocks) (index_place options blocks) s)

-- the file is then the one of the list
file-is : (options : BbtOptions) (entries : List Entry) (bytes piece : List ℕ) → bytes ++ piece ≡ data_part options (ended_all (cut_of options entries))
    → bytes ++ (piece ++ end_part options (ended_all (cut_of options entries)) (sizes_of options (ended_all (cut_of options entries)) entries)) ≡ table_of options entries
unfolding table_of
file-is options entries bytes piece put =
    let ended = ended_all (cut_of options entries) in
    let rest = end_part options ended (sizes_of options ended entries) in
    sym (append_assoc bytes piece rest) ∙ ap (λ (l : List ℕ). l ++ rest) put
    ∙ ap (λ (b : List (List Entry)). file_of_blocks options b entries) (blocks-last options entries)

pub finished : (options : BbtOptions) (entries : List Entry) (bytes piece : List ℕ) → MayBeChosen options → Fits entries
    → bytes ++ piece ≡ data_part options (ended_all (cut_of options entries))
    → Written options (bytes ++ (piece ++ end_part options (ended_all (cut_of options entries)) (sizes_of options (ended_all (cut_of options entries)) entries))) entries
finished options entries bytes piece chosen fits put =
    let file = file-is options entries bytes piece put in
    record { bytes = file; stands = subst (λ (f : List ℕ). BlockBased f entries) (sym file) (stands options entries chosen fits) }
