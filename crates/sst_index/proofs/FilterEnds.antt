-- What a builder of a filter in parts writes at its end.
use Rattle.std.proofs.Common.{◌≡◌, inl, inr, ℕ, ◌+◌, ◌≤◌, false, List, [], ◌∷◌, ◌++◌, length, length-append, sum_by, refl, sym, ap, ◌∙◌, subst, append_assoc, arith}
use Rattle.std.proofs.lemmas.List.{length-map}
use Rattle.std.proofs.lemmas.List.Sums.{sum_by-cons}
use Rattle.sst_num.specs.declared.block_handle.Handle.{Handle}
use Rattle.sst_bloom.specs.Filter.{bloom_filter}
use Rattle.sst_device.specs.Framed.{frame_of}
use Rattle.sst_index.specs.declared.builder.IndexBuilder.{IndexBuilder}
use Rattle.sst_index.specs.declared.filter_parts.PartFilterBuilder.{PartFilterBuilder}
use Rattle.sst_index.specs.declared.flags.IndexFlags.{IndexFlags}
use Rattle.sst_index.specs.Ends.{BlockEnd, flags_of}
use Rattle.sst_index.specs.FilterBytes.{filter_bytes, filter_handle, filter_sizes, filter_top, leading_pairs, part_separators, stored_filters, stored_size}
use Rattle.sst_index.specs.FilterParts.{CanEnd, HoldsParts}
use Rattle.sst_index.specs.Index.{Holds, IsReady, kept_pairs}
use Rattle.sst_index.specs.IndexBlock.{index_block}
use Rattle.sst_index.specs.IndexBytes.{IndexOptions, top_separators}
use Rattle.sst_index.proofs.Kept.{ready, keys_same}
use Rattle.sst_index.proofs.Parts.{length-frame}

-- the filters take as many bytes as their sizes say
pub stored-length : (bits : ℕ) (parts : List (List (List ℕ))) → sum_by stored_size (filter_sizes bits parts) ≡ length (stored_filters bits parts)
stored-length bits [] = refl
stored-length bits (part ∷ parts) =
    let filter = bloom_filter bits part in
    omega (
      arith,
      sum_by-cons stored_size (length filter) (filter_sizes bits parts),
      stored-length bits parts,
      length-frame filter,
      length-append (frame_of filter) (stored_filters bits parts),
    )

-- the flags are those of the index
abbrev pub AreFlags : IndexBuilder → IndexFlags → Type 0
AreFlags index flags = (o : IndexOptions) (blocks : List BlockEnd) → Holds index o blocks → flags ≡ flags_of o.version blocks

pub end-ready : (b : PartFilterBuilder) (index : IndexBuilder) (flags : IndexFlags) → b.failed ≡ false → CanEnd b index → AreFlags index flags → IsReady index flags
end-ready b index flags sound (inl failed) are = cc
end-ready b index flags sound (inr all) are =
    subst (λ (f : IndexFlags). IsReady index f) (sym (are all.options all.blocks all.leads)) (ready index all.options all.blocks all.leads)

pub end-sizes : (b : PartFilterBuilder) (index : IndexBuilder) → b.failed ≡ false → CanEnd b index → sum_by stored_size b.sizes.items ≡ length b.stored.items
end-sizes b index sound (inl failed) = cc
end-sizes b index sound (inr all) =
    ap (sum_by stored_size) all.holds.sizes_are ∙ stored-length all.bits all.parts ∙ sym (ap length all.holds.stored_is)

pub end-rows : (b : PartFilterBuilder) (index : IndexBuilder) (flags : IndexFlags) → b.failed ≡ false → CanEnd b index → AreFlags index flags
    → length b.sizes.items ≤ length (top_separators index.parts (kept_pairs flags.user_key index))
end-rows b index flags sound (inl failed) are = cc
end-rows b index flags sound (inr all) are =
    omega (
      arith,
      ap length all.holds.sizes_are,
      length-map all.parts (λ (part : List (List ℕ)). length (bloom_filter all.bits part)),
      all.many,
      ap length (keys_same index all.options all.blocks flags all.leads (are all.options all.blocks all.leads)),
    )

-- the top block that is made
abbrev pub made_top : IndexBuilder → IndexFlags → ℕ → ℕ → List ℕ → List ℕ
made_top index flags interval base sizes = index_block flags interval (leading_pairs base (top_separators index.parts (kept_pairs flags.user_key index)) sizes)

pub end-top : (b : PartFilterBuilder) (index : IndexBuilder) (flags : IndexFlags) (interval base bits : ℕ) (parts : List (List (List ℕ))) (o : IndexOptions) (blocks : List BlockEnd)
    → HoldsParts b bits parts [] → Holds index o blocks → AreFlags index flags
    → made_top index flags interval base b.sizes.items ≡ filter_top (flags_of o.version blocks) interval bits base (part_separators o blocks) parts
end-top b index flags interval base bits parts o blocks holds leads are =
    let e = are o blocks leads in
    ap (λ (keys : List (List ℕ)). index_block flags interval (leading_pairs base keys b.sizes.items)) (keys_same index o blocks flags leads e)
    ∙ ap (λ (sizes : List ℕ). index_block flags interval (leading_pairs base (part_separators o blocks) sizes)) holds.sizes_are
    ∙ ap (λ (f : IndexFlags). filter_top f interval bits base (part_separators o blocks) parts) e

pub end-bytes : (b : PartFilterBuilder) (index : IndexBuilder) (flags : IndexFlags) (interval base bits : ℕ) (parts : List (List (List ℕ))) (o : IndexOptions) (blocks : List BlockEnd)
    (old put new top : List ℕ) → HoldsParts b bits parts [] → Holds index o blocks → AreFlags index flags → top ≡ made_top index flags interval base b.sizes.items
    → put ≡ old ++ b.stored.items → new ≡ put ++ frame_of top
    → new ≡ old ++ filter_bytes (flags_of o.version blocks) interval bits base (part_separators o blocks) parts
end-bytes b index flags interval base bits parts o blocks old put new top holds leads are is stored done =
    let whole = is ∙ end-top b index flags interval base bits parts o blocks holds leads are in
    done ∙ ap (λ (l : List ℕ). l ++ frame_of top) (stored ∙ ap (λ (l : List ℕ). old ++ l) holds.stored_is)
    ∙ append_assoc old (stored_filters bits parts) (frame_of top)
    ∙ ap (λ (l : List ℕ). old ++ (stored_filters bits parts ++ frame_of l)) whole

pub end-handle : (b : PartFilterBuilder) (index : IndexBuilder) (flags : IndexFlags) (interval base bits : ℕ) (parts : List (List (List ℕ))) (o : IndexOptions) (blocks : List BlockEnd)
    (top : List ℕ) (h : Handle) → HoldsParts b bits parts [] → Holds index o blocks → AreFlags index flags → top ≡ made_top index flags interval base b.sizes.items
    → h ≡ record { offset = base + length b.stored.items; size = length top }
    → h ≡ filter_handle (flags_of o.version blocks) interval bits base (part_separators o blocks) parts
end-handle b index flags interval base bits parts o blocks top h holds leads are is stands =
    let whole = is ∙ end-top b index flags interval base bits parts o blocks holds leads are in
    stands ∙ ap (λ (l : List ℕ). record { offset = base + length l; size = length top }) holds.stored_is
    ∙ ap (λ (l : List ℕ). record { offset = base + length (stored_filters bits parts); size = length l }) whole
