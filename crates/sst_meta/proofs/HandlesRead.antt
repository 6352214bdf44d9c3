-- The two handles of a footer are read from their spellings.
use Rattle.std.proofs.Common.{◌≡◌, ℕ, List, ◌++◌, length, drop, Option, None, Some, refl, sym, ap, subst, ◌∙◌}
use Rattle.std.proofs.lemmas.List.{drop_at}
use Rattle.sst_num.specs.Spelling.{handle_spelling}
use Rattle.sst_num.specs.NumberReading.{handle_at}
use Rattle.sst_num.specs.declared.block_handle.Handle.{Handle}
use Rattle.sst_num.proofs.NumberReading.{handle_at-handle, handle_at-found}
use Rattle.sst_meta.specs.Footer.{AreHandles}
use Rattle.sst_meta.specs.FooterReading.{second_handle, handles_after, handles_read}

-- two handles are read from their spellings
pub handles_read-spelled : (metaindex index : Handle) (between : List ℕ) → AreHandles metaindex index between
    → handles_read between ≡ Some (metaindex, index)
unfolding handles_read
handles_read-spelled metaindex index between are =
    let rest : List ℕ = handle_spelling index ++ are.4.0 in
    let first : handle_at between ≡ Some (metaindex, length (handle_spelling metaindex)) =
    ap handle_at are.4.1 ∙ handle_at-handle metaindex rest are.0 are.1 in
    let left : drop (length (handle_spelling metaindex)) between ≡ rest =
    ap (drop (length (handle_spelling metaindex))) are.4.1 ∙ drop_at (handle_spelling metaindex) rest (length (handle_spelling metaindex)) refl in
    let second : handle_at (drop (length (handle_spelling metaindex)) between) ≡ Some (index, length (handle_spelling index)) =
    ap handle_at left ∙ handle_at-handle index are.4.0 are.2 are.3 in
    ap (handles_after between) first ∙ ap (second_handle metaindex) second

-- what was read stands there
handles-joined : (a b : Handle × ℕ) (between : List ℕ) → handle_at between ≡ Some a → handle_at (drop a.1 between) ≡ Some b → AreHandles a.0 b.0 between
handles-joined a b between first second =
    let x = handle_at-found a.0 a.1 between first in
    let y = handle_at-found b.0 b.1 (drop a.1 between) second in
    let left : drop a.1 between ≡ x.0.0 =
    ap (λ (k : ℕ). drop k between) x.0.2 ∙ ap (drop (length (handle_spelling a.0))) x.0.1 ∙ drop_at (handle_spelling a.0) x.0.0 (length (handle_spelling a.0)) refl in
    (x.1, x.2, y.1, y.2, (y.0.0, x.0.1 ∙ ap (λ (l : List ℕ). handle_spelling a.0 ++ l) (sym left ∙ y.0.1)))

pub handles_read-found : (handles : Handle × Handle) (between : List ℕ) → handles_read between ≡ Some handles → AreHandles handles.0 handles.1 between
unfolding handles_read
handles_read-found handles between e =
    elim (handle_at between) as (λ (o : Option (Handle × ℕ)). handle_at between ≡ o → handles_after between o ≡ Some handles → AreHandles handles.0 handles.1 between) [
      | None ↦ λ _ e. cc
      | Some a ↦ λ first e.
          elim (handle_at (drop a.1 between)) as (λ (o : Option (Handle × ℕ)). handle_at (drop a.1 between) ≡ o → second_handle a.0 o ≡ Some handles → AreHandles handles.0 handles.1 between) [
            | None ↦ λ _ e. cc
            | Some b ↦ λ second e.
                let same : ◌≡◌ {A = Handle × Handle} (a.0, b.0) handles = cc in
                subst (λ (h : Handle × Handle). AreHandles h.0 h.1 between) same (handles-joined a b between first second)
          ] refl e
    ] refl e
