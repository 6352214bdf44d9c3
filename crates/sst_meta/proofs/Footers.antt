-- How a footer is put: its handles, zeros, its back.
use Rattle.std.proofs.Common.{◌≡◌, ℕ, ◌+◌, ◌-◌, ◌≤◌, List, ◌++◌, length, take, replicate, ap, ◌∙◌, length-append, append_assoc, arith}
use Rattle.std.proofs.lemmas.List.{take_all}
use Rattle.sst_num.specs.declared.block_handle.Handle.{Handle}
use Rattle.sst_num.specs.Spelling.{varint, handle_spelling}
use Rattle.sst_block.proofs.Size.{length-varint}
use Rattle.sst_meta.specs.Footer.{two_handles, handle_zeros}

-- a handle is spelled in at most twenty bytes
pub length-handle : (h : Handle) → length (handle_spelling h) ≤ 20
length-handle h = omega (arith, length-append (varint h.offset) (varint h.size), length-varint h.offset, length-varint h.size)

-- two handles end before their padding must
pub length-two_handles : (metaindex index : Handle) → length (two_handles metaindex index) ≤ 40
length-two_handles metaindex index =
    omega (arith, length-append (handle_spelling metaindex) (handle_spelling index), length-handle metaindex, length-handle index)

-- the handles and their padding, after what stood there
pub padded : (old second third new : List ℕ) (metaindex index : Handle) (start len : ℕ)
    → second ≡ old ++ handle_spelling metaindex → third ≡ second ++ handle_spelling index
    → start ≡ length old → len ≡ length third
    → new ≡ take (start + 40) third ++ replicate (start + 40 - len) 0
    → new ≡ old ++ (two_handles metaindex index ++ handle_zeros metaindex index)
padded old second third new metaindex index start len b c at long e =
    let front : List ℕ = two_handles metaindex index in
    let whole : third ≡ old ++ front =
    c ∙ ap (λ (x : List ℕ). x ++ handle_spelling index) b ∙ append_assoc old (handle_spelling metaindex) (handle_spelling index) in
    let sum = ap length whole ∙ length-append old front in
    let short = length-two_handles metaindex index in
    let all : take (start + 40) third ≡ third = take_all (start + 40) third (omega arith) in
    let zeros : start + 40 - len ≡ 40 - length front = omega arith in
    e ∙ rw (all, zeros, whole) (append_assoc old front (replicate (40 - length front) 0))

-- parts that are appended one after another
pub appended_four : (old first second third new c h z v m : List ℕ) → first ≡ old ++ c → second ≡ first ++ (h ++ z) → third ≡ second ++ v → new ≡ third ++ m
    → new ≡ old ++ (c ++ (h ++ (z ++ (v ++ m))))
appended_four old first second third new c h z v m a b d e =
    e ∙ ap (λ (x : List ℕ). x ++ m) (d ∙ ap (λ (x : List ℕ). x ++ v) (b ∙ ap (λ (x : List ℕ). x ++ (h ++ z)) a))
    ∙ append_assoc ((old ++ c) ++ (h ++ z)) v m
    ∙ append_assoc (old ++ c) (h ++ z) (v ++ m)
    ∙ append_assoc old c ((h ++ z) ++ (v ++ m))
    ∙ ap (λ (x : List ℕ). old ++ (c ++ x)) (append_assoc h z (v ++ m))
