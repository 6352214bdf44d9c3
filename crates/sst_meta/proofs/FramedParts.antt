-- A stored block stands in a file behind what is before it.
use Rattle.std.proofs.Common.{◌≡◌, ℕ, ◌+◌, ◌^◌, ◌≤◌, List, ◌++◌, length, length-append, refl, sym, subst, arith}
use Rattle.sst_device.specs.Framed.{Framed, frame_of, trailer_of}
use Rattle.sst_device.proofs.Frames.{frame-framed}

length-trailer : (block : List ℕ) → length (trailer_of block) ≡ 5
unfolding trailer_of
length-trailer block = refl

-- a stored block is five bytes longer than the block
pub length-frame : (block : List ℕ) → length (frame_of block) ≡ length block + 5
length-frame block = omega (arith, length-append block (trailer_of block), length-trailer block)

-- a file that is parted at a stored block has it there
pub framed-at : (file front block rest : List ℕ) (at end : ℕ) → file ≡ front ++ (frame_of block ++ rest) → at ≡ length front → length block ≤ 2 ^ 29
    → at + length block + 5 ≤ end → Framed file end (record { offset = at; size = length block }) block
framed-at file front block rest at end is place small within =
    let there = frame-framed front block rest end small (omega (arith, place, within)) in
    subst (λ (l : List ℕ). Framed l end (record { offset = at; size = length block }) block) (sym is)
    (subst (λ (n : ℕ). Framed (front ++ (frame_of block ++ rest)) end (record { offset = n; size = length block }) block) (sym place) there)
