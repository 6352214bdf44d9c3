use Rattle.std.proofs.Common.{◌≡◌, ◌∙◌, ◌++◌, [], ◌-◌, ◌*◌, ℕ, List, length, take, drop, replicate, zero, suc, refl, ap, ap₂, arith}
use Rattle.std.specs.Vec.{vec_len}
use Rattle.sst_bloom.proofs.Only.{lines_made}
use Rattle.sst_bloom.proofs.builder.lines_with.Goals as goal

-- a list of none, filled up with zeros
none_taken : (n : ℕ) → take {A = ℕ} n [] ≡ []
none_taken zero = refl
none_taken (suc n) = refl

emptied : (items : List ℕ) (n m len : ℕ) → n ≡ m → items ≡ [] → len ≡ 0 → take n items ++ replicate (n - len) 0 ≡ replicate m 0
emptied items n m len same none len_is =
    let filled : n - len ≡ m = omega arith in
    ap₂ (λ (l : List ℕ) (k : ℕ). l ++ replicate k 0) (ap (take n) none ∙ none_taken n) filled

pub returns : goal.returns
returns c =
    let resized = c.resize.new.self.items in
    let new = c.set_all.new.body in
    let zeros : resized ≡ replicate (64 * c.args.lines) 0 = c.in_ok-resize.ensures.items ∙ emptied c.in_ok-body.body.items (c.args.lines * 64) (64 * c.args.lines) (vec_len c.in_ok-body.body) (omega arith) c.in_ok-body.ensures.items c.in_ok-body.ensures.len in
    lines_made c.args.lines c.args.probes c.resize.new.self.len c.args.hashes.now resized c.as_mut_slice.result.now new (drop (length new) resized)
    (omega (arith, c.in_ok-resize.ensures.len)) zeros c.as_mut_slice.ensures.value c.set_all.auto.body c.set_all.ensures.bytes c.set_all.ensures.bits
