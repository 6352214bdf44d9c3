use Rattle.std.proofs.Common.{◌≡◌, ◌∙◌, ◌++◌, ◌<◌, ℕ, get_or, length, arith, ap, subst, List}
use Rattle.sst_sums.proofs.Words.{four_words}
use Rattle.sst_sums.proofs.checksum.after_thirty_two.Goals as goal

pub returns : goal.returns
returns c =
    let a = c.split_at.result.0.now in
    let b = c.split_at-2.result.0.now in
    let third = c.split_at-3.result.0.now in
    let d = c.split_at-3.result.1.now in
    let parts : c.args.wide.now ≡ a ++ (b ++ (third ++ d)) =
    c.split_at.ensures.by_index.0 ∙ ap (λ l. a ++ l) (c.split_at-2.ensures.by_index.0 ∙ ap (λ l. b ++ l) c.split_at-3.ensures.by_index.0) in
    let fits = subst (λ (l : List ℕ). (k : ℕ) → get_or l k 0 < 256) parts (λ k. omega (arith, c.type_inv.wide k)) in
    let last : length d ≡ 8 = omega (arith, c.split_at.ensures.back_len, c.split_at-2.ensures.back_len, c.split_at-3.ensures.back_len, c.requires) in
    rw (
      c.word_with_zeros.ensures,
      c.word_with_zeros-2.ensures,
      c.word_with_zeros-3.ensures,
      c.word_with_zeros-4.ensures,
      c.from.ensures,
      c.read_u64.ensures,
      c.read_u64-2.ensures,
      c.read_u64-3.ensures,
      c.read_u64-4.ensures,
      parts,
    )
    (four_words c.args.remainder a b third d fits c.split_at.ensures.front_len c.split_at-2.ensures.front_len c.split_at-3.ensures.front_len last)
