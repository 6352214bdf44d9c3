use Rattle.std.proofs.Common.{◌≡◌, inr, [], ◌∷◌, length, sym, ◌∙◌, arith}
use Rattle.sst_tests_blocks.proofs.filter_parts.two_parts.Goals as goal

pub cut-requires : goal.cut-requires
cut-requires c =
    let one = c.in_ok-add.ensures.ok 10 [] [] c.new-filter.ensures.holds in
    inr (record { bits = 10; parts = []; users = c.args.first.now ∷ []; holds = one; some = omega arith })

pub add-requires-2 : goal.add-requires-2
add-requires-2 c =
    let one = c.in_ok-add.ensures.ok 10 [] [] c.new-filter.ensures.holds in
    let cut = c.in_ok-cut.ensures.ok 10 [] (c.args.first.now ∷ []) one in
    inr (record { bits = 10; parts = (c.args.first.now ∷ []) ∷ []; users = []; holds = cut; below = omega arith })

pub cut-requires-2 : goal.cut-requires-2
cut-requires-2 c =
    let first = c.args.first.now ∷ [] in
    let one = c.in_ok-add.ensures.ok 10 [] [] c.new-filter.ensures.holds in
    let cut = c.in_ok-cut.ensures.ok 10 [] first one in
    let two = c.in_ok-add-2.ensures.ok 10 (first ∷ []) [] cut in
    inr (record { bits = 10; parts = first ∷ []; users = c.args.second.now ∷ []; holds = two; some = omega arith })

pub finish-requires-clause-state : goal.finish-requires-clause-state
finish-requires-clause-state c =
    let first = c.args.first.now ∷ [] in
    let second = c.args.second.now ∷ [] in
    let one = c.in_ok-add.ensures.ok 10 [] [] c.new-filter.ensures.holds in
    let cut = c.in_ok-cut.ensures.ok 10 [] first one in
    let two = c.in_ok-add-2.ensures.ok 10 (first ∷ []) [] cut in
    let whole = c.in_ok-cut-2.ensures.ok 10 (first ∷ []) second two in
    let (options, blocks, leads, many) = c.requires.index in
    inr (record { bits = 10; parts = first ∷ second ∷ []; options = options; blocks = blocks; holds = whole; leads = leads; many = sym many })
