use Rattle.std.proofs.Common.{◌∷◌, take, drop, length-take, arith}
use Rattle.sst_text.proofs.lines.found_line.Goals as goal
use Rattle.sst_text.proofs.Cut.{cut-parts, cut-length}

pub returns-then-at-gt-LINE_LIMIT : goal.returns-then-at-gt-LINE_LIMIT
returns-then-at-gt-LINE_LIMIT c = λ left.
    let text = c.args.bytes.now in
    let rest = drop 1 (drop c.args.at text) in
    let parts = cut-parts 10 text (take c.args.at text) rest c.requires in
    let inside = cut-length 10 text rest c.args.at c.requires in
    record { front = take c.args.at text; rest = 10 ∷ rest; parts = parts.0; long = omega (arith, length-take c.args.at text); none = parts.1 }
