use Rattle.sst_index.specs.Index.{kept_pairs}
use Rattle.sst_index.specs.IndexBytes.{top_separators}
use Rattle.sst_index.specs.Parted.{LeadsSoFar}
use Rattle.sst_index.proofs.filter_parts.top_of.Given as goal

-- the top block leads to the parts so far
abbrev pub invariant-loop-row : goal.invariant-loop-row
invariant-loop-row l =
    LeadsSoFar l.flags l.interval l.base (top_separators l.index.parts (kept_pairs l.flags.user_key l.index)) l.sizes l.row l.at l.top
