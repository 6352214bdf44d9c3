use Rattle.std.proofs.Common.{List, ℕ, slice_get, sym, ap, ◌∙◌}
use Rattle.sst_index.proofs.Kept.{ready_some, row_within, keys_same}
use Rattle.sst_index.proofs.builder.IndexBuilder.separator.Goals as goal

pub top_key-requires-clause-ready : goal.top_key-requires-clause-ready
top_key-requires-clause-ready c = let (o, ends, holds, row) = c.requires in ready_some c.args.self.now o ends holds

pub top_key-requires-clause-row : goal.top_key-requires-clause-row
top_key-requires-clause-row c =
    let (o, ends, holds, row) = c.requires in
    row_within c.args.self.now c.args.row c.flags-flags.result o ends holds (c.flags-flags.ensures o ends holds) row

pub returns : goal.returns
returns c = record {
  exact = λ o ends holds.
      ap (λ (l : List (List ℕ)). slice_get l c.args.row) (sym (keys_same c.args.self.now o ends c.flags-flags.result holds (c.flags-flags.ensures o ends holds)))
      ∙ c.top_key.ensures;
}
