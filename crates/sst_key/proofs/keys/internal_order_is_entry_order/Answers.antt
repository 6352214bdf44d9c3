use Rattle.sst_key.proofs.KeyParts.{internal_cmp-entries, IsBefore-from_less, less-from_IsBefore}
use Rattle.std.proofs.Common.{sym, ◌∙◌}
use Rattle.sst_key.proofs.keys.internal_order_is_entry_order.Goals as goal

pub returns : goal.returns
returns c = λ x y hx hy. (
  λ less. IsBefore-from_less x y (sym (internal_cmp-entries x y hx hy) ∙ less),
  λ before. internal_cmp-entries x y hx hy ∙ less-from_IsBefore x y before,
)
