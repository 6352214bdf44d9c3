use Rattle.std.proofs.Common.{ℕ, List, ◌++◌, refl, ap, ◌∙◌}
use Rattle.sst_num.specs.Spelling.{fixed}
use Rattle.sst_block.proofs.Held.{Keeps-new, MayStand-none}
use Rattle.sst_block.proofs.Putting.{pairs-none}
use Rattle.sst_block.proofs.builder.BlockBuilder.new.Goals as goal

pub returns-clause-rows : goal.returns-clause-rows
returns-clause-rows c = record {
  sound = refl;
  form_is = refl;
  interval_is = refl;
  keeps = Keeps-new c.args.form c.args.interval _ _ _ c.new.ensures.items (c.in_ok-put_fixed32.ensures.ok ∙ ap (λ (l : List ℕ). l ++ fixed 4 0) c.new-restarts.ensures.items) c.new-2.ensures.items;
  fits = MayStand-none c.args.form c.args.interval c.requires.least c.requires.most;
}

pub returns-clause-pairs : goal.returns-clause-pairs
returns-clause-pairs c = λ user_key delta is. pairs-none _ c.args.form user_key delta c.args.interval is (returns-clause-rows c)
