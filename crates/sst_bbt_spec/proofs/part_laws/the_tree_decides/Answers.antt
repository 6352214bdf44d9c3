use Rattle.std.proofs.Common.{refl}
use Rattle.sst_bbt_spec.proofs.part_laws.the_tree_decides.Goals as goal

pub returns-clause-runs : goal.returns-clause-runs
returns-clause-runs c =
    record {
      separated = ((λ e. cc, tt, tt), λ e. cc, refl, ((λ e. cc, tt, tt), λ e. cc, tt, tt));
      joined_is = refl;
    }

pub returns-clause-crosses : goal.returns-clause-crosses
returns-clause-crosses c = λ entries runs. let after = runs.separated.2 in cc
