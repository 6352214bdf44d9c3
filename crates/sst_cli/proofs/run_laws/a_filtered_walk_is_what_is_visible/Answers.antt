use Rattle.sst_cli.proofs.VisibleWalk.{shown-visible}
use Rattle.sst_cli.proofs.run_laws.a_filtered_walk_is_what_is_visible.Goals as goal

pub returns : goal.returns
returns c = shown-visible
