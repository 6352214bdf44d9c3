use Rattle.sst_meta.proofs.PutLoads.{put-loads}
use Rattle.sst_meta.proofs.loading_laws.what_is_put_is_loaded.Goals as goal

pub returns : goal.returns
returns c = put-loads
