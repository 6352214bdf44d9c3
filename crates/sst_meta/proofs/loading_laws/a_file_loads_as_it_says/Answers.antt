use Rattle.sst_meta.proofs.LoadsRead.{load-complete, load-sound, load-one}
use Rattle.sst_meta.proofs.loading_laws.a_file_loads_as_it_says.Goals as goal

pub returns : goal.returns
returns c = record { complete = load-complete; sound = load-sound; one = load-one }
