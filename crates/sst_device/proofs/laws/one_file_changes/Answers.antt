use Rattle.sst_device.proofs.FolderLaws.{put-there, put-no-other, edit-there, edit-no-other}
use Rattle.sst_device.proofs.laws.one_file_changes.Goals as goal

pub returns : goal.returns
returns c = record { put = put-there; put_no_other = put-no-other; edit = edit-there; edit_no_other = edit-no-other }
