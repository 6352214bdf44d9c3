-- What a run of a `get` comes to.
use Rattle.std.proofs.Common.{◌≡◌, ◌⊎◌, ℕ, List, Option, None, Some, ap, subst, ◌∙◌}
use Rattle.sst_key.specs.declared.entries.Entry.{Entry}
use Rattle.sst_key.specs.declared.calls.Target.{Target}
use Rattle.sst_key.specs.ListMachine.{get_of}
use Rattle.sst_device.specs.Folder.{file_of}
use Rattle.sst_bbt_spec.specs.BlockBased.{BlockBased, Opens}
use Rattle.sst_bbt_spec.specs.Parts.{Part, stored_in}
use Rattle.sst_bbt_spec.proofs.Stands.{opens-seqs, stands-separate}
use Rattle.sst_bbt_spec.proofs.PartLaws.{get-in_list, shown-none}
use Rattle.sst_cli.specs.Behaviour.{World, IsFault, Ends}
use Rattle.sst_cli.specs.Command.{behaviour, command_of}
use Rattle.sst_cli.specs.GetCommand.{get_command, got_text, way_got_text, found_text, entry_at}
use Rattle.sst_cli.specs.OpenFile.{HasShown}
use Rattle.sst_cli.specs.Words.{GetLine, get_line}
use Rattle.sst_cli.specs.declared.status.Status.{Status}
use Rattle.sst_cli.proofs.CommandWords.{is_get}
use Rattle.sst_cli.proofs.FileRuns.{printed}

pub got : (get : GetLine) (before after : World) (status : Status) (file : List ℕ) (parts : List Part)
    → Ends (get_command get) before after status → file_of before.told.held get.name ≡ Some file → Opens file parts
    → IsFault status ⊎ HasShown status (way_got_text get.target parts) before after
got get before after status file parts ends there opens = printed get.name (way_got_text get.target) before after status file parts ends opens there

-- of a file that stands for a list the text is the list's
stands-got : (file : List ℕ) (entries : List Entry) (stands : BlockBased file entries) (target : Target) → way_got_text target stands.parts ≡ got_text entries target
stands-got file entries stands target =
    let same = get-in_list None stands.parts target.user target.seq (stands-separate file entries stands) (opens-seqs file stands.parts stands.opens) in
    ap (λ (place : Option ℕ). found_text (entry_at (stored_in stands.parts) place)) same
    ∙ ap (λ (es : List Entry). found_text (entry_at (stored_in stands.parts) (get_of es target.user target.seq))) (shown-none (stored_in stands.parts))
    ∙ ap (λ (es : List Entry). got_text es target) stands.runs.joined_is

pub got_as_list : (get : GetLine) (before after : World) (status : Status) (file : List ℕ) (entries : List Entry)
    → Ends (get_command get) before after status → file_of before.told.held get.name ≡ Some file → BlockBased file entries
    → IsFault status ⊎ HasShown status (got_text entries get.target) before after
got_as_list get before after status file entries ends there stands =
    subst (λ (text : List ℕ). IsFault status ⊎ HasShown status text before after) (stands-got file entries stands get.target)
    (got get before after status file stands.parts ends there stands.opens)

pub command : (words : List (List ℕ)) (get : GetLine) (before after : World) (status : Status) → get_line words ≡ Some get
    → Ends (behaviour (command_of words)) before after status → Ends (get_command get) before after status
command words get before after status is ends = rw (is_get words get is) at ends
