-- What a run of a `scan` comes to.
use Rattle.std.proofs.Common.{◌≡◌, ◌⊎◌, ℕ, List, Option, None, Some, ap, subst, ◌∙◌}
use Rattle.sst_key.specs.declared.entries.Entry.{Entry}
use Rattle.sst_device.specs.Folder.{file_of}
use Rattle.sst_text.specs.EntryText.{lines_text}
use Rattle.sst_bbt_spec.specs.BlockBased.{BlockBased, Opens}
use Rattle.sst_bbt_spec.specs.Parts.{Part}
use Rattle.sst_bbt_spec.proofs.Stands.{stands-ordered}
use Rattle.sst_cli.specs.Behaviour.{World, IsFault, Ends}
use Rattle.sst_cli.specs.Command.{behaviour, command_of}
use Rattle.sst_cli.specs.OpenFile.{HasShown}
use Rattle.sst_cli.specs.ScanCommand.{list_text, scan_command, scan_text, scanned_after}
use Rattle.sst_cli.specs.Words.{ScanLine, scan_line}
use Rattle.sst_cli.specs.declared.status.Status.{Status}
use Rattle.sst_cli.proofs.CommandWords.{is_scan}
use Rattle.sst_cli.proofs.FileRuns.{printed}
use Rattle.sst_cli.proofs.VisibleWalk.{shown-visible}

pub scanned : (scan : ScanLine) (before after : World) (status : Status) (file : List ℕ) (parts : List Part)
    → Ends (scan_command scan) before after status → file_of before.told.held scan.name ≡ Some file → Opens file parts
    → IsFault status ⊎ HasShown status (scan_text scan.snapshot parts) before after
scanned scan before after status file parts ends there opens = printed scan.name (scan_text scan.snapshot) before after status file parts ends opens there

-- of a file that stands for a list the text is the list's, or that of what is visible of it
stands-scanned : (file : List ℕ) (entries : List Entry) (stands : BlockBased file entries) (snapshot : Option ℕ) → scan_text snapshot stands.parts ≡ list_text snapshot entries
stands-scanned file entries stands None = ap lines_text stands.runs.joined_is
stands-scanned file entries stands (Some snapshot) =
    ap (λ (es : List Entry). lines_text (scanned_after (Some snapshot) None es)) stands.runs.joined_is
    ∙ ap lines_text (shown-visible snapshot entries (stands-ordered file entries stands))

pub scanned_as_list : (scan : ScanLine) (before after : World) (status : Status) (file : List ℕ) (entries : List Entry)
    → Ends (scan_command scan) before after status → file_of before.told.held scan.name ≡ Some file → BlockBased file entries
    → IsFault status ⊎ HasShown status (list_text scan.snapshot entries) before after
scanned_as_list scan before after status file entries ends there stands =
    subst (λ (text : List ℕ). IsFault status ⊎ HasShown status text before after) (stands-scanned file entries stands scan.snapshot)
    (scanned scan before after status file stands.parts ends there stands.opens)

pub command : (words : List (List ℕ)) (scan : ScanLine) (before after : World) (status : Status) → scan_line words ≡ Some scan
    → Ends (behaviour (command_of words)) before after status → Ends (scan_command scan) before after status
command words scan before after status is ends = rw (is_scan words scan is) at ends
