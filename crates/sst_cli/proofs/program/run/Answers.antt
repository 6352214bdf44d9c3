use Rattle.std.proofs.Common.{map}
use Rattle.std.specs.String.{string_bytes}
use Rattle.sst_text.specs.CallText.{calls_text}
use Rattle.sst_text.specs.EntryText.{lines_text}
use Rattle.sst_cli.specs.Command.{behaviour, command_of}
use Rattle.sst_cli.proofs.CallRoundTrip.{read_calls-text}
use Rattle.sst_cli.proofs.CallsRuns.{answered_as_list}
use Rattle.sst_cli.proofs.CommandWords.{is_write, is_calls}
use Rattle.sst_cli.proofs.ListRoundTrip.{read_input-lines}
use Rattle.sst_cli.proofs.RunEnds.{called, device, printed}
use Rattle.sst_cli.proofs.WriteRuns.{written}
use Rattle.sst_cli.proofs.program.run.Goals as goal

pub returns-clause-headline_write : goal.returns-clause-headline_write
returns-clause-headline_write g c = λ write entries words fits bytes left.
    let carried = rw (is_write (map string_bytes c.args.words.now) write words) at c.carry_out_words.ensures in
    written write _ _ c.carry_out_words.result (lines_text entries) entries carried.ends left (read_input-lines entries fits bytes)

pub returns-clause-headline_calls : goal.returns-clause-headline_calls
returns-clause-headline_calls g c = λ name file entries calls words held stands few limits bytes left.
    let carried = rw (is_calls (map string_bytes c.args.words.now) name words) at c.carry_out_words.ensures in
    answered_as_list name _ _ c.carry_out_words.result file (calls_text calls) entries calls carried.ends held stands left (read_calls-text calls few limits bytes)

pub returns-clause-ends : goal.returns-clause-ends
returns-clause-ends g c = c.carry_out_words.ensures.ends

pub returns-clause-called : goal.returns-clause-called
returns-clause-called g c =
    called (behaviour (command_of (map string_bytes c.args.words.now))) _ _ c.carry_out_words.result c.carry_out_words.ensures.ends

pub returns-clause-device : goal.returns-clause-device
returns-clause-device g c = λ is.
    device (behaviour (command_of (map string_bytes c.args.words.now))) _ _ c.carry_out_words.result c.carry_out_words.ensures.ends is

pub returns-clause-printed : goal.returns-clause-printed
returns-clause-printed g c =
    printed (behaviour (command_of (map string_bytes c.args.words.now))) _ _ c.carry_out_words.result c.carry_out_words.ensures.ends

pub returns-clause-changes : goal.returns-clause-changes
returns-clause-changes g c = c.carry_out_words.ensures.changes

pub returns-clause-hides_none : goal.returns-clause-hides_none
returns-clause-hides_none g c = c.carry_out_words.ensures.hides_none

pub returns-clause-spares_folder : goal.returns-clause-spares_folder
returns-clause-spares_folder g c = c.carry_out_words.ensures.spares_folder

pub returns-clause-spares_input : goal.returns-clause-spares_input
returns-clause-spares_input g c = c.carry_out_words.ensures.spares_input
