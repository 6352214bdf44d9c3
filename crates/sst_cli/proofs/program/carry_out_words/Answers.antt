use Rattle.std.proofs.Common.{map, refl, sym, ◌∙◌}
use Rattle.sst_cli.proofs.CommandWords.{write_is}
use Rattle.sst_cli.proofs.OptionsSaid.{line-may}
use Rattle.std.specs.String.{string_bytes}
use Rattle.sst_cli.specs.Command.{behaviour, command_of}
use Rattle.sst_cli.proofs.Carried.{carries-memory, may-keep}
use Rattle.sst_cli.proofs.program.carry_out_words.Goals as goal

pub returns-in-Ok : goal.returns-in-Ok
returns-in-Ok g c = rw c.in-Ok.ensures at c.carry_out.ensures

pub returns-in-Err : goal.returns-in-Err
returns-in-Err g c =
    let command = command_of (map string_bytes c.args.words.now) in
    carries-memory (behaviour command) _ _ _ _ _ refl refl refl refl refl (may-keep command (g.F.Folder.held c.args.files.now)) refl refl

pub carry_out-requires : goal.carry_out-requires
carry_out-requires g c = λ write is.
    let words = map string_bytes c.args.words.now in
    line-may words write (write_is words write (sym c.in-Ok.ensures ∙ is))
