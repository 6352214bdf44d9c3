use Rattle.std.proofs.Common.{ℕ, Option, None, sym, ap, ◌∙◌}
use Rattle.sst_key.specs.ListMachine.{answer_of, first_of, last_of, lands}
use Rattle.sst_key.specs.declared.calls.Call.TheVariants.{First, Last}
use Rattle.sst_key.specs.declared.calls.Format.TheVariants.{Block}
use Rattle.sst_bbt_read.proofs.Chaining.{tells-on}
use Rattle.sst_uses.specs.Uses.{both_of, shown_at}
use Rattle.sst_uses.proofs.Copied.{landed_at}
use Rattle.sst_uses.proofs.Found.{no-damage-move}
use Rattle.sst_uses.proofs.cursors.go_apart.Goals as goal

pub returns-in_ok-both-in-Ok-last-clause-ends : goal.returns-in_ok-both-in-Ok-last-clause-ends
returns-in_ok-both-in-Ok-last-clause-ends g c = λ file entries told front back.
    let first = c.in-Ok.ensures in
    let last = c.in-Ok-last.ensures in
    let tells = tells-on (g.F.Folder.held c.args.files.now) (g.F.Folder.held c.first.new.files) c.args.table.now c.first.new.self file first.folder.same_files first.reader.name told in
    let moved = first.moved file entries None told front in
    let stays = first.others.at c.args.back.now file entries None c.requires.two told back in
    let moved_back = last.moved file entries None tells stays in
    let still = last.others.at c.first.new.c file entries (lands (first_of entries)).position (λ one. c.requires.two (first.same ∙ sym one)) tells moved.1 in
    c.in_ok-both-in-Ok-last.ensures file entries (lands (first_of entries)).position (lands (last_of entries)).position still moved_back.1
    ∙ ap (λ (p : Option ℕ). both_of (shown_at entries p) (shown_at entries (lands (last_of entries)).position)) (landed_at (first_of entries))
    ∙ ap (λ (p : Option ℕ). both_of (shown_at entries (first_of entries)) (shown_at entries p)) (landed_at (last_of entries))

pub returns-in-Err-last-clause-sound : goal.returns-in-Err-last-clause-sound
returns-in-Err-last-clause-sound g c = λ file entries told front back fault is.
    let first = c.in-Ok.ensures in
    let tells = tells-on (g.F.Folder.held c.args.files.now) (g.F.Folder.held c.first.new.files) c.args.table.now c.first.new.self file first.folder.same_files first.reader.name told in
    let stays = first.others.at c.args.back.now file entries None c.requires.two told back in
    no-damage-move c.in-Err-last.stop c.last.new.self c.last.new.c file entries (answer_of Block 0 entries None Last) fault (c.in-Err-last.ensures.moved file entries None tells stays) is

pub returns-in-Err-clause-sound : goal.returns-in-Err-clause-sound
returns-in-Err-clause-sound g c = λ file entries told front back fault is.
    no-damage-move c.in-Err.stop c.first.new.self c.first.new.c file entries (answer_of Block 0 entries None First) fault (c.in-Err.ensures.moved file entries None told front) is
