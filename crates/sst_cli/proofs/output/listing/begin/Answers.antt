use Rattle.std.proofs.Common.{ℕ, List, Option, ap, subst}
use Rattle.sst_key.specs.declared.entries.Entry.{Entry}
use Rattle.sst_key.specs.ListMachine.{lands, first_of}
use Rattle.sst_bbt_spec.specs.Parts.{stored_in}
use Rattle.sst_bbt_spec.proofs.PartLaws.{shown-none}
use Rattle.sst_bbt_read.specs.Kept.{Answers, StandsOn}
use Rattle.sst_cli.proofs.AnsweredBy.{stands-after, landed-at}
use Rattle.sst_cli.proofs.output.listing.begin.Goals as goal

pub returns-clause-stands : goal.returns-clause-stands
returns-clause-stands g c = λ parts place stands.
    let same = ap (λ (es : List Entry). first_of es) (shown-none (stored_in parts)) in
    let answers =
    subst (λ (to : Option ℕ). Answers c.first.result c.first.new.self c.first.new.c parts (lands to)) same
    (c.first.ensures.kept.answers parts place stands) in
    let there = stands-after c.first.result c.first.new.self c.first.new.c parts (lands (first_of (stored_in parts))) answers in
    let at = subst (StandsOn c.first.new.self c.first.new.c parts) (landed-at (first_of (stored_in parts))) there in
    (at, c.stands.ensures.kept parts (first_of (stored_in parts)) at)
