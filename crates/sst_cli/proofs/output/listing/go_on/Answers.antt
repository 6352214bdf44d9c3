use Rattle.std.proofs.Common.{ℕ, List, Option, Some, ap, subst}
use Rattle.sst_key.specs.declared.entries.Entry.{Entry}
use Rattle.sst_key.specs.ListMachine.{lands, next_of}
use Rattle.sst_bbt_spec.specs.Parts.{stored_in}
use Rattle.sst_bbt_spec.proofs.PartLaws.{shown-none}
use Rattle.sst_bbt_read.specs.Kept.{Answers, StandsOn}
use Rattle.sst_cli.proofs.AnsweredBy.{stands-after, landed-at}
use Rattle.sst_cli.proofs.output.listing.go_on.Goals as goal

pub returns-clause-stands : goal.returns-clause-stands
returns-clause-stands g c = λ parts place stands.
    let same = ap (λ (es : List Entry). next_of es place) (shown-none (stored_in parts)) in
    let answers =
    subst (λ (to : Option ℕ). Answers c.next.result c.next.new.self c.next.new.c parts (lands to)) same
    (c.next.ensures.kept.answers parts (Some place) stands) in
    let there = stands-after c.next.result c.next.new.self c.next.new.c parts (lands (next_of (stored_in parts) place)) answers in
    let at = subst (StandsOn c.next.new.self c.next.new.c parts) (landed-at (next_of (stored_in parts) place)) there in
    (at, c.stands.ensures.kept parts (next_of (stored_in parts) place) at)
