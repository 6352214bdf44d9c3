use Rattle.std.proofs.Common.{◌≡◌, ℕ, List, [], ◌∷◌, Bool, false, refl, sym, subst, ap, ◌∙◌, arith}
use Rattle.sst_block.specs.declared.row_form.RowForm.TheVariants.{Entries}
use Rattle.sst_bbt_spec.specs.IndexLeads.{LeadsWithin}
use Rattle.sst_bbt_read.specs.KeptLeads.{AreLeads}
use Rattle.sst_bbt_read.specs.OpeningFaults.{SomeBlockFails, WithinFails}
use Rattle.sst_bbt_read.specs.Reader.{Stopped}
use Rattle.sst_bbt_read.specs.declared.kept_table.index_leads.IndexLead.{IndexLead}
use Rattle.sst_bbt_read.proofs.BlocksRead.{block_alone}
use Rattle.sst_bbt_read.proofs.PartsRead.{one_lead, whole_held, whole_fails}
use Rattle.sst_bbt_read.proofs.StopsWeaker.{ok_weaker, stopped_weaker}
use Rattle.sst_bbt_read.proofs.kept_table.opening.read_within.Goals as goal

pub returns-then-form-clause-added : goal.returns-then-form-clause-added
returns-then-form-clause-added g c =
    ok_weaker c.read_part.result _ _
    (λ all. (
      all.0,
      λ file told pair kept.
          subst (λ (parted : Bool). LeadsWithin parted file c.args.end c.args.form pair all.0.added.blocks) (sym c.if-form.true)
          (all.1 file told pair (sym (ap (λ (l : IndexLead). l.handle) kept))),
      λ whole. absurd (cc (whole, c.if-form.true)),
    ))
    c.read_part.ensures.added

pub returns-in_ok-separator-clause-added : goal.returns-in_ok-separator-clause-added
returns-in_ok-separator-clause-added g c =
    let copy : IndexLead = record { separator = c.in_ok-separator.separator; handle = c.args.lead.now.handle } in
    let same : copy ≡ c.args.lead.now =
    ap (λ (s : List ℕ). record { separator = s; handle = c.args.lead.now.handle }) (c.in_ok-separator.ensures ∙ c.as_slice.ensures) in
    ok_weaker c.add_block.result _ _
    (λ all.
    let alone = block_alone copy c.args.blocks.now c.add_block.new.blocks all.0 all.1 in (
      record {
        leads = copy ∷ [];
        are = subst (λ (l : IndexLead). AreLeads (l ∷ [])) (sym same) (one_lead c.args.lead.now c.requires);
        some = omega arith;
        added = alone.0;
      },
      λ file told pair kept.
          subst (λ (parted : Bool). LeadsWithin parted file c.args.end c.args.form pair alone.0.blocks) (sym c.if-form.false)
          (whole_held file c.args.end c.args.form (copy ∷ []) copy pair alone.0.blocks refl (same ∙ kept) (alone.1 file c.args.end (all.2 file told))),
      λ whole. ap (λ (l : IndexLead). l ∷ []) same,
    ))
    c.add_block.ensures.added

pub returns-in_ok-separator-clause-told : goal.returns-in_ok-separator-clause-told
returns-in_ok-separator-clause-told g c = λ file told pair kept.
    subst (λ (parted : Bool). Stopped c.add_block.result (WithinFails parted file c.args.end c.args.form pair)) (sym c.if-form.false)
    (stopped_weaker c.add_block.result (SomeBlockFails Entries file c.args.end c.args.lead.now.handle) (WithinFails false file c.args.end c.args.form pair)
    (λ fault is. whole_fails file c.args.end c.args.form c.args.lead.now pair fault kept is)
    (c.add_block.ensures.told file told))
