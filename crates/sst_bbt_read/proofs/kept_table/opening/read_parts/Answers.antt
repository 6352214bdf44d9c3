use Rattle.std.proofs.Common.{ℕ, Err, ◌≡◌, ◌++◌, ◌∷◌, [], length, List, Option, slice_get, refl, subst, inl, inr, sym, ap, ◌∙◌, arith}
use Rattle.std.specs.Vec.Iter.{into_iter_items}
use Rattle.std.proofs.lemmas.List.{append_assoc}
use Rattle.std.proofs.lemmas.Result.{err_from_is_err_and}
use Rattle.sst_device.specs.Folder.{Files, file_of}
use Rattle.sst_bbt_read.specs.OpeningFaults.{WithinFails, PartsFail}
use Rattle.sst_bbt_read.specs.declared.kept_table.index_leads.IndexLead.{IndexLead}
use Rattle.sst_bbt_read.proofs.BlocksRead.{end_again}
use Rattle.sst_bbt_read.proofs.ListFront.{behind_front, front_is_all, front_longer}
use Rattle.sst_bbt_read.proofs.PartsRead.{PartsRead, parts_none, lead_long, pair_of_lead, row_fails, parts_read-more, parts_table, all_led}
use Rattle.sst_bbt_read.proofs.ReadsLater.{reads_passed, reads_none}
use Rattle.sst_bbt_read.proofs.StopsWeaker.{stopped_weaker}
use Rattle.sst_bbt_read.proofs.kept_table.opening.read_parts.Goals as goal

pub loop-lead-init : goal.loop-lead-init
loop-lead-init g c = (
  c.into_iter-lead-iterator.ensures.into_iter_gives.0,
  omega (arith, c.into_iter-lead-iterator.ensures.into_iter_gives.1, c.args.leads.ok.0, ap length c.into_iter-lead-iterator.ensures.into_iter_gives.0),
  parts_none (g.F.Folder.held c.args.files.now) (g.F.Folder.faults c.args.files.now) c.args.name.now c.args.end c.args.form c.args.leads.items c.new-tops.result.items
      (record { ends = c.new.result; entries = c.new-2.result }) c.new-tops.ensures.items c.new.ensures.items c.new-2.ensures.items,
)

pub read_within-requires : goal.read_within-requires
read_within-requires g c =
    let at = behind_front c.args.leads.items c.loop-lead.yielded (into_iter_items c.loop-lead.lead-iterator) (into_iter_items c.next.new.self) c.in-Some.lead
    c.loop-lead.invariant.0 c.in-Some.ensures.steps.0 in
    lead_long c.args.leads.items (length c.loop-lead.yielded) c.in-Some.lead c.requires at

pub returns-in_err-read_within-clause-told : goal.returns-in_err-read_within-clause-told
returns-in_err-read_within-clause-told g c = λ file told pairs kept.
    let so = c.loop-lead.invariant.2 in
    let n = length c.loop-lead.yielded in
    let known = ap (λ (h : Option Files). file_of h c.args.name.now) so.same_files ∙ told in
    let at = behind_front c.args.leads.items c.loop-lead.yielded (into_iter_items c.loop-lead.lead-iterator) (into_iter_items c.next.new.self) c.in-Some.lead
    c.loop-lead.invariant.0 c.in-Some.ensures.steps.0 in
    let said = pair_of_lead c.args.form.user_key pairs n c.in-Some.lead (ap (λ (ls : List IndexLead). slice_get ls n) (sym kept) ∙ at) in
    let p = err_from_is_err_and c.from_residual.result c.from_residual.ensures.1 in
    rw (p.1) (stopped_weaker {A = ℕ} (Err p.0) (WithinFails c.args.form.parted file c.args.end c.args.form said.0) (PartsFail file c.args.end c.args.form pairs)
    (λ fault is. row_fails file c.args.end c.args.form c.args.leads.items pairs n c.in-Some.lead _ fault said.0 said.1 (so.read file told pairs kept) is)
    (rw (p.2) (c.in_err-read_within.ensures.told file known said.0 said.2)))

pub returns-in_err-read_within-clause-folder : goal.returns-in_err-read_within-clause-folder
returns-in_err-read_within-clause-folder g c =
    let so = c.loop-lead.invariant.2 in
    let p = err_from_is_err_and c.from_residual.result c.from_residual.ensures.1 in
    reads_passed c.from_residual.result p.0 c.in_err-read_within.field-0.0 (g.F.Folder.held c.args.files.now) (g.F.Folder.held c.loop-lead.files) (g.F.Folder.held c.read_within.new.files)
    c.args.name.now c.args.end (g.F.Folder.faults c.args.files.now) (g.F.Folder.faults c.loop-lead.files) (g.F.Folder.faults c.read_within.new.files)
    p.1 p.2 so.same_files so.counts c.in_err-read_within.ensures.folder

pub returns-in_err-add_end-clause-told : goal.returns-in_err-add_end-clause-told
returns-in_err-add_end-clause-told g c = λ file told pairs kept.
    let p = err_from_is_err_and c.from_residual-in_err-add_end.result c.from_residual-in_err-add_end.ensures.1 in
    rw (p.1, p.2) tt

pub returns-in_err-add_end-clause-folder : goal.returns-in_err-add_end-clause-folder
returns-in_err-add_end-clause-folder g c =
    let so = c.loop-lead.invariant.2 in
    let reads = c.in_ok-read_within.ensures.folder in
    let steady : g.F.Folder.faults c.read_within.new.files ≡ g.F.Folder.faults c.loop-lead.files = elim reads.hides_none [ inl failed ↦ absurd (cc) | inr same ↦ same ] in
    let p = err_from_is_err_and c.from_residual-in_err-add_end.result c.from_residual-in_err-add_end.ensures.1 in
    reads_none _ _ (g.F.Folder.held c.args.files.now) (g.F.Folder.held c.read_within.new.files) (g.F.Folder.faults c.args.files.now) (g.F.Folder.faults c.read_within.new.files)
    (reads.same_files ∙ so.same_files) (steady ∙ so.counts) (λ failed. cc (p.1, p.2, failed))

pub loop-lead-preserved : goal.loop-lead-preserved
loop-lead-preserved g c =
    let so = c.loop-lead.invariant.2 in
    let reads = c.in_ok-read_within.ensures.folder in
    let part = c.in_ok-read_within.ensures.added in
    let at = behind_front c.args.leads.items c.loop-lead.yielded (into_iter_items c.loop-lead.lead-iterator) (into_iter_items c.next.new.self) c.in-Some.lead
    c.loop-lead.invariant.0 c.in-Some.ensures.steps.0 in
    let steady : g.F.Folder.faults c.read_within.new.files ≡ g.F.Folder.faults c.loop-lead.files = elim reads.hides_none [ inl failed ↦ absurd (cc) | inr same ↦ same ] in
    let more = parts_read-more (g.F.Folder.held c.args.files.now) (g.F.Folder.held c.loop-lead.files) (g.F.Folder.held c.read_within.new.files) (g.F.Folder.faults c.args.files.now)
    (g.F.Folder.faults c.loop-lead.files) (g.F.Folder.faults c.read_within.new.files) c.args.name.now c.args.end c.args.form c.args.leads.items (length c.loop-lead.yielded)
    c.in-Some.lead c.loop-lead.tops.items c.add_end.new.ends.items _ c.read_within.new.blocks at so part.0
    (end_again c.loop-lead.tops.items c.add_end.new.ends.items c.in-Some.lead.separator c.in-Some.lead.separator c.len.result c.read_within.new.blocks.ends.items
    c.in_ok-add_end.ensures refl (omega (arith, c.len.ensures, c.read_within.new.blocks.ends.ok.0)))
    part.1 part.2 reads.same_files steady in (
      append_assoc c.loop-lead.yielded (c.in-Some.lead ∷ []) (into_iter_items c.next.new.self)
          ∙ ap (λ (ls : List IndexLead). c.loop-lead.yielded ++ ls) (sym c.in-Some.ensures.steps.0) ∙ c.loop-lead.invariant.0,
      omega (arith, c.in-Some.ensures.steps.1, c.loop-lead.invariant.1, ap length c.in-Some.ensures.steps.0),
      subst
          (λ (n : ℕ). PartsRead (g.F.Folder.held c.args.files.now) (g.F.Folder.held c.read_within.new.files) (g.F.Folder.faults c.args.files.now) (g.F.Folder.faults c.read_within.new.files)
          c.args.name.now c.args.end c.args.form c.args.leads.items n c.add_end.new.ends.items c.read_within.new.blocks)
          (front_longer c.loop-lead.yielded c.in-Some.lead) more,
    )

pub invariant_of-result : goal.invariant_of-result
invariant_of-result g c =
    parts_table (g.F.Folder.held c.args.files.now) (g.F.Folder.held c.loop-lead.files) (g.F.Folder.faults c.args.files.now) (g.F.Folder.faults c.loop-lead.files)
    c.args.name.now c.args.end c.args.form c.args.leads.items (length c.loop-lead.yielded) c.loop-lead.tops.items _ c.loop-lead.invariant.2 c.requires
    (front_is_all c.args.leads.items c.loop-lead.yielded (into_iter_items c.loop-lead.lead-iterator) c.loop-lead.invariant.0
    (sym c.loop-lead.invariant.1 ∙ c.in-None.ensures.steps.0))

pub returns-clause-opens : goal.returns-clause-opens
returns-clause-opens g c = λ file told pairs kept.
    all_led file c.args.end c.args.form c.args.leads.items pairs (length c.loop-lead.yielded)
    _ kept (front_is_all c.args.leads.items c.loop-lead.yielded (into_iter_items c.loop-lead.lead-iterator) c.loop-lead.invariant.0
    (sym c.loop-lead.invariant.1 ∙ c.in-None.ensures.steps.0))
    (c.loop-lead.invariant.2.read file told pairs kept)

pub returns-clause-folder : goal.returns-clause-folder
returns-clause-folder g c =
    let so = c.loop-lead.invariant.2 in
    reads_none _ _ (g.F.Folder.held c.args.files.now) (g.F.Folder.held c.loop-lead.files) (g.F.Folder.faults c.args.files.now) (g.F.Folder.faults c.loop-lead.files)
    so.same_files so.counts (λ failed. cc)

pub returns-clause-table : goal.returns-clause-table
returns-clause-table g c = invariant_of-result g c
