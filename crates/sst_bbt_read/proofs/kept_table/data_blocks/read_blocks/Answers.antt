use Rattle.std.proofs.Common.{ℕ, Err, ◌≡◌, ◌++◌, ◌∷◌, [], length, List, Option, refl, inl, inr, sym, ap, ◌∙◌, subst, arith}
use Rattle.std.specs.Vec.Iter.{into_iter_items}
use Rattle.std.proofs.lemmas.List.{append_assoc}
use Rattle.std.proofs.lemmas.Result.{err_from_is_err_and}
use Rattle.sst_block.specs.declared.row_form.RowForm.TheVariants.{Entries}
use Rattle.sst_device.specs.Folder.{Files, file_of}
use Rattle.sst_bbt_read.specs.KeptLeads.{pairs_of}
use Rattle.sst_bbt_read.specs.OpeningFaults.{SomeBlockFails, BlocksFail}
use Rattle.sst_bbt_read.proofs.BlocksRead.{BlocksRead, blocks_none, lead_fails, blocks_read-more, blocks_read-all}
use Rattle.sst_bbt_read.proofs.ListFront.{behind_front, front_is_all, front_longer}
use Rattle.sst_bbt_read.proofs.ReadsLater.{reads_passed, reads_none}
use Rattle.sst_bbt_read.proofs.StopsWeaker.{stopped_weaker}
use Rattle.sst_bbt_read.proofs.kept_table.data_blocks.read_blocks.Goals as goal

pub loop-lead-init : goal.loop-lead-init
loop-lead-init g c =
    let none = blocks_none c.args.blocks.now in (
      c.into_iter-lead-iterator.ensures.into_iter_gives.0,
      omega (arith, c.into_iter-lead-iterator.ensures.into_iter_gives.1, c.args.leads.ok.0, ap length c.into_iter-lead-iterator.ensures.into_iter_gives.0),
      record { same_files = refl; counts = refl; added = none.0; read = λ file told. none.1 },
    )

pub returns-in_err-add_block-clause-told : goal.returns-in_err-add_block-clause-told
returns-in_err-add_block-clause-told g c = λ file told.
    let so = c.loop-lead.invariant.2 in
    let known = ap (λ (h : Option Files). file_of h c.args.name.now) so.same_files ∙ told in
    let at = behind_front c.args.leads.items c.loop-lead.yielded (into_iter_items c.loop-lead.lead-iterator) (into_iter_items c.next.new.self) c.in-Some.lead
    c.loop-lead.invariant.0 c.in-Some.ensures.steps.0 in
    let p = err_from_is_err_and c.from_residual.result c.from_residual.ensures.1 in
    rw (p.1) (stopped_weaker {A = ℕ} (Err p.0) (SomeBlockFails Entries file c.args.end c.in-Some.lead.handle) (BlocksFail file c.args.end (pairs_of c.args.leads.items))
    (λ fault is. lead_fails file c.args.end c.args.leads.items (length c.loop-lead.yielded) c.in-Some.lead so.added.blocks fault at (so.read file told) is)
    (rw (p.2) (c.in_err-add_block.ensures.told file known)))

pub returns-in_err-add_block-clause-folder : goal.returns-in_err-add_block-clause-folder
returns-in_err-add_block-clause-folder g c =
    let so = c.loop-lead.invariant.2 in
    let p = err_from_is_err_and c.from_residual.result c.from_residual.ensures.1 in
    reads_passed c.from_residual.result p.0 c.in_err-add_block.field-0.0 (g.F.Folder.held c.args.files.now) (g.F.Folder.held c.loop-lead.files) (g.F.Folder.held c.add_block.new.files)
    c.args.name.now c.args.end (g.F.Folder.faults c.args.files.now) (g.F.Folder.faults c.loop-lead.files) (g.F.Folder.faults c.add_block.new.files)
    p.1 p.2 so.same_files so.counts c.in_err-add_block.ensures.folder

pub loop-lead-preserved : goal.loop-lead-preserved
loop-lead-preserved g c =
    let so = c.loop-lead.invariant.2 in
    let reads = c.in_ok-add_block.ensures.folder in
    let b = c.in_ok-add_block.ensures.added in
    let at = behind_front c.args.leads.items c.loop-lead.yielded (into_iter_items c.loop-lead.lead-iterator) (into_iter_items c.next.new.self) c.in-Some.lead
    c.loop-lead.invariant.0 c.in-Some.ensures.steps.0 in
    let steady : g.F.Folder.faults c.add_block.new.files ≡ g.F.Folder.faults c.loop-lead.files = elim reads.hides_none [ inl failed ↦ absurd (cc) | inr same ↦ same ] in
    let more = blocks_read-more (g.F.Folder.held c.args.files.now) (g.F.Folder.held c.loop-lead.files) (g.F.Folder.held c.add_block.new.files) (g.F.Folder.faults c.args.files.now)
    (g.F.Folder.faults c.loop-lead.files) (g.F.Folder.faults c.add_block.new.files) c.args.name.now c.args.end c.args.leads.items (length c.loop-lead.yielded) c.in-Some.lead
    c.args.blocks.now c.loop-lead.blocks c.add_block.new.blocks at so b.0 b.1 b.2 reads.same_files steady in (
      append_assoc c.loop-lead.yielded (c.in-Some.lead ∷ []) (into_iter_items c.next.new.self)
          ∙ ap (λ (ls : List _). c.loop-lead.yielded ++ ls) (sym c.in-Some.ensures.steps.0) ∙ c.loop-lead.invariant.0,
      omega (arith, c.in-Some.ensures.steps.1, c.loop-lead.invariant.1, ap length c.in-Some.ensures.steps.0),
      subst
          (λ (n : ℕ). BlocksRead (g.F.Folder.held c.args.files.now) (g.F.Folder.held c.add_block.new.files) (g.F.Folder.faults c.args.files.now) (g.F.Folder.faults c.add_block.new.files)
          c.args.name.now c.args.end c.args.leads.items n c.args.blocks.now c.add_block.new.blocks)
          (front_longer c.loop-lead.yielded c.in-Some.lead) more,
    )

pub returns-clause-added : goal.returns-clause-added
returns-clause-added g c =
    blocks_read-all (g.F.Folder.held c.args.files.now) (g.F.Folder.held c.loop-lead.files) (g.F.Folder.faults c.args.files.now) (g.F.Folder.faults c.loop-lead.files)
    c.args.name.now c.args.end c.args.leads.items (length c.loop-lead.yielded) c.args.blocks.now c.loop-lead.blocks c.loop-lead.invariant.2
    (front_is_all c.args.leads.items c.loop-lead.yielded (into_iter_items c.loop-lead.lead-iterator) c.loop-lead.invariant.0
    (sym c.loop-lead.invariant.1 ∙ c.in-None.ensures.steps.0))

pub returns-clause-folder : goal.returns-clause-folder
returns-clause-folder g c =
    let so = c.loop-lead.invariant.2 in
    reads_none _ _ (g.F.Folder.held c.args.files.now) (g.F.Folder.held c.loop-lead.files) (g.F.Folder.faults c.args.files.now) (g.F.Folder.faults c.loop-lead.files)
    so.same_files so.counts (λ failed. cc)
