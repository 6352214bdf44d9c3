use Rattle.std.proofs.Common.{ℕ, Err, ◌≡◌, true, Option, inl, inr, ap, ◌∙◌, arith}
use Rattle.std.proofs.lemmas.Result.{err_from_is_err_and}
use Rattle.sst_block.specs.declared.row_form.RowForm.TheVariants.{Index}
use Rattle.sst_device.specs.Folder.{Files, file_of}
use Rattle.sst_bbt_read.specs.KeptLeads.{pairs_of}
use Rattle.sst_bbt_read.specs.OpeningFaults.{BlockFails, BlocksFail, WithinFails}
use Rattle.sst_bbt_read.proofs.PartsRead.{part_fails, part_empty, part_held, part_blocks_fail, none_from, some_from}
use Rattle.sst_bbt_read.proofs.ReadsLater.{reads_later}
use Rattle.sst_bbt_read.proofs.StopsWeaker.{ok_weaker, stopped_weaker}
use Rattle.sst_bbt_read.proofs.kept_table.opening.read_part.Goals as goal

pub returns-in_err-leads-clause-told : goal.returns-in_err-leads-clause-told
returns-in_err-leads-clause-told g c = λ file told pair same.
    let p = err_from_is_err_and c.from_residual.result c.from_residual.ensures.1 in
    rw (p.1) (stopped_weaker {A = ℕ} (Err p.0) (BlockFails (Index c.args.form.user_key c.args.form.delta) file c.args.end c.args.handle) (WithinFails true file c.args.end c.args.form pair)
    (λ fault is. part_fails file c.args.end c.args.form c.args.handle pair fault same is) (rw (p.2) (c.in_err-leads.ensures.told file told)))

pub returns-then-is_empty-clause-told : goal.returns-then-is_empty-clause-told
returns-then-is_empty-clause-told g c = λ file told pair same.
    let says = c.in_ok-leads.ensures.says file told in
    let none = none_from c.in_ok-leads.leads.items c.in_ok-leads.leads.len c.if-is_empty.ensures (omega (arith, c.in_ok-leads.leads.ok.0)) in
    part_empty file c.args.end c.args.form c.args.handle says.0 c.in_ok-leads.leads.items pair says.1 says.2 none same

pub returns-clause-added : goal.returns-clause-added
returns-clause-added g c =
    let reads = c.in_ok-leads.ensures.folder in
    let some = some_from c.in_ok-leads.leads.items c.in_ok-leads.leads.len c.if-is_empty.ensures (omega (arith, c.in_ok-leads.leads.ok.0)) in
    ok_weaker c.read_blocks.result _ _
    (λ all. (
      record { leads = c.in_ok-leads.leads.items; are = c.in_ok-leads.ensures.are; some = some; added = all.0 },
      λ file told pair same.
          let says = c.in_ok-leads.ensures.says file told in
          part_held file c.args.end c.args.form c.args.handle says.0 c.in_ok-leads.leads.items pair all.0.blocks says.1 says.2 some
          (all.1 file (ap (λ (h : Option Files). file_of h c.args.name.now) reads.same_files ∙ told)) same,
    ))
    c.read_blocks.ensures.added

pub returns-clause-told : goal.returns-clause-told
returns-clause-told g c = λ file told pair same.
    let reads = c.in_ok-leads.ensures.folder in
    let some = some_from c.in_ok-leads.leads.items c.in_ok-leads.leads.len c.if-is_empty.ensures (omega (arith, c.in_ok-leads.leads.ok.0)) in
    let says = c.in_ok-leads.ensures.says file told in
    stopped_weaker c.read_blocks.result (BlocksFail file c.args.end (pairs_of c.in_ok-leads.leads.items)) (WithinFails true file c.args.end c.args.form pair)
    (λ fault is. part_blocks_fail file c.args.end c.args.form c.args.handle says.0 c.in_ok-leads.leads.items pair fault says.1 says.2
    some same is)
    (c.read_blocks.ensures.told file (ap (λ (h : Option Files). file_of h c.args.name.now) reads.same_files ∙ told))

pub returns-clause-folder : goal.returns-clause-folder
returns-clause-folder g c =
    let reads = c.in_ok-leads.ensures.folder in
    let steady : g.F.Folder.faults c.read_leads.new.files ≡ g.F.Folder.faults c.args.files.now = elim reads.hides_none [ inl failed ↦ absurd (cc) | inr same ↦ same ] in
    reads_later _ _ (g.F.Folder.held c.args.files.now) (g.F.Folder.held c.read_leads.new.files) (g.F.Folder.held c.read_blocks.new.files) c.args.name.now c.args.end
    (g.F.Folder.faults c.args.files.now) (g.F.Folder.faults c.read_leads.new.files) (g.F.Folder.faults c.read_blocks.new.files) reads.same_files steady (λ failed. failed) (λ failed. failed)
    c.read_blocks.ensures.folder
