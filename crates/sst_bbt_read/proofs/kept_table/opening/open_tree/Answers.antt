use Rattle.std.proofs.Common.{ℕ, Err, ◌≡◌, Option, inl, inr, ap, ◌∙◌}
use Rattle.std.proofs.lemmas.Result.{err_from_is_err_and, IfOk-weaker}
use Rattle.sst_block.specs.declared.row_form.RowForm.TheVariants.{Index}
use Rattle.sst_device.specs.Folder.{Files, file_of}
use Rattle.sst_bbt_read.specs.OpeningFaults.{BlockFails, PartsFail, TreeFails}
use Rattle.sst_bbt_read.proofs.ReadsLater.{reads_later}
use Rattle.sst_bbt_read.proofs.StopsWeaker.{stopped_weaker}
use Rattle.sst_bbt_read.proofs.kept_table.opening.open_tree.Goals as goal

pub returns-in_err-leads-clause-told : goal.returns-in_err-leads-clause-told
returns-in_err-leads-clause-told g c = λ file told.
    let p = err_from_is_err_and c.from_residual.result c.from_residual.ensures.1 in
    rw (p.1) (stopped_weaker {A = ℕ} (Err p.0) (BlockFails (Index c.args.form.user_key c.args.form.delta) file c.args.end c.args.handle) (TreeFails file c.args.end c.args.form c.args.handle)
    (λ fault is. inl is) (rw (p.2) (c.in_err-leads.ensures.told file told)))

pub read_parts-requires : goal.read_parts-requires
read_parts-requires g c = c.in_ok-leads.ensures.are

pub returns-clause-opens : goal.returns-clause-opens
returns-clause-opens g c = λ file told.
    let says = c.in_ok-leads.ensures.says file told in
    let known = ap (λ (h : Option Files). file_of h c.args.name.now) c.in_ok-leads.ensures.folder.same_files ∙ told in
    IfOk-weaker c.read_parts.result _ _ (λ table led. (says.0, says.1, led)) (c.read_parts.ensures.opens file known says.0 says.2)

pub returns-clause-told : goal.returns-clause-told
returns-clause-told g c = λ file told.
    let says = c.in_ok-leads.ensures.says file told in
    let known = ap (λ (h : Option Files). file_of h c.args.name.now) c.in_ok-leads.ensures.folder.same_files ∙ told in
    stopped_weaker c.read_parts.result (PartsFail file c.args.end c.args.form says.0) (TreeFails file c.args.end c.args.form c.args.handle)
    (λ fault is. inr (says.0, says.1, is)) (c.read_parts.ensures.told file known says.0 says.2)

pub returns-clause-folder : goal.returns-clause-folder
returns-clause-folder g c =
    let reads = c.in_ok-leads.ensures.folder in
    let steady : g.F.Folder.faults c.read_leads.new.files ≡ g.F.Folder.faults c.args.files.now = elim reads.hides_none [ inl failed ↦ absurd (cc) | inr same ↦ same ] in
    reads_later _ _ (g.F.Folder.held c.args.files.now) (g.F.Folder.held c.read_leads.new.files) (g.F.Folder.held c.read_parts.new.files) c.args.name.now c.args.end
    (g.F.Folder.faults c.args.files.now) (g.F.Folder.faults c.read_leads.new.files) (g.F.Folder.faults c.read_parts.new.files) reads.same_files steady (λ failed. failed) (λ failed. failed)
    c.read_parts.ensures.folder
