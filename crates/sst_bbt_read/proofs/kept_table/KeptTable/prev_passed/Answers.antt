use Rattle.std.proofs.Common.{ℕ, ◌+◌, Some, ap, ◌∙◌}
use Rattle.sst_key.specs.ListMachine.{is_up_to_target}
use Rattle.sst_bbt_spec.specs.Way.{seek_for_prev_tag}
use Rattle.sst_bbt_read.proofs.PassedRead.{passed-all, passed-some, alone-not}
use Rattle.sst_bbt_read.proofs.kept_table.KeptTable.prev_passed.Goals as goal

pub returns-in_err-first-clause-passed : goal.returns-in_err-first-clause-passed
returns-in_err-first-clause-passed c =
    let all = passed-all _ c.args.self.now c.deref.result.now c.args.user.now (seek_for_prev_tag c.args.seq) (is_up_to_target c.args.user.now c.args.seq) c.runs_before_seek_for_prev-part.result
    c.self.view_is c.deref.ensures.value c.runs_before_seek_for_prev-part.ensures c.in_err-first.ensures.none in
    c.from_residual.ensures ∙ all

pub returns-clause-passed : goal.returns-clause-passed
returns-clause-passed c =
    let block = c.block_in-start.ensures in
    let some = passed-some _ c.args.self.now c.deref.result.now c.args.user.now (seek_for_prev_tag c.args.seq) (is_up_to_target c.args.user.now c.args.seq) _ _ _ _ _ _
    c.self.view_is c.self.invariant c.deref.ensures.value c.runs_before_seek_for_prev-part.ensures c.in_ok-first.ensures.some c.blocks_before_seek_for_prev-i.ensures
    block.start block.entries block.none in
    ap (λ (n : ℕ). Some (c.block_in-start.result.0 + n)) c.up_to.ensures.count ∙ some

pub blocks_before_seek_for_prev-i-requires-clause-alone : goal.blocks_before_seek_for_prev-i-requires-clause-alone
blocks_before_seek_for_prev-i-requires-clause-alone c = λ whole.
    alone-not _ c.args.self.now c.deref.result.now c.args.user.now (seek_for_prev_tag c.args.seq) c.runs_before_seek_for_prev-part.result _ _
    c.self.view_is c.self.invariant c.deref.ensures.value c.runs_before_seek_for_prev-part.ensures c.in_ok-first.ensures.some whole
