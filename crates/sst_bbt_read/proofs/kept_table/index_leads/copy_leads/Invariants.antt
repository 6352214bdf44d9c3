use Rattle.sst_bbt_read.proofs.LeadsCopied.{LeadsCopied}
use Rattle.sst_bbt_read.proofs.kept_table.index_leads.copy_leads.Given as goal

abbrev pub invariant-loop-row : goal.invariant-loop-row
invariant-loop-row l = LeadsCopied l.form.user_key l.form.delta l.block l.rows l._row l.leads.items
