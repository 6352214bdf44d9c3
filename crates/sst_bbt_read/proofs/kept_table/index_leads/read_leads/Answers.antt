use Rattle.std.proofs.Common.{◌≡◌, ℕ, List, subst}
use Rattle.sst_block.specs.IndexRows.{IndexPair, IndexRows}
use Rattle.sst_bbt_read.specs.KeptLeads.{leads_of}
use Rattle.sst_bbt_read.proofs.LeadsCopied.{kept_leads}
use Rattle.sst_bbt_read.proofs.kept_table.index_leads.read_leads.Goals as goal

pub returns-clause-are : goal.returns-clause-are
returns-clause-are g c =
    let b = c.in_ok-block.ensures.block in
    let all =
    subst (λ (block : List ℕ). (pairs : List IndexPair) → IndexRows c.args.form.user_key c.args.form.delta block pairs → c.in_ok-leads.leads.items ≡ leads_of c.args.form.user_key pairs)
    c.as_slice.ensures c.in_ok-leads.ensures in
    (kept_leads c.args.form.user_key c.args.form.delta c.in_ok-block.block.bytes b.0 c.in_ok-leads.leads.items b.1 all).3

pub returns-clause-says : goal.returns-clause-says
returns-clause-says g c = λ file told.
    let b = c.in_ok-block.ensures.block in
    let all =
    subst (λ (block : List ℕ). (pairs : List IndexPair) → IndexRows c.args.form.user_key c.args.form.delta block pairs → c.in_ok-leads.leads.items ≡ leads_of c.args.form.user_key pairs)
    c.as_slice.ensures c.in_ok-leads.ensures in
    let kept = kept_leads c.args.form.user_key c.args.form.delta c.in_ok-block.block.bytes b.0 c.in_ok-leads.leads.items b.1 all in
    (kept.0, record { block = c.in_ok-block.block.bytes; framed = c.in_ok-block.ensures.framed file told; rows = kept.1 }, kept.2)
