use Rattle.sst_meta.proofs.FooterReads.{reads-back, reads-other_version}
use Rattle.sst_meta.proofs.footer_laws.a_footer_reads_back.Goals as goal

pub returns-clause-read : goal.returns-clause-read
returns-clause-read c = λ f writable (small, a, b, m, d) taken. reads-back f writable small a b m d taken

pub returns-clause-other_version : goal.returns-clause-other_version
returns-clause-other_version c = λ f writable range other. reads-other_version f writable range.0 other
