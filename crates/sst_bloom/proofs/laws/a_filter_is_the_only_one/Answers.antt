use Rattle.sst_bloom.proofs.Told.{written_is_filter, filter_is_written}
use Rattle.std.proofs.Common.{◌∙◌, sym}
use Rattle.sst_bloom.proofs.laws.a_filter_is_the_only_one.Goals as goal

pub returns-clause-one : goal.returns-clause-one
returns-clause-one c = written_is_filter

pub returns-clause-only : goal.returns-clause-only
returns-clause-only c = λ bits users a b first second. filter_is_written bits users a first ∙ sym (filter_is_written bits users b second)
