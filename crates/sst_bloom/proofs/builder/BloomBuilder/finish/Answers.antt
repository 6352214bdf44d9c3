use Rattle.std.proofs.Common.{◌∙◌, ap₂}
use Rattle.std.proofs.lemmas.Result.{IfOk-weaker}
use Rattle.sst_bloom.specs.Filter.{bloom_filter, filter_of_hashes}
use Rattle.sst_bloom.proofs.builder.BloomBuilder.finish.Goals as goal

pub returns-clause-exact : goal.returns-clause-exact
unfolding bloom_filter
returns-clause-exact c =
    IfOk-weaker c.filter_of.result _ _
    (λ filter exact bits users holds. exact ∙ ap₂ filter_of_hashes holds.bits_is (c.deref.ensures.value ∙ holds.hashes))
    c.filter_of.ensures
