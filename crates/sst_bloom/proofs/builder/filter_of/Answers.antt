use Rattle.std.proofs.Common.{◌∙◌}
use Rattle.sst_bloom.proofs.Only.{filter_is}
use Rattle.sst_bloom.proofs.builder.filter_of.Goals as goal

pub returns : goal.returns
returns c =
    filter_is c.args.bits c.args.hashes.now c.line_count-lines.result c.probe_count-probes.result c.in_ok-filter.filter.items c.push.new.self.items c.from.result
    c.line_count-lines.ensures.exact c.probe_count-probes.ensures c.in_ok-filter.ensures c.in_ok-push.ensures.items
    (c.from.ensures ∙ c.in_ok-put_fixed32.ensures.ok)
