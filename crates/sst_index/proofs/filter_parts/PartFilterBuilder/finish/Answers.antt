use Rattle.std.proofs.Common.{ℕ, ◌+◌, List, ◌++◌, length, sum_by, sym, ap, ◌∙◌, append_assoc, arith}
use Rattle.std.proofs.lemmas.Result.{on_ok_weaker, on_err_weaker, IfOk-weaker}
use Rattle.sst_index.specs.FilterBytes.{leading_pairs, stored_size}
use Rattle.sst_index.specs.Index.{kept_pairs}
use Rattle.sst_index.specs.IndexBlock.{index_block}
use Rattle.sst_index.specs.IndexBytes.{top_separators}
use Rattle.sst_index.proofs.FilterEnds.{end-ready, end-sizes, end-rows, end-bytes, end-handle}
use Rattle.sst_index.proofs.filter_parts.PartFilterBuilder.finish.Goals as goal

pub top_of-requires-clause-ready : goal.top_of-requires-clause-ready
top_of-requires-clause-ready c = end-ready c.args.self c.args.index.now c.flags-flags.result c.if-self.false c.requires.state c.flags-flags.ensures

pub top_of-requires-clause-near : goal.top_of-requires-clause-near
top_of-requires-clause-near c =
    let sizes = end-sizes c.args.self c.args.index.now c.if-self.false c.requires.state in
    omega (arith, ap (sum_by stored_size) c.deref.ensures.value, sizes, c.args.self.stored.ok, c.args.self.stored.small)

pub top_of-requires-clause-rows : goal.top_of-requires-clause-rows
top_of-requires-clause-rows c =
    omega (
      arith,
      ap length c.deref.ensures.value,
      end-rows c.args.self c.args.index.now c.flags-flags.result c.if-self.false c.requires.state c.flags-flags.ensures,
    )

pub returns-clause-bytes : goal.returns-clause-bytes
returns-clause-bytes c =
    let a = c.args in
    let keys = top_separators a.index.now.parts (kept_pairs c.flags-flags.result.user_key a.index.now) in
    let top = c.as_slice.ensures ∙ c.in_ok-top.ensures
    ∙ ap (λ (sizes : List ℕ). index_block c.flags-flags.result a.interval (leading_pairs a.base keys sizes)) c.deref.ensures.value in
    let stored = c.in_ok-extend_from_slice.ensures.items ∙ ap (λ (l : List ℕ). a.out.now.items ++ l) c.deref-2.ensures.value in
    on_ok_weaker c.put_block.result
    (λ done bits parts o blocks holds leads.
    end-bytes a.self a.index.now c.flags-flags.result a.interval a.base bits parts o blocks a.out.now.items c.extend_from_slice.new.self.items c.put_block.new.out.items
    c.as_slice.result.now holds leads c.flags-flags.ensures top stored done)
    c.put_block.ensures.ok

pub returns-clause-handle : goal.returns-clause-handle
returns-clause-handle c =
    let a = c.args in
    let keys = top_separators a.index.now.parts (kept_pairs c.flags-flags.result.user_key a.index.now) in
    let top = c.as_slice.ensures ∙ c.in_ok-top.ensures
    ∙ ap (λ (sizes : List ℕ). index_block c.flags-flags.result a.interval (leading_pairs a.base keys sizes)) c.deref.ensures.value in
    let long = c.len.ensures ∙ sym c.deref-2.ensures.len ∙ ap length c.deref-2.ensures.value in
    IfOk-weaker c.put_block.result _ _
    (λ h stands bits parts o blocks holds leads.
    end-handle a.self a.index.now c.flags-flags.result a.interval a.base bits parts o blocks c.as_slice.result.now h holds leads c.flags-flags.ensures top
    (stands ∙ ap (λ (n : ℕ). record { offset = a.base + n; size = length c.as_slice.result.now }) long))
    c.put_block.ensures.handle

pub returns-clause-err : goal.returns-clause-err
returns-clause-err c =
    let a = c.args in
    on_err_weaker c.put_block.result
    (λ more. (
      c.deref-2.result.now ++ more.0,
      more.1 ∙ ap (λ (l : List ℕ). l ++ more.0) c.in_ok-extend_from_slice.ensures.items ∙ append_assoc a.out.now.items c.deref-2.result.now more.0,
    ))
    c.put_block.ensures.err
