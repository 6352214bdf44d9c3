use Rattle.std.proofs.Common.{ℕ, List, [], ◌++◌, length, refl, sym, ap, ◌∙◌, subst, arith}
use Rattle.sst_block.specs.declared.row_form.RowForm.TheVariants.{Entries}
use Rattle.sst_block.specs.declared.builder.BlockBuilder.{BlockBuilder}
use Rattle.sst_block.specs.Builder.{Holds}
use Rattle.sst_device.specs.Framed.{frame_of}
use Rattle.sst_bbt_spec.specs.Rows.{rows_of}
use Rattle.sst_bbt_write.proofs.Ending.{index_takes, is_given, ended_keeps}
use Rattle.sst_bbt_write.proofs.bbt_writer.BbtWriter.end_block.Goals as goal

pub add-requires : goal.add-requires
add-requires c =
    let (coming, cut, entries, bytes, ending) = c.requires in
    let w = c.args.self.now in
    let block = c.in_ok-block.ensures.exact Entries w.options.restart (rows_of cut.current) (subst (λ (b : BlockBuilder). Holds b Entries w.options.restart (rows_of cut.current)) (sym c.replace.ensures.value) ending.keeps.block) in
    index_takes w c.deref.result.now _ coming cut entries bytes c.len-size.result ending c.deref.ensures.value (c.len-size.ensures ∙ ap length block)

pub overflow_add-self : goal.overflow_add-self
overflow_add-self c =
    let (coming, cut, entries, bytes, ending) = c.requires in
    let blocks = (is_given c.args.self.now _ _ coming cut entries bytes _ ending refl refl).blocks in
    omega arith

pub overflow_add-self-3 : goal.overflow_add-self-3
overflow_add-self-3 c =
    let (coming, cut, entries, bytes, ending) = c.requires in
    let w = c.args.self.now in
    let block = c.in_ok-block.ensures.exact Entries w.options.restart (rows_of cut.current) (subst (λ (b : BlockBuilder). Holds b Entries w.options.restart (rows_of cut.current)) (sym c.replace.ensures.value) ending.keeps.block) in
    let stored = (is_given w _ _ coming cut entries bytes c.len-size.result ending refl (c.len-size.ensures ∙ ap length block)).stored in
    omega arith

pub returns-clause-ok : goal.returns-clause-ok
returns-clause-ok c = λ coming cut entries bytes ending.
    let w = c.args.self.now in
    let block = c.in_ok-block.ensures.exact Entries w.options.restart (rows_of cut.current) (subst (λ (b : BlockBuilder). Holds b Entries w.options.restart (rows_of cut.current)) (sym c.replace.ensures.value) ending.keeps.block) in
    let empty = subst (λ (b : BlockBuilder). Holds b Entries w.options.restart []) (sym c.replace.ensures.after) c.in_ok-empty.ensures in
    let put = c.in_ok-put_frame.ensures.ok ∙ ap (λ (b : List ℕ). c.args.out.now.items ++ frame_of b) c.as_slice.ensures in (
      frame_of c.in_ok-block.block,
      put,
      ended_keeps w c.deref.result.now _ coming cut entries bytes c.len-size.result ending c.deref.ensures.value (c.len-size.ensures ∙ ap length block)
          c.replace.new.dest empty c.in_ok-block.block block c.add.new.self c.in_ok-add.ensures.ok,
    )
