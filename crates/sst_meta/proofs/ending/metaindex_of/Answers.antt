use Rattle.std.proofs.Common.{[], ◌∷◌, refl, ap, ◌∙◌, arith}
use Rattle.std.proofs.lemmas.Result.{IfOk-weaker}
use Rattle.sst_num.specs.Spelling.{handle_spelling}
use Rattle.sst_num.specs.declared.block_handle.Handle.{Handle}
use Rattle.sst_block.specs.declared.row_form.RowForm.TheVariants.{Names}
use Rattle.sst_block.specs.Chosen.{block_of}
use Rattle.sst_meta.specs.Names.{name_bytes}
use Rattle.sst_meta.specs.declared.name.Name.TheVariants as name
use Rattle.sst_meta.proofs.Footers.{length-handle}
use Rattle.sst_meta.proofs.RowsPut.{one_stands}
use Rattle.sst_meta.proofs.ending.metaindex_of.Goals as goal

pub block_of_rows-requires-clause-rows : goal.block_of_rows-requires-clause-rows
block_of_rows-requires-clause-rows c = one_stands _ 18 refl (omega arith) (omega (arith, length-handle c.args.properties))

pub returns : goal.returns
returns c = λ at pairs is.
    IfOk-weaker c.block_of_rows.result _ _
    (λ block exact. exact ∙ ap (λ (h : Handle). block_of Names 1 (record { key = name_bytes name.Properties; value = handle_spelling h } ∷ [])) is)
    c.block_of_rows.ensures
