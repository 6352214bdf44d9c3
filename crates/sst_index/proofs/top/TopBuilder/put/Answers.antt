use Rattle.std.proofs.Common.{◌++◌, List, ℕ, refl, ap, ◌∙◌}
use Rattle.sst_num.specs.Spelling.{handle_spelling}
use Rattle.sst_index.specs.Behind.{difference_of}
use Rattle.sst_index.specs.IndexBlock.{form_of, rows_of_pairs}
use Rattle.sst_index.proofs.PairTaken.{takes_row, takes_signed, holds_more}
use Rattle.sst_index.proofs.top.TopBuilder.put.Goals as goal

pub put_difference-requires : goal.put_difference-requires
put_difference-requires c = takes_signed c.args.self.now _ c.requires

pub add-requires : goal.add-requires
add-requires c =
    takes_row c.args.self.now _ c.requires c.deref.result.now c.deref-2.result.now
    (c.deref.ensures.value ∙ c.in_ok-put_handle.ensures.ok ∙ ap (λ (l : List ℕ). l ++ handle_spelling c.args.handle) c.truncate.ensures.items)
    (λ d. c.deref-2.ensures.value ∙ c.in_ok-put_difference.ensures d ∙ ap (λ (l : List ℕ). l ++ difference_of c.args.self.now.before c.args.handle) c.truncate-2.ensures.items)

pub returns : goal.returns
returns c = λ flags interval pairs holds.
    holds_more c.args.self.now _ _ c.requires flags interval pairs holds refl refl refl c.deref.result.now c.deref-2.result.now
    (c.deref.ensures.value ∙ c.in_ok-put_handle.ensures.ok ∙ ap (λ (l : List ℕ). l ++ handle_spelling c.args.handle) c.truncate.ensures.items)
    (λ d. c.deref-2.ensures.value ∙ c.in_ok-put_difference.ensures d ∙ ap (λ (l : List ℕ). l ++ difference_of c.args.self.now.before c.args.handle) c.truncate-2.ensures.items)
    (c.in_ok-add.ensures.ok (form_of flags) interval (rows_of_pairs flags interval pairs) holds.block)
