use Rattle.std.proofs.Common.{inl, inr, ◌∙◌, ap, subst, List, ℕ, ◌++◌, append_assoc}
use Rattle.std.proofs.lemmas.Result.{IfOk-weaker, on_err_weaker}
use Rattle.sst_bbt_write.specs.Cut.{cut_of, ended_all}
use Rattle.sst_bbt_write.specs.Written.{MayBeChosen, data_part, end_part, sizes_of}
use Rattle.sst_bbt_write.specs.declared.bbt_options.BbtOptions.{BbtOptions}
use Rattle.sst_bbt_write.proofs.Finishing.{finished, grown}
use Rattle.sst_bbt_write.proofs.bbt_writer.BbtWriter.finish.Goals as goal

pub end_last-requires : goal.end_last-requires
end_last-requires c =
    elim c.requires [
      | inl failed ↦ absurd (cc (failed, c.if-self.false))
      | inr w ↦ (cut_of w.0 w.1, w.1, w.2, w.3.keeps)
    ]

pub put_rest-requires : goal.put_rest-requires
put_rest-requires c =
    elim c.requires [
      | inl failed ↦ absurd (cc (failed, c.if-self.false))
      | inr w ↦
          let put = c.in_ok-end_last.ensures.ok (cut_of w.0 w.1) w.1 w.2 w.3.keeps in
          (ended_all (cut_of w.0 w.1), w.1, w.2 ++ put.0, put.2)
    ]

pub returns-clause-written : goal.returns-clause-written
returns-clause-written c =
    IfOk-weaker c.put_rest.result _ _
    (λ count put options entries bytes a.
    let cut = cut_of options entries in
    let last = c.in_ok-end_last.ensures.ok cut entries bytes a.keeps in
    let rest = put (ended_all cut) entries (bytes ++ last.0) last.2 in
    let chosen = c.in_ok-end_last.ensures.same ∙ a.chosen in
    let end = end_part options (ended_all cut) (sizes_of options (ended_all cut) entries) in
    let put_is = rest.0 ∙ ap (λ (o : BbtOptions). c.end_last.new.out.items ++ end_part o (ended_all cut) (sizes_of o (ended_all cut) entries)) chosen in
    let all = put_is ∙ ap (λ (l : List ℕ). l ++ end) last.1 ∙ append_assoc c.args.out.now.items last.0 end in
    let may = subst MayBeChosen a.chosen a.keeps.chosen in
    let appended = last.2.appended ∙ ap (λ (o : BbtOptions). data_part o (ended_all cut)) chosen in
    (last.0 ++ end, all, finished options entries bytes last.0 may a.keeps.fits appended, rest.1))
    c.put_rest.ensures.written

pub returns-clause-err : goal.returns-clause-err
returns-clause-err c =
    on_err_weaker c.put_rest.result
    (λ rest. grown c.args.out.now.items c.end_last.new.out.items c.put_rest.new.out.items c.end_last.ensures.grows rest) c.put_rest.ensures.err
