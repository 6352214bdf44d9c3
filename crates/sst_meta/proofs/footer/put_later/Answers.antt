use Rattle.std.proofs.Common.{false, [], ◌∷◌, ◌∙◌, ap, List, ℕ, ◌++◌}
use Rattle.std.proofs.lemmas.Result.{on_ok_weaker}
use Rattle.sst_num.specs.Spelling.{fixed}
use Rattle.sst_meta.specs.Footer.{magic_of, two_handles, handle_zeros}
use Rattle.sst_meta.proofs.Footers.{appended_four}
use Rattle.sst_meta.proofs.footer.put_later.Goals as goal

pub returns-clause-ok : goal.returns-clause-ok
returns-clause-ok c =
    let f = c.args.f in
    let magic = ap (fixed 8) c.magic_of.ensures in
    on_ok_weaker c.put_fixed64.result (λ last.
    appended_four c.args.out.now.items _ _ _ c.put_fixed64.new.out.items (f.checksum ∷ []) (two_handles f.meta f.index) (handle_zeros f.meta f.index) (fixed 4 f.version) (fixed 8 (magic_of f.format false))
    c.in_ok-push.ensures.items c.in_ok-put_handles.ensures.ok c.in_ok-put_fixed32.ensures.ok (last ∙ ap (λ (l : List ℕ). c.put_fixed32.new.out.items ++ l) magic)) c.put_fixed64.ensures.ok
