-- Of a file that stands for a list the text of the answers is the list's.
use Rattle.std.proofs.Common.{◌≡◌, ℕ, List, None, ap, ◌∙◌}
use Rattle.sst_key.specs.declared.entries.Entry.{Entry}
use Rattle.sst_key.specs.declared.calls.Call.{Call}
use Rattle.sst_bbt_spec.specs.BlockBased.{BlockBased}
use Rattle.sst_bbt_spec.specs.PartWay.{replies_in_parts}
use Rattle.sst_bbt_spec.proofs.Stands.{stands-replies}
use Rattle.sst_cli.specs.Replies.{lines_of, answers_from, answers_text, way_from, way_text}

-- the text of the answers is that of the list's
pub stands-text : (file : List ℕ) (entries : List Entry) (stands : BlockBased file entries) (calls : List Call)
    → way_text stands.parts calls ≡ answers_text entries calls
unfolding way_from answers_from
stands-text file entries stands calls =
    ap (λ (es : List Entry). lines_of es calls (replies_in_parts None stands.parts calls)) stands.runs.joined_is
    ∙ ap (lines_of entries calls) (stands-replies file entries stands calls)
