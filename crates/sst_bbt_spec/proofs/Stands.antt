-- What a file stands for: its list is in order, its separators separate, and calls answer as the list's do.
use Rattle.std.proofs.Common.{◌≡◌, ℕ, List, All, None, refl, ap, ◌∙◌, subst}
use Rattle.sst_key.specs.declared.entries.Entry.{Entry}
use Rattle.sst_key.specs.declared.calls.Call.{Call}
use Rattle.sst_key.specs.declared.calls.Format.TheVariants.{Block}
use Rattle.sst_key.specs.Entry.{IsOrdered}
use Rattle.sst_key.specs.ListMachine.{replies}
use Rattle.sst_meta.specs.IndexForms.{index_form}
use Rattle.sst_bbt_spec.specs.Rows.{HasSeq}
use Rattle.sst_bbt_spec.specs.Parts.{Part, stored_in}
use Rattle.sst_bbt_spec.specs.PartWay.{replies_in_parts}
use Rattle.sst_bbt_spec.specs.PartRuns.{IsWithinTop, SeparateParts}
use Rattle.sst_bbt_spec.specs.BlockBased.{BlockBased, Opens}
use Rattle.sst_bbt_spec.proofs.PartLaws.{part-replies, shown-none}
use Rattle.sst_bbt_spec.proofs.PartOrder.{AreSoundParts, separated-parts, sound_parts-seqs, parts_separated-from_separate}
use Rattle.sst_bbt_spec.proofs.PartsLead.{parts-sound}

pub opens-sound : (file : List ℕ) (parts : List Part) → Opens file parts → AreSoundParts parts
opens-sound file parts opens = parts-sound file _ (index_form opens.loaded.props) opens.pairs parts opens.lead

-- the sequence numbers of a file that opens are in range
pub opens-seqs : (file : List ℕ) (parts : List Part) → Opens file parts → All HasSeq (stored_in parts)
opens-seqs file parts opens = sound_parts-seqs parts (opens-sound file parts opens)

stands-apart : (file : List ℕ) (entries : List Entry) (stands : BlockBased file entries)
    → IsOrdered (stored_in stands.parts) × SeparateParts stands.parts
stands-apart file entries stands =
    separated-parts stands.parts (opens-sound file stands.parts stands.opens) stands.runs.separated

pub stands-ordered : (file : List ℕ) (entries : List Entry) → BlockBased file entries → IsOrdered entries
stands-ordered file entries stands = subst (λ (es : List Entry). IsOrdered es) stands.runs.joined_is (stands-apart file entries stands).0

pub stands-seqs : (file : List ℕ) (entries : List Entry) → BlockBased file entries → All HasSeq entries
stands-seqs file entries stands =
    subst (λ (es : List Entry). All HasSeq es) stands.runs.joined_is (opens-seqs file stands.parts stands.opens)

pub stands-separate : (file : List ℕ) (entries : List Entry) (stands : BlockBased file entries) → SeparateParts stands.parts
stands-separate file entries stands = (stands-apart file entries stands).1

pub stands-replies : (file : List ℕ) (entries : List Entry) (stands : BlockBased file entries) (calls : List Call)
    → replies_in_parts None stands.parts calls ≡ replies Block 0 entries calls
stands-replies file entries stands calls =
    part-replies None stands.parts None calls (stands-separate file entries stands) (opens-seqs file stands.parts stands.opens)
    ∙ ap (λ (es : List Entry). replies Block 0 es calls) (shown-none (stored_in stands.parts) ∙ stands.runs.joined_is)

-- a file that opens to parts which its separators separate stands for their entries
pub separated-stands : (file : List ℕ) (parts : List Part) → Opens file parts → All IsWithinTop parts → SeparateParts parts
    → BlockBased file (stored_in parts)
separated-stands file parts opens within apart =
    record {
      parts = parts;
      opens = opens;
      runs = record {
        separated = parts_separated-from_separate parts (opens-sound file parts opens) within apart.0 apart.1;
        joined_is = refl;
      };
    }
