-- What the end of a file is read as is what its footer says, and a fault of it is one that it shows.
use Rattle.std.proofs.Common.{◌≡◌, ◌≢◌, ℕ, ◌-◌, ◌==◌, ◌&&◌, nat_le, true, false, List, length, Option, None, Some, Result, Ok, Err, refl, ap, subst, ◌∙◌}
use Rattle.std.proofs.lemmas.Bool.{eqb-true, eqb-false, both_ways, and_parts, and_from, leb-true, le-leb}
use Rattle.sst_num.specs.declared.block_handle.Handle.{Handle}
use Rattle.sst_key.specs.declared.calls.Format.TheVariants as Format
use Rattle.sst_meta.specs.Footer.{AreHandles}
use Rattle.sst_meta.specs.FooterReading.{last_bytes, handles_read, as_footer, takes_version, fields_read}
use Rattle.sst_meta.specs.declared.footer.Footer.{Footer}
use Rattle.sst_meta.specs.declared.meta_fault.MetaFault.{MetaFault}
use Rattle.sst_meta.specs.declared.meta_fault.MetaFault.TheVariants.{Version, ChecksumType, BadFooter}
use Rattle.sst_meta.proofs.HandlesRead.{handles_read-spelled, handles_read-found}
use Rattle.sst_meta.proofs.FooterReads.{fields-taken}
use Rattle.sst_meta.specs.BlockFooter.{EndsIn, IsBuilt, FooterLeads, block_footer}
use Rattle.sst_meta.specs.LoadReading.{end_read}
use Rattle.sst_meta.proofs.FootersRead.{fields, legacy, other, none, end_reads, end_read-ends}
use Rattle.sst_device.proofs.Choices.{by_test}

-- the footer of a block-based file with any checksum type
abbrev pub footer_by : ℕ → ℕ → Handle → Handle → Footer
footer_by version kind metaindex index =
    record { format = Format.Block; legacy = false; version = version; checksum = kind; meta = metaindex; index = index }

-- the handles of fields that are good
with-handles : (version kind : ℕ) (between : List ℕ) (handles : Option (Handle × Handle)) (footer : Footer) → handles_read between ≡ handles
    → as_footer Format.Block false version kind handles ≡ Ok footer → AreHandles footer.meta footer.index between × (footer ≡ footer_by version kind footer.meta footer.index)
with-handles version kind between None footer read e = cc
with-handles version kind between (Some handles) footer read e =
    let same : ◌≡◌ {A = Footer} (footer_by version kind handles.0 handles.1) footer = cc in
    subst (λ (f : Footer). AreHandles f.meta f.index between × (f ≡ footer_by version kind f.meta f.index)) same (handles_read-found handles between read, refl)

pub fields-handles : (version kind : ℕ) (between : List ℕ) (footer : Footer) → as_footer Format.Block false version kind (handles_read between) ≡ Ok footer
    → AreHandles footer.meta footer.index between
fields-handles version kind between footer e = (with-handles version kind between (handles_read between) footer refl e).0

-- nothing else is wrong with them
pub no-handles : (version kind : ℕ) (between : List ℕ) (handles : Option (Handle × Handle)) (fault : MetaFault) → handles_read between ≡ handles
    → as_footer Format.Block false version kind handles ≡ Err fault → (BadFooter ≡ fault) × ((metaindex index : Handle) → AreHandles metaindex index between → ⊥)
no-handles version kind between None fault read e = (cc, λ metaindex index are. cc (read, handles_read-spelled metaindex index between are))
no-handles version kind between (Some handles) fault read e = cc

-- the version first, then the checksum type, then the handles
pub by_version-cases : {P : Type 0} (kind version : ℕ) (between : List ℕ) (read : Result Footer MetaFault) → fields_read Format.Block false version kind between ≡ read
    → ((IsBuilt version → ⊥) → Err (Version version) ≡ read → P)
    → (IsBuilt version → kind ≢ 1 → Err (ChecksumType kind) ≡ read → P)
    → (IsBuilt version → kind ≡ 1 → as_footer Format.Block false version kind (handles_read between) ≡ read → P) → P
by_version-cases kind version between read e old sum good =
    by_test (nat_le 2 version && nat_le version 4) _ (Err (Version version)) read e
    (λ inside e.
    let parts = and_parts (nat_le 2 version) (nat_le version 4) inside in
    let built : IsBuilt version = (leb-true 2 version parts.0, leb-true version 4 parts.1) in
    by_test (kind == 1) _ (Err (ChecksumType kind)) read e
    (λ is e. good built (eqb-true kind 1 is) e)
    (λ is e. sum built (λ one. absurd (eqb-false kind 1 is one)) e))
    (λ out e. old (λ built. both_ways _ out (and_from (nat_le 2 version) (nat_le version 4) (le-leb 2 version built.0) (le-leb version 4 built.1))) e)

-- a footer that leads to two handles is read
pub footer_read-leads : (file : List ℕ) (end : ℕ) (metaindex index : Handle) (leads : FooterLeads file end metaindex index)
    → (end ≡ length file - 53) × (end_read (last_bytes 53 file) ≡ Ok (block_footer leads.version metaindex index))
footer_read-leads file end metaindex index leads =
    let read = end_read-ends file end 1 leads.version leads.between leads.ends in
    let version : takes_version Format.Block leads.version ≡ true =
    and_from (nat_le 2 leads.version) (nat_le leads.version 4) (le-leb 2 leads.version leads.built.0) (le-leb leads.version 4 leads.built.1) in
    (read.0, read.1 ∙ fields-taken Format.Block false leads.version 1 leads.between (metaindex, index) version refl (handles_read-spelled metaindex index leads.between leads.handles))

-- a footer that is read leads to its handles
pub leads-read : (file : List ℕ) (footer : Footer) → end_read (last_bytes 53 file) ≡ Ok footer
    → (leads : FooterLeads file (length file - 53) footer.meta footer.index) × (footer ≡ block_footer leads.version footer.meta footer.index)
leads-read file footer e =
    elim (end_reads file (Ok footer) e) [
      | fields kind version between ends e ↦
          by_version-cases kind version between (Ok footer) e (λ _ e. cc) (λ _ _ e. cc)
          (λ built is e.
          let found = with-handles version kind between (handles_read between) footer refl e in (
            record {
              version = version;
              between = between;
              ends = subst (λ k. EndsIn file (length file - 53) k version between) is ends;
              built = built;
              handles = found.0;
            },
            found.1 ∙ ap (λ (k : ℕ). footer_by version k footer.meta footer.index) is,
          ))
      | legacy ends e ↦ cc
      | other ends e ↦ cc
      | none not e ↦ cc
    ]
