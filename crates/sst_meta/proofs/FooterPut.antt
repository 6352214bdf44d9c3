-- The footer that is put at the end of a file leads to the metaindex and the index.
use Rattle.std.proofs.Common.{◌≡◌, ℕ, ◌+◌, ◌-◌, ◌^◌, ◌<◌, List, ◌∷◌, ◌++◌, length, length-append, refl, sym, ap, ◌∙◌, append_assoc, arith}
use Rattle.std.proofs.lemmas.List.{length-replicate}
use Rattle.sst_num.specs.Spelling.{fixed, handle_spelling}
use Rattle.sst_num.specs.declared.block_handle.Handle.{Handle}
use Rattle.sst_num.proofs.Fixed.{length-fixed}
use Rattle.sst_meta.specs.BlockFooter.{FooterLeads, IsBuilt, block_footer, footer_back, footer_start}
use Rattle.sst_meta.specs.Footer.{block_based_magic, two_handles, handle_zeros, footer_spelling}
use Rattle.sst_meta.proofs.Footers.{length-two_handles}

-- the 40 bytes of a footer with the handles
between : Handle → Handle → List ℕ
between metaindex index = two_handles metaindex index ++ handle_zeros metaindex index

length-between : (metaindex index : Handle) → length (between metaindex index) ≡ 40
unfolding between
length-between metaindex index =
    omega (
      arith,
      length-two_handles metaindex index,
      length-append (two_handles metaindex index) (handle_zeros metaindex index),
      length-replicate {A = ℕ} (40 - length (two_handles metaindex index)) 0,
    )

length-back : (version : ℕ) → length (footer_back version) ≡ 12
length-back version =
    omega (arith, length-append (fixed 4 version) (fixed 8 block_based_magic), length-fixed 4 version, length-fixed 8 block_based_magic)

-- a footer part by part
footer-parts : (version : ℕ) (metaindex index : Handle)
    → footer_spelling (block_footer version metaindex index) ≡ 1 ∷ (between metaindex index ++ footer_back version)
unfolding footer_spelling between
footer-parts version metaindex index =
    ap (λ (l : List ℕ). 1 ∷ l) (sym (append_assoc (two_handles metaindex index) (handle_zeros metaindex index) (footer_back version)))

-- a footer has 53 bytes
length-footer : (version : ℕ) (metaindex index : Handle) → length (footer_spelling (block_footer version metaindex index)) ≡ 53
length-footer version metaindex index =
    omega (
      arith,
      ap length (footer-parts version metaindex index),
      length-append (between metaindex index) (footer_back version),
      length-between metaindex index,
      length-back version,
    )

pub length-footed : (file front : List ℕ) (version : ℕ) (metaindex index : Handle) → file ≡ front ++ footer_spelling (block_footer version metaindex index)
    → length file ≡ length front + 53
length-footed file front version metaindex index is =
    omega (arith, ap length is, length-append front (footer_spelling (block_footer version metaindex index)), length-footer version metaindex index)

-- the footer begins where what is before it ends
pub footer_start-is : (file front : List ℕ) (version : ℕ) (metaindex index : Handle) → file ≡ front ++ footer_spelling (block_footer version metaindex index)
    → footer_start file ≡ length front
footer_start-is file front version metaindex index is = omega (arith, length-footed file front version metaindex index is)

-- the numbers of a handle are in range
abbrev pub IsSpelled : Handle → Type 0
IsSpelled h = (h.offset < 2 ^ 64) × (h.size < 2 ^ 64)

-- the footer leads to its handles
pub footer-leads : (file front : List ℕ) (version : ℕ) (metaindex index : Handle) → file ≡ front ++ footer_spelling (block_footer version metaindex index)
    → IsBuilt version → IsSpelled metaindex → IsSpelled index → FooterLeads file (footer_start file) metaindex index
unfolding between
footer-leads file front version metaindex index is built first second =
    record {
      version = version;
      between = between metaindex index;
      ends = record {
        front = front;
        ends = is ∙ ap (λ (l : List ℕ). front ++ l) (footer-parts version metaindex index);
        long = length-between metaindex index;
        end_is = footer_start-is file front version metaindex index is;
        small = omega (arith, built.1);
      };
      built = built;
      handles = (first.0, first.1, second.0, second.1, (handle_zeros metaindex index, append_assoc (handle_spelling metaindex) (handle_spelling index) (handle_zeros metaindex index)));
    }

-- and has the version that was put
pub footer-version : (file front : List ℕ) (version : ℕ) (metaindex index : Handle) (is : file ≡ front ++ footer_spelling (block_footer version metaindex index))
    → (built : IsBuilt version) (first : IsSpelled metaindex) (second : IsSpelled index)
    → (footer-leads file front version metaindex index is built first second).version ≡ version
unfolding footer-leads
footer-version file front version metaindex index is built first second = refl
