-- The fault that is read of a file is the one of the first step of loading that fails.
use Rattle.std.proofs.Common.{◌≡◌, ℕ, suc, ◌-◌, ◌^◌, ◌<◌, ◌≤◌, nat_lt, List, length, Option, None, Some, Result, Ok, Err, refl, sym, ap, ◌∙◌, subst, inl, inr, arith}
use borrow.Author.Tests.{ltb-false}
use Rattle.std.proofs.lemmas.Bool.{cases_lt, ltb-true}
use Rattle.sst_num.specs.declared.block_handle.Handle.{Handle}
use Rattle.sst_block.specs.declared.row_form.RowForm.TheVariants.{Names}
use Rattle.sst_block.specs.Block.{Row}
use Rattle.sst_device.specs.Framed.{Framed}
use Rattle.sst_device.proofs.Choices.{by_test}
use Rattle.sst_meta.specs.Blocks.{then_open, block_at}
use Rattle.hex.specs.Hex.{IsBytes}
use Rattle.sst_meta.specs.BlockFooter.{EndsIn, FooterLeads, footer_start}
use Rattle.sst_meta.specs.FooterReading.{last_bytes, handles_read}
use Rattle.sst_meta.specs.LoadReading.{end_read, handle_in, comparator_fault, index_type_fault, global_fault, external_fault, flag_fault, props_fault, sound_props, props_in, props_at, props_read, names_read, load_read}
use Rattle.sst_meta.specs.LoadSteps.{LoadStep, file_length, magic_number, kind_of_table, format_version, checksum_type, footer_handles, metaindex_frame, metaindex_rows, no_tombstones, props_handle, props_frame, props_rows, key_order, index_type, global_sequence, external_version, user_key_flag, delta_flag, form_is_read, number_of, FailsAt, FailsFirst}
use Rattle.sst_meta.specs.Meta.{HasPairs}
use Rattle.sst_meta.specs.MetaFaults.{HasNames, PropsLead, HasProps, IsBadValue, ShowsMeta}
use Rattle.sst_meta.specs.Names.{name_bytes, comparator}
use Rattle.sst_meta.specs.Pairs.{value_of}
use Rattle.sst_meta.specs.declared.footer.Footer.{Footer}
use Rattle.sst_meta.specs.declared.name.Name.TheVariants as name
use Rattle.sst_meta.specs.declared.meta_fault.MetaFault.{MetaFault}
use Rattle.sst_meta.specs.declared.meta_fault.MetaFault.TheVariants as meta
use Rattle.sst_meta.proofs.BlocksRead.{block_at-found, block_at-fault}
use Rattle.sst_meta.proofs.FooterLaws.{by_version-cases, leads-read, no-handles}
use Rattle.sst_meta.proofs.FootersRead.{fields, legacy, other, none, end_reads}
use Rattle.sst_meta.proofs.LoadsRead.{pairs-rows, rows-pairs, read-parts, unless-err}
use Rattle.sst_meta.proofs.PropsShown.{comparator-at, index_type-at, global-at, external-at, flag-at, form-at}
use Rattle.sst_meta.proofs.ReadSteps.{then_open-err}
use Rattle.sst_meta.proofs.SaidOnce.{leads-once}
use Rattle.sst_meta.proofs.StepsFail.{fails-shows, end-step-read, end_number, end-number, number-once, tombstones-pass, handle-passes, order-read, type-read, global-read, external-read, user-read, delta-read}
use Rattle.sst_meta.proofs.StepsRead.{frame-right, block-right, lead-same}
use Rattle.sst_meta.proofs.ValueRules.{or_else-some}
use Rattle.sst_meta.proofs.ValuesRead.{handle_in-handle, handle_in-found}

-- no step before this number fails
abbrev pub Clear : List ℕ → ℕ → Type 0
Clear file n = (earlier : LoadStep) (another : MetaFault) → number_of earlier < n → FailsAt file earlier another → ⊥

-- the step doesn't fail
abbrev pub Passes : List ℕ → LoadStep → Type 0
Passes file step = (another : MetaFault) → FailsAt file step another → ⊥

-- the fault is that of the first step that fails
abbrev pub First : List ℕ → MetaFault → Type 0
First file fault = (step : LoadStep) × FailsFirst file step fault

-- one step more
clear-next : (file : List ℕ) (step : LoadStep) → Clear file (number_of step) → Passes file step → Clear file (suc (number_of step))
clear-next file step clear pass s another low fails =
    elim (cases_lt (number_of s) (number_of step)) [
      | inl before ↦ clear s another before fails
      | inr late ↦
          let same : number_of s ≡ number_of step = omega (arith, low, late) in
          pass another (subst (λ (x : LoadStep). FailsAt file x another) (number-once s step same) fails)
    ]

clear-short : (file : List ℕ) → length file < 2 ^ 40 → Clear file 1
clear-short file short =
    clear-next file file_length (λ s another low fails. absurd (omega (arith, low))) (λ another fails. let long : 2 ^ 40 ≤ length file = fails.1 in omega (arith, short, long))

-- a step at the end of the file, and its fault
record EndFails (file : List ℕ) (fault : MetaFault) : Type 0 where
  step : LoadStep
  some : 0 < number_of step
  low : number_of step < 6
  fails : FailsAt file step fault

end-fails : (file : List ℕ) (fault : MetaFault) → IsBytes (last_bytes 53 file) → end_read (last_bytes 53 file) ≡ Err fault → EndFails file fault
end-fails file fault bytes e =
    elim (end_reads file (Err fault) e) [
      | fields kind version between ends last ↦
          by_version-cases kind version between (Err fault) last
          (λ old at.
          let same : meta.Version version ≡ fault = cc in
          let fails : FailsAt file format_version fault = (version, (sym same, inr (length file - 53, kind, between, ends, old))) in
          record { step = format_version; some = omega arith; low = omega arith; fails = fails })
          (λ built is at.
          let same : meta.ChecksumType kind ≡ fault = cc in
          let fails : FailsAt file checksum_type fault = (kind, (sym same, (length file - 53, version, between, ends, built, is))) in
          record { step = checksum_type; some = omega arith; low = omega arith; fails = fails })
          (λ built is at.
          let found = no-handles version kind between (handles_read between) fault refl at in
          let one = subst (λ k. EndsIn file (length file - 53) k version between) is ends in
          let fails : FailsAt file footer_handles fault = (sym found.0, (length file - 53, version, between, one, built, found.1)) in
          record { step = footer_handles; some = omega arith; low = omega arith; fails = fails })
      | legacy ends last ↦
          let same : meta.Version 0 ≡ fault = cc in
          let fails : FailsAt file format_version fault = (0, (sym same, inl (ends, refl))) in
          record { step = format_version; some = omega arith; low = omega arith; fails = fails }
      | other ends last ↦
          let same : meta.NotYet ≡ fault = cc in
          let fails : FailsAt file kind_of_table fault = (sym same, ends) in
          record { step = kind_of_table; some = omega arith; low = omega arith; fails = fails }
      | none not last ↦
          let same : meta.NotTable ≡ fault = cc in
          let fails : FailsAt file magic_number fault = (sym same, not bytes) in
          record { step = magic_number; some = omega arith; low = omega arith; fails = fails }
    ]

-- a fault of the end of the file is one that the file shows
pub end-shown : (file : List ℕ) (fault : MetaFault) → IsBytes (last_bytes 53 file) → end_read (last_bytes 53 file) ≡ Err fault → ShowsMeta file fault
end-shown file fault bytes e = let found = end-fails file fault bytes e in fails-shows file found.step fault found.fails

-- its step is the first that fails
end-first : (file : List ℕ) (fault : MetaFault) → IsBytes (last_bytes 53 file) → Clear file 1 → end_read (last_bytes 53 file) ≡ Err fault → First file fault
end-first file fault bytes short e =
    let found = end-fails file fault bytes e in
    let low = found.low in (
      found.step,
      record {
        fails = found.fails;
        first = λ earlier another before fails.
            elim (cases_lt (number_of earlier) 1) [
              | inl least ↦ short earlier another least fails
              | inr some ↦
                  let more : 0 < number_of earlier = omega (arith, some) in
                  let less : number_of earlier < 6 = omega (arith, before, low) in
                  let both : ◌≡◌ {A = Result Footer MetaFault} (Err another) (Err fault) = sym (end-step-read file earlier another bytes more less fails) ∙ e in
                  let same : another ≡ fault = cc in
                  let at = end-number file earlier another more less fails in
                  let is = end-number file found.step fault found.some low found.fails in
                  absurd (omega (arith, before, sym at ∙ ap end_number same ∙ is))
            ];
      },
    )

-- and none fails where a footer is read
clear-end : (file : List ℕ) (footer : Footer) → IsBytes (last_bytes 53 file) → Clear file 1 → end_read (last_bytes 53 file) ≡ Ok footer → Clear file 6
clear-end file footer bytes short e = λ step another low fails.
    elim (cases_lt (number_of step) 1) [
      | inl before ↦ short step another before fails
      | inr some ↦ cc (sym (end-step-read file step another bytes (omega (arith, some)) low fails) ∙ e)
    ]

-- the steps of a block pass where it is read
metaindex_frame-passes : (file : List ℕ) (end : ℕ) (h index : Handle) (block : List ℕ) → FooterLeads file end h index → Framed file end h block → Passes file metaindex_frame
metaindex_frame-passes file end h index block leads framed = λ another fails.
    let same = leads-once file end h index fails.0 fails.1 fails.2 leads fails.3 in
    frame-right file end h fails.0 fails.1 block fails.4.0 same.0 same.1 framed fails.4.2

metaindex_rows-pass : (file : List ℕ) (end : ℕ) (h index : Handle) (rows : List Row) → FooterLeads file end h index → HasPairs file end h rows → Passes file metaindex_rows
metaindex_rows-pass file end h index rows leads has = λ another fails.
    let same = leads-once file end h index fails.0 fails.1 fails.2 leads fails.3 in
    let w = fails.4 in
    block-right Names file end h fails.0 fails.1 rows w.1 w.0 same.0 same.1 (pairs-rows file end h rows has) w.3 w.4

props_frame-passes : (file : List ℕ) (end : ℕ) (h : Handle) (block : List ℕ) → PropsLead file end h → Framed file end h block → Passes file props_frame
props_frame-passes file end h block lead framed = λ another fails.
    let same = lead-same file end h fails.0 fails.1 lead fails.2 in
    frame-right file end h fails.0 fails.1 block fails.3.0 same.0 same.1 framed fails.3.2

props_rows-pass : (file : List ℕ) (end : ℕ) (h : Handle) (rows : List Row) → PropsLead file end h → HasPairs file end h rows → Passes file props_rows
props_rows-pass file end h rows lead has = λ another fails.
    let same = lead-same file end h fails.0 fails.1 lead fails.2 in
    let w = fails.3 in
    block-right Names file end h fails.0 fails.1 rows w.1 w.0 same.0 same.1 (pairs-rows file end h rows has) w.3 w.4

-- a rule that finds nothing passes
rule-passes : (o : Option MetaFault) (another : MetaFault) → o ≡ None → o ≡ Some another → ⊥
rule-passes o another nothing found = cc (sym nothing ∙ found)

-- a fault of the properties, at the step of its rule
rules-first : (file : List ℕ) (props : List Row) (fault : MetaFault) → HasProps file props → Clear file 12 → props_fault props ≡ Some fault → First file fault
unfolding props_fault
rules-first file props fault has clear e =
    or_else-some (comparator_fault (value_of comparator props)) _ fault e
    (λ is. (key_order, record { fails = comparator-at file props _ fault has refl is; first = clear }))
    (λ order e.
    let a = clear-next file key_order clear (λ another f. rule-passes _ another order (order-read file props another has f)) in
    or_else-some (index_type_fault (value_of (name_bytes name.IndexType) props)) _ fault e
    (λ is. (index_type, record { fails = index_type-at file props _ fault has refl is; first = a }))
    (λ type e.
    let b = clear-next file index_type a (λ another f. rule-passes _ another type (type-read file props another has f)) in
    or_else-some (global_fault (value_of (name_bytes name.ExternalVersion) props) (value_of (name_bytes name.GlobalSequence) props)) _ fault e
    (λ is. (global_sequence, record { fails = global-at file props _ _ fault has refl refl is; first = b }))
    (λ global e.
    let c = clear-next file global_sequence b (λ another f. rule-passes _ another global (global-read file props another has f)) in
    or_else-some (external_fault (value_of (name_bytes name.ExternalVersion) props)) _ fault e
    (λ is. (external_version, record { fails = external-at file props _ fault has refl is; first = c }))
    (λ external e.
    let d = clear-next file external_version c (λ another f. rule-passes _ another external (external-read file props another has f)) in
    or_else-some (flag_fault name.IndexKeyIsUserKey (value_of (name_bytes name.IndexKeyIsUserKey) props)) _ fault e
    (λ is. (user_key_flag, record { fails = flag-at file name.IndexKeyIsUserKey _ fault (λ value at not. (value, (props, has, at), not)) is; first = d }))
    (λ user e.
    let f = clear-next file user_key_flag d (λ another f. rule-passes _ another user (user-read file props another has f)) in
    or_else-some (flag_fault name.IndexValueIsDeltaEncoded (value_of (name_bytes name.IndexValueIsDeltaEncoded) props)) _ fault e
    (λ is. (delta_flag, record { fails = flag-at file name.IndexValueIsDeltaEncoded _ fault (λ value at not. (value, (props, has, at), not)) is; first = f }))
    (λ delta e.
    let h = clear-next file delta_flag f (λ another f. rule-passes _ another delta (delta-read file props another has f)) in
    (form_is_read, record { fails = form-at file props fault has e; first = h })))))))

-- a fault on the way to the properties, or of them
lead-first : (file : List ℕ) (end : ℕ) (names : List Row) (o : Option (List ℕ)) (fault : MetaFault) → HasNames file end names
    → value_of (name_bytes name.Properties) names ≡ o → Clear file 9 → props_at file end o ≡ Err fault → First file fault
lead-first file end names None fault has is clear e = cc
lead-first file end names (Some value) fault has is clear e =
    elim (handle_in value) as (λ (q : Option Handle). handle_in value ≡ q → props_in file end q ≡ Err fault → First file fault) [
      | None ↦ λ none e.
          let same : meta.BadProperty name.Properties ≡ fault = cc in
          let shows : IsBadValue file name.Properties = (end, names, value, has, is, λ h handle. cc (none, handle_in-handle h value handle)) in
          (props_handle, record { fails = (sym same, shows); first = clear })
      | Some h ↦ λ read e.
          let handle = handle_in-found h value read in
          let lead : PropsLead file end h = (names, value, has, is, handle) in
          let a = clear-next file props_handle clear (handle-passes file end names value h has is handle) in
          then_open-err (block_at meta.Frame (meta.Block h) Names file end h) sound_props fault e
          (λ first. block_at-fault meta.Frame (meta.Block h) Names file end h fault first
          (λ f wrong same. (props_frame, record { fails = (end, h, lead, (f, sym same, wrong)); first = a }))
          (λ block framed f wrong same.
          let b = clear-next file props_frame a (props_frame-passes file end h block lead framed) in
          (props_rows, record { fails = (end, h, lead, (f, block, sym same, framed, wrong)); first = b })))
          (λ rows found last.
          let pairs = rows-pairs file end h rows (block_at-found meta.Frame (meta.Block h) Names file end h rows found) in
          let b = clear-next file props_frame a (props_frame-passes file end h pairs.block lead pairs.framed) in
          let c = clear-next file props_rows b (props_rows-pass file end h rows lead pairs) in
          rules-first file rows fault (end, h, lead, pairs) c (unless-err rows (props_fault rows) fault last))
    ] refl e

-- a fault after the metaindex
props-first : (file : List ℕ) (end : ℕ) (names : List Row) (fault : MetaFault) → HasNames file end names → Clear file 8 → props_read file end names ≡ Err fault → First file fault
props-first file end names fault has clear e =
    read-parts file end names (Err fault) e
    (λ value is wrong.
    let same : meta.RangeTombstones ≡ fault = cc in
    (no_tombstones, record { fails = (sym same, (end, names, value, has, is)); first = clear }))
    (λ none wrong.
    lead-first file end names (value_of (name_bytes name.Properties) names) fault has refl (clear-next file no_tombstones clear (tombstones-pass file end names has none)) wrong)

-- a fault after the footer
names-first : (file : List ℕ) (footer : Footer) (fault : MetaFault) → FooterLeads file (footer_start file) footer.meta footer.index → Clear file 6
    → names_read file (footer_start file) footer ≡ Err fault → First file fault
names-first file footer fault leads clear e =
    let end = footer_start file in
    let h = footer.meta in
    then_open-err (block_at meta.Frame (meta.Block h) Names file end h) _ fault e
    (λ first. block_at-fault meta.Frame (meta.Block h) Names file end h fault first
    (λ f wrong same. (metaindex_frame, record { fails = (end, h, footer.index, leads, (f, sym same, wrong)); first = clear }))
    (λ block framed f wrong same.
    let a = clear-next file metaindex_frame clear (metaindex_frame-passes file end h footer.index block leads framed) in
    (metaindex_rows, record { fails = (end, h, footer.index, leads, (f, block, sym same, framed, wrong)); first = a })))
    (λ names found e.
    let pairs = rows-pairs file end h names (block_at-found meta.Frame (meta.Block h) Names file end h names found) in
    let a = clear-next file metaindex_frame clear (metaindex_frame-passes file end h footer.index pairs.block leads pairs.framed) in
    let b = clear-next file metaindex_rows a (metaindex_rows-pass file end h footer.index names leads pairs) in
    then_open-err (props_read file end names) _ fault e
    (λ first. props-first file end names fault (h, footer.index, leads, pairs) b first)
    (λ props got last. cc))

-- the fault that is read is the one of the first step that fails
pub load-first : (file : List ℕ) (fault : MetaFault) → IsBytes (last_bytes 53 file) → load_read file ≡ Err fault → First file fault
unfolding load_read
load-first file fault bytes e =
    by_test (nat_lt (length file) (2 ^ 40)) (then_open (end_read (last_bytes 53 file)) (names_read file (footer_start file))) _ (Err fault) e
    (λ test e.
    let short = clear-short file (ltb-true (length file) (2 ^ 40) test) in
    then_open-err (end_read (last_bytes 53 file)) _ fault e
    (λ first. end-first file fault bytes short first)
    (λ footer read e. names-first file footer fault (leads-read file footer read).0 (clear-end file footer bytes short read) e))
    (λ test e.
    let same : meta.FileLong ≡ fault = cc in
    (file_length, record { fails = (sym same, ltb-false (length file) (2 ^ 40) test); first = λ s another low fails. absurd (omega (arith, low)) }))

-- so it is one that the file shows
pub load-shown : (file : List ℕ) (fault : MetaFault) → IsBytes (last_bytes 53 file) → load_read file ≡ Err fault → ShowsMeta file fault
load-shown file fault bytes e = let found = load-first file fault bytes e in fails-shows file found.0 fault found.1.fails
