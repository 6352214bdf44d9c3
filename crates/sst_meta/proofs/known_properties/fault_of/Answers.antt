use Rattle.std.proofs.Common.{ℕ, List, Option, ap, ◌∙◌}
use Rattle.sst_meta.specs.LoadReading.{comparator_fault, index_type_fault, external_fault, flag_fault}
use Rattle.sst_meta.specs.Pairs.{value_of}
use Rattle.sst_meta.specs.declared.name.Name.TheVariants as name
use Rattle.sst_meta.proofs.FaultsOrdered.{joined_faults}
use Rattle.sst_meta.proofs.known_properties.fault_of.Goals as goal

pub returns : goal.returns
returns c =
    let props = c.args.props.now in
    let external = c.get-external.ensures.exact ∙ ap (λ (n : List ℕ). value_of n props) c.as_slice.ensures in
    let global = c.get-global.ensures.exact ∙ ap (λ (n : List ℕ). value_of n props) c.as_slice-2.ensures in
    let user_key = c.get-user_key.ensures.exact ∙ ap (λ (n : List ℕ). value_of n props) c.as_slice-3.ensures in
    let delta = c.get-delta.ensures.exact ∙ ap (λ (n : List ℕ). value_of n props) c.as_slice-4.ensures in
    let type = c.get-2.ensures.exact ∙ ap (λ (n : List ℕ). value_of n props) c.as_slice-5.ensures in
    joined_faults props c.comparator_fault-fault.result c.index_type_fault.result c.global_fault.result c.external_fault.result c.flag_fault.result c.flag_fault-2.result c.form_fault.result
    c.or_fault-fault.result c.or_fault-fault-2.result c.or_fault-fault-3.result c.or_fault-fault-4.result c.or_fault-fault-5.result c.or_fault.result _ _
    c.or_fault-fault.ensures c.or_fault-fault-2.ensures c.or_fault-fault-3.ensures c.or_fault-fault-4.ensures c.or_fault-fault-5.ensures c.or_fault.ensures
    (c.comparator_fault-fault.ensures ∙ ap comparator_fault c.get.ensures.exact)
    (c.index_type_fault.ensures ∙ ap index_type_fault type)
    external global c.global_fault.ensures
    (c.external_fault.ensures ∙ ap external_fault external)
    (c.flag_fault.ensures ∙ ap (λ (v : Option (List ℕ)). flag_fault name.IndexKeyIsUserKey v) user_key)
    (c.flag_fault-2.ensures ∙ ap (λ (v : Option (List ℕ)). flag_fault name.IndexValueIsDeltaEncoded v) delta)
    c.form_fault.ensures
