-- Provisioning stores the bits of its lanes, and no others.
use Rattle.std.proofs.Common.{Bool, ◌≡◌, ◌⊎◌, inl, inr, ℕ, Some, None, List, [], ◌∷◌, refl, sym, ap, ◌∙◌}
use Rattle.std.specs.FinSet as set
use Rattle.std.specs.List.{AllByRecursion}
use Rattle.bus_model.specs.declared.operation.Op.{Op}
use Rattle.bus_model.specs.declared.operation.Step.{Step}
use Rattle.field_tables.specs.declared.field.Register.TheVariants as registers
use Rattle.field_tables.specs.Registers.{first_byte}
use Rattle.field_tables.specs.LaneSets.{Lanes, byte_of, lanes_in}
use Rattle.control_sets.specs.StoredBits.{HasBitsOf, LeavesOthers, Sets, byte_for}
use Rattle.control_sets.specs.OutcomeOfProvisioning.{IsProvisioningStepBy}
use Rattle.control_sets.specs.OutcomeOperations.{apply, control_page, read_active, read_module_state, read_path_states, read_staged, read_statuses, set_deinit, stage, status_page}
use Rattle.control_sets.specs.Pages.{EachStep, History, read_selection, selection}
use Rattle.control_sets.proofs.LaneBits.{in_byte_of}

-- an operation that has no byte for either address
stores_none : (op other : Op) (bits : ℕ) → op ≡ other → byte_for (first_byte registers.DPDeinit) other ≡ None → byte_for (first_byte registers.ApplyDPInit) other ≡ None → Sets bits op → ⊥
stores_none op other bits is first second (inl sets) = let some : None ≡ Some bits = sym first ∙ ap (byte_for (first_byte registers.DPDeinit)) (sym is) ∙ sets in cc
stores_none op other bits is first second (inr sets) = let some : None ≡ Some bits = sym second ∙ ap (byte_for (first_byte registers.ApplyDPInit)) (sym is) ∙ sets in cc

-- the bits that are stored, and no others
mask_alone : (op : Op) (bits mask : ℕ) → (op ≡ set_deinit mask) ⊎ (op ≡ apply mask) → Sets bits op → bits ≡ mask
mask_alone op bits mask (inl deinit) (inl sets) = let same : Some mask ≡ Some bits = ap (byte_for (first_byte registers.DPDeinit)) (sym deinit) ∙ sets in cc
mask_alone op bits mask (inl deinit) (inr sets) = let none : None ≡ Some bits = ap (byte_for (first_byte registers.ApplyDPInit)) (sym deinit) ∙ sets in cc
mask_alone op bits mask (inr applies) (inl sets) = let none : None ≡ Some bits = ap (byte_for (first_byte registers.DPDeinit)) (sym applies) ∙ sets in cc
mask_alone op bits mask (inr applies) (inr sets) = let same : Some mask ≡ Some bits = ap (byte_for (first_byte registers.ApplyDPInit)) (sym applies) ∙ sets in cc

module _ (doubts : Bool) (control : List ℕ) (lanes : Lanes) where
  mask_of : (step : Step) (before : History) (bits : ℕ) → IsProvisioningStepBy doubts control lanes step before → Sets bits step.op → bits ≡ byte_of lanes
  mask_of step before bits (inl (inl is)) sets = absurd (stores_none step.op read_module_state bits is refl refl sets)
  mask_of step before bits (inl (inr (inl is))) sets = absurd (stores_none step.op read_selection bits is refl refl sets)
  mask_of step before bits (inl (inr (inr (inl is)))) sets = absurd (stores_none step.op (selection control_page) bits is refl refl sets)
  mask_of step before bits (inl (inr (inr (inr (inl is))))) sets = absurd (stores_none step.op (selection status_page) bits is refl refl sets)
  mask_of step before bits (inl (inr (inr (inr (inr none))))) sets = absurd none
  mask_of step before bits (inr (inl (inl is, confirmed))) sets = absurd (stores_none step.op read_path_states bits is refl refl sets)
  mask_of step before bits (inr (inl (inr (inl is), confirmed))) sets = absurd (stores_none step.op read_statuses bits is refl refl sets)
  mask_of step before bits (inr (inl (inr (inr (inl is)), confirmed))) sets = absurd (stores_none step.op read_active bits is refl refl sets)
  mask_of step before bits (inr (inl (inr (inr (inr none)), confirmed))) sets = absurd none
  mask_of step before bits (inr (inr (inl is, confirmed))) sets = mask_alone step.op bits (byte_of lanes) (inl is) sets
  mask_of step before bits (inr (inr (inr (inl is), confirmed))) sets = absurd (stores_none step.op (stage control) bits is refl refl sets)
  mask_of step before bits (inr (inr (inr (inr (inl is)), confirmed))) sets = absurd (stores_none step.op read_staged bits is refl refl sets)
  mask_of step before bits (inr (inr (inr (inr (inr (inl is))), confirmed))) sets = mask_alone step.op bits (byte_of lanes) (inr is) sets
  mask_of step before bits (inr (inr (inr (inr (inr (inr none))), confirmed))) sets = absurd none

  bits_of : (step : Step) (before : History) → IsProvisioningStepBy doubts control lanes step before → HasBitsOf lanes step
  bits_of step before shaped bits lane sets within =
      ap (λ (byte : ℕ). set.contains (lanes_in byte) lane) (mask_of step before bits shaped sets) ∙ in_byte_of lanes lane within

  pub each_has_bits : (history : History) → EachStep (IsProvisioningStepBy doubts control lanes) history → AllByRecursion (HasBitsOf lanes) history
  each_has_bits [] shape = tt
  each_has_bits (step ∷ before) shape = (bits_of step before shape.0, each_has_bits before shape.1)

-- so none of a lane that it leaves alone
pub others_left : (lanes : Lanes) (history : History) → AllByRecursion (HasBitsOf lanes) history → AllByRecursion (LeavesOthers lanes) history
others_left lanes [] each = tt
others_left lanes (step ∷ before) each = (λ bits lane sets within outside. each.0 bits lane sets within ∙ outside, others_left lanes before each.1)
