-- Each operation of provisioning, activation and changes of power is at a register of the memory map.
use Rattle.std.proofs.Common.{Bool, ◌≡◌, inl, inr, ℕ, ◌-◌, List, [], ◌∷◌, length, refl}
use Rattle.bus_model.specs.declared.operation.Step.{Step}
use Rattle.conversations.specs.Selecting.{trusted}
use Rattle.field_tables.specs.LaneSets.{Lanes, byte_of}
use Rattle.field_tables.specs.declared.field.Register.{Register}
use Rattle.field_tables.specs.declared.field.Register.TheVariants as registers
use Rattle.field_tables.specs.Registers.{byte_count, page_of}
use Rattle.control_sets.specs.RegisterOperations.{read_of, store_to}
use Rattle.control_sets.specs.OutcomeOperations.{IsAtRegister, IsAtRegisterBy, IsConfirmed, control_page, status_page}
use Rattle.control_sets.specs.OutcomeOfProvisioning.{IsProvisioningStepBy}
use Rattle.control_sets.specs.OutcomeOfActivation.{IsActivationStepBy}
use Rattle.control_sets.specs.OutcomeOfPower.{IsPowerStep}
use Rattle.control_sets.specs.PowerControls.{wanted_controls}
use Rattle.control_sets.specs.declared.procedures.power.Power.{Power}
use Rattle.control_sets.specs.Pages.{EachStep, History}
use Rattle.control_sets.proofs.OutcomeWords.{each_from}

reads : (step : Step) (before : History) (register : Register) → step.op ≡ read_of register → IsConfirmed (page_of register) before → IsAtRegister step before
reads step before register is shown = record { register = register; wholly = inl is; shown = shown }

stores : (step : Step) (before : History) (register : Register) (bytes : List ℕ) → step.op ≡ store_to register bytes →
    length bytes ≡ byte_count register → IsConfirmed (page_of register) before → IsAtRegister step before
stores step before register bytes is long shown = record { register = register; wholly = inr (bytes, long, is); shown = shown }

provisioning_step : (doubts : Bool) (control : List ℕ) (lanes : Lanes) → length control ≡ 8 → (step : Step) (before : History) → IsProvisioningStepBy doubts control lanes step before → IsAtRegister step (trusted doubts before)
provisioning_step doubts control lanes eight step before (inl (inl is)) = reads step (trusted doubts before) registers.GlobalStatus is tt
provisioning_step doubts control lanes eight step before (inl (inr (inl is))) = reads step (trusted doubts before) registers.PageMapping is tt
provisioning_step doubts control lanes eight step before (inl (inr (inr (inl is)))) = stores step (trusted doubts before) registers.PageMapping (0 ∷ control_page ∷ []) is refl tt
provisioning_step doubts control lanes eight step before (inl (inr (inr (inr (inl is))))) = stores step (trusted doubts before) registers.PageMapping (0 ∷ status_page ∷ []) is refl tt
provisioning_step doubts control lanes eight step before (inl (inr (inr (inr (inr none))))) = absurd none
provisioning_step doubts control lanes eight step before (inr (inl (inl is, shown))) = reads step (trusted doubts before) registers.PathStates is shown
provisioning_step doubts control lanes eight step before (inr (inl (inr (inl is), shown))) = reads step (trusted doubts before) registers.ConfigStatus is shown
provisioning_step doubts control lanes eight step before (inr (inl (inr (inr (inl is)), shown))) = reads step (trusted doubts before) registers.ActiveControl is shown
provisioning_step doubts control lanes eight step before (inr (inl (inr (inr (inr none)), shown))) = absurd none
provisioning_step doubts control lanes eight step before (inr (inr (inl is, shown))) = stores step (trusted doubts before) registers.DPDeinit (byte_of lanes ∷ []) is refl shown
provisioning_step doubts control lanes eight step before (inr (inr (inr (inl is), shown))) = stores step (trusted doubts before) registers.StagedControl control is eight shown
provisioning_step doubts control lanes eight step before (inr (inr (inr (inr (inl is)), shown))) = reads step (trusted doubts before) registers.StagedControl is shown
provisioning_step doubts control lanes eight step before (inr (inr (inr (inr (inr (inl is))), shown))) = stores step (trusted doubts before) registers.ApplyDPInit (byte_of lanes ∷ []) is refl shown
provisioning_step doubts control lanes eight step before (inr (inr (inr (inr (inr (inr none))), shown))) = absurd none

pub provisioning_at_registers : (doubts : Bool) (control : List ℕ) (lanes : Lanes) (history : History) → length control ≡ 8 → EachStep (IsProvisioningStepBy doubts control lanes) history → EachStep (IsAtRegisterBy doubts) history
provisioning_at_registers doubts control lanes history eight shape = each_from (IsProvisioningStepBy doubts control lanes) (IsAtRegisterBy doubts) history (provisioning_step doubts control lanes eight) shape

activation_step : (doubts : Bool) (lanes : Lanes) (step : Step) (before : History) → IsActivationStepBy doubts lanes step before → IsAtRegister step (trusted doubts before)
activation_step doubts lanes step before (inl (inl is)) = reads step (trusted doubts before) registers.GlobalStatus is tt
activation_step doubts lanes step before (inl (inr (inl is))) = reads step (trusted doubts before) registers.PageMapping is tt
activation_step doubts lanes step before (inl (inr (inr (inl is)))) = stores step (trusted doubts before) registers.PageMapping (0 ∷ control_page ∷ []) is refl tt
activation_step doubts lanes step before (inl (inr (inr (inr (inl is))))) = stores step (trusted doubts before) registers.PageMapping (0 ∷ status_page ∷ []) is refl tt
activation_step doubts lanes step before (inl (inr (inr (inr (inr none))))) = absurd none
activation_step doubts lanes step before (inr (inl (inl is, shown))) = reads step (trusted doubts before) registers.ActiveControl is shown
activation_step doubts lanes step before (inr (inl (inr (inl is), shown))) = reads step (trusted doubts before) registers.PathStates is shown
activation_step doubts lanes step before (inr (inl (inr (inr none), shown))) = absurd none
activation_step doubts lanes step before (inr (inr (inl is, shown))) = stores step (trusted doubts before) registers.DPDeinit ((255 - byte_of lanes) ∷ []) is refl shown
activation_step doubts lanes step before (inr (inr (inr none, shown))) = absurd none

pub activation_at_registers : (doubts : Bool) (lanes : Lanes) (history : History) → EachStep (IsActivationStepBy doubts lanes) history → EachStep (IsAtRegisterBy doubts) history
activation_at_registers doubts lanes history shape = each_from (IsActivationStepBy doubts lanes) (IsAtRegisterBy doubts) history (activation_step doubts lanes) shape

power_step : (power : Power) (step : Step) (before : History) → IsPowerStep power step before → IsAtRegister step before
power_step power step before (inl is) = reads step before registers.GlobalControls is tt
power_step power step before (inr (inl (byte, is, found))) = stores step before registers.GlobalControls (wanted_controls power byte ∷ []) is refl tt
power_step power step before (inr (inr is)) = reads step before registers.GlobalStatus is tt

pub power_at_registers : (power : Power) (history : History) → EachStep (IsPowerStep power) history → EachStep IsAtRegister history
power_at_registers power history shape = each_from (IsPowerStep power) IsAtRegister history (power_step power) shape
