-- Waking a module up, and putting it to sleep, as the numbers of a saved procedure: which numbers are such, and of which.
-- (docs/firmware.md, "The numbers of a conversation"; this project's own)
use Rattle.std.specs.Prelude.{ℕ, ◌==◌, ◌&&◌, nat_le, Bool, true, false, ◌∷◌, Option, Some, None, if◌then◌else◌, replicate, slice_index}
use Rattle.control_sets.specs.declared.fault.ProvisionFault.{ProvisionFault}
use Rattle.control_sets.specs.declared.fault.ProvisionFault.TheVariants.{ModuleState, Reserved}
use Rattle.control_sets.specs.declared.procedures.procedure.saved.SavedProcedure.{SavedProcedure}
use Rattle.control_sets.specs.declared.procedures.power.Power.{Power}
use Rattle.control_sets.specs.declared.procedures.power.Power.TheVariants.{Awake, Asleep}
use Rattle.control_sets.specs.declared.procedures.power.PowerStage.{PowerStage}
use Rattle.control_sets.specs.declared.procedures.power.PowerStage.TheVariants.{Unread, Found, Stored, Met}
use Rattle.control_sets.specs.OutcomeAnswers.{most_steps}
use Rattle.control_sets.specs.PowerProgress.{PatientPower, patient_power}
use Rattle.control_sets.specs.SavedNumbers.{due_numbered, fault_in, number_of_due, saved_fault}

-- the works 3 and 4; 1 and 2 are provisioning and activation
abbrev pub power_numbered : ℕ → Option Power
power_numbered number = if number == 3 then Some Awake else (if number == 4 then Some Asleep else None)

-- by how many of the three things to do were done; of the byte that was read, the number is kept while it is needed
abbrev pub stage_numbered : ℕ → ℕ → Option PowerStage
stage_numbered met found =
    if met == 1 then Some (Found found)
    else (if met == 0 && found == 0 then Some Unread
    else (if met == 2 && found == 0 then Some Stored
    else (if met == 3 && found == 0 then Some Met
    else None)))

-- a fault of the module's state may be found, and no other
abbrev pub can_stop : Option ProvisionFault → Bool
can_stop None = true
can_stop (Some (ModuleState code)) = true
can_stop (Some (Reserved code)) = true
can_stop (Some fault) = false

-- the numbers that stand for nothing are 0
abbrev pub has_no_more : SavedProcedure → Bool
has_no_more saved =
    ((saved.lanes == 0 && (saved.selection == 0 && saved.page == 0))
    && (((slice_index saved.control 1 == 0 && slice_index saved.control 2 == 0) && slice_index saved.control 3 == 0) && slice_index saved.control 4 == 0))
    && ((slice_index saved.control 5 == 0 && slice_index saved.control 6 == 0) && slice_index saved.control 7 == 0)

abbrev pub change_of : SavedProcedure → Option Power → Option PowerStage → Option (Option ProvisionFault) → Option Bool → Option PatientPower
change_of saved (Some power) (Some stage) (Some fault) (Some due) =
    if nat_le saved.steps most_steps && (can_stop fault && has_no_more saved)
    then Some (patient_power (record { power = power; stage = stage; fault = fault }) (record { pause = saved.pause; limit = saved.limit }) due saved.idle saved.steps)
    else None
change_of saved power stage fault due = None

-- the change of power that has these numbers; none if they are those of none
unfoldable pub restored_power : SavedProcedure → Option PatientPower
restored_power saved =
    change_of saved (power_numbered saved.work) (stage_numbered saved.met (slice_index saved.control 0)) (fault_in saved.fault) (due_numbered saved.due)

abbrev pub number_of_power : Power → ℕ
number_of_power Awake = 3
number_of_power Asleep = 4

-- how many things were done, and the byte that was read while it is needed, else 0
abbrev pub numbers_of_stage : PowerStage → ℕ × ℕ
numbers_of_stage Unread = (0, 0)
numbers_of_stage (Found byte) = (1, byte)
numbers_of_stage Stored = (2, 0)
numbers_of_stage Met = (3, 0)

-- the numbers that a change of power is saved as; those that stand for nothing in it are 0
abbrev pub saved_power : PatientPower → SavedProcedure
saved_power within = record {
  met = (numbers_of_stage within.conversation.conversation.stage).0;
  steps = within.steps;
  work = number_of_power within.conversation.conversation.power;
  lanes = 0;
  control = (numbers_of_stage within.conversation.conversation.stage).1 ∷ replicate 7 0;
  selection = 0;
  page = 0;
  fault = saved_fault within.conversation.conversation.fault;
  due = number_of_due within.conversation.due;
  idle = within.conversation.idle;
  pause = within.conversation.patience.pause;
  limit = within.conversation.patience.limit;
}
