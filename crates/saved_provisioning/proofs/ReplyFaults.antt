-- A fault that a reply to a task shows is one of the module's.
use Rattle.std.proofs.Common.{◌≡◌, ℕ, Bool, true, false, List, Option, Some, None, refl, subst}
use Rattle.std.specs.Prelude.{slice_index}
use Rattle.bus_model.specs.declared.bus.BusFault.TheVariants.{TraceFull}
use Rattle.bus_model.specs.declared.operation.Op.{Op}
use Rattle.bus_model.specs.declared.operation.Op.TheVariants.{Fetch, Store}
use Rattle.bus_model.specs.declared.operation.Reply.{Reply}
use Rattle.bus_model.specs.declared.operation.Reply.TheVariants.{Bytes, Done, Refused}
use Rattle.field_tables.specs.declared.field.Field.TheVariants as fields
use Rattle.field_tables.specs.declared.table.cmis.CmisField.TheVariants as cmis
use Rattle.field_tables.specs.FieldValues.{number_in_byte}
use Rattle.field_tables.specs.LaneSets.{Lanes, every_lane}
use Rattle.datapath_states.specs.declared.state.PathState.{PathState}
use Rattle.datapath_states.specs.declared.state.PathState.TheVariants.{Activated, Deactivated}
use Rattle.datapath_states.specs.Lanes.{codes_in}
use Rattle.datapath_states.specs.StateCodes.{code_of}
use Rattle.module_states.specs.declared.state.ModuleState.{ModuleState as State}
use Rattle.module_states.specs.declared.state.ModuleState.TheVariants.{Ready}
use Rattle.module_states.specs.Codes.{state_at as module_state_at}
use Rattle.control_sets.specs.declared.fault.ProvisionFault.{ProvisionFault}
use Rattle.control_sets.specs.declared.fault.ProvisionFault.TheVariants.{StagedDiffers, ActiveDiffers, Bus}
use Rattle.control_sets.specs.declared.procedures.judgement.ReplyJudgement.{ReplyJudgement}
use Rattle.control_sets.specs.declared.procedures.judgement.ReplyJudgement.TheVariants.{Met, NotYet, Fails}
use Rattle.control_sets.specs.declared.procedures.task.Task.{Task}
use Rattle.control_sets.specs.declared.procedures.task.Task.TheVariants.{FindReady, AwaitDeactivated, CheckStaged, AwaitApplied, CheckActive, AwaitActivated}
use Rattle.control_sets.specs.Judgements.{all_lanes_have, differing_lane, is_rejection, is_reserved_state, is_reserved_status, judged, judged_done, judged_states, judgement, lowest_lane, met_if, met_in, met_unless, unless_rejected, unless_reserved}
use Rattle.control_sets.specs.SavedNumbers.{fault_in, is_found, saved_fault}
use Rattle.control_sets.specs.Tasks.{operation}

pub fault_back : (fault : Option ProvisionFault) → fault_in (saved_fault fault) ≡ Some fault
fault_back (Some (Bus TraceFull)) = refl
fault_back _ = refl

abbrev found_in : ReplyJudgement → Bool
found_in (Fails fault) = is_found fault
found_in _ = true

met_found : (met : Bool) → found_in (met_if met) ≡ true
met_found true = refl
met_found false = refl

reserved_found : (codes : List ℕ) (lane : Option ℕ) (judged : ReplyJudgement) → found_in judged ≡ true → found_in (unless_reserved codes lane judged) ≡ true
reserved_found codes None judged e = e
reserved_found codes (Some lane) judged e = refl

rejected_found : (codes : List ℕ) (lane : Option ℕ) (judged : ReplyJudgement) → found_in judged ≡ true → found_in (unless_rejected codes lane judged) ≡ true
rejected_found codes None judged e = e
rejected_found codes (Some lane) judged e = refl

staged_found : (lane : Option ℕ) → found_in (met_unless StagedDiffers lane) ≡ true
staged_found None = refl
staged_found (Some lane) = refl

active_found : (lane : Option ℕ) → found_in (met_unless ActiveDiffers lane) ≡ true
active_found None = refl
active_found (Some lane) = refl

module_found : (code : ℕ) (state : Option State) → found_in (met_in code state) ≡ true
module_found code (Some Ready) = refl
module_found code _ = refl

states_found : (looked waiting : Lanes) (state : PathState) (codes : List ℕ) → found_in (judged_states looked waiting state codes) ≡ true
states_found looked waiting state codes =
    reserved_found codes (lowest_lane is_reserved_state looked codes) (met_if (all_lanes_have (code_of state) waiting codes)) (met_found (all_lanes_have (code_of state) waiting codes))

statuses_found : (lanes : Lanes) (codes : List ℕ) → found_in (unless_reserved codes (lowest_lane is_reserved_status lanes codes) (unless_rejected codes (lowest_lane is_rejection lanes codes) (met_if (all_lanes_have 1 lanes codes)))) ≡ true
statuses_found lanes codes =
    let met = met_if (all_lanes_have 1 lanes codes) in
    let rejected = lowest_lane is_rejection lanes codes in
    reserved_found codes (lowest_lane is_reserved_status lanes codes) (unless_rejected codes rejected met) (rejected_found codes rejected met (met_found (all_lanes_have 1 lanes codes)))

read_found : (task : Task) (bytes : List ℕ) → found_in (judged task bytes) ≡ true
unfolding judged
read_found FindReady bytes = module_found (number_in_byte (fields.Cmis cmis.ModuleState) (slice_index bytes 0)) (module_state_at (number_in_byte (fields.Cmis cmis.ModuleState) (slice_index bytes 0)))
read_found (AwaitDeactivated lanes) bytes = states_found lanes lanes Deactivated (codes_in bytes 8)
read_found (CheckStaged control) bytes = staged_found (differing_lane bytes control)
read_found (AwaitApplied lanes) bytes = statuses_found lanes (codes_in bytes 8)
read_found (CheckActive control) bytes = active_found (differing_lane bytes control)
read_found (AwaitActivated lanes) bytes = states_found every_lane lanes Activated (codes_in bytes 8)
read_found _ bytes = refl

done_found : (op : Op) → found_in (judged_done op) ≡ true
done_found (Fetch dev offset count) = refl
done_found (Store dev offset bytes) = refl

reply_found : (task : Task) (reply : Reply) → found_in (judgement task reply) ≡ true
reply_found task (Bytes bytes) = read_found task bytes.items
reply_found task Done = done_found (operation task)
reply_found task Refused = refl

pub fails_found : (task : Task) (reply : Reply) (fault : ProvisionFault) → judgement task reply ≡ Fails fault → is_found fault ≡ true
fails_found task reply fault is = by (judgement task reply) is (reply_found task reply) where
  by : (judged : ReplyJudgement) → judged ≡ Fails fault → found_in judged ≡ true → is_found fault ≡ true
  by Met same found = absurd cc
  by NotYet same found = absurd cc
  by (Fails other) same found = let is_same : other ≡ fault = cc in subst (λ (f : ProvisionFault). is_found f ≡ true) is_same found
