-- What a reply says of a task: that it is met, that it isn't yet, or a fault. (docs/bus.md, "Procedures"; OIF-CMIS-05.0,
-- module state of the lower memory; data path states, configuration statuses and the Active Control Set of page 11h)
use Rattle.std.specs.Prelude.{◌≡◌, ℕ, ◌-◌, ◌==◌, ◌&&◌, ◌||◌, nat_le, not, Bool, true, false, List, Option, Some, None, find, slice_index, is_none}
use Rattle.std.specs.List.{list_all, range_with_len}
use Rattle.std.specs.FinSet as set
use Rattle.field_tables.specs.declared.field.Field.TheVariants as fields
use Rattle.field_tables.specs.declared.table.cmis.CmisField.TheVariants as cmis
use Rattle.field_tables.specs.FieldValues.{number_in_byte}
use Rattle.field_tables.specs.LaneSets.{Lanes, every_lane}
use Rattle.module_states.specs.declared.state.ModuleState.{ModuleState as State}
use Rattle.module_states.specs.declared.state.ModuleState.TheVariants.{Ready}
use Rattle.module_states.specs.Codes.{state_at as module_state_at}
use Rattle.datapath_states.specs.declared.state.PathState.{PathState}
use Rattle.datapath_states.specs.declared.state.PathState.TheVariants.{Deactivated, Activated}
use Rattle.datapath_states.specs.Lanes.{codes_in}
use Rattle.datapath_states.specs.StateCodes.{code_of, state_at}
use Rattle.datapath_states.specs.StatusCodes.{status_at}
use Rattle.bus_model.specs.declared.operation.Op.{Op}
use Rattle.bus_model.specs.declared.operation.Op.TheVariants.{Fetch, Store}
use Rattle.bus_model.specs.declared.operation.Reply.{Reply}
use Rattle.bus_model.specs.declared.operation.Reply.TheVariants.{Bytes, Done, Refused}
use Rattle.control_sets.specs.declared.fault.ProvisionFault.{ProvisionFault}
use Rattle.control_sets.specs.declared.fault.ProvisionFault.TheVariants.{Rejected, StagedDiffers, ActiveDiffers, ModuleState, Reserved}
use Rattle.control_sets.specs.declared.procedures.task.Task.{Task}
use Rattle.control_sets.specs.declared.procedures.task.Task.TheVariants.{FindReady, AwaitDeactivated, CheckStaged, AwaitApplied, CheckActive, AwaitActivated}
use Rattle.control_sets.specs.declared.procedures.judgement.ReplyJudgement.{ReplyJudgement}
use Rattle.control_sets.specs.declared.procedures.judgement.ReplyJudgement.TheVariants.{Met, NotYet, Fails}
use Rattle.control_sets.specs.Tasks.{operation}

abbrev pub met_if : Bool → ReplyJudgement
met_if true = Met
met_if false = NotYet

-- of eight bytes or codes, lane 1 first, that of a lane
abbrev pub at_lane : List ℕ → ℕ → ℕ
at_lane values lane = slice_index values (lane - 1)

-- the lowest lane of a set, counted from 1, whose code passes a test
abbrev pub lowest_lane : (ℕ → Bool) → Lanes → List ℕ → Option ℕ
lowest_lane test lanes codes = find (λ lane. set.contains lanes lane && test (at_lane codes lane)) (range_with_len 1 8)

-- each lane of a set has the code
abbrev pub all_lanes_have : ℕ → Lanes → List ℕ → Bool
all_lanes_have code lanes codes = list_all (λ lane. not (set.contains lanes lane) || at_lane codes lane == code) (range_with_len 1 8)

-- the lowest lane whose bytes differ
abbrev pub differing_lane : List ℕ → List ℕ → Option ℕ
differing_lane bytes control = find (λ lane. not (at_lane bytes lane == at_lane control lane)) (range_with_len 1 8)

-- no data path state has the code
abbrev pub is_reserved_state : ℕ → Bool
is_reserved_state code = is_none (state_at code)

-- no configuration status has the code
abbrev pub is_reserved_status : ℕ → Bool
is_reserved_status code = is_none (status_at code)

-- the configuration was rejected, for a reason of the standard's or of the module's own
abbrev pub is_rejection : ℕ → Bool
is_rejection code = (nat_le 2 code && nat_le code 7) || (nat_le 13 code && nat_le code 15)

abbrev pub unless_reserved : List ℕ → Option ℕ → ReplyJudgement → ReplyJudgement
unless_reserved codes None judged = judged
unless_reserved codes (Some lane) judged = Fails (Reserved (at_lane codes lane))

abbrev pub unless_rejected : List ℕ → Option ℕ → ReplyJudgement → ReplyJudgement
unless_rejected codes None judged = judged
unless_rejected codes (Some lane) judged = Fails (Rejected lane (at_lane codes lane))

abbrev pub met_unless : (ℕ → ProvisionFault) → Option ℕ → ReplyJudgement
met_unless fault None = Met
met_unless fault (Some lane) = Fails (fault lane)

abbrev pub met_in : ℕ → Option State → ReplyJudgement
met_in code None = Fails (Reserved code)
met_in code (Some Ready) = Met
met_in code (Some state) = Fails (ModuleState code)

-- by the code of a module state
abbrev pub judged_module : ℕ → ReplyJudgement
judged_module code = met_in code (module_state_at code)

-- by data path states: reserved codes are looked for in the lanes of one set, and the lanes of another wait for a
-- state
abbrev pub judged_states : Lanes → Lanes → PathState → List ℕ → ReplyJudgement
judged_states looked waiting state codes =
    unless_reserved codes (lowest_lane is_reserved_state looked codes) (met_if (all_lanes_have (code_of state) waiting codes))

-- by configuration statuses: a reserved code counts before a rejection, and ConfigSuccess is 1
abbrev pub judged_statuses : Lanes → List ℕ → ReplyJudgement
judged_statuses lanes codes =
    unless_reserved codes (lowest_lane is_reserved_status lanes codes)
    (unless_rejected codes (lowest_lane is_rejection lanes codes) (met_if (all_lanes_have 1 lanes codes)))

-- what the bytes that were read say of the task; a store has none
unfoldable pub judged : Task → List ℕ → ReplyJudgement
judged FindReady bytes = judged_module (number_in_byte (fields.Cmis cmis.ModuleState) (slice_index bytes 0))
judged (AwaitDeactivated lanes) bytes = judged_states lanes lanes Deactivated (codes_in bytes 8)
judged (CheckStaged control) bytes = met_unless StagedDiffers (differing_lane bytes control)
judged (AwaitApplied lanes) bytes = judged_statuses lanes (codes_in bytes 8)
judged (CheckActive control) bytes = met_unless ActiveDiffers (differing_lane bytes control)
judged (AwaitActivated lanes) bytes = judged_states every_lane lanes Activated (codes_in bytes 8)
judged task bytes = NotYet

-- so many bytes can answer the operation
abbrev pub HasCount : Op → ℕ → Type 0
HasCount (Fetch dev offset count) number = number ≡ count
HasCount (Store dev offset bytes) number = ⊥

abbrev pub judged_done : Op → ReplyJudgement
judged_done (Store dev offset bytes) = Met
judged_done (Fetch dev offset count) = NotYet

-- a store is met if it was taken; what was refused is made again
abbrev pub judgement : Task → Reply → ReplyJudgement
judgement task (Bytes bytes) = judged task bytes.items
judgement task Done = judged_done (operation task)
judgement task Refused = NotYet
