-- What replies to the operations of tasks say, in the words of the outcomes.
use Rattle.std.proofs.Common.{◌≡◌, ℕ, Bool, true, false, List, Option, Some, None, length, refl, sym, ap, ◌∙◌}
use Rattle.arrayvec.specs.ArrayVec.{ArrayVec}
use Rattle.bus_model.specs.declared.operation.Reply.TheVariants.{Bytes}
use Rattle.bus_model.specs.Operations.{Answers}
use Rattle.field_tables.specs.LaneSets.{Lanes, every_lane}
use Rattle.module_states.specs.declared.state.ModuleState.{ModuleState as State}
use Rattle.module_states.specs.declared.state.ModuleState.TheVariants.{Ready}
use Rattle.module_states.specs.Codes.{state_at as module_state_at}
use Rattle.datapath_states.specs.declared.state.PathState.TheVariants.{Activated, Deactivated}
use Rattle.datapath_states.specs.declared.status.ConfigStatus.TheVariants.{Success}
use Rattle.datapath_states.specs.StateCodes.{code_of, state_at as path_state_at}
use Rattle.datapath_states.specs.StatusCodes.{status_at, status_code_of}
use Rattle.datapath_states.specs.Lanes.{code_in, codes_in}
use Rattle.control_sets.specs.declared.fault.ProvisionFault.{ProvisionFault}
use Rattle.control_sets.specs.declared.fault.ProvisionFault.TheVariants.{Rejected, StagedDiffers, ActiveDiffers, ModuleState, Reserved}
use Rattle.control_sets.specs.declared.procedures.task.Task.{Task}
use Rattle.control_sets.specs.declared.procedures.task.Task.TheVariants.{FindReady, AwaitDeactivated, CheckStaged, AwaitApplied, CheckActive, AwaitActivated}
use Rattle.control_sets.specs.declared.procedures.judgement.ReplyJudgement.{ReplyJudgement}
use Rattle.control_sets.specs.declared.procedures.judgement.ReplyJudgement.TheVariants.{Met, NotYet, Fails}
use Rattle.control_sets.specs.Judgements.{all_lanes_have, at_lane, differing_lane, is_rejection, is_reserved_state, is_reserved_status, judged, lowest_lane, met_if, met_in, met_unless, unless_rejected, unless_reserved}
use Rattle.control_sets.specs.OutcomeCodes.{AllHave, DiffersAt, HasSuch, IsInNoState, IsInOtherState, IsLowestReserved, IsReady, IsRejectedAt, IsRejection, IsReservedPathState, IsReservedStatus, NoneHas, module_code}
use Rattle.control_sets.specs.Tasks.{operation}
use Rattle.control_sets.proofs.OutcomeWords.{contradicts}
use Rattle.control_sets.proofs.OutcomeLanes.{agree_bytes, bytes_agree, differs_at, each_has, has_each, no_such_lane, rejection, reserved_state, reserved_status, such_lane}

-- the bytes that meet a task
abbrev pub Condition : Task → List ℕ → Type 0
Condition FindReady bytes = IsReady bytes
Condition (AwaitDeactivated lanes) bytes = AllHave (code_of Deactivated) lanes bytes
Condition (CheckStaged control) bytes = bytes ≡ control
Condition (AwaitApplied lanes) bytes = AllHave (status_code_of Success) lanes bytes
Condition (CheckActive control) bytes = bytes ≡ control
Condition (AwaitActivated lanes) bytes = NoneHas IsReservedPathState every_lane bytes × AllHave (code_of Activated) lanes bytes
Condition _ bytes = ⊥

-- the bytes that show a fault of a task
abbrev pub Shows : Task → ProvisionFault → List ℕ → Type 0
Shows FindReady (ModuleState code) bytes = IsInOtherState code bytes
Shows FindReady (Reserved code) bytes = IsInNoState code bytes
Shows (AwaitDeactivated lanes) (Reserved code) bytes = IsLowestReserved IsReservedPathState lanes code bytes
Shows (CheckStaged control) (StagedDiffers lane) bytes = DiffersAt control lane bytes
Shows (AwaitApplied lanes) (Rejected lane code) bytes = IsRejectedAt lanes lane code bytes
Shows (AwaitApplied lanes) (Reserved code) bytes = IsLowestReserved IsReservedStatus lanes code bytes
Shows (CheckActive control) (ActiveDiffers lane) bytes = DiffersAt control lane bytes
Shows (AwaitActivated lanes) (Reserved code) bytes = IsLowestReserved IsReservedPathState every_lane code bytes
Shows _ _ bytes = ⊥

abbrev pub ShowsNone : Task → List ℕ → Type 0
ShowsNone task bytes = (fault : ProvisionFault) → Shows task fault bytes → ⊥

-- what a judgement says
abbrev pub Told : Task → List ℕ → ReplyJudgement → Type 0
Told task bytes Met = Condition task bytes × ShowsNone task bytes
Told task bytes NotYet = (Condition task bytes → ⊥) × ShowsNone task bytes
Told task bytes (Fails fault) = (Condition task bytes → ⊥) × Shows task fault bytes

-- a task that is met by a test which decides its condition
met_by : (task : Task) (bytes : List ℕ) (met : Bool) → (met ≡ true → Condition task bytes) → (Condition task bytes → met ≡ true) → ShowsNone task bytes → Told task bytes (met_if met)
met_by task bytes true holds decides none = (holds refl, none)
met_by task bytes false holds decides none = (λ c. contradicts (decides c) refl, none)

-- ---- the module's state

ready_shows_none : (bytes : List ℕ) → IsReady bytes → ShowsNone FindReady bytes
ready_shows_none bytes ready (ModuleState code) (is, state, found, other) =
    let h : Some state ≡ Some Ready = sym found ∙ ap module_state_at is ∙ ready in other cc
ready_shows_none bytes ready (Reserved code) (is, none) = let h : None ≡ Some Ready = sym none ∙ ap module_state_at is ∙ ready in cc
ready_shows_none bytes ready _ s = s

told_module : (bytes : List ℕ) (found : Option State) → module_state_at (module_code bytes) ≡ found → Told FindReady bytes (met_in (module_code bytes) found)
told_module bytes None e = (λ ready. let h : None ≡ Some Ready = sym e ∙ ready in cc, (refl, e))
told_module bytes (Some Ready) e = (e, ready_shows_none bytes e)
told_module bytes (Some state) e = (λ ready. let h : Some state ≡ Some Ready = sym e ∙ ready in cc, (refl, state, e, λ h. cc))

-- ---- bytes that are compared

staged_shows_none : (control bytes : List ℕ) → bytes ≡ control → ShowsNone (CheckStaged control) bytes
staged_shows_none control bytes same (StagedDiffers lane) s = s.holds (ap (λ (bytes : List ℕ). at_lane bytes lane) same)
staged_shows_none control bytes same _ s = s

active_shows_none : (control bytes : List ℕ) → bytes ≡ control → ShowsNone (CheckActive control) bytes
active_shows_none control bytes same (ActiveDiffers lane) s = s.holds (ap (λ (bytes : List ℕ). at_lane bytes lane) same)
active_shows_none control bytes same _ s = s

told_staged : (control bytes : List ℕ) (found : Option ℕ) → length bytes ≡ 8 → length control ≡ 8 → differing_lane bytes control ≡ found → Told (CheckStaged control) bytes (met_unless StagedDiffers found)
told_staged control bytes None eight too e = let same = bytes_agree bytes control eight too e in (same, staged_shows_none control bytes same)
told_staged control bytes (Some lane) eight too e = (λ same. let h : Some lane ≡ None = sym e ∙ agree_bytes bytes control same in cc, differs_at bytes control lane e)

told_active : (control bytes : List ℕ) (found : Option ℕ) → length bytes ≡ 8 → length control ≡ 8 → differing_lane bytes control ≡ found → Told (CheckActive control) bytes (met_unless ActiveDiffers found)
told_active control bytes None eight too e = let same = bytes_agree bytes control eight too e in (same, active_shows_none control bytes same)
told_active control bytes (Some lane) eight too e = (λ same. let h : Some lane ≡ None = sym e ∙ agree_bytes bytes control same in cc, differs_at bytes control lane e)

-- ---- data path states

down_shows_none : (lanes : Lanes) (bytes : List ℕ) → NoneHas IsReservedPathState lanes bytes → ShowsNone (AwaitDeactivated lanes) bytes
down_shows_none lanes bytes none (Reserved code) (lane, such) = none lane such.lowest.holds
down_shows_none lanes bytes none _ s = s

up_shows_none : (lanes : Lanes) (bytes : List ℕ) → NoneHas IsReservedPathState every_lane bytes → ShowsNone (AwaitActivated lanes) bytes
up_shows_none lanes bytes none (Reserved code) (lane, such) = none lane such.lowest.holds
up_shows_none lanes bytes none _ s = s

unreserved : (lanes : Lanes) (bytes : List ℕ) (lane : ℕ) → AllHave (code_of Deactivated) lanes bytes → HasSuch IsReservedPathState lanes bytes lane → ⊥
unreserved lanes bytes lane all such = let h : Some Deactivated ≡ None = ap path_state_at (sym (all lane such.0)) ∙ such.1 in cc

told_down : (lanes : Lanes) (bytes : List ℕ) (found : Option ℕ) → lowest_lane is_reserved_state lanes (codes_in bytes 8) ≡ found →
    Told (AwaitDeactivated lanes) bytes (unless_reserved (codes_in bytes 8) found (met_if (all_lanes_have (code_of Deactivated) lanes (codes_in bytes 8))))
told_down lanes bytes None e =
    let none = no_such_lane is_reserved_state IsReservedPathState lanes bytes reserved_state e in
    met_by (AwaitDeactivated lanes) bytes (all_lanes_have (code_of Deactivated) lanes (codes_in bytes 8)) (each_has (code_of Deactivated) lanes bytes) (has_each (code_of Deactivated) lanes bytes) (down_shows_none lanes bytes none)
told_down lanes bytes (Some lane) e =
    let such = such_lane is_reserved_state IsReservedPathState lanes bytes lane reserved_state e in
    (λ all. unreserved lanes bytes lane all such.lowest.holds, (lane, such))

told_up : (lanes : Lanes) (bytes : List ℕ) (found : Option ℕ) → lowest_lane is_reserved_state every_lane (codes_in bytes 8) ≡ found →
    Told (AwaitActivated lanes) bytes (unless_reserved (codes_in bytes 8) found (met_if (all_lanes_have (code_of Activated) lanes (codes_in bytes 8))))
told_up lanes bytes None e =
    let none = no_such_lane is_reserved_state IsReservedPathState every_lane bytes reserved_state e in
    met_by (AwaitActivated lanes) bytes (all_lanes_have (code_of Activated) lanes (codes_in bytes 8)) (λ e. (none, each_has (code_of Activated) lanes bytes e)) (λ c. has_each (code_of Activated) lanes bytes c.1) (up_shows_none lanes bytes none)
told_up lanes bytes (Some lane) e =
    let such = such_lane is_reserved_state IsReservedPathState every_lane bytes lane reserved_state e in
    (λ all. all.0 lane such.lowest.holds, (lane, such))

-- ---- configuration statuses

applied_shows_none : (lanes : Lanes) (bytes : List ℕ) → NoneHas IsReservedStatus lanes bytes → NoneHas IsRejection lanes bytes → ShowsNone (AwaitApplied lanes) bytes
applied_shows_none lanes bytes none none_rejected (Reserved code) (lane, such) = none lane such.lowest.holds
applied_shows_none lanes bytes none none_rejected (Rejected lane code) s = none_rejected lane s.1.lowest.holds
applied_shows_none lanes bytes none none_rejected _ s = s

success_unreserved : (lanes : Lanes) (bytes : List ℕ) (lane : ℕ) → AllHave (status_code_of Success) lanes bytes → HasSuch IsReservedStatus lanes bytes lane → ⊥
success_unreserved lanes bytes lane all such = let h : Some Success ≡ None = ap status_at (sym (all lane such.0)) ∙ such.1 in cc

one_passes : (code : ℕ) → code ≡ status_code_of Success → is_rejection code ≡ false
one_passes code e = ap is_rejection e

success_unrejected : (lanes : Lanes) (bytes : List ℕ) (lane : ℕ) → AllHave (status_code_of Success) lanes bytes → HasSuch IsRejection lanes bytes lane → ⊥
success_unrejected lanes bytes lane all such = contradicts (rejection.passes (code_in bytes lane) such.1) (one_passes (code_in bytes lane) (all lane such.0))

told_rejected : (lanes : Lanes) (bytes : List ℕ) (found : Option ℕ) → NoneHas IsReservedStatus lanes bytes → lowest_lane is_rejection lanes (codes_in bytes 8) ≡ found →
    Told (AwaitApplied lanes) bytes (unless_rejected (codes_in bytes 8) found (met_if (all_lanes_have 1 lanes (codes_in bytes 8))))
told_rejected lanes bytes None none e =
    let shows_none = applied_shows_none lanes bytes none (no_such_lane is_rejection IsRejection lanes bytes rejection e) in
    met_by (AwaitApplied lanes) bytes (all_lanes_have 1 lanes (codes_in bytes 8)) (each_has 1 lanes bytes) (has_each 1 lanes bytes) shows_none
told_rejected lanes bytes (Some lane) none e =
    let such = such_lane is_rejection IsRejection lanes bytes lane rejection e in
    (λ all. success_unrejected lanes bytes lane all such.lowest.holds, (none, such))

told_statuses : (lanes : Lanes) (bytes : List ℕ) (found : Option ℕ) → lowest_lane is_reserved_status lanes (codes_in bytes 8) ≡ found →
    Told (AwaitApplied lanes) bytes (unless_reserved (codes_in bytes 8) found (unless_rejected (codes_in bytes 8) (lowest_lane is_rejection lanes (codes_in bytes 8)) (met_if (all_lanes_have 1 lanes (codes_in bytes 8)))))
told_statuses lanes bytes None e = told_rejected lanes bytes (lowest_lane is_rejection lanes (codes_in bytes 8)) (no_such_lane is_reserved_status IsReservedStatus lanes bytes reserved_status e) refl
told_statuses lanes bytes (Some lane) e =
    let such = such_lane is_reserved_status IsReservedStatus lanes bytes lane reserved_status e in
    (λ all. success_unreserved lanes bytes lane all such.lowest.holds, (lane, such))

-- ---- all tasks

-- the control bytes of a task are eight
abbrev pub HasEight : Task → Type 0
HasEight (CheckStaged control) = length control ≡ 8
HasEight (CheckActive control) = length control ≡ 8
HasEight _ = Unit {0}

pub told : (task : Task) (bytes : ArrayVec ℕ) → HasEight task → Answers (operation task) (Bytes bytes) → Told task bytes.items (judged task bytes.items)
unfolding judged
told FindReady bytes eight answers = told_module bytes.items (module_state_at (module_code bytes.items)) refl
told (AwaitDeactivated lanes) bytes eight answers = told_down lanes bytes.items (lowest_lane is_reserved_state lanes (codes_in bytes.items 8)) refl
told (CheckStaged control) bytes eight answers = told_staged control bytes.items (differing_lane bytes.items control) answers eight refl
told (AwaitApplied lanes) bytes eight answers = told_statuses lanes bytes.items (lowest_lane is_reserved_status lanes (codes_in bytes.items 8)) refl
told (CheckActive control) bytes eight answers = told_active control bytes.items (differing_lane bytes.items control) answers eight refl
told (AwaitActivated lanes) bytes eight answers = told_up lanes bytes.items (lowest_lane is_reserved_state every_lane (codes_in bytes.items 8)) refl
told _ bytes eight answers = (λ met. met, λ fault shown. shown)

-- ---- what each answer decides

pub module_decides : (bytes : List ℕ) → judged FindReady bytes ≡ NotYet → ⊥
unfolding judged
module_decides bytes e = by (module_code bytes) (module_state_at (module_code bytes)) e where
  by : (code : ℕ) (found : Option State) → met_in code found ≡ NotYet → ⊥
  by code None e = cc
  by code (Some Ready) e = cc
  by code (Some state) e = cc

pub bytes_decide : (fault : ℕ → ProvisionFault) (found : Option ℕ) → met_unless fault found ≡ NotYet → ⊥
bytes_decide fault None e = cc
bytes_decide fault (Some lane) e = cc
