-- What a module's states and statuses tell of a task of a plan of its own: no fault.
use Rattle.std.proofs.Common.{◌≡◌, inl, inr, ℕ, ◌+◌, ◌%◌, ◌&&◌, Bool, true, false, List, Option, Some, None, refl, sym, ap, subst, ◌∙◌, arith}
use Rattle.std.specs.FinSet as set
use Rattle.std.specs.FinSet.{contains-empty}
use Rattle.std.specs.Ordering.{nat_cmp}
use Rattle.field_tables.specs.LaneSets.{IsLane, Lanes}
use Rattle.datapath_states.specs.StateCodes.{code_of}
use Rattle.datapath_states.specs.StatusCodes.{status_code_of}
use Rattle.datapath_states.specs.declared.state.PathState.{PathState}
use Rattle.datapath_states.specs.declared.state.PathState.TheVariants as path_is
use Rattle.datapath_states.specs.declared.status.ConfigStatus.{ConfigStatus}
use Rattle.control_sets.specs.declared.fault.ProvisionFault.{ProvisionFault}
use Rattle.control_sets.specs.declared.procedures.judgement.ReplyJudgement.{ReplyJudgement}
use Rattle.control_sets.specs.declared.procedures.judgement.ReplyJudgement.TheVariants.{Met, NotYet, Fails}
use Rattle.control_sets.specs.Judgements.{all_lanes_have, at_lane, is_rejection, is_reserved_state, is_reserved_status, judged_states, judged_statuses, lowest_lane, met_if, unless_rejected, unless_reserved}
use Rattle.control_sets.proofs.Finding.{none_found}
use Rattle.sim_module.specs.declared.lane.Lane.{Lane}
use Rattle.sim_module.specs.declared.module.SimModule.{SimModule}
use Rattle.sim_module.specs.Lanes.{lane_at}
use Rattle.sim_liveness.proofs.ReadStates.{path_shown, shown_codes, states_met}
use Rattle.managed_module.proofs.PlanPhases.{Becomes}
use Rattle.managed_module.proofs.FoundStates.{code_had}
use Rattle.managed_module.proofs.OwnTasks.{status_codes, status_shown}

-- the task is met and the next one is in hand, or the same one still is; there is no fault
abbrev pub Well : (ℕ → SimModule → Type 0) → ℕ → ReplyJudgement → SimModule → Type 0
Well Phase met Met after = Phase (met + 1) after
Well Phase met NotYet after = Phase met after
Well Phase met (Fails fault) after = ⊥

pub is_met : (has : Bool) → met_if has ≡ Met → has ≡ true
is_met true e = refl
is_met false e = absurd cc

pub never_fails : (has : Bool) (fault : ProvisionFault) → met_if has ≡ Fails fault → ⊥
never_fails true fault e = absurd cc
never_fails false fault e = absurd cc

-- ---- the states of data paths

abbrev no_lanes : Lanes
no_lanes = set.empty

none_if_met : (codes : List ℕ) (found : Option ℕ) (judged : ReplyJudgement) → unless_reserved codes found judged ≡ Met → found ≡ None
none_if_met codes None judged e = refl
none_if_met codes (Some lane) judged e = absurd cc

-- none of them is reserved
no_reserved : (sim : SimModule) (looked : Lanes) → lowest_lane is_reserved_state looked (shown_codes sim) ≡ None
no_reserved sim looked =
    none_if_met (shown_codes sim) (lowest_lane is_reserved_state looked (shown_codes sim)) (met_if (all_lanes_have (code_of path_is.Deactivated) no_lanes (shown_codes sim)))
    (states_met sim looked no_lanes path_is.Deactivated (λ lane within inside. absurd (let wrong : false ≡ true = sym (contains-empty nat_cmp lane) ∙ inside in cc)))

pub states_judged : (sim : SimModule) (looked waiting : Lanes) (state : PathState) → judged_states looked waiting state (shown_codes sim) ≡ met_if (all_lanes_have (code_of state) waiting (shown_codes sim))
states_judged sim looked waiting state = ap (λ (found : Option ℕ). unless_reserved (shown_codes sim) found (met_if (all_lanes_have (code_of state) waiting (shown_codes sim)))) (no_reserved sim looked)

deactivated_by : (path : PathState) → code_of path ≡ 1 → path ≡ path_is.Deactivated
deactivated_by path_is.Deactivated e = refl
deactivated_by path_is.Init e = absurd (omega (arith, e))
deactivated_by path_is.Deinit e = absurd (omega (arith, e))
deactivated_by path_is.Activated e = absurd (omega (arith, e))
deactivated_by path_is.TxTurnOn e = absurd (omega (arith, e))
deactivated_by path_is.TxTurnOff e = absurd (omega (arith, e))
deactivated_by path_is.Initialized e = absurd (omega (arith, e))

pub found_down : (sim : SimModule) (lanes : Lanes) (lane : ℕ) → IsLane lane → set.contains lanes lane ≡ true → all_lanes_have (code_of path_is.Deactivated) lanes (shown_codes sim) ≡ true → (lane_at sim lane).path ≡ path_is.Deactivated
found_down sim lanes lane within inside all =
    deactivated_by (lane_at sim lane).path (sym (path_shown sim lane within) ∙ code_had (code_of path_is.Deactivated) (shown_codes sim) lanes lane within inside all)

-- ---- the statuses of configurations

-- of an apply in progress, or done
status_fine : (lane : Lane) (byte : ℕ) → Becomes true lane byte → (is_reserved_status (status_code_of lane.status % 16) ≡ false) × (is_rejection (status_code_of lane.status % 16) ≡ false)
status_fine lane byte (inl (kept, status)) = subst (λ (status : ConfigStatus). (is_reserved_status (status_code_of status % 16) ≡ false) × (is_rejection (status_code_of status % 16) ≡ false)) (sym status) (refl, refl)
status_fine lane byte (inr is) = subst (λ (status : ConfigStatus). (is_reserved_status (status_code_of status % 16) ≡ false) × (is_rejection (status_code_of status % 16) ≡ false)) (sym is.status) (refl, refl)

and_off : (a b : Bool) → (a ≡ true → b ≡ false) → (a && b) ≡ false
and_off true b off = off refl
and_off false b off = refl

no_such_status : (test : ℕ → Bool) (sim : SimModule) (lanes : Lanes) → ((lane : ℕ) → IsLane lane → set.contains lanes lane ≡ true → test (status_code_of (lane_at sim lane).status % 16) ≡ false) → lowest_lane test lanes (status_codes sim) ≡ None
no_such_status test sim lanes off =
    none_found (λ lane. set.contains lanes lane && test (at_lane (status_codes sim) lane)) 1 8
    (λ lane from to.
    let within : IsLane lane = (from, omega (arith, to)) in
    and_off (set.contains lanes lane) (test (at_lane (status_codes sim) lane)) (λ inside. ap test (status_shown sim lane within) ∙ off lane within inside))

pub statuses_fine : (sim : SimModule) (lanes : Lanes) (bytes : ℕ → ℕ) → ((lane : ℕ) → IsLane lane → set.contains lanes lane ≡ true → Becomes true (lane_at sim lane) (bytes lane))
    → judged_statuses lanes (status_codes sim) ≡ met_if (all_lanes_have 1 lanes (status_codes sim))
statuses_fine sim lanes bytes each =
    let reserved = no_such_status is_reserved_status sim lanes (λ lane within inside. (status_fine (lane_at sim lane) (bytes lane) (each lane within inside)).0) in
    let rejected = no_such_status is_rejection sim lanes (λ lane within inside. (status_fine (lane_at sim lane) (bytes lane) (each lane within inside)).1) in
    (λ i. unless_reserved (status_codes sim) (reserved i) (unless_rejected (status_codes sim) (rejected i) (met_if (all_lanes_have 1 lanes (status_codes sim)))))
