-- What each task of provisioning and of activation makes of a simulated module, and what its reply tells.
use Rattle.std.proofs.Common.{◌≡◌, ◌⊎◌, inl, inr, ℕ, zero, suc, ◌+◌, ◌-◌, ◌≤◌, ◌%◌, ◌&&◌, ◌||◌, ◌==◌, not, Bool, true, false, List, [], ◌∷◌, Option, Some, None, find, get_or, length, map, is_none, is_some, nat_le, unwrap_or, refl, sym, ap, subst, ◌∙◌, if◌then◌else◌, arith}
use Rattle.std.specs.Prelude.{slice_get}
use Rattle.std.specs.FinSet as set
use Rattle.std.specs.FinSet.{contains-empty, empty_of_len}
use Rattle.std.specs.Ordering.{nat_cmp}
use Rattle.std.specs.List.{range_with_len}
use Rattle.std.proofs.lemmas.Bool.{and_parts, eqb-true, false_from_ne_true, leb-true, not-false}
use Rattle.std.proofs.lemmas.Bool.Decides.{nat_tests}
use Rattle.std.proofs.lemmas.List.{ext_get_or}
use Rattle.std.proofs.lemmas.List.FromFn.{get_or-range_with_len, length-map-range_with_len}
use Rattle.bus_model.specs.declared.device.Dev.TheVariants.{A0}
use Rattle.bus_model.specs.declared.operation.Op.{Op}
use Rattle.bus_model.specs.declared.operation.Op.TheVariants.{Fetch, Store}
use Rattle.bus_model.specs.declared.operation.Reply.{Reply}
use Rattle.bus_model.specs.declared.operation.Reply.TheVariants.{Bytes, Done}
use Rattle.bus_model.specs.ScriptedBus.{passed_on}
use Rattle.field_tables.specs.FirstFault.{first_fault}
use Rattle.field_tables.specs.LaneSets.{IsLane, Lanes, byte_of, every_lane, is_empty, lanes_in}
use Rattle.field_tables.specs.Registers.{byte_count, first_byte}
use Rattle.field_tables.specs.declared.field.Register.TheVariants as registers
use Rattle.field_tables.proofs.TrueTests.{in_range, range_passes}
use Rattle.module_states.specs.Codes as module_codes
use Rattle.module_states.specs.declared.state.ModuleState.{ModuleState}
use Rattle.module_states.specs.declared.state.ModuleState.TheVariants as module_is
use Rattle.datapath_states.specs.Lanes.{codes_in}
use Rattle.datapath_states.specs.StatusCodes.{status_code_of}
use Rattle.datapath_states.specs.declared.state.PathState.{PathState}
use Rattle.datapath_states.specs.declared.state.PathState.TheVariants.{Activated, Deactivated}
use Rattle.datapath_states.specs.declared.status.ConfigStatus.{ConfigStatus}
use Rattle.datapath_states.specs.declared.status.ConfigStatus.TheVariants.{Rejected, RejectedInvalidAppSel, RejectedInvalidDataPath, RejectedInvalidSi, RejectedLanesInUse, RejectedPartialDataPath}
use Rattle.control_sets.specs.declared.fault.ProvisionFault.{ProvisionFault}
use Rattle.control_sets.specs.declared.fault.ProvisionFault.TheVariants.{ActiveDiffers, StagedDiffers}
use Rattle.control_sets.specs.declared.procedures.judgement.ReplyJudgement.{ReplyJudgement}
use Rattle.control_sets.specs.declared.procedures.judgement.ReplyJudgement.TheVariants.{Met, NotYet, Fails}
use Rattle.control_sets.specs.declared.procedures.task.Task.{Task}
use Rattle.control_sets.specs.declared.procedures.task.Task.TheVariants as tasks
use Rattle.control_sets.specs.Judgements.{all_lanes_have, at_lane, differing_lane, is_rejection, is_reserved_status, judged, judged_module, judged_states, judged_statuses, judgement, lowest_lane, met_if, met_unless, unless_rejected, unless_reserved}
use Rattle.control_sets.specs.OutcomeCodes.{module_code}
use Rattle.control_sets.specs.Tasks.{activation, operation, page_of, provisioning}
use Rattle.control_sets.proofs.Finding.{absent}
use Rattle.control_sets.proofs.LaneBits.{in_byte_of}
use Rattle.port_manager.proofs.ReleasedBits.{released}
use Rattle.sim_module.specs.declared.lane.Lane.{Lane}
use Rattle.sim_module.specs.declared.module.SimModule.{SimModule}
use Rattle.sim_module.specs.Applies.{applied, applied_all, applied_to, are_paths_within, begun_lane, dropped_lane, is_applicable, is_explicit, is_path_right, is_staged, refusal, refused_lane, staged_app}
use Rattle.sim_module.specs.Down.{has_low_power}
use Rattle.sim_module.specs.Lanes.{active_bytes, is_deactivated, is_in_progress, lane_at}
use Rattle.sim_module.specs.Modules.{conduct}
use Rattle.sim_module.specs.ShownBytes.{path_code, shown_byte, status_code}
use Rattle.sim_module.specs.Stores.{stored_bytes}
use Rattle.sim_module.specs.Ticks.{ticked}
use Rattle.sim_module.proofs.IdleModule.{Shows}
use Rattle.sim_module.proofs.LanesInTime.{made_lane}
use Rattle.sim_module.proofs.RestingModule.{rest_tick}
use Rattle.sim_liveness.specs.Released.{IsInUse}
use Rattle.sim_liveness.specs.Timing.{CountersRun, until_up}
use Rattle.sim_liveness.proofs.InTime.{none_left, none_left_up}
use Rattle.sim_liveness.proofs.LeftAlone.{leaves}
use Rattle.sim_liveness.proofs.Longest.{longest_down, longest_up}
use Rattle.sim_liveness.proofs.ReadStates.{active_is, listed_code, pairs, read_state, shown_paths, shown_statuses, states_met}
use Rattle.managed_module.specs.Bounds.{IsAsleep, IsSteady, until_activated, until_applied, until_deactivated}
use Rattle.managed_module.specs.Managed.{HasHalves}
use Rattle.managed_module.proofs.FoundStates.{found_up, has_it}
use Rattle.managed_module.proofs.Halves.{reads_half, stores_half, takes_store}
use Rattle.managed_module.proofs.Procedures.{Activates, AreApplied, ComeUp, Decides, GoDown, IsAwake, Provisions, Told, applied_left, applied_tick, awake_left, awake_tick, down_left, down_tick, is_decided, up_left, up_tick}
use Rattle.managed_module.proofs.SteadyModules.{Leaves, apply_stored, counters_passed, deinit_stored, leaves_all, leaves_deinit, leaves_stage, steady_left, steady_tick}

abbrev pub reply_of : SimModule → Op → Reply
reply_of sim op = (passed_on conduct op sim).0

abbrev pub module_after : SimModule → Op → SimModule
module_after sim op = ticked (passed_on conduct op sim).1

-- the page that the task needs is mapped
abbrev pub OnItsPage : Task → SimModule → Type 0
OnItsPage task sim = (page : ℕ) → page_of task ≡ Some page → Shows page sim

-- ---- judgements

pub by_task : (P : Task → Type 0) (one task : Task) → ◌≡◌ {A = Option Task} (Some one) (Some task) → P one → P task
by_task P one task e p = let same : one ≡ task = cc in subst P same p

ready_settles : (state : ModuleState) → judged_module (module_codes.code_of state) ≡ NotYet → ⊥
ready_settles module_is.LowPwr e = absurd cc
ready_settles module_is.PwrUp e = absurd cc
ready_settles module_is.Ready e = absurd cc
ready_settles module_is.PwrDn e = absurd cc
ready_settles module_is.Fault e = absurd cc

ready_met : (state : ModuleState) → judged_module (module_codes.code_of state) ≡ Met → state ≡ module_is.Ready
ready_met module_is.LowPwr e = absurd cc
ready_met module_is.PwrUp e = absurd cc
ready_met module_is.Ready e = refl
ready_met module_is.PwrDn e = absurd cc
ready_met module_is.Fault e = absurd cc

differs_settles : (fault : ℕ → ProvisionFault) (found : Option ℕ) → met_unless fault found ≡ NotYet → ⊥
differs_settles fault None e = absurd cc
differs_settles fault (Some lane) e = absurd cc

differs_met : (fault : ℕ → ProvisionFault) (found : Option ℕ) → met_unless fault found ≡ Met → found ≡ None
differs_met fault None e = refl
differs_met fault (Some lane) e = absurd cc

find_judged : (bytes : List ℕ) → judgement tasks.FindReady (Bytes (record { items = bytes })) ≡ judged_module (module_code bytes)
unfolding judged
find_judged bytes = refl

pub deactivated_judged : (lanes : Lanes) (bytes : List ℕ) → judgement (tasks.AwaitDeactivated lanes) (Bytes (record { items = bytes })) ≡ judged_states lanes lanes Deactivated (codes_in bytes 8)
unfolding judged
deactivated_judged lanes bytes = refl

pub activated_judged : (lanes : Lanes) (bytes : List ℕ) → judgement (tasks.AwaitActivated lanes) (Bytes (record { items = bytes })) ≡ judged_states every_lane lanes Activated (codes_in bytes 8)
unfolding judged
activated_judged lanes bytes = refl

statuses_judged : (lanes : Lanes) (bytes : List ℕ) → judgement (tasks.AwaitApplied lanes) (Bytes (record { items = bytes })) ≡ judged_statuses lanes (codes_in bytes 8)
unfolding judged
statuses_judged lanes bytes = refl

pub staged_judged : (control bytes : List ℕ) → judgement (tasks.CheckStaged control) (Bytes (record { items = bytes })) ≡ met_unless StagedDiffers (differing_lane bytes control)
unfolding judged
staged_judged control bytes = refl

pub active_judged : (control bytes : List ℕ) → judgement (tasks.CheckActive control) (Bytes (record { items = bytes })) ≡ met_unless ActiveDiffers (differing_lane bytes control)
unfolding judged
active_judged control bytes = refl

-- ---- statuses

-- a status that is decided ends the wait
decided_by : (code : ℕ) → 1 ≤ code → code ≤ 7 → (code % 16 ≡ 1) ⊎ (is_rejection (code % 16) ≡ true)
decided_by zero from to = absurd (omega (arith, from))
decided_by (suc zero) from to = inl refl
decided_by (suc (suc zero)) from to = inr refl
decided_by (suc (suc (suc zero))) from to = inr refl
decided_by (suc (suc (suc (suc zero)))) from to = inr refl
decided_by (suc (suc (suc (suc (suc zero))))) from to = inr refl
decided_by (suc (suc (suc (suc (suc (suc zero)))))) from to = inr refl
decided_by (suc (suc (suc (suc (suc (suc (suc zero))))))) from to = inr refl
decided_by (suc (suc (suc (suc (suc (suc (suc (suc code)))))))) from to = absurd (omega (arith, to))

decided_code : (status : ConfigStatus) → is_decided status ≡ true → (status_code_of status % 16 ≡ 1) ⊎ (is_rejection (status_code_of status % 16) ≡ true)
decided_code status decided =
    let parts = and_parts (nat_le 1 (status_code_of status)) (nat_le (status_code_of status) 7) decided in
    decided_by (status_code_of status) (leb-true 1 (status_code_of status) parts.0) (leb-true (status_code_of status) 7 parts.1)

abbrev pub status_codes : SimModule → List ℕ
status_codes sim = codes_in (pairs (status_code sim)) 8

pub status_shown : (sim : SimModule) (lane : ℕ) → IsLane lane → at_lane (status_codes sim) lane ≡ status_code_of (lane_at sim lane).status % 16
status_shown sim lane within = listed_code (status_code sim) (λ lane. omega arith) lane within

rejected_settles : (codes : List ℕ) (found : Option ℕ) (has : Bool) → unless_rejected codes found (met_if has) ≡ NotYet → (found ≡ None) × (has ≡ false)
rejected_settles codes (Some lane) has e = absurd cc
rejected_settles codes None true e = absurd cc
rejected_settles codes None false e = (refl, refl)

reserved_settles : (codes : List ℕ) (found rejected : Option ℕ) (has : Bool) → unless_reserved codes found (unless_rejected codes rejected (met_if has)) ≡ NotYet → (rejected ≡ None) × (has ≡ false)
reserved_settles codes (Some lane) rejected has e = absurd cc
reserved_settles codes None rejected has e = rejected_settles codes rejected has e

rejected_met : (codes : List ℕ) (found : Option ℕ) (has : Bool) → unless_rejected codes found (met_if has) ≡ Met → has ≡ true
rejected_met codes (Some lane) has e = absurd cc
rejected_met codes None true e = refl
rejected_met codes None false e = absurd cc

reserved_met : (codes : List ℕ) (found rejected : Option ℕ) (has : Bool) → unless_reserved codes found (unless_rejected codes rejected (met_if has)) ≡ Met → has ≡ true
reserved_met codes (Some lane) rejected has e = absurd cc
reserved_met codes None rejected has e = rejected_met codes rejected has e

-- a lane of the set passes a test that fails on no lane of it
fails_or : (a b : Bool) → (a && b) ≡ false → a ≡ true → b ≡ false
fails_or true b off on = off
fails_or false b off on = absurd cc

lane_place : (lane : ℕ) → IsLane lane → get_or (range_with_len 1 8) (lane - 1) 0 ≡ lane
lane_place lane (from, to) = get_or-range_with_len 1 8 (lane - 1) 0 (omega (arith, from, to)) ∙ omega (arith, from)

not_found : (test : ℕ → Bool) (lane : ℕ) → find test (range_with_len 1 8) ≡ None → IsLane lane → test lane ≡ false
not_found test lane none (from, to) = ap test (sym (lane_place lane (from, to))) ∙ absent test (range_with_len 1 8) (lane - 1) 0 none (omega (arith, from, to))

-- where each lane of the set has ended its apply, the read of statuses tells
statuses_settle : (sim : SimModule) (lanes : Lanes) → ((lane : ℕ) → IsLane lane → set.contains lanes lane ≡ true → is_decided (lane_at sim lane).status ≡ true) → judged_statuses lanes (status_codes sim) ≡ NotYet → ⊥
statuses_settle sim lanes decided e =
    let parts = reserved_settles (status_codes sim) (lowest_lane is_reserved_status lanes (status_codes sim)) (lowest_lane is_rejection lanes (status_codes sim)) (all_lanes_have 1 lanes (status_codes sim)) e in
    let all : all_lanes_have 1 lanes (status_codes sim) ≡ true =
    range_passes (λ lane. not (set.contains lanes lane) || at_lane (status_codes sim) lane == 1) 1 8
    (λ lane from to. let within : IsLane lane = (from, omega (arith, to)) in has lane within (set.contains lanes lane) refl parts.0) in
    let wrong : true ≡ false = sym all ∙ parts.1 in cc where
      is_one : (code : ℕ) → code ≡ 1 → (code == 1) ≡ true
      is_one code same = grind (arith, nat_tests, same)

      has : (lane : ℕ) → IsLane lane → (inside : Bool) → set.contains lanes lane ≡ inside → lowest_lane is_rejection lanes (status_codes sim) ≡ None → (not (set.contains lanes lane) || at_lane (status_codes sim) lane == 1) ≡ true
      has lane within false out none = ap (λ (inside : Bool). not inside || at_lane (status_codes sim) lane == 1) out
      has lane within true inside none =
          let not_rejected : is_rejection (at_lane (status_codes sim) lane) ≡ false =
          fails_or (set.contains lanes lane) (is_rejection (at_lane (status_codes sim) lane)) (not_found (λ lane. set.contains lanes lane && is_rejection (at_lane (status_codes sim) lane)) lane none within) inside in
          ap (λ (inside : Bool). not inside || at_lane (status_codes sim) lane == 1) inside ∙ at (decided_code (lane_at sim lane).status (decided lane within inside)) not_rejected where
            at : (status_code_of (lane_at sim lane).status % 16 ≡ 1) ⊎ (is_rejection (status_code_of (lane_at sim lane).status % 16) ≡ true) → is_rejection (at_lane (status_codes sim) lane) ≡ false → (at_lane (status_codes sim) lane == 1) ≡ true
            at (inl one) off = is_one (at_lane (status_codes sim) lane) (status_shown sim lane within ∙ one)
            at (inr rejected) off = absurd (let wrong : false ≡ true = sym off ∙ ap is_rejection (status_shown sim lane within) ∙ rejected in cc)

-- a lane of the set is in no apply where the read of statuses is met
pub statuses_end : (sim : SimModule) (lanes : Lanes) (lane : ℕ) → IsLane lane → set.contains lanes lane ≡ true → judged_statuses lanes (status_codes sim) ≡ Met → is_in_progress (lane_at sim lane) ≡ true → ⊥
statuses_end sim lanes lane (from, to) inside e on =
    let all = reserved_met (status_codes sim) (lowest_lane is_reserved_status lanes (status_codes sim)) (lowest_lane is_rejection lanes (status_codes sim)) (all_lanes_have 1 lanes (status_codes sim)) e in
    let one : (at_lane (status_codes sim) lane == 1) ≡ true =
    has_it (set.contains lanes lane) (at_lane (status_codes sim) lane == 1) (in_range (λ lane. not (set.contains lanes lane) || at_lane (status_codes sim) lane == 1) 1 8 lane all from (omega (arith, to))) inside in
    let code : at_lane (status_codes sim) lane ≡ 1 = eqb-true (at_lane (status_codes sim) lane) 1 one in
    let twelve : status_code_of (lane_at sim lane).status ≡ 12 = eqb-true (status_code_of (lane_at sim lane).status) 12 on in
    let shown : at_lane (status_codes sim) lane ≡ 12 = status_shown sim lane (from, to) ∙ ap (λ (n : ℕ). n % 16) twelve in
    omega (arith, code, shown)

-- ---- operations

-- what a store makes of the module
pub after_store : (sim : SimModule) (address : ℕ) (bytes : List ℕ) (next : SimModule) → HasHalves sim → stored_bytes sim address bytes ≡ next → (passed_on conduct (Store A0 address (record { items = bytes })) sim).1 ≡ next
after_store sim address bytes next has is = stores_half sim address bytes has ∙ is

-- no refusal says that an apply is in progress, and each ends the wait
record IsRefusal (status : ConfigStatus) : Type 0 where
  off : (status_code_of status == 12) ≡ false
  decided : is_decided status ≡ true

refusal_by : (a b c d e : Bool) → IsRefusal (unwrap_or (first_fault ((a, RejectedLanesInUse) ∷ (b, RejectedInvalidAppSel) ∷ (c, RejectedInvalidSi) ∷ (d, RejectedInvalidDataPath) ∷ (e, RejectedPartialDataPath) ∷ [])) Rejected)
refusal_by true b c d e = record { off = refl; decided = refl }
refusal_by false true c d e = record { off = refl; decided = refl }
refusal_by false false true d e = record { off = refl; decided = refl }
refusal_by false false false true e = record { off = refl; decided = refl }
refusal_by false false false false true = record { off = refl; decided = refl }
refusal_by false false false false false = record { off = refl; decided = refl }

is_refusal : (sim : SimModule) (mask : Lanes) (lane : ℕ) → IsRefusal (unwrap_or (refusal sim mask lane) Rejected)
unfolding refusal
is_refusal sim mask lane =
    refusal_by (not (is_deactivated sim lane)) (is_staged sim lane && is_none (staged_app sim lane)) (is_staged sim lane && is_explicit sim lane) (is_staged sim lane && not (is_path_right sim lane)) (not (are_paths_within sim mask lane))

abbrev pub made_by : Bool → Bool → Lane → ConfigStatus → Lane
made_by outside applicable lane status = if outside then dropped_lane lane else if applicable then begun_lane lane else refused_lane lane status

applied_is : (sim : SimModule) (mask : Lanes) (lane : ℕ) → IsLane lane → lane_at (applied_all sim mask) lane ≡ made_by (not (set.contains mask lane)) (is_applicable sim mask) (lane_at sim lane) (unwrap_or (refusal sim mask lane) Rejected)
unfolding applied_to
applied_is sim mask lane within = made_lane (applied_to sim mask) lane within

not_dropped : (lane : Lane) → lane.applying ≡ None → dropped_lane lane ≡ lane
not_dropped lane none = ap (λ (kept : Option ℕ). if is_some kept then record lane { status = Rejected; applying = None } else lane) none

-- a lane of the mask
decides_by : (applicable : Bool) (lane : Lane) (status : ConfigStatus) (delay most : ℕ) → IsRefusal status → delay ≤ most → Decides (if applicable then delay else 0) most (made_by false applicable lane status)
decides_by true lane status delay most refused few = inl (refl, few)
decides_by false lane status delay most refused few = inr (refused.off, refl, refused.decided)

pub not_empty : (mask : Lanes) (lane : ℕ) → set.contains mask lane ≡ true → is_empty mask ≡ true → ⊥
not_empty mask lane inside empty =
    let none : set.contains mask lane ≡ false = ap (λ (lanes : Lanes). set.contains lanes lane) (empty_of_len mask (eqb-true _ _ empty)) ∙ contains-empty nat_cmp lane in
    let wrong : false ≡ true = sym none ∙ inside in cc

module _ (most : ℕ) (lanes : Lanes) (sim : SimModule) (steady : IsSteady most sim) where
  abbrev mask : Lanes
  mask = lanes_in (byte_of lanes)

  pub in_mask : (lane : ℕ) (inside : Bool) → IsLane lane → set.contains lanes lane ≡ inside → set.contains mask lane ≡ inside
  in_mask lane inside within e = in_byte_of lanes lane within ∙ e

  pub outside_is : (lane : ℕ) → IsLane lane → set.contains lanes lane ≡ false → lane_at (applied_all sim mask) lane ≡ lane_at sim lane
  outside_is lane within e =
      applied_is sim mask lane within
      ∙ ap (λ (inside : Bool). made_by (not inside) (is_applicable sim mask) (lane_at sim lane) (unwrap_or (refusal sim mask lane) Rejected)) (in_mask lane false within e)
      ∙ not_dropped (lane_at sim lane) (steady.none lane within)

  pub inside_is : (lane : ℕ) → IsLane lane → set.contains lanes lane ≡ true → lane_at (applied_all sim mask) lane ≡ made_by false (is_applicable sim mask) (lane_at sim lane) (unwrap_or (refusal sim mask lane) Rejected)
  inside_is lane within e =
      applied_is sim mask lane within ∙ ap (λ (inside : Bool). made_by (not inside) (is_applicable sim mask) (lane_at sim lane) (unwrap_or (refusal sim mask lane) Rejected)) (in_mask lane true within e)

  all_applied : CountersRun most (applied_all sim mask) → AreApplied most lanes most (applied_all sim mask)
  all_applied run = record {
    eight = length-map-range_with_len (applied_to sim mask) 1 8;
    counters = run;
    power = steady.power;
    none = λ lane within outside. ap (λ (l : Lane). l.applying) (outside_is lane within outside) ∙ steady.none lane within;
    quiet = λ lane within outside. ap is_in_progress (outside_is lane within outside) ∙ steady.quiet lane within;
    each = λ lane within inside.
        subst (Decides (if is_applicable sim mask then sim.delays.apply else 0) most) (sym (inside_is lane within inside))
        (decides_by (is_applicable sim mask) (lane_at sim lane) (unwrap_or (refusal sim mask lane) Rejected) sim.delays.apply most (is_refusal sim mask lane) steady.counters.time.apply.1);
  }

  -- no lane is applied
  none_applied : is_empty mask ≡ true → AreApplied most lanes most sim
  none_applied empty = record {
    eight = steady.eight;
    counters = steady.counters;
    power = steady.power;
    none = λ lane within outside. steady.none lane within;
    quiet = λ lane within outside. steady.quiet lane within;
    each = λ lane within inside. absurd (not_empty mask lane (in_mask lane true within inside) empty);
  }

  applied_by_mask : (empty : Bool) → is_empty mask ≡ empty → CountersRun most (if empty then sim else applied_all sim mask) → AreApplied most lanes most (if empty then sim else applied_all sim mask)
  applied_by_mask true e run = none_applied e
  applied_by_mask false e run = all_applied run

  pub are_applied : CountersRun most (applied sim mask) → AreApplied most lanes most (applied sim mask)
  unfolding applied
  are_applied run = applied_by_mask (is_empty mask) refl run

-- once each lane of the set has ended its apply, none is in progress
decided_none : (left ticks : ℕ) (lane : Lane) → Decides left ticks lane → (is_in_progress lane ≡ true → ⊥) → (lane.applying ≡ None) × (is_in_progress lane ≡ false)
decided_none left ticks lane (inl (on, few)) off = absurd (off on)
decided_none left ticks lane (inr (quiet, none, decided)) off = (none, quiet)

pub steady_applied : (most : ℕ) (lanes : Lanes) (ticks : ℕ) (sim : SimModule) → AreApplied most lanes ticks sim → ((lane : ℕ) → IsLane lane → set.contains lanes lane ≡ true → is_in_progress (lane_at sim lane) ≡ true → ⊥) → IsSteady most sim
steady_applied most lanes ticks sim are off = record {
  eight = are.eight;
  counters = are.counters;
  none = λ lane within. (each lane within (set.contains lanes lane) refl).0;
  quiet = λ lane within. (each lane within (set.contains lanes lane) refl).1;
  power = are.power;
} where
  each : (lane : ℕ) → IsLane lane → (inside : Bool) → set.contains lanes lane ≡ inside → ((lane_at sim lane).applying ≡ None) × (is_in_progress (lane_at sim lane) ≡ false)
  each lane within false e = (are.none lane within e, are.quiet lane within e)
  each lane within true e = decided_none sim.apply_left ticks (lane_at sim lane) (are.each lane within e) (off lane within e)

-- where no tick is left, each lane of the set has ended it
decided_at_once : (most : ℕ) (lanes : Lanes) (sim : SimModule) → AreApplied most lanes 0 sim → (lane : ℕ) → IsLane lane → set.contains lanes lane ≡ true → is_decided (lane_at sim lane).status ≡ true
decided_at_once most lanes sim are lane within inside = by (are.each lane within inside) where
  by : Decides sim.apply_left 0 (lane_at sim lane) → is_decided (lane_at sim lane).status ≡ true
  by (inl (on, few)) = absurd (omega (arith, few, (are.counters.applies lane within on).1.0))
  by (inr (off, none, decided)) = decided

-- ---- each task

module _ (most : ℕ) (sim : SimModule) (has : HasHalves sim) where
  run_after : (op : Op) → CountersRun most sim → CountersRun most (passed_on conduct op sim).1
  run_after op run = counters_passed most op sim run

  pub steady_read : (address count : ℕ) → IsSteady most sim → IsSteady most (module_after sim (Fetch A0 address count))
  steady_read address count steady =
      let mid = (passed_on conduct (Fetch A0 address count) sim).1 in
      steady_tick most mid (steady_left most sim mid (leaves_all sim mid (leaves sim A0 address count)) (run_after (Fetch A0 address count) steady.counters) steady)

  steady_stored : (address : ℕ) (bytes : List ℕ) → Leaves sim (stored_bytes sim address bytes) → IsSteady most sim → IsSteady most (module_after sim (Store A0 address (record { items = bytes })))
  steady_stored address bytes same steady =
      let mid = (passed_on conduct (Store A0 address (record { items = bytes })) sim).1 in
      steady_tick most mid (steady_left most sim mid (subst (Leaves sim) (sym (stores_half sim address bytes has)) same) (run_after (Store A0 address (record { items = bytes })) steady.counters) steady)

  -- what is read
  pub ready_told : (reply : Reply) → reply ≡ reply_of sim (operation tasks.FindReady) → judgement tasks.FindReady reply ≡ judged_module (module_codes.code_of sim.state)
  ready_told reply gives =
      let (page, is) = reads_half sim (first_byte registers.GlobalStatus) (byte_count registers.GlobalStatus) has in
      ap (judgement tasks.FindReady) (gives ∙ is) ∙ find_judged (map (shown_byte sim page) (range_with_len (first_byte registers.GlobalStatus) (byte_count registers.GlobalStatus))) ∙ ap judged_module (read_state sim page)

  pub paths_told : (task : Task) (told : List ℕ → ReplyJudgement) → operation task ≡ Fetch A0 (first_byte registers.PathStates) (byte_count registers.PathStates) → ((bytes : List ℕ) → judgement task (Bytes (record { items = bytes })) ≡ told bytes) → Shows 0x11 sim
      → (reply : Reply) → reply ≡ reply_of sim (operation task) → judgement task reply ≡ told (pairs (path_code sim))
  paths_told task told is judges shows reply gives =
      let (page, reads) = reads_half sim (first_byte registers.PathStates) (byte_count registers.PathStates) has in
      ap (judgement task) (gives ∙ ap (reply_of sim) is ∙ reads) ∙ judges (map (shown_byte sim page) (range_with_len (first_byte registers.PathStates) (byte_count registers.PathStates))) ∙ ap told (shown_paths sim page shows)

  pub statuses_told : (lanes : Lanes) → Shows 0x11 sim → (reply : Reply) → reply ≡ reply_of sim (operation (tasks.AwaitApplied lanes)) → judgement (tasks.AwaitApplied lanes) reply ≡ judged_statuses lanes (codes_in (pairs (status_code sim)) 8)
  statuses_told lanes shows reply gives =
      let (page, reads) = reads_half sim (first_byte registers.ConfigStatus) (byte_count registers.ConfigStatus) has in
      ap (judgement (tasks.AwaitApplied lanes)) (gives ∙ reads) ∙ statuses_judged lanes (map (shown_byte sim page) (range_with_len (first_byte registers.ConfigStatus) (byte_count registers.ConfigStatus)))
      ∙ ap (λ (bytes : List ℕ). judged_statuses lanes (codes_in bytes 8)) (shown_statuses sim page shows)

  pub done : (address : ℕ) (bytes : List ℕ) (reply : Reply) → reply ≡ reply_of sim (Store A0 address (record { items = bytes })) → reply ≡ Done
  done address bytes reply gives = gives ∙ takes_store sim address bytes has

  -- ---- of provisioning

  module _ (control : List ℕ) (lanes : Lanes) (left : ℕ) where
    abbrev pub ProvisionTold : ℕ → ReplyJudgement → SimModule → Type 0
    ProvisionTold met judged after = Told (Provisions most lanes) left met judged after

    abbrev pub ProvisionTells : ℕ → Task → Type 0
    ProvisionTells met task = OnItsPage task sim → (reply : Reply) → reply ≡ reply_of sim (operation task) → (judged : ReplyJudgement) → judgement task reply ≡ judged → ProvisionTold met judged (module_after sim (operation task))

    find_tells : IsSteady most sim → until_deactivated most + (until_applied most + until_activated most) ≤ left → ProvisionTells 0 tasks.FindReady
    find_tells steady few page reply gives Met j = (steady_read (first_byte registers.GlobalStatus) (byte_count registers.GlobalStatus) steady, few)
    find_tells steady few page reply gives NotYet j = absurd (ready_settles sim.state (sym (ready_told reply gives) ∙ j))
    find_tells steady few page reply gives (Fails fault) j = tt

    deinit_tells : IsSteady most sim → until_deactivated most + (until_applied most + until_activated most) ≤ left → ProvisionTells 1 (tasks.Deinitialize (byte_of lanes))
    deinit_tells steady few page reply gives judged j =
        let bits = byte_of lanes in
        let op = operation (tasks.Deinitialize bits) in
        let met : Met ≡ judged = sym (ap (judgement (tasks.Deinitialize bits)) (done (first_byte registers.DPDeinit) (bits ∷ []) reply gives)) ∙ j in
        let set_to : (passed_on conduct op sim).1 ≡ record sim { deinit = lanes_in bits } = after_store sim (first_byte registers.DPDeinit) (bits ∷ []) (record sim { deinit = lanes_in bits }) has (deinit_stored sim bits (page 0x10 refl)) in
        let bytes : stored_bytes sim (first_byte registers.DPDeinit) (bits ∷ []) ≡ record sim { deinit = lanes_in bits } = deinit_stored sim bits (page 0x10 refl) in
        let down : GoDown lanes (until_deactivated most) (record sim { deinit = lanes_in bits }) = record {
          bits = λ lane within inside. in_byte_of lanes lane within ∙ inside;
          near = λ lane within inside. longest_down most sim.delays (lane_at sim lane).path (lane_at sim lane).ticks_left steady.counters.time (steady.counters.lanes lane within);
        } in
        let mid : GoDown lanes (until_deactivated most) (passed_on conduct op sim).1 = subst (GoDown lanes (until_deactivated most)) (sym set_to) down in
        subst (λ (judged : ReplyJudgement). ProvisionTold 1 judged (module_after sim op)) met (
          steady_stored (first_byte registers.DPDeinit) (bits ∷ []) (subst (Leaves sim) (sym bytes) (leaves_deinit sim (lanes_in bits))) steady,
          (until_deactivated most - 1, down_tick most lanes (until_deactivated most) (passed_on conduct op sim).1 (run_after op steady.counters) mid, omega (arith, few)),
        )

    down_tells : IsSteady most sim → (ticks : ℕ) → GoDown lanes ticks sim → ticks + (until_applied most + until_activated most) ≤ left → ProvisionTells 2 (tasks.AwaitDeactivated lanes)
    down_tells steady ticks down few page reply gives Met j = (steady_read (first_byte registers.PathStates) (byte_count registers.PathStates) steady, omega (arith, few))
    down_tells steady zero down few page reply gives NotYet j =
        let met = states_met sim lanes lanes Deactivated
        (λ lane within inside. none_left most sim.delays (lane_at sim lane).path (lane_at sim lane).ticks_left (steady.counters.lanes lane within) (down.near lane within inside)) in
        let told = paths_told (tasks.AwaitDeactivated lanes) (λ bytes. judged_states lanes lanes Deactivated (codes_in bytes 8)) refl (deactivated_judged lanes) (page 0x11 refl) reply gives in
        absurd (let wrong : Met ≡ NotYet = sym met ∙ sym told ∙ j in cc)
    down_tells steady (suc ticks) down few page reply gives NotYet j =
        let op = operation (tasks.AwaitDeactivated lanes) in
        let mid = (passed_on conduct op sim).1 in (
          ticks + (until_applied most + until_activated most),
          (
            steady_read (first_byte registers.PathStates) (byte_count registers.PathStates) steady,
            (ticks, subst (λ (n : ℕ). GoDown lanes n (ticked mid)) (omega arith) (down_tick most lanes (suc ticks) mid (run_after op steady.counters) (down_left lanes (suc ticks) sim mid (leaves sim A0 (first_byte registers.PathStates) (byte_count registers.PathStates)) down)), omega arith),
          ),
          omega (arith, few),
        )
    down_tells steady ticks down few page reply gives (Fails fault) j = tt

    stage_tells : IsSteady most sim → until_applied most + until_activated most ≤ left → ProvisionTells 3 (tasks.Stage control)
    stage_tells steady few page reply gives judged j =
        let met : Met ≡ judged = sym (ap (judgement (tasks.Stage control)) (done (first_byte registers.StagedControl) control reply gives)) ∙ j in
        subst (λ (judged : ReplyJudgement). ProvisionTold 3 judged (module_after sim (operation (tasks.Stage control)))) met (steady_stored (first_byte registers.StagedControl) control (leaves_stage sim control) steady, few)

    staged_tells : IsSteady most sim → until_applied most + until_activated most ≤ left → ProvisionTells 4 (tasks.CheckStaged control)
    staged_tells steady few page reply gives Met j = (steady_read (first_byte registers.StagedControl) (byte_count registers.StagedControl) steady, few)
    staged_tells steady few page reply gives NotYet j =
        let (half, is) = reads_half sim (first_byte registers.StagedControl) (byte_count registers.StagedControl) has in
        let bytes = map (shown_byte sim half) (range_with_len (first_byte registers.StagedControl) (byte_count registers.StagedControl)) in
        absurd (differs_settles StagedDiffers (differing_lane bytes control) (sym (ap (judgement (tasks.CheckStaged control)) (gives ∙ is) ∙ staged_judged control bytes) ∙ j))
    staged_tells steady few page reply gives (Fails fault) j = tt

    apply_tells : IsSteady most sim → until_applied most + until_activated most ≤ left → ProvisionTells 5 (tasks.Apply (byte_of lanes))
    apply_tells steady few page reply gives judged j =
        let bits = byte_of lanes in
        let op = operation (tasks.Apply bits) in
        let met : Met ≡ judged = sym (ap (judgement (tasks.Apply bits)) (done (first_byte registers.ApplyDPInit) (bits ∷ []) reply gives)) ∙ j in
        let set_to : (passed_on conduct op sim).1 ≡ applied sim (lanes_in bits) = after_store sim (first_byte registers.ApplyDPInit) (bits ∷ []) (applied sim (lanes_in bits)) has (apply_stored sim bits (page 0x10 refl)) in
        let mid : AreApplied most lanes most (passed_on conduct op sim).1 =
        subst (AreApplied most lanes most) (sym set_to) (are_applied most lanes sim steady (subst (CountersRun most) set_to (run_after op steady.counters))) in
        subst (λ (judged : ReplyJudgement). ProvisionTold 5 judged (module_after sim op)) met (most - 1, applied_tick most lanes most (passed_on conduct op sim).1 mid, omega (arith, few))

    applied_tells : (ticks : ℕ) → AreApplied most lanes ticks sim → ticks + until_activated most ≤ left → ProvisionTells 6 (tasks.AwaitApplied lanes)
    applied_tells ticks are few page reply gives Met j =
        let ended = sym (statuses_told lanes (page 0x11 refl) reply gives) ∙ j in
        (steady_read (first_byte registers.ConfigStatus) (byte_count registers.ConfigStatus) (steady_applied most lanes ticks sim are (λ lane within inside on. statuses_end sim lanes lane within inside ended on)), omega (arith, few))
    applied_tells zero are few page reply gives NotYet j =
        absurd (statuses_settle sim lanes (decided_at_once most lanes sim are) (sym (statuses_told lanes (page 0x11 refl) reply gives) ∙ j))
    applied_tells (suc ticks) are few page reply gives NotYet j =
        let op = operation (tasks.AwaitApplied lanes) in
        let mid = (passed_on conduct op sim).1 in (
          ticks + until_activated most,
          (
            ticks,
            subst (λ (n : ℕ). AreApplied most lanes n (ticked mid)) (omega arith)
                (applied_tick most lanes (suc ticks) mid (applied_left most lanes (suc ticks) sim mid (leaves sim A0 (first_byte registers.ConfigStatus) (byte_count registers.ConfigStatus)) (run_after op are.counters) are)),
            omega arith,
          ),
          omega (arith, few),
        )
    applied_tells ticks are few page reply gives (Fails fault) j = tt

    check_tells : IsSteady most sim → until_activated most ≤ left → ProvisionTells 7 (tasks.CheckActive control)
    check_tells steady few page reply gives Met j = (steady_read (first_byte registers.ActiveControl) (byte_count registers.ActiveControl) steady, few)
    check_tells steady few page reply gives NotYet j =
        let (half, is) = reads_half sim (first_byte registers.ActiveControl) (byte_count registers.ActiveControl) has in
        let bytes = map (shown_byte sim half) (range_with_len (first_byte registers.ActiveControl) (byte_count registers.ActiveControl)) in
        absurd (differs_settles ActiveDiffers (differing_lane bytes control) (sym (ap (judgement (tasks.CheckActive control)) (gives ∙ is) ∙ active_judged control bytes) ∙ j))
    check_tells steady few page reply gives (Fails fault) j = tt

    pub provision_tells : (met : ℕ) (task : Task) → slice_get (provisioning control lanes) met ≡ Some task → Provisions most lanes met sim left → ProvisionTells met task
    provision_tells zero task e (steady, few) = by_task (ProvisionTells 0) tasks.FindReady task e (find_tells steady few)
    provision_tells (suc zero) task e (steady, few) = by_task (ProvisionTells 1) (tasks.Deinitialize (byte_of lanes)) task e (deinit_tells steady few)
    provision_tells (suc (suc zero)) task e (steady, (ticks, down, few)) = by_task (ProvisionTells 2) (tasks.AwaitDeactivated lanes) task e (down_tells steady ticks down few)
    provision_tells (suc (suc (suc zero))) task e (steady, few) = by_task (ProvisionTells 3) (tasks.Stage control) task e (stage_tells steady few)
    provision_tells (suc (suc (suc (suc zero)))) task e (steady, few) = by_task (ProvisionTells 4) (tasks.CheckStaged control) task e (staged_tells steady few)
    provision_tells (suc (suc (suc (suc (suc zero))))) task e (steady, few) = by_task (ProvisionTells 5) (tasks.Apply (byte_of lanes)) task e (apply_tells steady few)
    provision_tells (suc (suc (suc (suc (suc (suc zero)))))) task e (ticks, are, few) = by_task (ProvisionTells 6) (tasks.AwaitApplied lanes) task e (applied_tells ticks are few)
    provision_tells (suc (suc (suc (suc (suc (suc (suc zero))))))) task e (steady, few) = by_task (ProvisionTells 7) (tasks.CheckActive control) task e (check_tells steady few)
    provision_tells (suc (suc (suc (suc (suc (suc (suc (suc met)))))))) task e (steady, few) = absurd (let none : None ≡ Some task = e in cc)

  -- ---- of activation

  module _ (control : List ℕ) (lanes : Lanes) (left : ℕ) (eight : length control ≡ 8) (used : (lane : ℕ) → IsLane lane → set.contains lanes lane ≡ true → IsInUse control lane)
      (taken : (lane : ℕ) → IsLane lane → IsInUse control lane → set.contains lanes lane ≡ true) where
    abbrev pub ActivationTold : ℕ → ReplyJudgement → SimModule → Type 0
    ActivationTold met judged after = Told (Activates most control lanes) left met judged after

    abbrev pub ActivationTells : ℕ → Task → Type 0
    ActivationTells met task = OnItsPage task sim → (reply : Reply) → reply ≡ reply_of sim (operation task) → (judged : ReplyJudgement) → judgement task reply ≡ judged → ActivationTold met judged (module_after sim (operation task))

    awake_read : (address count : ℕ) → IsAwake sim → IsAwake (module_after sim (Fetch A0 address count))
    awake_read address count awake =
        let mid = (passed_on conduct (Fetch A0 address count) sim).1 in
        awake_tick most mid (awake_left most sim mid (leaves sim A0 address count) awake)

    is_awake : IsSteady most sim → sim.state ≡ module_is.Ready → IsAwake sim
    is_awake steady ready = (ready, false_from_ne_true (has_low_power sim) (λ low. subst IsAsleep ready (steady.power low)))

    ready_tells : IsSteady most sim → until_activated most ≤ left → ActivationTells 0 tasks.FindReady
    ready_tells steady few page reply gives Met j =
        let ready = ready_met sim.state (sym (ready_told reply gives) ∙ j) in
        (steady_read (first_byte registers.GlobalStatus) (byte_count registers.GlobalStatus) steady, awake_read (first_byte registers.GlobalStatus) (byte_count registers.GlobalStatus) (is_awake steady ready), few)
    ready_tells steady few page reply gives NotYet j = absurd (ready_settles sim.state (sym (ready_told reply gives) ∙ j))
    ready_tells steady few page reply gives (Fails fault) j = tt

    same_byte : (a b : ℕ) → not (a == b) ≡ false → a ≡ b
    same_byte a b e = eqb-true a b (not-false (a == b) e)

    same_bytes : (bytes : List ℕ) → length bytes ≡ 8 → differing_lane bytes control ≡ None → bytes ≡ control
    same_bytes bytes len none =
        ext_get_or 0 bytes control (len ∙ sym eight)
        (λ k below.
        let index : k + 1 - 1 ≡ k = omega arith in
        ap (λ (n : ℕ). get_or bytes n 0) (sym index)
        ∙ same_byte (at_lane bytes (k + 1)) (at_lane control (k + 1)) (not_found (λ lane. not (at_lane bytes lane == at_lane control lane)) (k + 1) none (omega arith, omega (arith, below, len)))
        ∙ ap (λ (n : ℕ). get_or control n 0) index)

    active_told : IsSteady most sim → Shows 0x11 sim → (reply : Reply) → reply ≡ reply_of sim (operation (tasks.CheckActive control)) → judgement (tasks.CheckActive control) reply ≡ Met → active_bytes sim ≡ control
    active_told steady shows reply gives j =
        let (half, is) = reads_half sim (first_byte registers.ActiveControl) (byte_count registers.ActiveControl) has in
        let bytes = map (shown_byte sim half) (range_with_len (first_byte registers.ActiveControl) (byte_count registers.ActiveControl)) in
        let none = differs_met ActiveDiffers (differing_lane bytes control) (sym (ap (judgement (tasks.CheckActive control)) (gives ∙ is) ∙ active_judged control bytes) ∙ j) in
        active_is sim half shows steady.eight ∙ same_bytes bytes (length-map-range_with_len (shown_byte sim half) (first_byte registers.ActiveControl) (byte_count registers.ActiveControl)) none

    active_tells : IsSteady most sim → IsAwake sim → until_activated most ≤ left → ActivationTells 1 (tasks.CheckActive control)
    active_tells steady awake few page reply gives Met j =
        let mid = (passed_on conduct (operation (tasks.CheckActive control)) sim).1 in
        let is = active_told steady (page 0x11 refl) reply gives j in
        let kept : active_bytes mid ≡ control = ap (λ (lanes : List Lane). map (λ (lane : Lane). lane.active) lanes) (leaves sim A0 (first_byte registers.ActiveControl) (byte_count registers.ActiveControl)).lanes ∙ is in
        let steady_mid : IsSteady most mid = steady_left most sim mid (leaves_all sim mid (leaves sim A0 (first_byte registers.ActiveControl) (byte_count registers.ActiveControl))) (run_after (operation (tasks.CheckActive control)) steady.counters) steady in (
          steady_tick most mid steady_mid,
          awake_read (first_byte registers.ActiveControl) (byte_count registers.ActiveControl) awake,
          (rest_tick control mid (record { eight = steady_mid.eight; none = steady_mid.none; active = kept })).active,
          few,
        )
    active_tells steady awake few page reply gives NotYet j =
        let (half, is) = reads_half sim (first_byte registers.ActiveControl) (byte_count registers.ActiveControl) has in
        let bytes = map (shown_byte sim half) (range_with_len (first_byte registers.ActiveControl) (byte_count registers.ActiveControl)) in
        absurd (differs_settles ActiveDiffers (differing_lane bytes control) (sym (ap (judgement (tasks.CheckActive control)) (gives ∙ is) ∙ active_judged control bytes) ∙ j))
    active_tells steady awake few page reply gives (Fails fault) j = tt

    release_tells : IsSteady most sim → IsAwake sim → active_bytes sim ≡ control → until_activated most ≤ left → ActivationTells 2 (tasks.Deinitialize (255 - byte_of lanes))
    release_tells steady awake is few page reply gives judged j =
        let bits = 255 - byte_of lanes in
        let op = operation (tasks.Deinitialize bits) in
        let met : Met ≡ judged = sym (ap (judgement (tasks.Deinitialize bits)) (done (first_byte registers.DPDeinit) (bits ∷ []) reply gives)) ∙ j in
        let set_to : (passed_on conduct op sim).1 ≡ record sim { deinit = lanes_in bits } = after_store sim (first_byte registers.DPDeinit) (bits ∷ []) (record sim { deinit = lanes_in bits }) has (deinit_stored sim bits (page 0x10 refl)) in
        let run = subst (CountersRun most) set_to (run_after op steady.counters) in
        let up : ComeUp most control lanes (until_activated most) (record sim { deinit = lanes_in bits }) = record {
          counters = run;
          free = record {
            rest = record { eight = steady.eight; none = steady.none; active = is };
            ready = awake.0;
            awake = awake.1;
            quiet = steady.quiet;
            clear = λ lane within in_use. released lanes lane within (taken lane within in_use);
          };
          near = λ lane within inside. longest_up most sim.delays (lane_at sim lane).path (lane_at sim lane).ticks_left steady.counters.time (steady.counters.lanes lane within);
        } in
        let mid : ComeUp most control lanes (until_activated most) (passed_on conduct op sim).1 = subst (ComeUp most control lanes (until_activated most)) (sym set_to) up in
        subst (λ (judged : ReplyJudgement). ActivationTold 2 judged (module_after sim op)) met (until_activated most - 1, up_tick most control lanes (until_activated most) (passed_on conduct op sim).1 used mid, omega (arith, few))

    up_tells : (ticks : ℕ) → ComeUp most control lanes ticks sim → ticks ≤ left → ActivationTells 3 (tasks.AwaitActivated lanes)
    up_tells ticks up few page reply gives Met j =
        let op = operation (tasks.AwaitActivated lanes) in
        let mid = (passed_on conduct op sim).1 in
        let told = paths_told (tasks.AwaitActivated lanes) (λ bytes. judged_states every_lane lanes Activated (codes_in bytes 8)) refl (activated_judged lanes) (page 0x11 refl) reply gives in
        let up_now : ComeUp most control lanes 0 sim = record {
          counters = up.counters;
          free = up.free;
          near = λ lane within inside. subst (λ (path : PathState). until_up sim.delays path (lane_at sim lane).ticks_left ≤ 0) (sym (found_up sim every_lane lanes lane within inside (sym told ∙ j))) (omega arith);
        } in
        let up_mid = up_left most control lanes 0 sim mid (leaves sim A0 (first_byte registers.PathStates) (byte_count registers.PathStates)) (run_after op up.counters) up_now in
        subst (λ (n : ℕ). ComeUp most control lanes n (ticked mid)) (omega arith) (up_tick most control lanes 0 mid used up_mid)
    up_tells zero up few page reply gives NotYet j =
        let met = states_met sim every_lane lanes Activated
        (λ lane within inside. none_left_up most sim.delays (lane_at sim lane).path (lane_at sim lane).ticks_left (up.counters.lanes lane within) (up.near lane within inside)) in
        let told = paths_told (tasks.AwaitActivated lanes) (λ bytes. judged_states every_lane lanes Activated (codes_in bytes 8)) refl (activated_judged lanes) (page 0x11 refl) reply gives in
        absurd (let wrong : Met ≡ NotYet = sym met ∙ sym told ∙ j in cc)
    up_tells (suc ticks) up few page reply gives NotYet j =
        let op = operation (tasks.AwaitActivated lanes) in
        let mid = (passed_on conduct op sim).1 in
        let up_mid = up_left most control lanes (suc ticks) sim mid (leaves sim A0 (first_byte registers.PathStates) (byte_count registers.PathStates)) (run_after op up.counters) up in
        (ticks, (ticks, subst (λ (n : ℕ). ComeUp most control lanes n (ticked mid)) (omega arith) (up_tick most control lanes (suc ticks) mid used up_mid), omega arith), omega (arith, few))
    up_tells ticks up few page reply gives (Fails fault) j = tt

    pub activation_tells : (met : ℕ) (task : Task) → slice_get (activation control lanes) met ≡ Some task → Activates most control lanes met sim left → ActivationTells met task
    activation_tells zero task e (steady, few) = by_task (ActivationTells 0) tasks.FindReady task e (ready_tells steady few)
    activation_tells (suc zero) task e (steady, awake, few) = by_task (ActivationTells 1) (tasks.CheckActive control) task e (active_tells steady awake few)
    activation_tells (suc (suc zero)) task e (steady, awake, is, few) = by_task (ActivationTells 2) (tasks.Deinitialize (255 - byte_of lanes)) task e (release_tells steady awake is few)
    activation_tells (suc (suc (suc zero))) task e (ticks, up, few) = by_task (ActivationTells 3) (tasks.AwaitActivated lanes) task e (up_tells ticks up few)
    activation_tells (suc (suc (suc (suc met)))) task e p = absurd (let none : None ≡ Some task = e in cc)
