-- The lanes of kept paths stay up while the others are provisioned.
use Rattle.std.proofs.Common.{◌≡◌, ℕ, ◌==◌, ◌&&◌, ◌||◌, not, Bool, true, false, List, [], ◌∷◌, reverse, All, refl, sym, subst, ◌∙◌}
use Rattle.std.proofs.lemmas.Bool.{and_from, false_from_ne_true}
use Rattle.std.specs.FinSet as set
use Rattle.std.specs.List.{AllByRecursion, list_any}
use Rattle.bus_model.specs.declared.script.Directive.{Directive}
use Rattle.bus_model.specs.Keeping.{AllowsPins, IsKeptBy, IsKeptInTime}
use Rattle.bus_model.specs.Runs.{IsFull, Ran, Seen}
use Rattle.bus_model.specs.ScriptedBus.{script_rules}
use Rattle.bus_model.proofs.ScriptRuns.{steps_allow, steps_keep}
use Rattle.field_tables.specs.LaneSets.{IsLane, byte_of, lanes_in}
use Rattle.module_states.specs.declared.state.ModuleState.{ModuleState}
use Rattle.module_states.specs.declared.state.ModuleState.TheVariants.{Fault, LowPwr, PwrDn, PwrUp, Ready}
use Rattle.module_states.specs.Codes as module_codes
use Rattle.applications.specs.Advertised.{Advertised}
use Rattle.plan_certificate.specs.declared.path.Path.{Path}
use Rattle.control_sets.specs.HostPaths.{agree, control_at, is_used}
use Rattle.control_sets.specs.OutcomeOfProvisioning.{IsProvisioning}
use Rattle.control_sets.specs.PlanLanes.{is_taken, lanes_outside}
use Rattle.sim_module.specs.declared.module.SimModule.{SimModule}
use Rattle.sim_module.specs.ActiveSets.{IsAtRest}
use Rattle.sim_module.specs.Down.{has_low_power, holds_down, is_down, is_path_down, is_ready}
use Rattle.sim_module.specs.KeptPaths.{Attempt, IsActivePath, IsUp, KeptPathsStayUp, KeptPathsStayUpAgain, NoPin, RanAttempts}
use Rattle.sim_module.specs.Lanes.{active_bytes, all_lanes, is_in_progress, lane_at}
use Rattle.sim_module.specs.Modules.{conduct}
use Rattle.sim_module.proofs.LanesInTime.{any_in}
use Rattle.sim_module.proofs.KeptLanes.{IsKeptLane, StaysKept, keeps_tick, not_down}
use Rattle.sim_module.proofs.KeptPathLanes.{IsOfPath, begins_apart, kept_lane, mask_outside, of_path}
use Rattle.sim_module.proofs.KeptStores.{survives}
use Rattle.sim_module.proofs.ProvisioningKeeps.{all_reversed, each_keeps}

-- ---- at the beginning

ready_by : (state : ModuleState) → (module_codes.code_of state == module_codes.code_of Ready) ≡ true → state ≡ Ready
ready_by LowPwr same = cc
ready_by PwrUp same = cc
ready_by Ready same = refl
ready_by PwrDn same = cc
ready_by Fault same = cc

-- what isn't so where a lane isn't down
record IsNotDown (used path ready power : Bool) : Type 0 where
  in_use : used ≡ true
  no_path : path ≡ false
  in_ready : ready ≡ true
  no_power : power ≡ false

not_down_parts : (used path ready power : Bool) → (not used || path || not ready || power) ≡ false → IsNotDown used path ready power
not_down_parts false path ready power up = cc
not_down_parts true true ready power up = cc
not_down_parts true false false power up = cc
not_down_parts true false true true up = cc
not_down_parts true false true false up = record { in_use = refl; no_path = refl; in_ready = refl; no_power = refl }

up_parts : (sim : SimModule) (lane : ℕ) → is_down sim lane ≡ false → IsNotDown (is_used (control_at (active_bytes sim) lane)) (is_path_down sim lane) (is_ready sim) (has_low_power sim)
unfolding is_down
up_parts sim lane up = not_down_parts (is_used (control_at (active_bytes sim) lane)) (is_path_down sim lane) (is_ready sim) (has_low_power sim) up

or_parts : (a b : Bool) → (a || b) ≡ false → (a ≡ false) × (b ≡ false)
or_parts true b none = cc
or_parts false b none = (refl, none)

begins_kept : (active : List ℕ) (lane byte : ℕ) → IsLane lane → (sim : SimModule) → IsAtRest active sim → IsUp lane byte sim → StaysKept (agree active lane) lane byte sim
begins_kept active lane byte within sim rest up =
    let parts = up_parts sim lane up.up in
    let holds : ℕ → Bool = λ other. agree (active_bytes sim) lane other && holds_down sim other in
    let free : (other : ℕ) → IsLane other → agree active lane other ≡ true → holds_down sim other ≡ false = λ other there agreed. false_from_ne_true (holds_down sim other) (λ held.
    (let both : holds other ≡ true = (λ i. agree (rest.active i) lane other && holds_down sim other) ∙ and_from (agree active lane other) (holds_down sim other) agreed held in
    let some : list_any holds all_lanes ≡ true = any_in holds other there both in
    let none : list_any holds all_lanes ≡ false = parts.no_path in
    cc)) in
    let free_parts = λ (other : ℕ) (there : IsLane other) (agreed : agree active lane other ≡ true). or_parts (set.contains sim.deinit other) (is_in_progress (lane_at sim other)) (free other there agreed) in
    record {
      alone = begins_apart active lane byte within sim rest up.active (λ other there agreed. (free_parts other there agreed).1);
      ready = ready_by sim.state parts.in_ready;
      power = parts.no_power;
      path = up.path;
      clear = λ other there agreed. (free_parts other there agreed).0;
    }

-- ---- one provisioning after another

abbrev State : Type 0
State = List Directive × SimModule

-- the script sets the pin no more
abbrev NoPins : State → Type 0
NoPins state = AllByRecursion (AllowsPins NoPin) state.0

module _ (advert : Advertised) (kept : List Path) (active : List ℕ) (each : All (IsActivePath advert active) kept) (lane byte : ℕ) (within : IsLane lane) (taken : is_taken advert kept lane ≡ true)
    (first : SimModule) (rest : IsAtRest active first) (up : IsUp lane byte first) where
  abbrev is_kept : ℕ → Bool
  is_kept = agree active lane

  abbrev Keeps : SimModule → Type 0
  Keeps = StaysKept is_kept lane byte

  path : IsOfPath active lane (λ other. is_taken advert kept other ≡ true)
  path = of_path advert kept active each lane within taken

  one : IsKeptLane is_kept lane byte
  one = kept_lane active lane byte within first rest up.active (λ other. is_taken advert kept other ≡ true) path

  outside : (other : ℕ) → IsLane other → is_kept other ≡ true → set.contains (lanes_in (byte_of (lanes_outside advert kept))) other ≡ false
  outside other there agreed = mask_outside advert kept other there (path.others other there agreed)

  in_time : IsKeptInTime conduct NoPin Keeps
  in_time = record { tick = keeps_tick is_kept lane byte one; low_power_pin = λ sim on none keeps. absurd none }

  after_one : (old new : Seen State) (attempt : Attempt) → NoPins old.state → Keeps old.state.1 → Ran (script_rules conduct) old new (reverse attempt.history) →
      IsProvisioning attempt.control (lanes_outside advert kept) (IsFull new) attempt.history attempt.answer → NoPins new.state × Keeps new.state.1
  after_one old new attempt no_pin keeps ran outcome =
      let lanes = lanes_outside advert kept in
      let each_step = each_keeps attempt.control lanes Keeps (survives is_kept lane byte one (byte_of lanes) outside) attempt.history outcome.shape in
      let steps = reverse attempt.history in (
        subst NoPins (sym ran.state) (steps_allow conduct NoPin steps old.state no_pin),
        subst (λ (s : State). Keeps s.1) (sym ran.state)
            (steps_keep conduct NoPin Keeps in_time steps (all_reversed (λ step. IsKeptBy conduct Keeps step.op) attempt.history each_step) old.state no_pin keeps),
      )

  after_all : (attempts : List Attempt) (old new : Seen State) → NoPins old.state → Keeps old.state.1 → RanAttempts advert kept old attempts new → Keeps new.state.1
  after_all [] old new no_pin keeps same = subst (λ (seen : Seen State). Keeps seen.state.1) (sym same) keeps
  after_all (attempt ∷ attempts) old new no_pin keeps (next, ran, outcome, more) =
      let there = after_one old next attempt no_pin keeps ran outcome in
      after_all attempts next new there.0 there.1 more

  still_up : (sim : SimModule) → Keeps sim → IsUp lane byte sim
  still_up sim keeps = record { path = keeps.path; up = not_down is_kept lane byte one sim keeps; active = keeps.alone.active }

pub kept_paths_stay_up_again : KeptPathsStayUpAgain
kept_paths_stay_up_again old new attempts advert kept active no_pin rest each ran lane byte within taken up =
    let first = old.state.1 in
    still_up advert kept active each lane byte within taken first rest up new.state.1
    (after_all advert kept active each lane byte within taken first rest up attempts old new no_pin (begins_kept active lane byte within first rest up) ran)

pub kept_paths_stay_up : KeptPathsStayUp
kept_paths_stay_up old new history advert kept control active answer no_pin rest each ran outcome =
    kept_paths_stay_up_again old new (record { control = control; history = history; answer = answer } ∷ []) advert kept active no_pin rest each (new, ran, outcome, refl)
