-- What a module's lanes keep while others are provisioned. (docs/module.md, "Kept paths"; this project's own)
use Rattle.std.specs.Prelude.{◌≡◌, ℕ, Bool, true, false, List, [], ◌∷◌, None, All, Contains, reverse}
use Rattle.std.specs.List.{AllByRecursion}
use Rattle.bus_model.specs.declared.script.Directive.{Directive}
use Rattle.bus_model.specs.Keeping.{AllowsPins}
use Rattle.bus_model.specs.Runs.{IsFull, Ran, Seen}
use Rattle.bus_model.specs.ScriptedBus.{script_rules}
use Rattle.datapath_states.specs.declared.state.PathState.TheVariants.{Activated}
use Rattle.applications.specs.Advertised.{Advertised}
use Rattle.plan_certificate.specs.declared.path.Path.{Path}
use Rattle.field_tables.specs.LaneSets.{IsLane}
use Rattle.control_sets.specs.HostPaths.{host_paths, wrong_lane}
use Rattle.control_sets.specs.OutcomeAnswers.{Answer}
use Rattle.control_sets.specs.OutcomeOfProvisioning.{IsProvisioning}
use Rattle.control_sets.specs.Pages.{History}
use Rattle.control_sets.specs.PlanLanes.{is_taken, lanes_outside}
use Rattle.control_sets.specs.PlanPaths.{host_path_of}
use Rattle.sim_module.specs.declared.module.SimModule.{SimModule}
use Rattle.sim_module.specs.ActiveSets.{IsAtRest}
use Rattle.sim_module.specs.Down.{is_down}
use Rattle.sim_module.specs.Lanes.{lane_at}
use Rattle.sim_module.specs.Modules.{conduct}

-- the pin isn't set, neither on nor off
abbrev pub NoPin : Bool → Type 0
NoPin on = ⊥

-- the active bytes are host paths, and the path is one of them
abbrev pub IsActivePath : Advertised → List ℕ → Path → Type 0
IsActivePath advert active path = (wrong_lane active ≡ None) × Contains (host_paths active) (host_path_of advert path)

-- the lane is DPActivated and not down, and this is its active byte
pub record IsUp (lane byte : ℕ) (sim : SimModule) : Type 0 where
  pub path : (lane_at sim lane).path ≡ Activated
  pub up : is_down sim lane ≡ false
  pub active : (lane_at sim lane).active ≡ byte

-- whatever a script without settings of the pin refuses or cuts: if no apply is in progress and the kept paths are active,
-- each of their lanes that was up is up after the steps of provisioning on all other lanes, whatever they stage and answer
abbrev pub KeptPathsStayUp : Type 0
KeptPathsStayUp =
    (old new : Seen (List Directive × SimModule)) (history : History) (advert : Advertised) (kept : List Path) (control active : List ℕ) (answer : Answer)
    → AllByRecursion (AllowsPins NoPin) old.state.0 → IsAtRest active old.state.1 → All (IsActivePath advert active) kept
    → Ran (script_rules conduct) old new (reverse history) → IsProvisioning control (lanes_outside advert kept) (IsFull new) history answer
    → (lane byte : ℕ) → IsLane lane → is_taken advert kept lane ≡ true → IsUp lane byte old.state.1 → IsUp lane byte new.state.1

-- one provisioning: its control bytes, its steps, the newest first, and its answer
pub record Attempt : Type 0 where
  pub control : List ℕ
  pub history : History
  pub answer : Answer

-- old becomes new by these attempts on all lanes that no kept path has, one after the other, and by nothing else; the list of
-- the bus has the steps of all of them, so each attempt may find less room in it
abbrev pub RanAttempts : Advertised → List Path → Seen (List Directive × SimModule) → List Attempt → Seen (List Directive × SimModule) → Type 0
RanAttempts advert kept old [] new = new ≡ old
RanAttempts advert kept old (attempt ∷ attempts) new =
    (next : Seen (List Directive × SimModule))
    × Ran (script_rules conduct) old next (reverse attempt.history)
    × IsProvisioning attempt.control (lanes_outside advert kept) (IsFull next) attempt.history attempt.answer
    × RanAttempts advert kept next attempts new

-- the same through any number of attempts, each of which may stage other bytes and end as it likes: the premises have to hold
-- before the first one, and need not hold between them
abbrev pub KeptPathsStayUpAgain : Type 0
KeptPathsStayUpAgain =
    (old new : Seen (List Directive × SimModule)) (attempts : List Attempt) (advert : Advertised) (kept : List Path) (active : List ℕ)
    → AllByRecursion (AllowsPins NoPin) old.state.0 → IsAtRest active old.state.1 → All (IsActivePath advert active) kept
    → RanAttempts advert kept old attempts new
    → (lane byte : ℕ) → IsLane lane → is_taken advert kept lane ≡ true → IsUp lane byte old.state.1 → IsUp lane byte new.state.1
