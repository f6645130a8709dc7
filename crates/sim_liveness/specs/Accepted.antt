-- That a module takes the control bytes of a plan of what it advertises. (docs/module.md, "Apply"; OIF-CMIS-05.0, chapter 8 "Module
-- Management Memory Map", "Data Path Configuration" and Configuration Command Status)
use Rattle.std.specs.Prelude.{◌≡◌, ℕ, ◌≤◌, ◌-◌, true, false, List, [], ◌∷◌, All, Contains, length, slice_index}
use Rattle.bus_model.specs.declared.device.Dev.TheVariants.{A0}
use Rattle.field_tables.specs.LaneSets.{IsLane, Lanes, byte_of, lanes_in}
use Rattle.field_tables.specs.Registers.{first_byte}
use Rattle.field_tables.specs.declared.field.Register.TheVariants as registers
use Rattle.applications.specs.Advertised.{Advertised, advertised_under}
use Rattle.applications.specs.declared.conventions.Conventions.{Conventions}
use Rattle.datapath_states.specs.declared.state.PathState.TheVariants.{Deactivated}
use Rattle.plan_certificate.specs.declared.path.Path.{Path}
use Rattle.plan_certificate.specs.Plans.{IsAdmissible}
use Rattle.control_sets.specs.ControlBytes.{control_bytes}
use Rattle.control_sets.specs.PlanLanes.{is_taken, lanes_outside}
use Rattle.sim_module.specs.declared.module.SimModule.{SimModule}
use Rattle.sim_module.specs.Applies.{is_applicable}
use Rattle.sim_module.specs.KeptPaths.{IsActivePath}
use Rattle.sim_module.specs.Lanes.{active_bytes, lane_at, staged_bytes}
use Rattle.sim_module.specs.OwnAdverts.{own_advert}
use Rattle.sim_module.specs.ShownBytes.{is_mapped}
use Rattle.sim_module.specs.Stores.{stored}
use Rattle.sim_liveness.specs.Timing.{HaveTime, IsApplied, Pause, paused, ticks_in}

-- what a host that goes by these conventions reads of what the module advertises
abbrev pub read_by : Conventions → SimModule → Advertised
read_by conventions sim = advertised_under conventions sim.image

-- the lanes of ApplyDPInit: those that no kept path has
abbrev pub mask_of : Advertised → List Path → Lanes
mask_of advert kept = lanes_in (byte_of (lanes_outside advert kept))

-- a plan of what the module advertises to the host is staged; some of its paths are kept, which are active with their control
-- bytes; all other lanes are DPDeactivated
pub record IsStagedPlan (conventions : Conventions) (paths kept : List Path) (sim : SimModule) : Type 0 where
  pub own : sim.advert ≡ own_advert sim.image
  pub eight : length sim.lanes ≡ 8
  pub plan : IsAdmissible (read_by conventions sim) paths
  pub keeps : All (Contains paths) kept
  pub active : All (IsActivePath (read_by conventions sim) (active_bytes sim)) kept
  pub staged : staged_bytes sim ≡ control_bytes (read_by conventions sim) paths
  pub down : (lane : ℕ) → IsLane lane → is_taken (read_by conventions sim) kept lane ≡ false → (lane_at sim lane).path ≡ Deactivated

-- whichever paths are kept, and whether or not the host goes by pairing or by the counts that interface IDs imply: no lane is refused
abbrev pub AcceptsPlans : Type 0
AcceptsPlans =
    (conventions : Conventions) (paths kept : List Path) (sim : SimModule) → IsStagedPlan conventions paths kept sim
    → is_applicable sim (mask_of (read_by conventions sim) kept) ≡ true

-- the module after the store to ApplyDPInit
abbrev pub after_apply : Advertised → List Path → SimModule → SimModule
after_apply advert kept sim = (stored sim A0 (first_byte registers.ApplyDPInit) (byte_of (lanes_outside advert kept) ∷ [])).1

-- once as many ticks have come as an apply lasts, each lane of no kept path has ConfigSuccess, and the plan's control byte is active on
-- it; fetches and selections of pages may come between
abbrev pub AppliesPlans : Type 0
AppliesPlans =
    (most : ℕ) (conventions : Conventions) (paths kept : List Path) (sim : SimModule) (pauses : List Pause) (lane : ℕ) → IsStagedPlan conventions paths kept sim
    → HaveTime most sim.delays → is_mapped sim 0x10 ≡ true → (stored sim A0 (first_byte registers.ApplyDPInit) (byte_of (lanes_outside (read_by conventions sim) kept) ∷ [])).0 ≡ true
    → sim.delays.apply ≤ ticks_in pauses → IsLane lane → is_taken (read_by conventions sim) kept lane ≡ false
    → IsApplied (lane_at (paused pauses (after_apply (read_by conventions sim) kept sim)) lane) (slice_index (control_bytes (read_by conventions sim) paths) (lane - 1))
