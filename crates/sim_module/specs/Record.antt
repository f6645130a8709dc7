-- All that later answers of a module depend on. (docs/module.md, "The record"; this project's own)
use Rattle.std.specs.Prelude.{ℕ, Bool, false, List, [], refl}
use Rattle.std.specs.Coded.{Coded, code_by, coded×}
use Rattle.std.specs.FinMap as finmap
use Rattle.std.specs.FinSet as set
use Rattle.paged_memory.specs.Images.{Memory}
use Rattle.paged_memory.specs.declared.mapped_page.MappedPage.{MappedPage}
use Rattle.field_tables.specs.LaneSets.{Lanes}
use Rattle.applications.specs.ActiveSets.{nothing_active}
use Rattle.applications.specs.Advertised.{Advertised}
use Rattle.module_states.specs.declared.state.ModuleState.{ModuleState}
use Rattle.sim_module.specs.declared.delays.Delays.{Delays}
use Rattle.sim_module.specs.declared.lane.Lane.{Lane}
use Rattle.sim_module.specs.declared.fixed.Fixed.{Fixed}
use Rattle.sim_module.specs.declared.moving.Moving.{Moving}
use Rattle.sim_module.specs.contracts.fixed.Fixed as fixed_contract
use Rattle.sim_module.specs.contracts.moving.Moving as moving_contract

-- what of it never changes, and what does
pub record Simulated : Type 0 where
  pub image : Memory
  pub advert : Advertised
  pub delays : Delays
  pub selection : MappedPage
  pub pin : Bool
  pub control : ℕ
  pub state : ModuleState
  pub ticks_left : ℕ
  pub lanes : List Lane
  pub deinit : Lanes
  pub apply_left : ℕ
  pub module_flags : ℕ
  pub lane_flags : List ℕ

-- the two put together
abbrev pub module_of : Fixed → Moving → Simulated
module_of fixed moving = record {
  image = fixed.image;
  advert = fixed.advert;
  delays = moving.delays;
  selection = moving.selection;
  pin = moving.pin;
  control = moving.control;
  state = moving.state;
  ticks_left = moving.ticks_left;
  lanes = moving.lanes;
  deinit = moving.deinit;
  apply_left = moving.apply_left;
  module_flags = moving.module_flags;
  lane_flags = moving.lane_flags;
}

-- no memory, and no Applications
abbrev pub nothing : Fixed
nothing = record { image = finmap.empty; advert = record { apps = []; unsupported = set.empty; paired = false; active = nothing_active } }

-- what changes, alone
abbrev pub bare : Moving → Simulated
bare moving = module_of nothing moving

abbrev pub fixed_of : Simulated → Fixed
fixed_of sim = record { image = sim.image; advert = sim.advert }

abbrev pub moving_of : Simulated → Moving
moving_of sim = record {
  delays = sim.delays;
  selection = sim.selection;
  pin = sim.pin;
  control = sim.control;
  state = sim.state;
  ticks_left = sim.ticks_left;
  lanes = sim.lanes;
  deinit = sim.deinit;
  apply_left = sim.apply_left;
  module_flags = sim.module_flags;
  lane_flags = sim.lane_flags;
}

-- a module as data that a proof can tell apart: by its two parts
abbrev pub coded_module : Coded Simulated
coded_module =
    code_by (Fixed × Moving) (coded× fixed_contract.the_row.coded moving_contract.the_row.coded) (λ sim. (fixed_of sim, moving_of sim)) (λ parts. module_of parts.0 parts.1) (λ _. refl)
