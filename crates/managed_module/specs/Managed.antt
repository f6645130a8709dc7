-- A port at work on a simulated module over a bus that refuses nothing. (docs/module.md; this project's own)
use Rattle.std.specs.Prelude.{◌≡◌, ℕ, ◌+◌, ◌*◌, ◌<◌, ◌||◌, Bool, true, [], ◌∷◌, Option, Some, None, if◌then◌else◌}
use Rattle.std.specs.FinMap as map
use Rattle.bus_model.specs.declared.device.Dev.TheVariants.{A0}
use Rattle.bus_model.specs.declared.operation.Op.{Op}
use Rattle.bus_model.specs.SameOperation.{same_op}
use Rattle.bus_model.specs.ScriptedBus.{passed_on, ticked_times}
use Rattle.paged_memory.specs.declared.family.Family.{Family}
use Rattle.paged_memory.specs.declared.family.Family.TheVariants.{Cmis}
use Rattle.paged_memory.specs.declared.mapped_page.MappedPage.{MappedPage}
use Rattle.paged_memory.specs.Families.{managed_by}
use Rattle.paged_memory.specs.Images.{Memory}
use Rattle.paged_memory.specs.Keys.{lower_key, upper_key}
use Rattle.control_sets.specs.OutcomeOperations.{read_module_state, read_path_states, read_statuses}
use Rattle.module_reading.specs.Regions.{identifier}
use Rattle.port_manager.specs.declared.job.Job.{Job}
use Rattle.port_manager.specs.declared.job.Job.TheVariants.{Reading, Waking, Sleeping, Provisioning, Activating, Confirming, Watching}
use Rattle.port_manager.specs.declared.port.Outcome.{Outcome}
use Rattle.port_manager.specs.declared.port.Port.{Port}
use Rattle.port_manager.specs.declared.port.Stage.{Stage}
use Rattle.port_manager.specs.declared.port.Stage.TheVariants as stages
use Rattle.port_manager.specs.Ports.{plugged}
use Rattle.port_manager.specs.Progress.{IsGoingOn, IsUpStage, made_in, pauses_by}
use Rattle.port_manager.specs.Runs.{Becomes}
use Rattle.port_manager.specs.Stories.{Event, Story, plug, pull, reconsider, acknowledge, ask, make, drop, hold, demand, hear}
use Rattle.sim_module.specs.declared.module.SimModule.{SimModule}
use Rattle.sim_module.specs.Modules.{conduct}
use Rattle.sim_module.specs.Ticks.{ticked}

-- ---- waiting

-- the states of the module or of data paths are read, or the statuses of configurations
abbrev pub reads_state : Op → Bool
reads_state op = same_op read_module_state op || (same_op read_path_states op || same_op read_statuses op)

-- a state was read that isn't yet the one that is awaited
abbrev pub waits_by : Op → Outcome → ℕ
waits_by op result = if reads_state op then pauses_by result else 0

abbrev pub waits_in : Story → ℕ
waits_in [] = 0
waits_in (plug now ∷ before) = waits_in before
waits_in (pull ∷ before) = waits_in before
waits_in (reconsider ∷ before) = waits_in before
waits_in (hold held ∷ before) = waits_in before
waits_in (demand request ∷ before) = waits_in before
waits_in (acknowledge past ∷ before) = waits_in before
waits_in (hear alive began ∷ before) = waits_in before
waits_in (ask op moment ∷ before) = waits_in before
waits_in (make op reply wanted now result ∷ before) = waits_in before + waits_by op result
waits_in (drop ∷ before) = waits_in before

-- ---- the module

-- the halves that a port needs are there, and so is the one that is selected
pub record HasHalvesOf (image : Memory) (selection : MappedPage) : Type 0 where
  pub lower : map.contains_key image (lower_key A0) ≡ true
  pub first : map.contains_key image (upper_key A0 0 0x00) ≡ true
  pub control : map.contains_key image (upper_key A0 0 0x10) ≡ true
  pub status : map.contains_key image (upper_key A0 0 0x11) ≡ true
  pub selected : map.contains_key image (upper_key A0 selection.bank selection.page) ≡ true

abbrev pub HasHalves : SimModule → Type 0
HasHalves sim = HasHalvesOf sim.image sim.selection

-- the module gives its own reply, and each operation takes a tick; a pause before one takes any number
abbrev pub Answered : Event → SimModule → SimModule → Type 0
Answered (plug now) sim after = after ≡ sim
Answered pull sim after = after ≡ sim
Answered reconsider sim after = after ≡ sim
Answered (hold held) sim after = after ≡ sim
Answered (demand request) sim after = after ≡ sim
Answered (acknowledge past) sim after = after ≡ sim
Answered (hear alive began) sim after = after ≡ sim
Answered (ask op moment) sim after = (count : ℕ) × (after ≡ ticked_times conduct count sim)
Answered (make op reply wanted now result) sim after = (reply ≡ (passed_on conduct op sim).0) × (after ≡ ticked (passed_on conduct op sim).1)
Answered drop sim after = after ≡ sim

-- what was read of the module, if anything, is of CMIS
abbrev pub IsCmisFamily : Option Family → Type 0
IsCmisFamily None = Unit {0}
IsCmisFamily (Some Cmis) = Unit {0}
IsCmisFamily (Some other) = ⊥

abbrev pub IsCmisJob : Job → Type 0
IsCmisJob (Reading job woken) = IsCmisFamily (managed_by (identifier job.conversation.conversation.conversation.image))
IsCmisJob (Waking job) = Unit {0}
IsCmisJob (Sleeping job) = Unit {0}
IsCmisJob (Provisioning job goal) = Unit {0}
IsCmisJob (Activating job goal) = Unit {0}
IsCmisJob (Confirming job) = Unit {0}
IsCmisJob (Watching job) = Unit {0}

abbrev pub IsCmisStage : Stage → Type 0
IsCmisStage stages.Absent = Unit {0}
IsCmisStage (stages.Left reason) = Unit {0}
IsCmisStage (stages.Working job) = IsCmisJob job

-- ---- both together

-- a port and a module become others by a story
abbrev pub Manages : Port → SimModule → Story → Port → SimModule → Type 0
Manages port sim [] later after = (later ≡ port) × (after ≡ sim)
Manages port sim (event ∷ before) later after =
    (between : Port) × (sim_between : SimModule) × Manages port sim before between sim_between × IsCmisStage between.stage × Becomes between event later × Answered event sim_between after

abbrev pub ManagedComesUp : Type 0
ManagedComesUp =
    (port later : Port) (sim after : SimModule) (now : ℕ) (story : Story) → HasHalves sim → Manages (plugged now port) sim story later after → IsGoingOn story
    → 65 + 3 * waits_in story < made_in story → IsUpStage later.stage
