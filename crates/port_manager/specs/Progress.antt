-- After how many operations a module is up. (this project's own)
use Rattle.std.specs.Prelude.{◌≡◌, Bool, false, ℕ, ◌<◌, ◌≤◌, ◌+◌, ◌*◌, [], ◌∷◌}
use Rattle.bus_model.specs.declared.operation.Op.{Op}
use Rattle.port_manager.specs.declared.job.Job.{Job}
use Rattle.port_manager.specs.declared.port.Outcome.{Outcome}
use Rattle.port_manager.specs.declared.port.Outcome.TheVariants as outcome
use Rattle.port_manager.specs.declared.port.Outstanding.TheVariants as outstanding
use Rattle.port_manager.specs.declared.port.Port.{Port}
use Rattle.conversations.specs.declared.next.Next.TheVariants.{Do}
use Rattle.port_manager.specs.declared.port.Stage.{Stage}
use Rattle.port_manager.specs.declared.port.Stage.TheVariants as stages
use Rattle.port_manager.specs.Jobs.{reading}
use Rattle.port_manager.specs.Ports.{next_at, plugged}
use Rattle.port_manager.specs.Runs.{Reaches, Runs}
use Rattle.port_manager.specs.Stories.{Story, plug, pull, reconsider, acknowledge, ask, make, drop, hold, demand, hear}
use Rattle.port_manager.specs.Standing.{IsWatching}

-- the module was seen as it is wanted, and is looked at
abbrev pub IsUpStage : Stage → Type 0
IsUpStage stages.Absent = ⊥
IsUpStage (stages.Left reason) = ⊥
IsUpStage (stages.Working job) = IsWatching job

abbrev pub IsGoing : Outcome → Type 0
IsGoing outcome.Dropped = ⊥
IsGoing (outcome.Went note) = Unit {0}
IsGoing (outcome.Paused moment) = Unit {0}
IsGoing (outcome.Failed fault moment) = ⊥
IsGoing (outcome.Left reason) = ⊥

-- the module stays, no other weights are wanted, and nothing fails
abbrev pub IsGoingOn : Story → Type 0
IsGoingOn [] = Unit {0}
IsGoingOn (plug now ∷ before) = ⊥
IsGoingOn (pull ∷ before) = ⊥
IsGoingOn (reconsider ∷ before) = ⊥
IsGoingOn (hold held ∷ before) = ⊥
IsGoingOn (demand request ∷ before) = ⊥
IsGoingOn (acknowledge past ∷ before) = IsGoingOn before
IsGoingOn (hear alive began ∷ before) = IsGoingOn before
IsGoingOn (ask op moment ∷ before) = IsGoingOn before
IsGoingOn (make op reply wanted now result ∷ before) = IsGoing result × IsGoingOn before
IsGoingOn (drop ∷ before) = IsGoingOn before

-- so many operations were made
abbrev pub made_in : Story → ℕ
made_in [] = 0
made_in (plug now ∷ before) = made_in before
made_in (pull ∷ before) = made_in before
made_in (reconsider ∷ before) = made_in before
made_in (hold held ∷ before) = made_in before
made_in (demand request ∷ before) = made_in before
made_in (acknowledge past ∷ before) = made_in before
made_in (hear alive began ∷ before) = made_in before
made_in (ask op moment ∷ before) = made_in before
made_in (make op reply wanted now result ∷ before) = made_in before + 1
made_in (drop ∷ before) = made_in before

abbrev pub pauses_by : Outcome → ℕ
pauses_by outcome.Dropped = 0
pauses_by (outcome.Went note) = 0
pauses_by (outcome.Paused moment) = 1
pauses_by (outcome.Failed fault moment) = 0
pauses_by (outcome.Left reason) = 0

-- so many of them were in vain
abbrev pub paused_in : Story → ℕ
paused_in [] = 0
paused_in (plug now ∷ before) = paused_in before
paused_in (pull ∷ before) = paused_in before
paused_in (reconsider ∷ before) = paused_in before
paused_in (hold held ∷ before) = paused_in before
paused_in (demand request ∷ before) = paused_in before
paused_in (acknowledge past ∷ before) = paused_in before
paused_in (hear alive began ∷ before) = paused_in before
paused_in (ask op moment ∷ before) = paused_in before
paused_in (make op reply wanted now result ∷ before) = paused_in before + pauses_by result
paused_in (drop ∷ before) = paused_in before

-- once so many operations were made since the plug, the module is up
abbrev pub ComesUp : Type 0
ComesUp =
    (port later : Port) (now : ℕ) (story : Story) → Runs (plugged now port) story later → IsGoingOn story → 65 + 3 * paused_in story < made_in story
    → IsUpStage later.stage

-- once so many were made since the module began to be read anew, as after each failure, it is up too
abbrev pub ComesUpAnew : Type 0
ComesUpAnew =
    (port later : Port) (woken : Bool) (story : Story) → port.stage ≡ stages.Working (reading woken) → Runs port story later → IsGoingOn story
    → 65 + 3 * paused_in story < made_in story → IsUpStage later.stage

-- a port that works, and isn't to hold still, asks for an operation once it may
abbrev pub NeverStops : Type 0
NeverStops =
    (story : Story) (port : Port) (job : Job) (now : ℕ) → Reaches story port → port.stage ≡ stages.Working job → port.outstanding ≡ outstanding.Nothing → port.held ≡ false → port.due ≤ now
    → (op : Op) × (next_at port now ≡ Do op)
