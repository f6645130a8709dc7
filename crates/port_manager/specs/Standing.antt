-- What holds of a port after any story. (this project's own)
use Rattle.std.specs.Prelude.{◌≡◌, ◌≤◌, ℕ, Bool, true, false, [], ◌∷◌, ◌++◌}
use Rattle.bus_model.specs.declared.operation.Op.{Op}
use Rattle.conversations.specs.declared.on_page.OnPage.{OnPage}
use Rattle.control_sets.specs.declared.procedures.power.Power.TheVariants.{Awake, Asleep}
use Rattle.paged_memory.specs.declared.page_addressing.KnownPage.{KnownPage}
use Rattle.paged_memory.specs.declared.page_addressing.PageAddressing.TheVariants.{BankAndPage}
use Rattle.paged_memory.specs.KnownPages.{Tells}
use Rattle.paged_memory.specs.PageAddressing.{History}
use Rattle.module_reading.specs.declared.halves.Halves.{Halves}
use Rattle.port_manager.specs.declared.job.Job.{Job}
use Rattle.port_manager.specs.declared.job.Job.TheVariants.{Reading, Waking, Sleeping, Provisioning, Activating, Confirming, Watching}
use Rattle.port_manager.specs.declared.port.Outstanding.{Outstanding}
use Rattle.port_manager.specs.declared.port.Outstanding.TheVariants as outstanding
use Rattle.port_manager.specs.declared.port.Port.{Port}
use Rattle.port_manager.specs.Jobs.{activation_of, provisioning_of}
use Rattle.port_manager.specs.Patients.{Patient}
use Rattle.port_manager.specs.Ports.{IfWorking}
use Rattle.port_manager.specs.Stories.{Story, acknowledge, again_in, apply_refused_in, ask, drop, held_in, hold, demand, hear, keeper_in, make, outstanding_in, plug, pull, reconsider, request_in, settled_in, silence_in, steps_of, vain_in}
use Rattle.port_manager.specs.Readings.{GivesActivation, GivesProvisioning, RestsIn, SinceRead, SleepsIn, TookSteps, WakesIn}

-- the job works for the goal of the last reading, wakes up or goes to low power
abbrev pub IsNamed : Story → Job → Type 0
IsNamed story (Reading job woken) = Unit {0}
IsNamed story (Waking job) = (job.conversation.conversation.power ≡ Awake) × WakesIn story
IsNamed story (Sleeping job) = (job.conversation.conversation.power ≡ Asleep) × SleepsIn story
IsNamed story (Provisioning job goal) = (job.conversation.conversation.conversation.work ≡ provisioning_of goal) × SinceRead (GivesProvisioning goal) story
IsNamed story (Activating job goal) = (job.conversation.conversation.conversation.work ≡ activation_of goal) × SinceRead (GivesActivation goal) story
IsNamed story (Confirming job) = RestsIn story job.conversation.conversation.conversation.goal
IsNamed story (Watching job) = RestsIn story job.conversation.conversation.conversation.goal

-- unless it is dropped with the next reply
abbrev pub UnlessStale : Outstanding → Type 0 → Type 0
UnlessStale outstanding.Nothing P = P
UnlessStale outstanding.Awaited P = P
UnlessStale outstanding.Stale P = Unit {0}
UnlessStale outstanding.Forsaken P = P

-- ---- what a port is

-- the newest of the steps are those of the reading
pub record IsReadingOf (history : History) (reading : Patient (OnPage Halves)) : Type 0 where
  pub recent : History
  pub earlier : History
  pub all : history ≡ recent ++ earlier
  pub took : TookSteps recent reading

-- what is known of the page selection is what the newest of the steps say
pub record IsKnownOf (history : History) (selected : KnownPage) : Type 0 where
  pub recent : History
  pub earlier : History
  pub all : history ≡ recent ++ earlier
  pub tells : Tells BankAndPage selected recent

abbrev pub IsFounded : History → Job → Type 0
IsFounded history (Reading job woken) = IsReadingOf history job
IsFounded history (Waking job) = Unit {0}
IsFounded history (Sleeping job) = Unit {0}
IsFounded history (Provisioning job goal) = Unit {0}
IsFounded history (Activating job goal) = Unit {0}
IsFounded history (Confirming job) = IsKnownOf history job.conversation.conversation.selection
IsFounded history (Watching job) = IsKnownOf history job.conversation.conversation.selection

-- it doesn't wake a module up, now or after a reading
abbrev pub IsTame : Job → Type 0
IsTame (Reading job woken) = woken ≡ true
IsTame (Waking job) = ⊥
IsTame (Sleeping job) = Unit {0}
IsTame (Provisioning job goal) = Unit {0}
IsTame (Activating job goal) = Unit {0}
IsTame (Confirming job) = Unit {0}
IsTame (Watching job) = Unit {0}

-- it looks at a module that was found as wanted before
abbrev pub IsWatching : Job → Type 0
IsWatching (Reading job woken) = ⊥
IsWatching (Waking job) = ⊥
IsWatching (Sleeping job) = ⊥
IsWatching (Provisioning job goal) = ⊥
IsWatching (Activating job goal) = ⊥
IsWatching (Confirming job) = ⊥
IsWatching (Watching job) = Unit {0}

abbrev pub IfTrue : Bool → Type 0 → Type 0
IfTrue true P = P
IfTrue false P = Unit {0}

-- an operation may be asked for if none is outstanding, and after each moment that is to be waited for
pub record MayAsk (op : Op) (moment : ℕ) (before : Story) : Type 0 where
  pub one : outstanding_in before ≡ outstanding.Nothing
  pub waited : again_in before ≤ moment

-- each operation that was asked for was one that may be
abbrev pub IsLawful : Story → Type 0
IsLawful [] = Unit {0}
IsLawful (plug now ∷ before) = IsLawful before
IsLawful (pull ∷ before) = IsLawful before
IsLawful (reconsider ∷ before) = IsLawful before
IsLawful (hold held ∷ before) = IsLawful before
IsLawful (demand request ∷ before) = IsLawful before
IsLawful (acknowledge past ∷ before) = IsLawful before
IsLawful (hear alive began ∷ before) = IsLawful before
IsLawful (ask op moment ∷ before) = MayAsk op moment before × IsLawful before
IsLawful (make op reply wanted now result ∷ before) = IsLawful before
IsLawful (drop ∷ before) = IsLawful before

-- the port after this story
pub record IsAt (story : Story) (port : Port) : Type 0 where
  pub lawful : IsLawful story
  pub outstanding : port.outstanding ≡ outstanding_in story
  pub waits : again_in story ≤ port.due
  pub held : port.held ≡ held_in story
  pub request : port.request ≡ request_in story
  pub silence : port.silence ≡ silence_in story
  pub apply_refused : port.apply_refused ≡ apply_refused_in story
  pub founded : IfWorking port.stage (IsFounded (steps_of story))
  pub vain : port.vain ≡ vain_in story
  pub tame : IfTrue port.vain (IfWorking port.stage IsTame)
  pub settled : IfTrue (settled_in story) (IfWorking port.stage IsWatching)
  pub kept : port.keeper ≡ keeper_in story
  pub named : UnlessStale port.outstanding (IfWorking port.stage (IsNamed story))
