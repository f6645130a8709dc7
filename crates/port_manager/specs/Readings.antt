-- What was read of a module, and what the last reading of a story leads to. (this project's own)
use Rattle.std.specs.Prelude.{◌≡◌, ◌⊎◌, ◌≤◌, ℕ, true, List, [], ◌∷◌, ◌++◌, Some}
use Rattle.std.specs.FinMap as map
use Rattle.std.specs.FinSet as set
use Rattle.bus_model.specs.Operations.{Answers}
use Rattle.conversations.specs.declared.next.Next.{Next}
use Rattle.conversations.specs.declared.next.Next.TheVariants as nexts
use Rattle.conversations.specs.declared.on_page.OnPage.{OnPage}
use Rattle.conversations.specs.declared.pausing.Timed.{Timed}
use Rattle.conversations.specs.declared.pausing.Timed.TheVariants.{InTime}
use Rattle.conversations.specs.declared.within.Spent.{Spent}
use Rattle.conversations.specs.Wanted.{op_of}
use Rattle.control_sets.specs.Durations.{patience_for}
use Rattle.field_tables.specs.declared.field.Field.TheVariants as fields
use Rattle.field_tables.specs.declared.table.cmis.CmisField.TheVariants as cmis
use Rattle.field_tables.specs.Readings.{number}
use Rattle.paged_memory.specs.Images.{Memory}
use Rattle.paged_memory.specs.PageAddressing.{History}
use Rattle.module_reading.specs.declared.halves.Halves.{Halves}
use Rattle.module_reading.specs.ImageReading as reader
use Rattle.module_reading.specs.Regions.{everything}
use Rattle.port_manager.specs.declared.deciding.Goal.{Goal}
use Rattle.port_manager.specs.declared.deciding.Wanted.{Wanted}
use Rattle.port_manager.specs.declared.port.Outcome.{Outcome}
use Rattle.port_manager.specs.declared.port.Outcome.TheVariants as outcome
use Rattle.port_manager.specs.declared.turn.Note.{Note}
use Rattle.port_manager.specs.declared.turn.Note.TheVariants as notes
use Rattle.port_manager.specs.Decisions.{page_of_lanes}
use Rattle.port_manager.specs.Goals.{IsGoalOf, is_permitted, may_activate, may_provision}
use Rattle.port_manager.specs.Jobs.{begun_with, doubting, reading_after, reading_wants}
use Rattle.port_manager.specs.Patients.{Patient}
use Rattle.port_manager.specs.Requests.{granted}
use Rattle.port_manager.specs.Stories.{Story, acknowledge, ask, drop, hold, demand, hear, make, plug, pull, reconsider, request_in, step_with, steps_of}

-- the reading took the replies of these steps, each of an operation that it wanted
abbrev pub TookSteps : History → Patient (OnPage Halves) → Type 0
TookSteps [] reading = reading ≡ begun_with (doubting (reader.begun everything)) (patience_for map.empty)
TookSteps (step ∷ before) reading =
    (earlier : Patient (OnPage Halves)) × TookSteps before earlier × (op_of (reading_wants earlier) ≡ Some step.op) × Answers step.op step.reply
    × (reading ≡ reading_after earlier step.reply)

-- each half was read, or left out
abbrev pub IsWhole : Next (Spent (Timed (Unit {0}))) → Type 0
IsWhole next = (steps : ℕ) × (next ≡ nexts.End (record { steps = steps; end = Some (InTime tt) }))

-- these steps read the image whole
pub record ReadsImage (steps : History) (image : Memory) : Type 0 where
  pub reading : Patient (OnPage Halves)
  pub took : TookSteps steps reading
  pub whole : IsWhole (reading_wants reading)
  pub is : image ≡ reading.conversation.conversation.conversation.image

-- the newest of the steps gave this image
pub record IsJustRead (history : History) (image : Memory) : Type 0 where
  pub steps : History
  pub earlier : History
  pub all : history ≡ steps ++ earlier
  pub whole : ReadsImage steps image

-- ---- what the last reading led to

abbrev pub SinceNote : (History → Wanted → Type 0) → History → Wanted → Note → Type 0 → Type 0
SinceNote P history wanted notes.Identified before = P history wanted
SinceNote P history wanted notes.CameUp before = P history wanted ⊎ before
SinceNote P history wanted notes.Quiet before = before
SinceNote P history wanted notes.Held before = before
SinceNote P history wanted notes.Provisioned before = before
SinceNote P history wanted notes.Woken before = ⊥

abbrev pub SinceOutcome : (History → Wanted → Type 0) → History → Wanted → Outcome → Type 0 → Type 0
SinceOutcome P history wanted outcome.Dropped before = ⊥
SinceOutcome P history wanted (outcome.Went note) before = SinceNote P history wanted note before
SinceOutcome P history wanted (outcome.Paused moment) before = before
SinceOutcome P history wanted (outcome.Failed fault moment) before = ⊥
SinceOutcome P history wanted (outcome.Left reason) before = ⊥

-- of the steps up to the last reading that was judged, and of what was wanted with its last reply, and asked by then; nothing has
-- failed since, nor was anything else wanted or asked
abbrev pub SinceRead : (History → Wanted → Type 0) → Story → Type 0
SinceRead P [] = ⊥
SinceRead P (plug now ∷ before) = ⊥
SinceRead P (pull ∷ before) = ⊥
SinceRead P (reconsider ∷ before) = ⊥
SinceRead P (hold held ∷ before) = ⊥
SinceRead P (demand request ∷ before) = ⊥
SinceRead P (acknowledge past ∷ before) = SinceRead P before
SinceRead P (hear alive began ∷ before) = SinceRead P before
SinceRead P (ask op moment ∷ before) = SinceRead P before
SinceRead P (make op reply wanted now result ∷ before) = SinceOutcome P (step_with op reply ∷ steps_of before) (granted (request_in before) wanted) result (SinceRead P before)
SinceRead P (drop ∷ before) = SinceRead P before

-- the goal is that of the image that was just read, by these weights
abbrev pub GivesGoal : Goal → History → Wanted → Type 0
GivesGoal goal history wanted = (image : Memory) × IsJustRead history image × IsGoalOf wanted image goal

-- so it is, and the lanes outside of its kept paths may be taken down
abbrev pub GivesProvisioning : Goal → History → Wanted → Type 0
GivesProvisioning goal history wanted =
    (image : Memory) × IsJustRead history image × (of : IsGoalOf wanted image goal) × (may_provision of.page goal.outside wanted.may_take_down ≡ true)

-- so it is, and the lanes outside of its kept paths may be taken down, or those but the plan's
abbrev pub GivesActivation : Goal → History → Wanted → Type 0
GivesActivation goal history wanted =
    (image : Memory) × IsJustRead history image × (of : IsGoalOf wanted image goal)
    × ((may_provision of.page goal.outside wanted.may_take_down ≡ true) ⊎ (may_activate of.page goal.lanes wanted.may_take_down ≡ true))

-- the image that was just read shows that the lane isn't up, or it may be taken down
abbrev pub GivesPermission : ℕ → History → Wanted → Type 0
GivesPermission lane history wanted =
    (image : Memory) × IsJustRead history image × (page : List ℕ) × (page_of_lanes image ≡ Some page) × (is_permitted page wanted.may_take_down lane ≡ true)

-- the image that was just read shows a module that may be woken up
abbrev pub GivesWaking : History → Wanted → Type 0
GivesWaking history wanted = (image : Memory) × IsJustRead history image × (number image (fields.Cmis cmis.MaxPower) ≤ wanted.max_power)

-- the image that was just read is of a module that is to be in low power, and shows no lane as up that may not be taken down
abbrev pub GivesSleep : History → Wanted → Type 0
GivesSleep history wanted =
    (image : Memory) × IsJustRead history image × (wanted.asleep ≡ true) × (page : List ℕ) × (page_of_lanes image ≡ Some page)
    × (may_activate page set.empty wanted.may_take_down ≡ true)

-- the goal is that of the last reading
abbrev pub RestsIn : Story → Goal → Type 0
RestsIn story goal = SinceRead (GivesGoal goal) story

abbrev pub WakesIn : Story → Type 0
WakesIn story = SinceRead GivesWaking story

abbrev pub SleepsIn : Story → Type 0
SleepsIn story = SinceRead GivesSleep story
