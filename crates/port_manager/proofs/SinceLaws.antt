-- What the last reading gives gives all that follows from it.
use Rattle.std.proofs.Common.{inl, inr, [], ◌∷◌}
use Rattle.paged_memory.specs.PageAddressing.{History}
use Rattle.port_manager.specs.declared.deciding.Goal.{Goal}
use Rattle.port_manager.specs.declared.deciding.Wanted.{Wanted}
use Rattle.port_manager.specs.declared.port.Outcome.{Outcome}
use Rattle.port_manager.specs.declared.port.Outcome.TheVariants as outcome
use Rattle.port_manager.specs.declared.turn.Note.{Note}
use Rattle.port_manager.specs.declared.turn.Note.TheVariants as notes
use Rattle.port_manager.specs.Requests.{granted}
use Rattle.port_manager.specs.Stories.{Story, acknowledge, ask, drop, make, plug, pull, reconsider, request_in, step_with, steps_of, hold, demand, hear}
use Rattle.port_manager.specs.Readings.{GivesActivation, GivesGoal, GivesProvisioning, SinceNote, SinceOutcome, SinceRead}

module _ (P Q : History → Wanted → Type 0) (more : (history : History) (wanted : Wanted) → P history wanted → Q history wanted) where
  note_map : (history : History) (wanted : Wanted) (note : Note) (before after : Type 0) → (before → after) → SinceNote P history wanted note before → SinceNote Q history wanted note after
  note_map history wanted notes.Identified before after over p = more history wanted p
  note_map history wanted notes.CameUp before after over (inl p) = inl (more history wanted p)
  note_map history wanted notes.CameUp before after over (inr b) = inr (over b)
  note_map history wanted notes.Quiet before after over b = over b
  note_map history wanted notes.Held before after over b = over b
  note_map history wanted notes.Provisioned before after over b = over b
  note_map history wanted notes.Woken before after over none = none

  outcome_map : (history : History) (wanted : Wanted) (result : Outcome) (before after : Type 0) → (before → after) → SinceOutcome P history wanted result before → SinceOutcome Q history wanted result after
  outcome_map history wanted outcome.Dropped before after over none = none
  outcome_map history wanted (outcome.Went note) before after over b = note_map history wanted note before after over b
  outcome_map history wanted (outcome.Paused moment) before after over b = over b
  outcome_map history wanted (outcome.Failed fault moment) before after over none = none
  outcome_map history wanted (outcome.Left reason) before after over none = none

  pub since_map : (story : Story) → SinceRead P story → SinceRead Q story
  since_map [] none = none
  since_map (plug now ∷ before) none = none
  since_map (pull ∷ before) none = none
  since_map (reconsider ∷ before) none = none
  since_map (hold held ∷ before) none = none
  since_map (demand request ∷ before) none = none
  since_map (acknowledge past ∷ before) since = since_map before since
  since_map (hear alive began ∷ before) since = since_map before since
  since_map (ask op moment ∷ before) since = since_map before since
  since_map (make op reply wanted now result ∷ before) since = outcome_map (step_with op reply ∷ steps_of before) (granted (request_in before) wanted) result (SinceRead P before) (SinceRead Q before) (since_map before) since
  since_map (drop ∷ before) since = since_map before since

pub provisioned_activates : (goal : Goal) (history : History) (wanted : Wanted) → GivesProvisioning goal history wanted → GivesActivation goal history wanted
provisioned_activates goal history wanted (image, was, of, may) = (image, was, of, inl may)

pub provisioning_goal : (goal : Goal) (history : History) (wanted : Wanted) → GivesProvisioning goal history wanted → GivesGoal goal history wanted
provisioning_goal goal history wanted (image, was, of, may) = (image, was, of)

pub activation_goal : (goal : Goal) (history : History) (wanted : Wanted) → GivesActivation goal history wanted → GivesGoal goal history wanted
activation_goal goal history wanted (image, was, of, either) = (image, was, of)
