-- What was read shows how staging and comparing end.
use Rattle.std.proofs.Common.{◌≡◌, ℕ, ◌+◌, ◌-◌, ◌<◌, ◌≤◌, Bool, true, false, if◌then◌else◌, nat_lt, List, [], ◌∷◌, Option, Some, None, refl, sym, ap, subst, ◌∙◌, arith}
use Rattle.std.proofs.lemmas.Bool.{ltb-true, ltb-false}
use Rattle.std.specs.Str.{bytes_eq}
use Rattle.std.proofs.lemmas.Slice.Eq.{bytes_eq-Decides}
use Rattle.arrayvec.specs.ArrayVec.{ArrayVec}
use Rattle.bus_model.specs.declared.device.Dev.TheVariants.{A0}
use Rattle.bus_model.specs.declared.operation.Op.{Op}
use Rattle.bus_model.specs.declared.operation.Op.TheVariants.{Store}
use Rattle.bus_model.specs.declared.operation.Reply.{Reply}
use Rattle.bus_model.specs.declared.operation.Reply.TheVariants.{Bytes, Done, Refused}
use Rattle.bus_model.specs.declared.operation.Step.{Step}
use Rattle.conversations.specs.declared.event.Event.TheVariants.{Made, Waited, Lacked, Asked}
use Rattle.conversations.specs.declared.next.Next.TheVariants.{Do, End}
use Rattle.conversations.specs.Events.{Events, steps_of}
use Rattle.conversations.specs.Watching.{read_state, state_code}
use Rattle.control_sets.specs.Pages.{History}
use Rattle.module_states.specs.declared.state.ModuleState.{ModuleState as State}
use Rattle.module_states.specs.declared.state.ModuleState.TheVariants.{Ready}
use Rattle.module_states.specs.Codes.{state_at}
use Rattle.lane_controls.specs.declared.settings_change.SettingsChange.{SettingsChange}
use Rattle.lane_controls.specs.declared.settings_change.SettingsPiece.{SettingsPiece}
use Rattle.lane_controls.specs.declared.settings_change.SettingsPiece.TheVariants.{First, Second, Third}
use Rattle.lane_controls.specs.SettingsChanges.{inactive_lane, mixed, read_from, store_piece}
use Rattle.lane_controls.specs.SettingsSteps.{bytes_read}
use Rattle.explicit_provisioning.specs.declared.comparing.ComparingStage.{ComparingStage}
use Rattle.explicit_provisioning.specs.declared.comparing.ComparingStage.TheVariants as comparing_stage
use Rattle.explicit_provisioning.specs.declared.fault.ExplicitFault.{ExplicitFault}
use Rattle.explicit_provisioning.specs.declared.fault.ExplicitFault.TheVariants.{NotActive, NotStaged}
use Rattle.explicit_provisioning.specs.declared.staging.StagingStage.{StagingStage}
use Rattle.explicit_provisioning.specs.declared.staging.StagingStage.TheVariants as staging_stage
use Rattle.explicit_provisioning.specs.Comparing as comparing
use Rattle.explicit_provisioning.specs.Comparing.{comparing_after}
use Rattle.explicit_provisioning.specs.Heard.{EachIsWanted}
use Rattle.explicit_provisioning.specs.SettingsFound.{ComparingFound, IsToBeStaged, StagingFound, read_back, times_read}
use Rattle.explicit_provisioning.specs.Staging as staging
use Rattle.explicit_provisioning.specs.Staging.{staging_after}

abbrev step_of : Op → Reply → Step
step_of op reply = record { op = op; reply = reply }

-- ---- staging

-- while it goes on: what is to be stored, and how often it was read back
record IsStaging (change : SettingsChange) (settings : List ℕ) (tries : ℕ) (history : History) : Type 0 where
  mixes : IsToBeStaged change settings history
  counts : tries + times_read read_back history ≡ change.tries

abbrev IsSound : SettingsChange → StagingStage → History → Type 0
IsSound change staging_stage.Finding history = times_read read_back history ≡ 0
IsSound change staging_stage.Reading history = times_read read_back history ≡ 0
IsSound change (staging_stage.Storing piece settings tries) history = IsStaging change settings tries history
IsSound change (staging_stage.Stored settings tries) history = IsStaging change settings tries history
IsSound change (staging_stage.Ended fault) history = StagingFound change fault history

module _ (change : SettingsChange) (history : History) where
  found_by : (bytes : ArrayVec ℕ) (state : Option State) → state_at (state_code bytes.items) ≡ state → times_read read_back history ≡ 0
      → IsSound change (staging.found_in (state_code bytes.items) state) (step_of read_state (Bytes bytes) ∷ history)
  found_by bytes None is none = (bytes.items, refl, ap (staging.found_in (state_code bytes.items)) is)
  found_by bytes (Some Ready) is none = none
  found_by bytes (Some state) is none = (bytes.items, refl, ap (staging.found_in (state_code bytes.items)) is)

  find_turn : (reply : Reply) → times_read read_back history ≡ 0 → IsSound change (staging.after change staging_stage.Finding reply) (step_of read_state reply ∷ history)
  find_turn (Bytes bytes) none = found_by bytes (state_at (state_code bytes.items)) refl none
  find_turn Done none = none
  find_turn Refused none = none

  read_turn : (reply : Reply) → times_read read_back history ≡ 0 → IsSound change (staging.after change staging_stage.Reading reply) (step_of (read_from 145 29) reply ∷ history)
  read_turn (Bytes bytes) none = record { mixes = (bytes.items, refl, refl); counts = omega (arith, none) }
  read_turn Done none = none
  read_turn Refused none = none

  store_turn : (piece : SettingsPiece) (settings : List ℕ) (tries : ℕ) (reply : Reply) → IsStaging change settings tries history
      → IsSound change (staging.after_piece piece settings tries) (step_of (store_piece piece settings) reply ∷ history)
  store_turn First settings tries reply sound = record { mixes = sound.mixes; counts = sound.counts }
  store_turn Second settings tries reply sound = record { mixes = sound.mixes; counts = sound.counts }
  store_turn Third settings tries reply sound = record { mixes = sound.mixes; counts = sound.counts }

  checked_by : (bytes : ArrayVec ℕ) (settings : List ℕ) (tries : ℕ) (same more : Bool) → bytes_eq bytes.items settings ≡ same → nat_lt 0 tries ≡ more → IsStaging change settings tries history
      → IsSound change (if same then staging_stage.Ended None else (if more then staging_stage.Storing First settings (tries - 1) else staging_stage.Ended (Some NotStaged)))
      (step_of (read_from 153 21) (Bytes bytes) ∷ history)
  checked_by bytes settings tries true more is left sound =
      (settings, sound.mixes, ap (λ (l : List ℕ). Some l) ((bytes_eq-Decides bytes.items settings).0 is))
  checked_by bytes settings tries false true is left sound =
      let some : 0 < tries = ltb-true 0 tries left in
      record { mixes = sound.mixes; counts = omega (arith, some, sound.counts) }
  checked_by bytes settings tries false false is left sound =
      let none : tries ≤ 0 = ltb-false 0 tries left in
      (settings, bytes.items, sound.mixes, refl, is, omega (arith, none, sound.counts))

  check_turn : (settings : List ℕ) (tries : ℕ) (reply : Reply) → IsStaging change settings tries history
      → IsSound change (staging.after change (staging_stage.Stored settings tries) reply) (step_of (read_from 153 21) reply ∷ history)
  check_turn settings tries (Bytes bytes) sound = checked_by bytes settings tries (bytes_eq bytes.items settings) (nat_lt 0 tries) refl refl sound
  check_turn settings tries Done sound = record { mixes = sound.mixes; counts = sound.counts }
  check_turn settings tries Refused sound = record { mixes = sound.mixes; counts = sound.counts }

  moved : (stage : StagingStage) (one op : Op) (reply : Reply) → one ≡ op → IsSound change stage (step_of one reply ∷ history) → IsSound change stage (step_of op reply ∷ history)
  moved stage one op reply is sound = subst (λ (o : Op). IsSound change stage (step_of o reply ∷ history)) is sound

  turn : (stage : StagingStage) (op : Op) (reply : Reply) → staging.wants stage ≡ Do op → IsSound change stage history → IsSound change (staging.after change stage reply) (step_of op reply ∷ history)
  turn staging_stage.Finding op reply asked sound = let is : read_state ≡ op = cc in moved (staging.after change staging_stage.Finding reply) read_state op reply is (find_turn reply sound)
  turn staging_stage.Reading op reply asked sound = let is : read_from 145 29 ≡ op = cc in moved (staging.after change staging_stage.Reading reply) (read_from 145 29) op reply is (read_turn reply sound)
  turn (staging_stage.Storing piece settings tries) op reply asked sound =
      let is : store_piece piece settings ≡ op = cc in moved (staging.after_piece piece settings tries) (store_piece piece settings) op reply is (store_turn piece settings tries reply sound)
  turn (staging_stage.Stored settings tries) op reply asked sound = let is : read_from 153 21 ≡ op = cc in moved (staging.after change (staging_stage.Stored settings tries) reply) (read_from 153 21) op reply is (check_turn settings tries reply sound)
  turn (staging_stage.Ended fault) op reply asked sound = absurd cc

module _ (change : SettingsChange) where
  staging_sound : (events : Events) → EachIsWanted staging.wants (staging.after change) staging.begun events → IsSound change (staging_after change events) (steps_of events)
  staging_sound [] each = refl
  staging_sound (Made step ∷ before) (asked, answers, each) = turn change (steps_of before) (staging_after change before) step.op step.reply asked (staging_sound before each)
  staging_sound (Waited time ∷ before) each = absurd each
  staging_sound (Lacked page ∷ before) each = staging_sound before each
  staging_sound (Asked number ∷ before) each = staging_sound before each

  staging_ended : (stage : StagingStage) (fault : Option ExplicitFault) (history : History) → staging.wants stage ≡ End fault → IsSound change stage history → StagingFound change fault history
  staging_ended staging_stage.Finding fault history ends sound = absurd cc
  staging_ended staging_stage.Reading fault history ends sound = absurd cc
  staging_ended (staging_stage.Storing piece settings tries) fault history ends sound = absurd cc
  staging_ended (staging_stage.Stored settings tries) fault history ends sound = absurd cc
  staging_ended (staging_stage.Ended other) fault history ends sound = let is : other ≡ fault = cc in subst (λ (f : Option ExplicitFault). StagingFound change f history) is sound

  pub staging_found : (events : Events) (fault : Option ExplicitFault) → EachIsWanted staging.wants (staging.after change) staging.begun events → staging.wants (staging_after change events) ≡ End fault
      → StagingFound change fault (steps_of events)
  staging_found events fault each ends = staging_ended (staging_after change events) fault (steps_of events) ends (staging_sound events each)

-- ---- comparing

abbrev IsSoundComparing : SettingsChange → ComparingStage → History → Type 0
IsSoundComparing change (comparing_stage.Reading tries) history = tries + times_read (read_from 214 21) history ≡ change.tries
IsSoundComparing change (comparing_stage.Ended fault) history = ComparingFound change fault history

module _ (change : SettingsChange) (history : History) where
  again_by : (bytes : ArrayVec ℕ) (lane tries : ℕ) (more : Bool) → inactive_lane change.lanes change.settings bytes.items ≡ Some lane → nat_lt 0 tries ≡ more
      → tries + times_read (read_from 214 21) history ≡ change.tries
      → IsSoundComparing change (if more then comparing_stage.Reading (tries - 1) else comparing_stage.Ended (Some (NotActive lane))) (step_of (read_from 214 21) (Bytes bytes) ∷ history)
  again_by bytes lane tries true is left counts =
      let some : 0 < tries = ltb-true 0 tries left in
      omega (arith, some, counts)
  again_by bytes lane tries false is left counts =
      let none : tries ≤ 0 = ltb-false 0 tries left in
      (bytes.items, refl, is, omega (arith, none, counts))

  compared_by : (bytes : ArrayVec ℕ) (lane : Option ℕ) (tries : ℕ) → inactive_lane change.lanes change.settings bytes.items ≡ lane → tries + times_read (read_from 214 21) history ≡ change.tries
      → IsSoundComparing change (comparing.compared lane tries) (step_of (read_from 214 21) (Bytes bytes) ∷ history)
  compared_by bytes None tries is counts = (bytes.items, refl, is)
  compared_by bytes (Some lane) tries is counts = again_by bytes lane tries (nat_lt 0 tries) is refl counts

  compare_turn : (tries : ℕ) (reply : Reply) → tries + times_read (read_from 214 21) history ≡ change.tries
      → IsSoundComparing change (comparing.after_read change tries reply) (step_of (read_from 214 21) reply ∷ history)
  compare_turn tries (Bytes bytes) counts = compared_by bytes (inactive_lane change.lanes change.settings bytes.items) tries refl counts
  compare_turn tries Done counts = counts
  compare_turn tries Refused counts = counts

  comparing_turn : (stage : ComparingStage) (op : Op) (reply : Reply) → comparing.wants stage ≡ Do op → IsSoundComparing change stage history
      → IsSoundComparing change (comparing.after change stage reply) (step_of op reply ∷ history)
  comparing_turn (comparing_stage.Reading tries) op reply asked sound =
      let is : read_from 214 21 ≡ op = cc in
      subst (λ (o : Op). IsSoundComparing change (comparing.after_read change tries reply) (step_of o reply ∷ history)) is (compare_turn tries reply sound)
  comparing_turn (comparing_stage.Ended fault) op reply asked sound = absurd cc

module _ (change : SettingsChange) where
  comparing_sound : (events : Events) → EachIsWanted comparing.wants (comparing.after change) (comparing.begun change) events → IsSoundComparing change (comparing_after change events) (steps_of events)
  comparing_sound [] each = omega arith
  comparing_sound (Made step ∷ before) (asked, answers, each) = comparing_turn change (steps_of before) (comparing_after change before) step.op step.reply asked (comparing_sound before each)
  comparing_sound (Waited time ∷ before) each = absurd each
  comparing_sound (Lacked page ∷ before) each = comparing_sound before each
  comparing_sound (Asked number ∷ before) each = comparing_sound before each

  comparing_ended : (stage : ComparingStage) (fault : Option ExplicitFault) (history : History) → comparing.wants stage ≡ End fault → IsSoundComparing change stage history → ComparingFound change fault history
  comparing_ended (comparing_stage.Reading tries) fault history ends sound = absurd cc
  comparing_ended (comparing_stage.Ended other) fault history ends sound = let is : other ≡ fault = cc in subst (λ (f : Option ExplicitFault). ComparingFound change f history) is sound

  pub comparing_found : (events : Events) (fault : Option ExplicitFault) → EachIsWanted comparing.wants (comparing.after change) (comparing.begun change) events → comparing.wants (comparing_after change events) ≡ End fault
      → ComparingFound change fault (steps_of events)
  comparing_found events fault each ends = comparing_ended (comparing_after change events) fault (steps_of events) ends (comparing_sound events each)
