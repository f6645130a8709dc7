-- What the conversations about settings read, on which page, and how comparing ends.
use Rattle.std.proofs.Common.{◌≡◌, ℕ, ◌-◌, Bool, true, false, if◌then◌else◌, nat_lt, List, [], ◌∷◌, ◌++◌, take, drop, Option, Some, None, refl, sym, ap, ◌∙◌}
use Rattle.arrayvec.specs.ArrayVec.{ArrayVec}
use Rattle.bus_model.specs.declared.device.Dev.TheVariants.{A0}
use Rattle.bus_model.specs.declared.operation.Op.{Op}
use Rattle.bus_model.specs.declared.operation.Op.TheVariants.{Store}
use Rattle.bus_model.specs.declared.operation.Reply.{Reply}
use Rattle.bus_model.specs.declared.operation.Reply.TheVariants.{Bytes, Done, Refused}
use Rattle.bus_model.specs.declared.operation.Step.{Step}
use Rattle.bus_model.specs.SameOperation.{same_op}
use Rattle.conversations.specs.declared.event.Event.TheVariants.{Made, Waited, Lacked, Asked}
use Rattle.conversations.specs.declared.next.Next.TheVariants.{Do, End}
use Rattle.conversations.specs.Events.{Events, steps_of}
use Rattle.conversations.specs.Watching.{read_state}
use Rattle.control_sets.specs.OutcomeOperations.{read_active, status_page}
use Rattle.control_sets.specs.Pages.{History}
use Rattle.lane_controls.specs.declared.settings_change.SettingsChange.{SettingsChange}
use Rattle.lane_controls.specs.declared.settings_change.SettingsPiece.TheVariants.{First, Second, Third}
use Rattle.lane_controls.specs.SettingsChanges.{inactive_lane, read_from}
use Rattle.explicit_provisioning.specs.declared.comparing.ComparingStage.{ComparingStage}
use Rattle.explicit_provisioning.specs.declared.comparing.ComparingStage.TheVariants as comparing_stage
use Rattle.explicit_provisioning.specs.declared.fault.ExplicitFault.TheVariants.{NotActive}
use Rattle.explicit_provisioning.specs.declared.staging.StagingStage.{StagingStage}
use Rattle.explicit_provisioning.specs.declared.staging.StagingStage.TheVariants as staging_stage
use Rattle.explicit_provisioning.specs.Comparing as comparing
use Rattle.explicit_provisioning.specs.Comparing.{comparing_after, comparing_needs}
use Rattle.explicit_provisioning.specs.Heard.{EachIsWanted}
use Rattle.explicit_provisioning.specs.LastReads.{bytes_or, is_change, read_settings}
use Rattle.explicit_provisioning.specs.Staging as staging
use Rattle.explicit_provisioning.specs.Staging.{staging_after, staging_needs}
use Rattle.explicit_provisioning.proofs.LastReadLaws.{AreOn, last_given}

-- ---- staging reads nothing of the active set

pub record IsApart (op : Op) : Type 0 where
  pub state : same_op op read_state ≡ false
  pub controls : same_op op (read_from 145 29) ≡ false
  pub settings : same_op op (read_from 153 21) ≡ false
  pub stores : (offset : ℕ) (bytes : ArrayVec ℕ) → same_op op (Store A0 offset bytes) ≡ false

not_both : (b : Bool) → b ≡ true → b ≡ false → ⊥
not_both true e h = cc
not_both false e h = cc

module _ (op : Op) (apart : IsApart op) where
  never : (one made : Op) → one ≡ made → same_op op made ≡ true → same_op op one ≡ false → ⊥
  never one made is same other = not_both (same_op op one) (ap (same_op op) is ∙ same) other

  staging_other : (stage : StagingStage) (made : Op) → staging.wants stage ≡ Do made → same_op op made ≡ true → staging.page_at stage ≡ Some status_page
  staging_other staging_stage.Finding made asked same = let is : read_state ≡ made = cc in absurd (never read_state made is same apart.state)
  staging_other staging_stage.Reading made asked same = let is : (read_from 145 29) ≡ made = cc in absurd (never (read_from 145 29) made is same apart.controls)
  staging_other (staging_stage.Storing First settings tries) made asked same = let is : (Store A0 153 (record { items = take 8 settings })) ≡ made = cc in absurd (never (Store A0 153 (record { items = take 8 settings })) made is same (apart.stores 153 (record { items = take 8 settings })))
  staging_other (staging_stage.Storing Second settings tries) made asked same = let is : (Store A0 161 (record { items = take 8 (drop 8 settings) })) ≡ made = cc in absurd (never (Store A0 161 (record { items = take 8 (drop 8 settings) })) made is same (apart.stores 161 (record { items = take 8 (drop 8 settings) })))
  staging_other (staging_stage.Storing Third settings tries) made asked same = let is : (Store A0 169 (record { items = take 5 (drop 16 settings) })) ≡ made = cc in absurd (never (Store A0 169 (record { items = take 5 (drop 16 settings) })) made is same (apart.stores 169 (record { items = take 5 (drop 16 settings) })))
  staging_other (staging_stage.Stored settings tries) made asked same = let is : (read_from 153 21) ≡ made = cc in absurd (never (read_from 153 21) made is same apart.settings)
  staging_other (staging_stage.Ended fault) made asked same = absurd cc

  pub staging_on_page : (change : SettingsChange) (events : Events) → EachIsWanted staging.wants (staging.after change) staging.begun events → AreOn status_page op (staging_needs change) events
  staging_on_page change [] each = tt
  staging_on_page change (Made step ∷ before) (asked, answers, each) = (λ same. staging_other (staging_after change before) step.op asked same, staging_on_page change before each)
  staging_on_page change (Waited time ∷ before) each = absurd each
  staging_on_page change (Lacked page ∷ before) each = staging_on_page change before each
  staging_on_page change (Asked number ∷ before) each = staging_on_page change before each

-- ---- comparing reads active settings alone

comparing_page : (stage : ComparingStage) (made : Op) → comparing.wants stage ≡ Do made → comparing.page_at stage ≡ Some status_page
comparing_page (comparing_stage.Reading tries) made asked = refl
comparing_page (comparing_stage.Ended fault) made asked = absurd cc

reads_by : (stage : ComparingStage) (made : Op) → comparing.wants stage ≡ Do made → made ≡ read_settings
reads_by (comparing_stage.Reading tries) made asked = cc
reads_by (comparing_stage.Ended fault) made asked = absurd cc

module _ (change : SettingsChange) where
  pub comparing_on_page : (op : Op) (events : Events) → EachIsWanted comparing.wants (comparing.after change) (comparing.begun change) events → AreOn status_page op (comparing_needs change) events
  comparing_on_page op [] each = tt
  comparing_on_page op (Made step ∷ before) (asked, answers, each) = (λ same. comparing_page (comparing_after change before) step.op asked, comparing_on_page op before each)
  comparing_on_page op (Waited time ∷ before) each = absurd each
  comparing_on_page op (Lacked page ∷ before) each = comparing_on_page op before each
  comparing_on_page op (Asked number ∷ before) each = comparing_on_page op before each

  -- what was read of the control bytes stays
  pub comparing_passes : (events : Events) (earlier : History) → EachIsWanted comparing.wants (comparing.after change) (comparing.begun change) events
      → last_given read_active (steps_of events ++ earlier) ≡ last_given read_active earlier
  comparing_passes [] earlier each = refl
  comparing_passes (Made step ∷ before) earlier (asked, answers, each) =
      let is = reads_by (comparing_after change before) step.op asked in
      ap (λ (o : Op). if same_op read_active o then bytes_or (last_given read_active (steps_of before ++ earlier)) step.reply else (if is_change o then None else last_given read_active (steps_of before ++ earlier))) is
      ∙ comparing_passes before earlier each
  comparing_passes (Waited time ∷ before) earlier each = absurd each
  comparing_passes (Lacked page ∷ before) earlier each = comparing_passes before earlier each
  comparing_passes (Asked number ∷ before) earlier each = comparing_passes before earlier each

  -- the newest step read settings that are right
  pub record ReadSettings (own : History) : Type 0 where
    pub newest : Step
    pub before : History
    pub split : own ≡ newest ∷ before
    pub reads : newest.op ≡ read_settings
    pub bytes : ArrayVec ℕ
    pub gives : newest.reply ≡ Bytes bytes
    pub right : inactive_lane change.lanes change.settings bytes.items ≡ None

  again_not : (more : Bool) (lane tries : ℕ)
      → comparing.wants (if more then comparing_stage.Reading (tries - 1) else comparing_stage.Ended (Some (NotActive lane))) ≡ End None → ⊥
  again_not true lane tries e = cc
  again_not false lane tries e = cc

  none_inactive : (lane : Option ℕ) (tries : ℕ) → comparing.wants (comparing.compared lane tries) ≡ End None → lane ≡ None
  none_inactive None tries ends = refl
  none_inactive (Some lane) tries ends = absurd (again_not (nat_lt 0 tries) lane tries ends)

  ends_reading : (tries : ℕ) (op : Op) (reply : Reply) (before : History) → op ≡ read_settings → comparing.wants (comparing.after_read change tries reply) ≡ End None
      → ReadSettings (record { op = op; reply = reply } ∷ before)
  ends_reading tries op (Bytes bytes) before is ends = record {
    newest = record { op = op; reply = Bytes bytes };
    before = before;
    split = refl;
    reads = is;
    bytes = bytes;
    gives = refl;
    right = none_inactive (inactive_lane change.lanes change.settings bytes.items) tries ends;
  }
  ends_reading tries op Done before is ends = absurd cc
  ends_reading tries op Refused before is ends = absurd cc

  ends_at : (stage : ComparingStage) (step : Step) (before : History) → comparing.wants stage ≡ Do step.op → comparing.wants (comparing.after change stage step.reply) ≡ End None
      → ReadSettings (step ∷ before)
  ends_at (comparing_stage.Reading tries) step before asked ends = let is : step.op ≡ read_settings = cc in ends_reading tries step.op step.reply before is ends
  ends_at (comparing_stage.Ended fault) step before asked ends = absurd cc

  pub comparing_ends : (events : Events) → EachIsWanted comparing.wants (comparing.after change) (comparing.begun change) events → comparing.wants (comparing_after change events) ≡ End None
      → ReadSettings (steps_of events)
  comparing_ends [] each ends = absurd cc
  comparing_ends (Made step ∷ before) (asked, answers, each) ends = ends_at (comparing_after change before) step (steps_of before) asked ends
  comparing_ends (Waited time ∷ before) each ends = absurd each
  comparing_ends (Lacked page ∷ before) each ends = comparing_ends before each ends
  comparing_ends (Asked number ∷ before) each ends = comparing_ends before each ends
