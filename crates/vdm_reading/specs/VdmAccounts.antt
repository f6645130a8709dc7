-- What a reading of a module's statistics (VDM) was told, and what holds of it whatever happened. (docs/observables.md, "Frozen
-- statistics"; this project's own)
use Rattle.std.specs.Prelude.{◌≡◌, ◌⊎◌, ℕ, ◌<◌, Bool, true, false, List, [], ◌∷◌}
use Rattle.bus_model.specs.Operations.{Answers}
use Rattle.conversations.specs.declared.event.Event.TheVariants.{Made, Waited, Lacked, Asked}
use Rattle.conversations.specs.declared.next.Next.TheVariants.{Do, Wait}
use Rattle.conversations.specs.Events.{Events}
use Rattle.field_tables.specs.Halves.{is_absent}
use Rattle.paged_memory.specs.PageAddressing.{History}
use Rattle.vdm_reading.specs.declared.end.Release.TheVariants as release
use Rattle.vdm_reading.specs.declared.end.Statistics.{Statistics}
use Rattle.vdm_reading.specs.declared.end.Statistics.TheVariants as statistics
use Rattle.vdm_reading.specs.declared.end.VdmEnd.{VdmEnd}
use Rattle.vdm_reading.specs.declared.reading.VdmReading.{VdmReading}
use Rattle.vdm_reading.specs.declared.reading.VdmRequest.{VdmRequest}
use Rattle.vdm_reading.specs.declared.reading.VdmStage.TheVariants as stage
use Rattle.vdm_reading.specs.FrozenSteps.{IsPageRefused, SomeStep, hindrances}
use Rattle.vdm_reading.specs.VdmStages.{after, begun, end_of, key_of, most_retries, rested, wants}

abbrev pub reading_after : VdmRequest → Events → VdmReading
reading_after request [] = begun request
reading_after request (Made step ∷ before) = after (reading_after request before) step.reply
reading_after request (Waited time ∷ before) = rested (reading_after request before)
reading_after request (Lacked page ∷ before) = reading_after request before
reading_after request (Asked number ∷ before) = reading_after request before

-- each is what was wanted, and each reply one that it can have
abbrev pub EachIsWanted : VdmRequest → Events → Type 0
EachIsWanted request [] = Unit {0}
EachIsWanted request (Made step ∷ before) = (wants (reading_after request before) ≡ Do step.op) × Answers step.op step.reply × EachIsWanted request before
EachIsWanted request (Waited time ∷ before) = (wants (reading_after request before) ≡ Wait time) × EachIsWanted request before
EachIsWanted request (Lacked page ∷ before) = EachIsWanted request before
EachIsWanted request (Asked number ∷ before) = EachIsWanted request before

abbrev pub is_frozen : Statistics → Bool
is_frozen statistics.Unknown = false
is_frozen statistics.Unsupported = false
is_frozen statistics.Refused = false
is_frozen statistics.Pending = false
is_frozen statistics.Frozen = true

-- it was told these events
pub record IsTold (events : Events) (reading : VdmReading) : Type 0 where
  pub is : reading ≡ reading_after reading.request events
  pub each : EachIsWanted reading.request events

-- it ended so
pub record HasEnded (request : VdmRequest) (events : Events) (end : VdmEnd) : Type 0 where
  pub each : EachIsWanted request events
  pub over : (reading_after request events).stage ≡ stage.Over
  pub is : end ≡ end_of (reading_after request events)

-- ---- how much was read

abbrev pub IsAmong : ℕ → List ℕ → Type 0
IsAmong page [] = ⊥
IsAmong page (other ∷ others) = (page ≡ other) ⊎ IsAmong page others

-- a page that is advertised, and not in the image, was refused on its own account, by more transactions than may be fruitless
abbrev pub IsLostAlone : VdmReading → History → Type 0
IsLostAlone reading history =
    (page : ℕ) → IsAmong page reading.pages.items → is_absent reading.image (key_of page) ≡ true → SomeStep (IsPageRefused page) history × (most_retries < hindrances history)

-- the module advertises no statistics; or they were frozen, all read, and released
abbrev pub IsWhole : VdmReading → Type 0
IsWhole reading =
    (reading.statistics ≡ statistics.Unsupported)
    ⊎ ((reading.statistics ≡ statistics.Frozen) × (reading.release ≡ release.Released) × ((page : ℕ) → IsAmong page reading.pages.items → is_absent reading.image (key_of page) ≡ false))
