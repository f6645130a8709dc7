-- What was read where settings are staged or active, or aren't. Steps stand with the newest first. (docs/lanes.md, "Signal integrity
-- settings"; OIF-CMIS-05.0, Staged Control Set 0 and Active Control Set)
use Rattle.std.specs.Prelude.{◌≡◌, ℕ, ◌+◌, ◌&&◌, Bool, false, List, [], ◌∷◌, Option, Some, None, if◌then◌else◌}
use Rattle.std.specs.Str.{bytes_eq}
use Rattle.bus_model.specs.declared.operation.Op.{Op}
use Rattle.bus_model.specs.SameOperation.{same_op}
use Rattle.conversations.specs.Watching.{state_code}
use Rattle.control_sets.specs.Pages.{History}
use Rattle.paged_memory.specs.PageAddressing.{is_read}
use Rattle.lane_controls.specs.declared.settings_change.SettingsChange.{SettingsChange}
use Rattle.lane_controls.specs.SettingsChanges.{inactive_lane, mixed, read_from}
use Rattle.lane_controls.specs.SettingsSteps.{bytes_read}
use Rattle.explicit_provisioning.specs.declared.fault.ExplicitFault.{ExplicitFault}
use Rattle.explicit_provisioning.specs.declared.fault.ExplicitFault.TheVariants.{Provision, NotStaged, NotActive}
use Rattle.explicit_provisioning.specs.Staging.{fails, found}

-- how often the operation was answered with bytes
abbrev pub times_read : Op → History → ℕ
times_read op [] = 0
times_read op (step ∷ before) = if same_op op step.op && is_read step.reply then times_read op before + 1 else times_read op before

abbrev pub read_back : Op
read_back = read_from 153 21

-- these settings are to be staged, by what was read of those that are
abbrev pub IsToBeStaged : SettingsChange → List ℕ → History → Type 0
IsToBeStaged change settings history = (staged : List ℕ) × (bytes_read 145 history ≡ Some staged) × (settings ≡ mixed change staged)

-- staging ended so
abbrev pub StagingFound : SettingsChange → Option ExplicitFault → History → Type 0
-- they were read back
StagingFound change None history = (settings : List ℕ) × IsToBeStaged change settings history × (bytes_read 153 history ≡ Some settings)
-- others were read back, each time that may be
StagingFound change (Some NotStaged) history =
    (settings bytes : List ℕ) × IsToBeStaged change settings history × (bytes_read 153 history ≡ Some bytes) × (bytes_eq bytes settings ≡ false) × (times_read read_back history ≡ change.tries + 1)
-- the module was in another state
StagingFound change (Some (Provision fault)) history = (bytes : List ℕ) × (bytes_read 3 history ≡ Some bytes) × (found (state_code bytes) ≡ fails fault)
StagingFound change (Some (NotActive lane)) history = ⊥

-- comparing ended so
abbrev pub ComparingFound : SettingsChange → Option ExplicitFault → History → Type 0
ComparingFound change None history = (active : List ℕ) × (bytes_read 214 history ≡ Some active) × (inactive_lane change.lanes change.settings active ≡ None)
-- the lane had others, each time that may be
ComparingFound change (Some (NotActive lane)) history =
    (active : List ℕ) × (bytes_read 214 history ≡ Some active) × (inactive_lane change.lanes change.settings active ≡ Some lane) × (times_read (read_from 214 21) history ≡ change.tries + 1)
ComparingFound change (Some fault) history = ⊥
