-- How a reading of statistics (VDM) ended, as numbers. (docs/observables.md, "Frozen statistics"; this project's own)
use Rattle.std.specs.Prelude.{◌≡◌, ℕ, ◌-◌, List, ◌++◌, length, replicate}
use Rattle.vdm_reading.specs.declared.end.Release.{Release}
use Rattle.vdm_reading.specs.declared.end.Release.TheVariants.{NotNeeded, MayBeFrozen, Accepted, Released}
use Rattle.vdm_reading.specs.declared.end.Statistics.{Statistics}
use Rattle.vdm_reading.specs.declared.end.Statistics.TheVariants.{Unknown, Unsupported, Refused, Pending, Frozen}
use Rattle.vdm_reading.specs.declared.end.VdmEnd.{VdmEnd}
use Rattle.saved_vdm.specs.declared.ending.SavedVdmEnd.{SavedVdmEnd}
use Rattle.saved_vdm.specs.SavedReadings.{most_listed}

abbrev pub number_of_statistics : Statistics → ℕ
number_of_statistics Unknown = 0
number_of_statistics Unsupported = 1
number_of_statistics Refused = 2
number_of_statistics Pending = 3
number_of_statistics Frozen = 4

abbrev pub number_of_release : Release → ℕ
number_of_release NotNeeded = 0
number_of_release MayBeFrozen = 1
number_of_release Accepted = 2
number_of_release Released = 3

-- pages in a list: zeros after them in the places that are left
abbrev pub listed : List ℕ → List ℕ
listed pages = pages ++ replicate (most_listed - length pages) 0

-- these are its numbers
pub record IsEnding (saved : SavedVdmEnd) (end : VdmEnd) : Type 0 where
  pub statistics : saved.statistics ≡ number_of_statistics end.statistics
  pub release : saved.release ≡ number_of_release end.release
  pub count : saved.missing_count ≡ length end.missing.items
  pub missing : saved.missing ≡ listed end.missing.items
