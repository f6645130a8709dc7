-- That the statistics (VDM) that are read of an image over a scripted bus, and its lanes of further banks, are the image's, and that they are
-- all that it has, if nothing is refused.
-- (docs/observables.md, "Frozen statistics"; docs/bus.md, "Reading an image"; this project's own)
use Rattle.std.specs.Prelude.{◌≡◌, ℕ, ◌≤◌, ◌<◌, ◌/◌, ◌%◌, true, false, List, [], ◌∷◌, Some, Ok}
use Rattle.std.specs.FinMap as map
use Rattle.bus_model.specs.declared.script.Directive.{Directive}
use Rattle.bus_model.specs.Runs.{Seen}
use Rattle.bus_model.specs.ScriptedBus.{script_rules}
use Rattle.field_tables.specs.declared.field.Field.TheVariants as fields
use Rattle.field_tables.specs.declared.table.cmis.CmisField.TheVariants as cmis
use Rattle.field_tables.specs.Readings.{number}
use Rattle.module_decoding.specs.CmisPages.{is_flat}
use Rattle.observable_reports.specs.FetchedObservables.{IsObserving}
use Rattle.observables.specs.Banks.{bank_count}
use Rattle.observables.specs.Observations.{monitor_places, observation_at}
use Rattle.observables.specs.Pages.{has_observables}
use Rattle.paged_memory.specs.declared.family.Family.TheVariants.{Cmis}
use Rattle.paged_memory.specs.Families.{is_family, managed_by}
use Rattle.paged_memory.specs.Images.{Memory}
use Rattle.paged_memory.specs.ImageText.{IsImage}
use Rattle.paged_memory.specs.Windows.{Windowed, started, window_conduct}
use Rattle.reports.specs.SameReports.{ReportsSame}
use Rattle.vdm_reading.specs.BankPages.{bank_pages, groups_page}
use Rattle.vdm_reading.specs.VdmAccounts.{IsAmong}
use Rattle.vdm_reading.specs.VdmStages.{key_of}

-- whatever a script refuses: each page from 20h on, of bank 0 or a further one, that is read over its bus, with a new window of an image, is
-- as in the image
abbrev pub StatisticsSame : Type 0
StatisticsSame =
    (old new : Seen (List Directive × Windowed)) (memory all : Memory) → IsImage memory → old.state.1 ≡ started memory
    → IsObserving (script_rules window_conduct) old new (Ok all)
    → (page : ℕ) (bytes : List ℕ) → 0x20 ≤ page → map.get all (key_of page) ≡ Some bytes → map.get memory (key_of page) ≡ Some bytes

-- so are its reports
abbrev pub ObservedReportsSame : Type 0
ObservedReportsSame =
    (old new : Seen (List Directive × Windowed)) (memory all : Memory) → IsImage memory → old.state.1 ≡ started memory
    → IsObserving (script_rules window_conduct) old new (Ok all) → ReportsSame all memory

-- ---- the whole

-- one of pages 20h to 2Fh of a bank
abbrev pub IsStatistics : ℕ → Type 0
IsStatistics page = (0x20 ≤ page % 256) × (page % 256 < 0x30)

-- the module has pages and the bank of this one, and pages 01h and 2Fh advertise it
pub record IsAdvertised (memory : Memory) (page : ℕ) : Type 0 where
  pub paged : is_flat memory ≡ false
  pub offered : has_observables memory ≡ true
  pub banked : page / 256 < bank_count memory
  pub listed : IsAmong page (groups_page (page / 256) ∷ bank_pages memory (page / 256))

-- a CMIS module has no other statistics than those that its banks advertise
abbrev pub HasOwnStatistics : Memory → Type 0
HasOwnStatistics memory =
    is_family Cmis (managed_by (number memory (fields.Cmis cmis.Identifier))) ≡ true
    → (page : ℕ) (bytes : List ℕ) → IsStatistics page → map.get memory (key_of page) ≡ Some bytes → IsAdvertised memory page

-- of a CMIS module each page of statistics that it advertises is read as the memory has it, whatever others that has
abbrev pub HasAdvertised : Memory → Memory → Type 0
HasAdvertised memory all =
    is_family Cmis (managed_by (number memory (fields.Cmis cmis.Identifier))) ≡ true
    → (page : ℕ) (bytes : List ℕ) → IsStatistics page → IsAdvertised memory page → map.get memory (key_of page) ≡ Some bytes → map.get all (key_of page) ≡ Some bytes

-- so it is without a script
abbrev pub AdvertisedRead : Type 0
AdvertisedRead =
    (old new : Seen (List Directive × Windowed)) (memory all : Memory) → IsImage memory → old.state ≡ ([], started memory)
    → IsObserving (script_rules window_conduct) old new (Ok all) → HasAdvertised memory all

-- and all that the module lists itself is read as it is in the image, if that has no others
abbrev pub StatisticsWhole : Type 0
StatisticsWhole =
    (old new : Seen (List Directive × Windowed)) (memory all : Memory) → IsImage memory → HasOwnStatistics memory → old.state ≡ ([], started memory)
    → IsObserving (script_rules window_conduct) old new (Ok all)
    → (place : ℕ) → monitor_places ≤ place → observation_at all place ≡ observation_at memory place
