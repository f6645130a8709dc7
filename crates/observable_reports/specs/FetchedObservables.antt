-- What is read of a module's memory over a bus for its observables: first what its reports need; then the statistics (VDM) of each bank, if
-- page 01h advertises any. (docs/observables.md, "Frozen statistics"; docs/bus.md, "Reading an image"; this project's own)
use Rattle.std.specs.Prelude.{◌≡◌, ◌≢◌, ◌⊎◌, ℕ, zero, suc, ◌<◌, List, [], ◌∷◌, reverse, Result, Ok, Err}
use Rattle.bus_model.specs.declared.bus.BusFault.TheVariants.{TraceFull}
use Rattle.bus_model.specs.Runs.{IsFull, Ran, Rules, Seen}
use Rattle.conversations.specs.Events.{Events, steps_of}
use Rattle.observables.specs.Banks.{statistics_banks}
use Rattle.paged_memory.specs.Images.{Memory}
use Rattle.reports.specs.FetchedImages.{IsFetching, with_page}
use Rattle.reports.specs.declared.fault.ReportFault.{ReportFault}
use Rattle.reports.specs.declared.fault.ReportFault.TheVariants.{Bus}
use Rattle.vdm_reading.specs.declared.reading.VdmReading.{VdmReading}
use Rattle.vdm_reading.specs.declared.reading.VdmRequest.{VdmRequest}
use Rattle.vdm_reading.specs.declared.reading.VdmStage.TheVariants.{Over}
use Rattle.vdm_reading.specs.BankPages.{groups_page}
use Rattle.vdm_reading.specs.VdmAccounts.{EachIsWanted, reading_after}

-- ---- the memory with the statistics

unfoldable pub with_pages : Memory → List ℕ → Memory → Memory
with_pages from [] memory = memory
with_pages from (page ∷ pages) memory = with_pages from pages (with_page from page memory)

-- the page that has the groups of the bank, and the pages of those
abbrev pub with_statistics : Memory → VdmReading → Memory
with_statistics memory reading = with_pages reading.image (groups_page reading.request.bank ∷ reading.pages.items) memory

-- ---- the statistics of a bank

-- without a pause
abbrev pub request_of : ℕ → VdmRequest
request_of bank = record { pause = 0; bank = bank }

-- these events are the reading of a bank, between these two states of the bus
pub record IsBankReading {S : Type 0} (rules : Rules S) (bank : ℕ) (mid new : Seen S) (events : Events) : Type 0 where
  pub ran : Ran rules mid new (reverse (steps_of events))
  pub each : EachIsWanted (request_of bank) events

-- the reading ended, whatever it lost
abbrev pub IsEnded : ℕ → Memory → Events → Memory → Type 0
IsEnded bank memory events all =
    ((reading_after (request_of bank) events).stage ≡ Over) × (all ≡ with_statistics memory (reading_after (request_of bank) events))

-- or the list of steps was full before that
abbrev pub IsCut : {S : Type 0} → ℕ → Seen S → Events → ReportFault → Type 0
IsCut bank after events fault = (fault ≡ Bus TraceFull) × IsFull after × ((reading_after (request_of bank) events).stage ≢ Over)

abbrev pub IsFollowed : {S : Type 0} → ℕ → Seen S → Memory → Events → Memory → Result (Unit {0}) ReportFault → Type 0
IsFollowed bank after memory events all (Ok done) = IsEnded bank memory events all
IsFollowed bank after memory events all (Err fault) = IsCut bank after events fault × (all ≡ memory)

-- what was read of a bank beside what was read before it
abbrev pub IsBankRead : {S : Type 0} → Rules S → ℕ → Seen S → Seen S → Memory → Memory → Result (Unit {0}) ReportFault → Type 0
IsBankRead rules bank mid new memory all answer = (events : Events) × IsBankReading rules bank mid new events × IsFollowed bank new memory events all answer

-- ---- those of all banks, one after the other

-- so many banks from the first on were read, each to its end
abbrev pub AreFirstRead : {S : Type 0} → Rules S → Seen S → Memory → ℕ → Seen S → Memory → Type 0
AreFirstRead rules mid memory zero new all = (new ≡ mid) × (all ≡ memory)
AreFirstRead {S} rules mid memory (suc bank) new all =
    (last : Seen S) × (before : Memory) × AreFirstRead rules mid memory bank last before × IsBankRead rules bank last new before all (Ok tt)

-- all of them were, or one of them was cut short
abbrev pub AreStatisticsRead : {S : Type 0} → ℕ → Rules S → Seen S → Seen S → Memory → Result Memory ReportFault → Type 0
AreStatisticsRead banks rules mid new memory (Ok all) = AreFirstRead rules mid memory banks new all
AreStatisticsRead {S} banks rules mid new memory (Err fault) =
    (bank : ℕ) × (bank < banks) × (last : Seen S) × (before : Memory) × AreFirstRead rules mid memory bank last before × IsBankRead rules bank last new before before (Err fault)

-- ---- the whole

-- the fault of reading that, or what came of the statistics after it
abbrev pub IsObserving : {S : Type 0} → Rules S → Seen S → Seen S → Result Memory ReportFault → Type 0
IsObserving {S} rules old new answer =
    ((fault : ReportFault) × (answer ≡ Err fault) × IsFetching rules old new (Err fault))
    ⊎ ((mid : Seen S) × (memory : Memory) × IsFetching rules old mid (Ok memory) × AreStatisticsRead (statistics_banks memory) rules mid new memory answer)
