-- What is read of a module's statistics (VDM) over a scripted bus with a window of its memory. (docs/observables.md, "Frozen
-- statistics"; docs/bus.md, "Windows"; this project's own)
use Rattle.std.specs.Prelude.{◌≡◌, ℕ, false, List, ◌∷◌, Some, reverse}
use Rattle.std.specs.FinMap as map
use Rattle.bus_model.specs.declared.device.Dev.TheVariants.{A0}
use Rattle.bus_model.specs.declared.script.Directive.{Directive}
use Rattle.bus_model.specs.Runs.{Ran, Seen}
use Rattle.bus_model.specs.ScriptedBus.{script_rules}
use Rattle.conversations.specs.Events.{Events, steps_of}
use Rattle.conversations.specs.Pauses.{is_refused}
use Rattle.paged_memory.specs.declared.page_addressing.PageAddressing.TheVariants.{BankAndPage}
use Rattle.paged_memory.specs.Images.{Memory}
use Rattle.paged_memory.specs.ImageText.{IsImage}
use Rattle.paged_memory.specs.MappedPages.{selecting_on}
use Rattle.paged_memory.specs.PageAddressing.{EachStep, History}
use Rattle.paged_memory.specs.Windows.{Windowed, window_conduct}
use Rattle.vdm_reading.specs.declared.reading.VdmReading.{VdmReading}
use Rattle.vdm_reading.specs.BankPages.{bank_pages, groups_page}
use Rattle.vdm_reading.specs.VdmAccounts.{IsAmong}
use Rattle.vdm_reading.specs.VdmStages.{key_of}

-- these events are steps on such a bus, behind which the memory of a module with banks and pages is, whatever was done to it before
pub record AreOverWindow (old new : Seen (List Directive × Windowed)) (memory : Memory) (events : Events) : Type 0 where
  pub image : IsImage memory
  pub behind : old.state.1.memory ≡ memory
  pub selecting : selecting_on memory A0 ≡ Some BankAndPage
  pub ran : Ran (script_rules window_conduct) old new (reverse (steps_of events))

-- the bus refused nothing
abbrev pub NoneRefused : History → Type 0
NoneRefused history = EachStep (λ step before. is_refused step.reply ≡ false) history

-- each page of statistics that the memory advertises of the bank and has was read, and is listed
abbrev pub AreAllRead : Memory → VdmReading → Type 0
AreAllRead memory reading =
    let groups = groups_page reading.request.bank in
    (page : ℕ) (bytes : List ℕ) → IsAmong page (groups ∷ bank_pages memory reading.request.bank) → map.get memory (key_of page) ≡ Some bytes
    → IsAmong page (groups ∷ reading.pages.items) × (map.get reading.image (key_of page) ≡ Some bytes)
