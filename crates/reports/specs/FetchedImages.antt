-- What the reading of a module's memory over a bus is: of all that reports speak of, and then of page 11h of each further bank. Each of
-- the two is told by the whole list of its steps, the newest first. Neither doubts the page selection.
-- (docs/bus.md, "Reading an image"; OIF-CMIS-05.0, "Management Memory Map"; this project's own)
use Rattle.std.specs.Prelude.{◌≡◌, ◌⊎◌, ℕ, ◌<◌, nat_lt, Bool, true, false, length, Result, Ok, Err}
use Rattle.std.specs.FinMap as map
use Rattle.std.specs.Option.{option_map_or}
use Rattle.bus_model.specs.declared.bus.BusFault.TheVariants.{TraceFull}
use Rattle.bus_model.specs.Runs.{IsFull, Rules, Seen}
use Rattle.control_sets.specs.OutcomeAnswers.{most_steps}
use Rattle.control_sets.specs.Procedures.{MakesHistory}
use Rattle.observables.specs.Banks.{bank_count}
use Rattle.paged_memory.specs.Images.{Memory}
use Rattle.paged_memory.specs.Keys.{page_key}
use Rattle.paged_memory.specs.PageAddressing.{History}
use Rattle.module_reading.specs.ReadImages.{IsGivenUp, IsImageOf, IsReading, IsUnfinished}
use Rattle.module_reading.specs.Regions.{everything, of_banks}
use Rattle.module_reading.specs.declared.request.Request.{Request}
use Rattle.reports.specs.declared.fault.ReportFault.{ReportFault}
use Rattle.reports.specs.declared.fault.ReportFault.TheVariants.{Bus, GaveUp}

-- ---- one reading

-- what is answered: the image, or that it isn't finished after all steps that may be made, or on a full list of steps
abbrev pub IsAnswered : Request → Type 0 → History → Result Memory ReportFault → Type 0
IsAnswered request full history (Ok image) = IsImageOf false request history image
IsAnswered request full history (Err GaveUp) = IsGivenUp false request history
IsAnswered request full history (Err (Bus fault)) = (fault ≡ TraceFull) × full × (length history < most_steps) × IsUnfinished false request history
-- no other fault is answered
IsAnswered request full history (Err fault) = ⊥

-- these steps and this answer are the reading of what is requested; full says that the bus's list is full after them
pub record AreFetched (request : Request) (full : Type 0) (history : History) (answer : Result Memory ReportFault) : Type 0 where
  pub reading : IsReading false request history
  pub answered : IsAnswered request full history answer

-- ---- page 11h of further banks

-- a page of another memory, if that has it
abbrev pub with_page : Memory → ℕ → Memory → Memory
with_page from page memory = option_map_or (λ bytes. map.insert memory (page_key page) bytes) (map.get from (page_key page)) memory

-- page 11h of banks 1 to 3 of another memory, if that has them
abbrev pub with_banks : Memory → Memory → Memory
with_banks from memory = with_page from 0x311 (with_page from 0x211 (with_page from 0x111 memory))

abbrev pub IsJoined : Memory → Result Memory ReportFault → Result Memory ReportFault → Type 0
IsJoined memory (Ok from) answer = answer ≡ Ok (with_banks from memory)
IsJoined memory (Err fault) answer = answer ≡ Err fault

-- by whether the memory that was read advertises any
abbrev pub AreBanksRead : {S : Type 0} → Bool → Rules S → Seen S → Seen S → Memory → Result Memory ReportFault → Type 0
AreBanksRead true rules mid new memory answer =
    (read : Result Memory ReportFault) × MakesHistory rules mid new (λ history. AreFetched (of_banks (bank_count memory)) (IsFull new) history read) × IsJoined memory read answer
AreBanksRead false rules mid new memory answer = (new ≡ mid) × (answer ≡ Ok memory)

-- ---- the whole

-- the fault of reading all that reports speak of, or what came of further banks after it
abbrev pub IsFetching : {S : Type 0} → Rules S → Seen S → Seen S → Result Memory ReportFault → Type 0
IsFetching {S} rules old new answer =
    ((fault : ReportFault) × (answer ≡ Err fault) × MakesHistory rules old new (λ history. AreFetched everything (IsFull new) history (Err fault)))
    ⊎ ((mid : Seen S) × (memory : Memory) × MakesHistory rules old mid (λ history. AreFetched everything (IsFull mid) history (Ok memory))
    × AreBanksRead (nat_lt 1 (bank_count memory)) rules mid new memory answer)
