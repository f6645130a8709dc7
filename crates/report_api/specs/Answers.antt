-- What C is answered: a text, or a fault by its line, in a buffer that has room for it. (include/dovecounter_reports.h;
-- docs/formats.md, "Faults"; this project's own)
use Rattle.std.specs.Prelude.{◌≡◌, ℕ, nat_lt, if◌then◌else◌, List, [], ◌∷◌, ◌++◌, length, drop, codes, Result, Ok, Err, Vec}
use Rattle.std.specs.Result.{result_map_both}
use Rattle.std.specs.declared.alloc.Global.{Global}
use Rattle.text_lines.specs.Words.{spaced}
use Rattle.paged_memory.specs.FaultWords.{image_fault_words}
use Rattle.reports.specs.FaultWords.{report_fault_words}
use Rattle.reports.specs.declared.fault.ReportFault.{ReportFault}
use Rattle.reports.specs.declared.fault.ReportFault.TheVariants as report
use Rattle.report_api.specs.declared.fault.Fault.{Fault}
use Rattle.report_api.specs.declared.fault.Fault.TheVariants.{Memory, Image, Report}

abbrev pub Answer : Type 0
Answer = Result (List ℕ) Fault

-- what a function answers, as such a one
abbrev pub answer_of : Result (Vec ℕ Global) Fault → Answer
answer_of result = result_map_both (λ text. text.items) (λ fault. fault) result

-- a report's `Memory` is the call's
abbrev pub fault_of_report : ReportFault → Fault
fault_of_report report.Memory = Memory
fault_of_report fault = Report fault

-- ---- faults

abbrev pub fault_words : Fault → List (List ℕ)
fault_words Memory = codes "memory" ∷ []
fault_words (Image fault) = image_fault_words fault
fault_words (Report fault) = report_fault_words fault

-- as cmisctl prints it
abbrev pub fault_line : Fault → List ℕ
fault_line fault = spaced (codes "fault" ∷ fault_words fault) ++ 10 ∷ []

-- ---- statuses

abbrev pub done : ℕ
done = 0

abbrev pub too_small : ℕ
too_small = 4

abbrev pub refused : ℕ
refused = 5

abbrev pub no_memory : ℕ
no_memory = 6

-- ---- what is written

-- a text is put into a buffer that has room for it, whose bytes after it stay; its length is told in any case
pub record IsTextPut (status : ℕ) (text before : List ℕ) (answered : ℕ) (after : List ℕ) (count : ℕ) : Type 0 where
  pub counted : count ≡ length text
  pub status_is : answered ≡ (if nat_lt (length before) (length text) then too_small else status)
  pub buffer_is : after ≡ (if nat_lt (length before) (length text) then before else text ++ drop (length text) before)

abbrev pub IsPut : Answer → List ℕ → ℕ → ℕ → List ℕ → ℕ → Type 0
IsPut (Ok text) before counted answered after count = IsTextPut done text before answered after count
IsPut (Err Memory) before counted answered after count = (answered ≡ no_memory) × ((after ≡ before) × (count ≡ counted))
IsPut (Err fault) before counted answered after count = IsTextPut refused (fault_line fault) before answered after count

-- an answer that is right is put
abbrev pub IsAnswered : (Answer → Type 0) → List ℕ → ℕ → ℕ → List ℕ → ℕ → Type 0
IsAnswered Is before counted answered after count = (answer : Answer) × Is answer × IsPut answer before counted answered after count
