-- That a report with `--bus` is the one without it, and so are details, observables and metrics, but for statistics (VDM) that their bank doesn't
-- advertise.
-- (docs/formats.md, "Reports over a bus"; this project's own)
use Rattle.std.specs.Prelude.{◌≡◌, ◌≢◌, ◌≤◌, ◌∷◌, ◌++◌, [], ℕ, Bool, true, false, List, Option, Some, option_map, Ok, Err}
use Rattle.std.specs.FinMap as map
use Rattle.text_lines.specs.Lines.{lines_of}
use Rattle.paged_memory.specs.Images as images
use Rattle.paged_memory.specs.ImageText.{IsTextOf}
use Rattle.paged_memory.specs.Keys.{page_key}
use Rattle.observable_reports.specs.SameStatistics.{HasAdvertised, HasOwnStatistics}
use Rattle.module_metrics.specs.Exposition.{Label, exposition}
use Rattle.module_metrics.specs.VdmMetrics.{vdm_metrics}
use Rattle.observable_reports.specs.Details.{printed_with}
use Rattle.observable_reports.specs.declared.listed_instances.Seen.{Seen}
use Rattle.report_entries.specs.Entries.{Entry}
use Rattle.reports.specs.declared.fault.ReportFault.TheVariants.{GaveUp}
use Rattle.command_line.specs.Faults.{fault_of_reported}
use Rattle.command_line.specs.declared.fault.Fault.{Fault}
use Rattle.command_line.specs.declared.fault.Fault.TheVariants.{Memory, Io, Report}
use Rattle.command_line.specs.Coloring.{shown_as}
use Rattle.command_line.specs.Commands.{IsAnswerOf}
use Rattle.command_line.specs.Inputs.{text_in}
use Rattle.command_line.specs.Parts.{parts_of}
use Rattle.command_line.specs.Runs.{Answer}
use Rattle.command_line.specs.declared.choice.commands.CommandName.{CommandName}
use Rattle.command_line.specs.declared.choice.commands.Request.{Request}
use Rattle.command_line.specs.declared.choice.options.Options.{Options}
use Rattle.command_line.specs.declared.choice.part.Part.TheVariants.{Image}
use Rattle.command_line.specs.declared.reported_fault.ReportedFault.{ReportedFault}

-- the fault of an answer, alone or beside a text
abbrev pub answer_fault : Answer → Option Fault
answer_fault (Ok (text, reported)) = option_map fault_of_reported reported
answer_fault (Err f) = Some f

-- the reading of the module came to no end
abbrev pub IsGivenUp : Answer → Type 0
IsGivenUp answer = answer_fault answer ≡ Some (Report GaveUp)

-- with `--bus` or without, it is an answer to the input, and, if no allocation and no read is refused, without it there is
-- no other
pub record IsPlainAnswer (request : Bool → Request) (input : List ℕ) (answer : Answer) : Type 0 where
  pub plain : IsAnswerOf (request false) input answer
  pub alone : (other : Answer) → IsAnswerOf (request false) input other → other ≢ Err Memory → other ≢ Err Io → other ≡ answer

-- a command with `--bus` or without it
abbrev pub over_bus : CommandName → Options → Bool → Request
over_bus command options bus = record { command = command; options = record options { bus = bus } }

-- so is each answer with `--bus`, but for a reading that came to no end, a refused allocation and failed reads
abbrev pub IsReportedAlike : (Bool → Request) → Type 0
IsReportedAlike request =
    (input : List ℕ) (answer : Answer) → IsAnswerOf (request true) input answer → ¬ (IsGivenUp answer) → answer ≢ Err Memory → answer ≢ Err Io
    → IsPlainAnswer request input answer

-- the image of an input that has no other part
abbrev pub image_of : List ℕ → List ℕ
image_of input = text_in (Image ∷ []) (parts_of input) Image

-- ---- what a module lists itself (VDM)

-- what is told beside it is printed with it: in metrics it follows, in details its lines or members do
abbrev pub metrics_with : List Label → List ℕ → List Seen → List ℕ
metrics_with labels reports seen = reports ++ exposition labels (vdm_metrics seen)

abbrev pub details_with : Options → List Entry → List Seen → List ℕ
details_with options entries seen = shown_as options.coloring options.json (printed_with options.json entries seen)

-- with `--bus` it tells of the statistics that were read, which are the image's, and all that this advertises; without `--bus` of all that the image
-- has
pub record IsFollowed {T : Type 0} (seen_in : images.Memory → List Seen) (printed : T → List Seen → List ℕ) (request : Bool → Request) (input text : List ℕ) (reported : Option ReportedFault) : Type 0 where
  pub memory : images.Memory
  pub read : images.Memory
  pub beside : T
  pub is_image : IsTextOf (lines_of (image_of input)) memory
  pub is_text : text ≡ printed beside (seen_in read)
  pub whole : IsPlainAnswer request input (Ok (printed beside (seen_in memory), reported))
  pub pages : (page : ℕ) (bytes : List ℕ) → 0x20 ≤ page → map.get read (page_key page) ≡ Some bytes → map.get memory (page_key page) ≡ Some bytes
  pub advertised : HasAdvertised memory read
  pub own : HasOwnStatistics memory → seen_in read ≡ seen_in memory

abbrev pub IsFollowedAnswer : {T : Type 0} → (images.Memory → List Seen) → (T → List Seen → List ℕ) → (Bool → Request) → List ℕ → Answer → Type 0
IsFollowedAnswer seen_in printed request input (Ok (text, reported)) = IsFollowed seen_in printed request input text reported
IsFollowedAnswer seen_in printed request input (Err f) = IsPlainAnswer request input (Err f)

-- so is each answer with `--bus`, but for the same
abbrev pub AreReportedBefore : {T : Type 0} → (images.Memory → List Seen) → (T → List Seen → List ℕ) → (Bool → Request) → Type 0
AreReportedBefore seen_in printed request =
    (input : List ℕ) (answer : Answer) → IsAnswerOf (request true) input answer → ¬ (IsGivenUp answer) → answer ≢ Err Memory → answer ≢ Err Io
    → IsFollowedAnswer seen_in printed request input answer

-- of an image that has no other statistics than those that its banks advertise, the answer is that without `--bus`
abbrev pub AreReportedAlike : (Bool → Request) → Type 0
AreReportedAlike request =
    (input : List ℕ) (answer : Answer) → ((memory : images.Memory) → IsTextOf (lines_of (image_of input)) memory → HasOwnStatistics memory)
    → IsAnswerOf (request true) input answer → ¬ (IsGivenUp answer) → answer ≢ Err Memory → answer ≢ Err Io → IsPlainAnswer request input answer
