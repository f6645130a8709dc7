-- One run of a command: what it writes and how it ends, by its answer to the input. (docs/formats.md, "Input and output";
-- this project's own)
use Rattle.std.specs.Prelude.{◌≡◌, ◌≢◌, ◌<◌, ◌≤◌, ◌↔◌, ◌||◌, ℕ, Bool, true, false, List, length, ◌++◌, Option, Some, None, IfSome, Result, Ok, Err}
use Rattle.std.specs.Result.{result_map_both}
use Rattle.std.specs.Io.KnownBytes.{Appends}
use Rattle.command_line.specs.declared.fault.Fault.{Fault}
use Rattle.command_line.specs.declared.fault.Fault.TheVariants.{Memory, Io, TooLong, Parts, Provision}
use Rattle.command_line.specs.declared.command_output.CommandOutput.{CommandOutput}
use Rattle.command_line.specs.Remarks.{remark_on_reported, clue_for}
use Rattle.command_line.specs.declared.remark.clue.Clue.{Clue}
use Rattle.command_line.specs.declared.remark.opening.Opening.{Opening}
use Rattle.command_line.specs.declared.remark.opening.Opening.TheVariants.{Other}
use Rattle.command_line.specs.declared.remark.Remark.{Remark}
use Rattle.command_line.specs.declared.remark.Remark.TheVariants.{Unwritten, Refused, Warned}
use Rattle.command_line.specs.declared.remark.warnings.Warnings.{Warnings}
use Rattle.command_line.specs.declared.status.Status.{Status}
use Rattle.command_line.specs.declared.status.Status.TheVariants.{Done, ReadOrWrite}
use Rattle.command_line.specs.declared.reported_fault.ReportedFault.{ReportedFault}
use Rattle.command_line.specs.declared.reported_fault.ReportedFault.TheVariants.{Procedure, Metrics}
use Rattle.command_line.specs.CountedReader.{reading_failed, reads_of, remaining_of}
use Rattle.command_line.specs.Faults.{fault_of_reported, status_of}
use Rattle.command_line.specs.FaultTexts.{fault_text}
use Rattle.command_line.specs.Input.{TakesWithinLimit}
use Rattle.command_line.specs.Limits.{input_limit, read_limit}
use Rattle.command_line.specs.Parts.{parts_of}
use Rattle.command_line.specs.Inputs.{Inputs, inputs_in}
use Rattle.command_line.specs.declared.choice.part.Part.{Part}
use Rattle.command_line.specs.StoppingWriter.{contents_of, writing_failed}
use Rattle.command_line.specs.declared.input.counted_reader.CountedReader.{CountedReader}
use Rattle.command_line.specs.declared.output.stopping_writer.StoppingWriter.{StoppingWriter}

-- a text and the fault that it reports, if there is one, or a fault alone
abbrev pub Answer : Type 0
Answer = Result (List ℕ × Option ReportedFault) Fault

-- what a function answers, as such a one
abbrev pub answer_of : Result CommandOutput Fault → Answer
answer_of result = result_map_both (λ reported. (reported.text.items, reported.fault)) (λ fault. fault) result

-- what an input tells beside an answer to it
abbrev pub clue_beside : Answer → List ℕ → Clue
clue_beside (Err fault) input = clue_for fault input
clue_beside (Ok text) input = record { opening = Other; weights_line = None }

-- what is known beside an answer of how its input begins
abbrev pub opening_beside : Answer → List ℕ → Opening
opening_beside answer input = (clue_beside answer input).opening

-- what is written of an answer, as JSON or not; metrics have their fault, and one object has both, the text of a procedure and its fault
abbrev pub output_of : Bool → Opening → Answer → List ℕ
output_of json opening (Ok (text, None)) = text
output_of true opening (Ok (text, Some fault)) = text
output_of false opening (Ok (text, Some (Procedure fault inactive))) = text ++ fault_text false (Provision fault) opening
output_of false opening (Ok (text, Some (Metrics fault))) = text
output_of json opening (Err fault) = fault_text json fault opening

abbrev pub status_after : Answer → Status
status_after (Ok (text, None)) = Done
status_after (Ok (text, Some reported)) = status_of (fault_of_reported reported)
status_after (Err fault) = status_of fault

-- what a command itself answers to the texts of its parts, if no allocation was refused
abbrev pub IsOwnAnswer : (Answer → Type 0) → Answer → Type 0
IsOwnAnswer IsAnswer (Err Memory) = Unit {0}
-- reading and cutting the input are no business of its own
IsOwnAnswer IsAnswer (Err Io) = ⊥
IsOwnAnswer IsAnswer (Err TooLong) = ⊥
IsOwnAnswer IsAnswer (Err (Parts n)) = ⊥
IsOwnAnswer IsAnswer answer = IsAnswer answer

-- the answer of a command that reads these parts: its own to their texts, or that there are other than so many, or that the
-- input is too long; an allocation or a read may fail on any input
abbrev pub IsAnswerTo : List Part → (Inputs → Answer → Type 0) → List ℕ → Answer → Type 0
IsAnswerTo parts IsAnswer input (Err Memory) = Unit {0}
IsAnswerTo parts IsAnswer input (Err Io) = Unit {0}
IsAnswerTo parts IsAnswer input (Err TooLong) = input_limit < length input
IsAnswerTo parts IsAnswer input (Err (Parts n)) = (length input ≤ input_limit) × (n ≡ length (parts_of input)) × (n ≢ length parts)
IsAnswerTo parts IsAnswer input answer =
    (length input ≤ input_limit) × (length (parts_of input) ≡ length parts) × IsAnswer (inputs_in parts (parts_of input)) answer

-- how the run ends if it was to end so: a failed write is said before all else
abbrev pub ended : Bool → Status → Status
ended true status = ReadOrWrite
ended false status = status

-- the answer is `Io` exactly if a read failed
abbrev pub IsReadingFailure : Bool → Answer → Type 0
IsReadingFailure failed answer = (answer ≡ Err Io) ↔ (failed ≡ true)

-- an answer was written whole, as this output, if no write failed, after what the writer held before, and the run ended so
abbrev pub IsWritten : List ℕ → Answer → Option (List ℕ) → Option (List ℕ) → Bool → Status → Type 0
IsWritten output answer before after write_failed status =
    (status ≡ ended write_failed (status_after answer)) × (write_failed ≡ false → Appends before after output)

-- the run ends so exactly if a read or a write failed
abbrev pub EndsByFailure : Bool → Bool → Status → Type 0
EndsByFailure read_failed write_failed status = (status ≡ ReadOrWrite) ↔ ((read_failed || write_failed) ≡ true)

-- the remark beside an answer that was written, by what its input tells beside it; what is warned of is left open
abbrev pub IsRemarkBeside : Answer → Clue → Remark → Type 0
IsRemarkBeside (Err fault) clue remark = remark ≡ Refused record { fault = fault; clue = clue }
IsRemarkBeside (Ok (text, Some reported)) clue remark = remark ≡ remark_on_reported reported clue
IsRemarkBeside (Ok (text, None)) clue remark = (warnings : Warnings) × (remark ≡ Warned warnings)

-- of one that was not written whole, that alone
abbrev pub IsRemarkAfter : Bool → List ℕ → Answer → Remark → Type 0
IsRemarkAfter true input answer remark = remark ≡ Unwritten
IsRemarkAfter false input answer remark = IsRemarkBeside answer (clue_beside answer input) remark

-- how a run ends: its status, and what standard error says
pub record Ending : Type 0 where
  pub status : Status
  pub remark : Remark

-- with this status, and this remark unless a write failed: then the remark is that it did
abbrev pub ending_after : Bool → Status → Remark → Ending
ending_after true status remark = record { status = status; remark = Unwritten }
ending_after false status remark = record { status = status; remark = remark }

-- such an answer was written, as JSON or not, no more was read than it needs, and this is the remark beside it
pub record IsAnswered {R W : Type 0} (remaining : R → Option (List ℕ)) (contents : W → Option (List ℕ)) (json : Bool) (IsAnswer : List ℕ → Answer → Type 0) (input : List ℕ)
    (reader reader_after : CountedReader R) (writer writer_after : StoppingWriter W) (ending : Ending) : Type 0 where
  pub answer : Answer
  pub is_answer : IsAnswer input answer
  pub reading : IsReadingFailure (reading_failed reader_after) answer
  pub taken : TakesWithinLimit (remaining_of remaining reader) (remaining_of remaining reader_after) (answer ≡ Err TooLong)
  pub written : IsWritten (output_of json (opening_beside answer input) answer) answer (contents_of contents writer) (contents_of contents writer_after) (writing_failed writer_after) ending.status
  pub remarked : IsRemarkAfter (writing_failed writer_after) input answer ending.remark

-- one run of a command on a reader and a writer, before and after, that answers its input so, as JSON or not
pub record IsCommandRun {R W : Type 0} (remaining : R → Option (List ℕ)) (contents : W → Option (List ℕ)) (json : Bool) (IsAnswer : List ℕ → Answer → Type 0)
    (reader reader_after : CountedReader R) (writer writer_after : StoppingWriter W) (ending : Ending) : Type 0 where
  -- the reads are counted within their limit
  pub reads : reads_of reader_after ≤ read_limit
  pub failure : EndsByFailure (reading_failed reader_after) (writing_failed writer_after) ending.status
  -- after a failed write nothing more is written
  pub stopped : writing_failed writer ≡ true → writer_after ≡ writer
  -- if the reader's bytes are known
  pub answered : IfSome (remaining_of remaining reader) (λ input. IsAnswered remaining contents json IsAnswer input reader reader_after writer writer_after ending)
