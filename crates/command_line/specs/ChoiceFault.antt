-- Why a command line gives no choice, and what the program then says (docs/formats.md; this project's own).
use Rattle.std.specs.Prelude.{◌≡◌, ◌≢◌, ℕ, ⊤, List, Option, Some, None, Result, Ok, Err, codes}
use Rattle.std.specs.declared.io.ErrorKind.{ErrorKind as ReadingKind}
use Rattle.std.specs.declared.io.ErrorKind.TheVariants as reading
use Rattle.clap.specs.Words.{IsAmong, Kinds, kind_of}
use Rattle.clap.specs.declared.error.Error.{Error}
use Rattle.clap.specs.declared.error.kind.ErrorKind.{ErrorKind}
use Rattle.clap.specs.declared.error.kind.ErrorKind.TheVariants.{DisplayHelp, DisplayVersion}
use Rattle.clap.specs.declared.error.kind.ErrorKind.TheVariants.{OutOfMemory}
use Rattle.command_line.specs.declared.choice.fault.ChoiceFault.{ChoiceFault}
use Rattle.command_line.specs.declared.choice.fault.ChoiceFault.TheVariants.{Memory, Line, Word, Unreadable}
use Rattle.command_line.specs.declared.choice.word_fault.WordFault.{WordFault}
use Rattle.command_line.specs.declared.choice.word_fault.WordFault.TheVariants.{Label}
use Rattle.command_line.specs.declared.fault.Fault.TheVariants as fault
use Rattle.command_line.specs.Faults.{fault_line}
use Rattle.command_line.specs.WordFaults.{word_text}
use Rattle.module_metrics.specs.declared.label_fault.LabelFault.{LabelFault}
use Rattle.module_metrics.specs.declared.label_fault.LabelFault.TheVariants as label
use Rattle.command_line.specs.declared.status.Status.{Status}
use Rattle.command_line.specs.declared.status.Status.TheVariants as status

-- the fault of an error of this kind
abbrev pub fault_by_kind : ErrorKind → Error → ChoiceFault
fault_by_kind OutOfMemory error = Memory
fault_by_kind _ error = Line error

-- what `clap`'s error comes to: its `OutOfMemory` is the program's `Memory`
abbrev pub fault_of_error : Error → ChoiceFault
fault_of_error error = fault_by_kind (kind_of error) error

-- that of words that cannot be read
abbrev pub fault_of_words : ReadingKind → ChoiceFault
fault_of_words reading.OutOfMemory = Memory
fault_of_words _ = Unreadable

-- help and the version were asked for; the rest are mistakes
abbrev pub status_by_kind : ErrorKind → Status
status_by_kind DisplayHelp = status.Done
status_by_kind DisplayVersion = status.Done
status_by_kind _ = status.CommandLine

-- how the program ends if there is no choice
abbrev pub status_of_fault : ChoiceFault → Status
status_of_fault Memory = status.Memory
status_of_fault (Line error) = status_by_kind (kind_of error)
status_of_fault (Word f) = status.CommandLine
status_of_fault Unreadable = status.CommandLine

unfoldable pub unreadable_line : List ℕ
unreadable_line = codes "error: a word of the command line is not UTF-8\n"

-- what the program says; of `clap`'s errors that is open
abbrev pub refusal_text : ChoiceFault → Option (List ℕ)
refusal_text Memory = Some (fault_line fault.Memory)
refusal_text (Line error) = None
refusal_text (Word f) = Some (word_text f)
refusal_text Unreadable = Some unreadable_line

-- an allocation was refused, or the words are refused for one of these kinds, of which none is
-- `OutOfMemory`
abbrev pub IsFaultAmong : Kinds → ChoiceFault → Type 0
IsFaultAmong kinds Memory = ⊤
IsFaultAmong kinds (Line error) = IsAmong (kind_of error) kinds × (kind_of error ≢ OutOfMemory)
IsFaultAmong kinds (Word f) = ⊥
IsFaultAmong kinds Unreadable = ⊥

-- ---- words of flags

-- a label's `Memory` is the program's
abbrev pub fault_of_label : LabelFault → ChoiceFault
fault_of_label label.Memory = Memory
fault_of_label f = Word (Label f)

-- what is answered is this, unless an allocation was refused
abbrev pub Gives : {T : Type 0} → Result T WordFault → Result T ChoiceFault → Type 0
Gives reported (Ok given) = reported ≡ Ok given
Gives reported (Err Memory) = ⊤
Gives reported (Err (Line error)) = ⊥
Gives reported (Err (Word f)) = reported ≡ Err f
Gives reported (Err Unreadable) = ⊥
