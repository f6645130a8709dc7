-- The text of steps on a bus: a line each, numbered from 1, with the operation and its reply. (docs/formats.md, "Trace";
-- this project's own)
use Rattle.std.specs.Prelude.{ℕ, List, ◌∷◌, ◌++◌, codes, map}
use Rattle.std.specs.Fmt.{decimal}
use Rattle.std.specs.List.{enumerate_from}
use Rattle.bus_model.specs.DeviceName.{device_name}
use Rattle.bus_model.specs.declared.operation.Op.{Op}
use Rattle.bus_model.specs.declared.operation.Op.TheVariants.{Fetch, Store}
use Rattle.bus_model.specs.declared.operation.Reply.{Reply}
use Rattle.bus_model.specs.declared.operation.Reply.TheVariants.{Bytes, Done, Refused}
use Rattle.bus_model.specs.declared.operation.Step.{Step}
use Rattle.report_entries.specs.Shown.{spaced_bytes}

-- the device and the address, and how many bytes are asked for, or the bytes that are given
abbrev pub op_text : Op → List ℕ
op_text (Fetch dev offset count) = codes "fetch " ++ device_name dev ++ codes " " ++ decimal offset ++ codes " " ++ decimal count
op_text (Store dev offset bytes) = codes "store " ++ device_name dev ++ codes " " ++ decimal offset ++ spaced_bytes bytes.items

-- with a space before it
abbrev pub reply_text : Reply → List ℕ
reply_text (Bytes bytes) = spaced_bytes bytes.items
reply_text Done = codes " done"
reply_text Refused = codes " refused"

unfoldable pub step_text : Step → List ℕ
step_text step = op_text step.op ++ codes " =" ++ reply_text step.reply

unfoldable pub step_line : ℕ → Step → List ℕ
step_line number step = decimal number ++ 32 ∷ step_text step

-- the lines of steps that are numbered from this number on
abbrev pub lines_from : ℕ → List Step → List (List ℕ)
lines_from number steps = map (λ (numbered : ℕ × Step). step_line numbered.0 numbered.1) (enumerate_from number steps)

abbrev pub trace_lines : List Step → List (List ℕ)
trace_lines steps = lines_from 1 steps
