-- What is written of an answer by the form that its fault is given. (docs/formats.md, "Faults" and "JSON"; this project's own)
use Rattle.std.specs.Prelude.{ℕ, Bool, true, false, List, ◌++◌, Some, None, Ok, Err}
use Rattle.command_line.specs.Faults.{fault_line}
use Rattle.command_line.specs.FaultTexts.{reading_fault_text}
use Rattle.command_line.specs.Runs.{Answer}
use Rattle.command_line.specs.declared.fault.Fault.{Fault}
use Rattle.command_line.specs.declared.fault.Fault.TheVariants.{Provision}
use Rattle.command_line.specs.declared.reported_fault.ReportedFault.TheVariants.{Procedure, Metrics}
use Rattle.command_line.specs.declared.output.fault_form.FaultForm.{FaultForm}
use Rattle.command_line.specs.declared.output.fault_form.FaultForm.TheVariants.{Line, Json, Ready}

-- a fault of reading is given the form that needs no memory
abbrev pub form_of_reading : Bool → FaultForm
form_of_reading true = Ready
form_of_reading false = Line

-- a fault alone
abbrev pub fault_in : FaultForm → Fault → List ℕ
fault_in Line fault = fault_line fault
fault_in (Json text) fault = text.items
fault_in Ready fault = reading_fault_text fault

-- an answer; after the text of a procedure only a line comes, since its JSON has the fault, as metrics have it
abbrev pub output_in : FaultForm → Answer → List ℕ
output_in form (Ok (text, None)) = text
output_in form (Ok (text, Some (Metrics fault))) = text
output_in Line (Ok (text, Some (Procedure fault inactive))) = text ++ fault_line (Provision fault)
output_in (Json other) (Ok (text, Some (Procedure fault inactive))) = text
output_in Ready (Ok (text, Some (Procedure fault inactive))) = text
output_in form (Err fault) = fault_in form fault
