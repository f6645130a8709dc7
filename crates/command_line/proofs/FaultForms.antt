-- What is written in each form of a fault is what is to be written.
use Rattle.std.proofs.Common.{◌≡◌, ℕ, Bool, true, false, List, Option, Some, None, Result, Ok, Err, IfOk, refl}
use Rattle.std.specs.Fmt.{digits}
use Rattle.json.specs.Layout.{pretty_from}
use Rattle.json.specs.Print.{escape_byte}
use Rattle.notices.specs.Sentences.{sentences}
use Rattle.report_entries.specs.EntryJson.{count_members, form_members, json_text, string_members}
use Rattle.report_entries.specs.Shown.{printable}
use Rattle.plan_reports.specs.FaultJson.{code_members, fault_members, reason_json, reason_members, sentence_members, values_json, values_members}
use Rattle.command_line.specs.FaultForms.{fault_in, form_of_reading, output_in}
use Rattle.command_line.specs.FaultTexts.{after_code, after_sentence, before_code, fault_text, fault_tree, is_of_reading, reading_fault_text}
use Rattle.command_line.specs.Runs.{answer_of, output_of}
use Rattle.command_line.specs.declared.command_output.CommandOutput.{CommandOutput}
use Rattle.command_line.specs.declared.fault.Fault.{Fault}
use Rattle.command_line.specs.declared.fault.Fault.TheVariants.{Memory, Io, TooLong}
use Rattle.command_line.specs.declared.output.fault_form.FaultForm.{FaultForm}
use Rattle.command_line.specs.declared.output.fault_form.FaultForm.TheVariants.{Ready}
use Rattle.command_line.specs.declared.reported_fault.ReportedFault.{ReportedFault}
use Rattle.command_line.specs.declared.reported_fault.ReportedFault.TheVariants.{Procedure, Metrics}
use Rattle.command_line.specs.declared.remark.opening.Opening.{Opening}
use Rattle.command_line.specs.declared.remark.opening.Opening.TheVariants.{Other}

-- the JSON of a fault of reading, computed
pub reading_text : (f : Fault) (opening : Opening) → is_of_reading f ≡ true → reading_fault_text f ≡ fault_text true f opening
unfolding before_code after_code after_sentence sentences pretty_from form_members count_members printable string_members code_members fault_members reason_json reason_members sentence_members values_json values_members escape_byte digits
reading_text Memory opening is = refl
reading_text Io opening is = refl
reading_text TooLong opening is = refl
reading_text f opening is = absurd cc

pub of_reading : (json : Bool) (f : Fault) → is_of_reading f ≡ true → output_in (form_of_reading json) (Err f) ≡ output_of json Other (Err f)
of_reading true f is = reading_text f Other is
of_reading false f is = refl

-- an answer with a text, whose JSON has the fault
text_alone : (opening : Opening) (text : List ℕ) (reported : Option ReportedFault) → output_in Ready (Ok (text, reported)) ≡ output_of true opening (Ok (text, reported))
text_alone opening text None = refl
text_alone opening text (Some (Procedure f inactive)) = refl
text_alone opening text (Some (Metrics f)) = refl

pub ready_if_ok : (json : Bool) (opening : Opening) (answer : Result CommandOutput Fault) (reported : CommandOutput) → json ≡ true → answer ≡ Ok reported
    → output_in Ready (answer_of answer) ≡ output_of json opening (answer_of answer)
ready_if_ok json opening answer reported is same = rw (is, same) (text_alone opening reported.text.items reported.fault)

-- a fault alone
pub json_if_err : {E : Type 0} (json : Bool) (opening : Opening) (answer : Result CommandOutput Fault) (f : Fault) (r : Result FaultForm E) → json ≡ true → answer ≡ Err f
    → IfOk r (λ form. fault_in form f ≡ json_text (fault_tree f opening))
    → IfOk r (λ form. output_in form (answer_of answer) ≡ output_of json opening (answer_of answer))
json_if_err json opening answer f (Ok form) is same written = rw (is, same) written
json_if_err json opening answer f (Err e) is same written = tt
