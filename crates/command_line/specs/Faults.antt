-- What stands in place of an answer's text: a line of a word, a code and its values, and how the program then ends.
-- (docs/formats.md, "Faults"; this project's own)
use Rattle.std.specs.Prelude.{ℕ, List, [], ◌∷◌, ◌++◌, codes}
use Rattle.std.specs.Fmt.{decimal}
use Rattle.text_lines.specs.Words.{spaced}
use Rattle.paged_memory.specs.FaultWords.{image_fault_words}
use Rattle.bus_model.specs.FaultWords.{script_fault_words}
use Rattle.applications.specs.FaultWords.{advert_fault_words, weights_fault_words}
use Rattle.applications.specs.declared.weights.fault.WeightsFault.{WeightsFault}
use Rattle.applications.specs.declared.weights.fault.WeightsFault.TheVariants as weights
use Rattle.plan_certificate.specs.FaultWords.{certificate_fault_words, kept_fault_words, reason_words}
use Rattle.control_sets.specs.FaultWords.{provision_fault_words}
use Rattle.sim_module.specs.FaultWords.{sim_fault_words}
use Rattle.reports.specs.FaultWords.{report_fault_words}
use Rattle.reports.specs.declared.fault.ReportFault.{ReportFault}
use Rattle.reports.specs.declared.fault.ReportFault.TheVariants as report
use Rattle.command_line.specs.declared.fault.Fault.{Fault}
use Rattle.command_line.specs.declared.fault.Fault.TheVariants.{Memory, Io, TooLong, Parts, Image, Report, Advert, Weights, Kept, Certificate, Bad, Script, Module, Provision}
use Rattle.command_line.specs.declared.reported_fault.ReportedFault.{ReportedFault}
use Rattle.command_line.specs.declared.reported_fault.ReportedFault.TheVariants.{Procedure, Metrics}
use Rattle.command_line.specs.declared.status.Status.{Status}
use Rattle.command_line.specs.declared.status.Status.TheVariants as status

-- the code and the values
abbrev pub fault_words : Fault → List (List ℕ)
fault_words Memory = codes "memory" ∷ []
fault_words Io = codes "IO" ∷ []
fault_words TooLong = codes "PT2" ∷ []
fault_words (Parts n) = codes "PT1" ∷ decimal n ∷ []
fault_words (Image f) = image_fault_words f
fault_words (Report f) = report_fault_words f
fault_words (Advert f) = advert_fault_words f
fault_words (Weights f) = weights_fault_words f
fault_words (Kept f) = kept_fault_words f
fault_words (Certificate f) = certificate_fault_words f
fault_words (Bad reason n) = reason_words reason ++ decimal n ∷ []
fault_words (Script f) = script_fault_words f
fault_words (Module f) = sim_fault_words f
fault_words (Provision f) = provision_fault_words f

-- the word that begins the line
abbrev pub word_of : Fault → List ℕ
word_of (Bad reason n) = codes "bad"
word_of _ = codes "fault"

-- the line that the program writes
abbrev pub fault_line : Fault → List ℕ
fault_line f = spaced (word_of f ∷ fault_words f) ++ 10 ∷ []

-- how the program ends
abbrev pub status_of : Fault → Status
status_of Memory = status.Memory
status_of Io = status.ReadOrWrite
status_of (Bad reason n) = status.BadCertificate
status_of (Provision f) = status.NotProvisioned
status_of _ = status.Refused

-- a report's `Memory` is the program's
abbrev pub fault_of_report : ReportFault → Fault
fault_of_report report.Memory = Memory
fault_of_report f = Report f

abbrev pub fault_of_weights : WeightsFault → Fault
fault_of_weights weights.Memory = Memory
fault_of_weights f = Weights f

-- the fault that a text tells of, as an answer alone
abbrev pub fault_of_reported : ReportedFault → Fault
fault_of_reported (Procedure f inactive) = Provision f
fault_of_reported (Metrics f) = fault_of_report f
