-- What a report answers: its fault if there is one, and else its entries, if there is memory for them: as they are, as text or as
-- JSON. (docs/formats.md, "Reports" and "JSON"; this project's own)
use Rattle.std.specs.Prelude.{◌≡◌, ℕ, Bool, List, MatchOption, Option, Result, Ok, Err, Vec}
use Rattle.std.specs.Result.{result_map_both}
use Rattle.std.specs.declared.alloc.Global.{Global}
use Rattle.text_lines.specs.Lines.{text_of}
use Rattle.report_entries.specs.declared.entry.Entry as rust
use Rattle.report_entries.specs.declared.flag.Flag.{Flag}
use Rattle.report_entries.specs.Entries.{Entry, as_entries}
use Rattle.report_entries.specs.EntryJson.{IsJsonText, report_json}
use Rattle.reports.specs.declared.fault.ReportFault.{ReportFault}
use Rattle.reports.specs.declared.fault.ReportFault.TheVariants.{Memory}

-- P holds of what is answered, if there is memory for it
abbrev pub IfMemory : {A : Type 0} → (A → Type 0) → Result A ReportFault → Type 0
IfMemory P (Ok answer) = P answer
IfMemory P (Err fault) = fault ≡ Memory

-- this fault if there is one, else these entries
abbrev pub AreEntries : Option ReportFault → List Entry → Result (Vec rust.Entry Global) ReportFault → Type 0
AreEntries refused entries result = MatchOption refused (IfMemory (λ (found : Vec rust.Entry Global). as_entries found ≡ entries) result) (λ fault. result ≡ Err fault)

-- this fault if there is one, else these flags, each with whether it is raised
abbrev pub AreFlags : Option ReportFault → List (Flag × Bool) → Result (Vec (Flag × Bool) Global) ReportFault → Type 0
AreFlags refused flags result = MatchOption refused (IfMemory (λ (each_flag : Vec (Flag × Bool) Global). each_flag.items ≡ flags) result) (λ fault. result ≡ Err fault)

-- this fault if there is one, else the text of these lines
abbrev pub Reports : Option ReportFault → List (List ℕ) → Result (Vec ℕ Global) ReportFault → Type 0
Reports refused lines result =
    MatchOption refused (IfMemory (λ (text : List ℕ). text ≡ text_of lines) (result_map_both (λ text. text.items) (λ fault. fault) result)) (λ fault. result ≡ Err fault)

-- this fault if there is one, else the JSON of these entries
abbrev pub ReportsJson : Option ReportFault → List Entry → Result (Vec ℕ Global) ReportFault → Type 0
ReportsJson refused entries result =
    MatchOption refused (IfMemory (IsJsonText (report_json entries)) (result_map_both (λ written. written.items) (λ fault. fault) result)) (λ fault. result ≡ Err fault)
