-- What is written of a fault: its line, or, if JSON is asked for, its code, its values and its sentence as JSON. (docs/formats.md,
-- "Faults" and "JSON"; this project's own)
use Rattle.std.specs.Prelude.{ℕ, Bool, true, false, is_some, List, ◌++◌, codes}
use Rattle.notices.specs.Sentences.{row_by_code}
use Rattle.json.specs.Json.{Json}
use Rattle.report_entries.specs.EntryJson.{json_text}
use Rattle.plan_reports.specs.FaultJson.{fault_json}
use Rattle.plan_reports.specs.VerdictJson.{bad_json}
use Rattle.command_line.specs.Faults.{fault_line, fault_words}
use Rattle.command_line.specs.Places.{first_word}
use Rattle.command_line.specs.Remarks.{sentence_key, sentence_of}
use Rattle.command_line.specs.declared.fault.Fault.{Fault}
use Rattle.command_line.specs.declared.fault.Fault.TheVariants.{Memory, Io, TooLong, Bad}
use Rattle.command_line.specs.declared.remark.opening.Opening.{Opening}
use Rattle.command_line.specs.declared.remark.opening.Opening.TheVariants.{Other}

-- what a person reads of it, by how the input begins
abbrev pub fault_sentence : Fault → Opening → List ℕ
fault_sentence fault opening = sentence_of (sentence_key fault opening)

-- there is one
abbrev pub has_sentence : Fault → Opening → Bool
has_sentence fault opening = is_some (row_by_code (sentence_key fault opening))

-- a bad certificate has a verdict
abbrev pub fault_tree : Fault → Opening → Json
fault_tree (Bad reason number) opening = bad_json (fault_words (Bad reason number)) (fault_sentence (Bad reason number) opening)
fault_tree fault opening = fault_json (fault_words fault) (fault_sentence fault opening)

-- as JSON, or as its line
abbrev pub fault_text : Bool → Fault → Opening → List ℕ
fault_text true fault opening = json_text (fault_tree fault opening)
fault_text false fault opening = fault_line fault

-- the faults of reading an input, and out of memory: they have no values
abbrev pub is_of_reading : Fault → Bool
is_of_reading Memory = true
is_of_reading Io = true
is_of_reading TooLong = true
is_of_reading _ = false

-- the lines of the JSON of such a one, around its code and its sentence
unfoldable pub before_code : List ℕ
before_code = codes "{\n  \"dovecounter\": 1,\n  \"fault\": {\n    \"code\": \""

unfoldable pub after_code : List ℕ
after_code = codes "\",\n    \"values\": [],\n    \"sentence\": \""

unfoldable pub after_sentence : List ℕ
after_sentence = codes "\"\n  }\n}\n"

abbrev pub reading_fault_text : Fault → List ℕ
reading_fault_text fault = before_code ++ first_word (fault_words fault) ++ after_code ++ fault_sentence fault Other ++ after_sentence
