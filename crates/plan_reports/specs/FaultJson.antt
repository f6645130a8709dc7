-- The JSON of a fault: its code, its values, and the sentence that says what is wrong and what to do. (docs/formats.md,
-- "JSON"; this project's own)
use Rattle.std.specs.Prelude.{ℕ, Bool, true, false, ◌||◌, List, [], ◌∷◌, ◌++◌, codes, drop, get_or}
use Rattle.std.specs.Str.{bytes_eq}
use Rattle.json.specs.Json as json
use Rattle.json.specs.Json.{Json}
use Rattle.report_entries.specs.EntryJson.{form_members, string_members}
use Rattle.report_entries.specs.JsonScalars.{scalar_json}
use Rattle.report_entries.specs.JsonTrees.{Member, array_of, object_of}
use Rattle.report_entries.specs.Shown.{printable}

-- the first word of a half's key
abbrev pub names_half : List ℕ → Bool
names_half word = bytes_eq word (codes "lower") || bytes_eq word (codes "upper")

-- the words of a key are strings, since its bank and its page are hexadecimal
unfoldable pub value_json : Bool → List ℕ → Json
value_json true word = json.string (printable word)
value_json false word = scalar_json (printable word)

-- a key is the last of the values
abbrev pub values_from : Bool → List (List ℕ) → List Json
values_from in_key [] = []
values_from in_key (word ∷ more) =
    value_json (in_key || names_half word) word ∷ values_from (in_key || names_half word) more

unfoldable pub values_json : List (List ℕ) → Json
values_json values = array_of (values_from false values)

-- of the words of a fault the first is its code
unfoldable pub code_members : List (List ℕ) → List Member
code_members words = string_members (codes "code") (printable (get_or words 0 []))

unfoldable pub values_members : List (List ℕ) → List Member
values_members words = (codes "values", values_json (drop 1 words)) ∷ []

unfoldable pub sentence_members : List ℕ → List Member
sentence_members sentence = string_members (codes "sentence") sentence

unfoldable pub reason_json : List (List ℕ) → List ℕ → Json
reason_json words sentence = object_of (code_members words ++ (values_members words ++ sentence_members sentence))

-- such an object under a key
unfoldable pub reason_members : List ℕ → List (List ℕ) → List ℕ → List Member
reason_members key words sentence = (key, reason_json words sentence) ∷ []

unfoldable pub fault_members : List (List ℕ) → List ℕ → List Member
fault_members words sentence = reason_members (codes "fault") words sentence

abbrev pub fault_json : List (List ℕ) → List ℕ → Json
fault_json words sentence = object_of (form_members ++ fault_members words sentence)
