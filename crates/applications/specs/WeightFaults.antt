-- Why a text lists no weights, and what reading one answers. (docs/formats.md, "Weights"; this project's own)
use Rattle.std.specs.Prelude.{◌≡◌, ℕ, Bool, true, false, not, ◌&&◌, ◌||◌, List, [], ◌∷◌, Option, Some, None, is_none, is_some, Result, Ok, Err}
use Rattle.std.specs.List.{list_any}
use Rattle.std.specs.Option.{option_map_or, option_and_then, option_or}
use Rattle.std.specs.Str.{bytes_eq, is_utf8}
use Rattle.toml.specs.Data.{Members}
use Rattle.toml.specs.Errors.{IsBlank}
use Rattle.field_tables.specs.FirstFault.{first_fault}
use Rattle.applications.specs.declared.weights.fault.WeightsFault.{WeightsFault}
use Rattle.applications.specs.declared.weights.fault.WeightsFault.TheVariants.{Memory, NotToml, NoHostTable, OtherKey, BadKey, SameKeyTwice, BadWeight}
use Rattle.applications.specs.declared.weights.table.WeightTable.{WeightTable}
use Rattle.applications.specs.declared.weights.table.WeightTable.TheVariants.{Host, Media, App}
use Rattle.applications.specs.WeightKeys.{named_by, stay_name, table_name}
use Rattle.applications.specs.Weights.{ListedWeights}
use Rattle.applications.specs.WeightTables.{Member, document_of, is_of, members_in, members_of, number_of, stay_value, table_in, value_in, weight_of_value, weights_in}

-- the name of a table of weights, or of the weight of staying
unfoldable pub is_known : List ℕ → Bool
is_known key =
    bytes_eq key (table_name Host) || bytes_eq key (table_name Media) || bytes_eq key (table_name App) || bytes_eq key stay_name

abbrev pub has_other_key : List Member → Bool
has_other_key members = list_any (λ (member : Member). not (is_known member.0)) members

-- what a document has under a table's name is no table
abbrev pub is_no_table : WeightTable → Members → Bool
is_no_table table document = is_some (value_in table document) && is_none (table_in table document)

-- what a document has as the weight of staying is no weight
abbrev pub is_no_stay : Members → Bool
is_no_stay document = option_map_or (λ value. is_none (weight_of_value value)) (stay_value document) false

-- more than the three tables and the weight of staying
abbrev pub has_more : Members → Bool
has_more document = has_other_key (members_of document) || is_no_table Media document || is_no_table App document || is_no_stay document

-- of a member of a table, if these are listed before it
abbrev pub member_faults : WeightTable → (ℕ → Bool) → Member → List (Bool × WeightsFault)
member_faults table is_listed member =
    (is_none (named_by table member.0), BadKey table)
    ∷ (is_listed (number_of table member), SameKeyTwice table (number_of table member))
    ∷ (is_none (weight_of_value member.1), BadWeight table (number_of table member))
    ∷ []

abbrev pub is_listed : WeightTable → List Member → ℕ → Bool
is_listed table members number = list_any (is_of table number) members

-- the first of members that follow these, of which the newest stands first
abbrev pub fault_after : WeightTable → List Member → List Member → Option WeightsFault
fault_after table before [] = None
fault_after table before (member ∷ rest) =
    option_or (first_fault (member_faults table (is_listed table before) member)) (fault_after table (member ∷ before) rest)

abbrev pub fault_in : WeightTable → Option Members → Option WeightsFault
fault_in table document = fault_after table [] (members_in table document)

-- of the document as a whole
abbrev pub document_faults : Option Members → List (Bool × WeightsFault)
document_faults document =
    (is_none document, NotToml)
    ∷ (is_none (option_and_then (table_in Host) document), NoHostTable)
    ∷ (option_map_or has_more document false, OtherKey)
    ∷ []

unfoldable pub weights_fault : Option Members → Option WeightsFault
weights_fault document =
    option_or (first_fault (document_faults document))
    (option_or (fault_in Host document) (option_or (fault_in Media document) (fault_in App document)))

abbrev pub is_memory : WeightsFault → Bool
is_memory Memory = true
is_memory fault = false

-- what reading members or tables answers: their first fault, which is never that memory is wanting, or else this value
abbrev pub AnswersWith : {A : Type 0} → Option WeightsFault → A → Result A WeightsFault → Type 0
AnswersWith fault value (Ok read) = (fault ≡ None) × (read ≡ value)
AnswersWith fault value (Err found) = (fault ≡ Some found) × (is_memory found ≡ false)

-- what reading a text may answer: memory may be wanting, unless the text isn't UTF-8 or has only white space and comments
abbrev pub IsAnswer : List ℕ → Result ListedWeights WeightsFault → Type 0
IsAnswer text (Ok weights) = (weights_fault (document_of text) ≡ None) × (weights ≡ weights_in (document_of text))
IsAnswer text (Err Memory) = (is_utf8 text ≡ true) × ¬ IsBlank text
IsAnswer text (Err fault) = weights_fault (document_of text) ≡ Some fault

-- whether the keys of the tables were judged
abbrev pub judges_keys : Result ListedWeights WeightsFault → Bool
judges_keys (Ok weights) = true
judges_keys (Err (BadKey table)) = true
judges_keys (Err (SameKeyTwice table number)) = true
judges_keys (Err (BadWeight table number)) = true
judges_keys (Err fault) = false
