-- The tables of a document that list weights, and what their members say; and the weight of staying beside them. (docs/formats.md, "Weights"; this project's own)
use Rattle.std.specs.Prelude.{ℕ, ◌^◌, Bool, false, ◌==◌, nat_lt, if◌then◌else◌, List, [], ◌∷◌, find, map, pos, Option, Some, None, unwrap_or, option_and_then}
use Rattle.std.specs.Cmp.Lexicographic.{slice_cmp}
use Rattle.std.specs.List.{range_with_len}
use Rattle.std.specs.List.Sorted.{IsStrictlySortedBy}
use Rattle.std.specs.Option.{option_map_or}
use Rattle.std.specs.Ordering.{nat_cmp}
use Rattle.std.specs.Str.{is_utf8}
use Rattle.toml.specs.Data.{Data, Members, as_table, get_member}
use Rattle.toml.specs.Data as toml
use Rattle.toml.specs.Parse.{parse_document}
use Rattle.applications.specs.declared.weights.table.WeightTable.{WeightTable}
use Rattle.applications.specs.declared.weights.table.WeightTable.TheVariants.{Host, Media, App}
use Rattle.applications.specs.WeightKeys.{named_by, stay_name, table_name}
use Rattle.applications.specs.Weights.{ListedWeights, TableWeights}

-- a key with its value
abbrev pub Member : Type 0
Member = List ℕ × Data

-- the members of a table in order
abbrev pub members_of : Members → List Member
members_of toml.no_members = []
members_of (toml.member key value rest) = (key, value) ∷ members_of rest

-- the document that a text is, as the crate `toml` reads TOML 1.1
unfoldable pub document_of : List ℕ → Option Members
document_of text = if is_utf8 text then parse_document text else None

-- what a document has under a table's name
abbrev pub value_in : WeightTable → Members → Option Data
value_in table document = get_member (table_name table) document

-- that, if it is a table
abbrev pub table_in : WeightTable → Members → Option Members
table_in table document = option_and_then as_table (value_in table document)

-- the members of that table; none if no document has it
abbrev pub members_in : WeightTable → Option Members → List Member
members_in table document = option_map_or members_of (option_and_then (table_in table) document) []

-- the keys stand in byte order, and each once
abbrev pub KeysRise : List Member → Type 0
KeysRise members = IsStrictlySortedBy (slice_cmp nat_cmp) (map (λ (member : Member). member.0) members)

-- what a member names, if its key names something
abbrev pub number_of : WeightTable → Member → ℕ
number_of table member = unwrap_or (named_by table member.0) 0

-- the weight that a value is: a whole number of 32 bits
abbrev pub weight_of_value : Data → Option ℕ
weight_of_value (toml.integer (pos weight)) = if nat_lt weight (2 ^ 32) then Some weight else None
weight_of_value _ = None

-- the weight of a member whose value is one
abbrev pub weight_of : Member → ℕ
weight_of member = unwrap_or (weight_of_value member.1) 0

-- whether the key of a member names this
abbrev pub is_of : WeightTable → ℕ → Member → Bool
is_of table number member = option_map_or (λ named. named == number) (named_by table member.0) false

-- the weight of a number: that of its member; one that isn't listed weighs 0
unfoldable pub weight_in : WeightTable → List Member → ℕ → ℕ
weight_in table members number = option_map_or weight_of (find (is_of table number) members) 0

-- for the numbers from 0 to 255
unfoldable pub weights_of : WeightTable → List Member → TableWeights
weights_of table members = map (weight_in table members) (range_with_len 0 256)

-- what a document has as the weight of staying
abbrev pub stay_value : Members → Option Data
stay_value document = get_member stay_name document

-- that weight; without it, staying weighs 0
abbrev pub stay_in : Members → ℕ
stay_in document = option_map_or (λ value. unwrap_or (weight_of_value value) 0) (stay_value document) 0

-- those of the three tables, and of staying
abbrev pub weights_in : Option Members → ListedWeights
weights_in document = record {
  by_host = weights_of Host (members_in Host document);
  by_media = weights_of Media (members_in Media document);
  by_app = weights_of App (members_in App document);
  stay = option_map_or stay_in document 0;
}
