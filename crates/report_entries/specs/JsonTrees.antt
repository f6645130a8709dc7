-- Trees of JSON by lists: of the values of an array, and of the keys and values of an object; and their tokens, one after
-- another. (RFC 8259, sections 4 and 5; this project's own)
use Rattle.std.specs.Prelude.{ℕ, List, [], ◌∷◌}
use Rattle.std.specs.List.{flat_map}
use Rattle.json.specs.Json as json
use Rattle.json.specs.Json.{Json, Items, no_items, item, Members, no_members, member}
use Rattle.json.specs.Token.{Token, key}
use Rattle.json.specs.Tree.{json_tokens}

-- a key and its value
abbrev pub Member : Type 0
Member = List ℕ × Json

abbrev pub members_of : List Member → Members
members_of [] = no_members
members_of (m ∷ more) = member m.0 m.1 (members_of more)

abbrev pub items_of : List Json → Items
items_of [] = no_items
items_of (j ∷ more) = item j (items_of more)

abbrev pub object_of : List Member → Json
object_of members = json.object (members_of members)

abbrev pub array_of : List Json → Json
array_of values = json.array (items_of values)

-- ---- tokens

abbrev pub member_tokens : Member → List Token
member_tokens m = key m.0 ∷ json_tokens m.1

abbrev pub all_member_tokens : List Member → List Token
all_member_tokens members = flat_map member_tokens members

abbrev pub all_tokens : List Json → List Token
all_tokens values = flat_map json_tokens values
