-- The keys of a table and those of the members that it stands for.
use Rattle.std.proofs.Common.{◌≡◌, Bool, not, ◌||◌, List, [], ◌∷◌, Some, String, Global, Less, map, nat_cmp, string_bytes, refl, ap}
use Rattle.std.specs.Cmp.Lexicographic.{slice_cmp}
use Rattle.std.specs.List.{AllByRecursion, list_any}
use Rattle.std.specs.List.Sorted.{IsStrictlySortedBy}
use Rattle.std.specs.Map.{keys_of}
use Rattle.std.specs.String.{string_cmp}
use Rattle.toml.specs.Data.{Members}
use Rattle.toml.specs.View.{members_view}
use Rattle.toml.specs.declared.value.Value.{Value}
use Rattle.applications.specs.declared.weights.table.WeightTable.{WeightTable}
use Rattle.applications.specs.declared.weights.table.WeightTable.TheVariants.{Host, Media, App}
use Rattle.applications.specs.WeightTables.{KeysRise, Member, members_in, members_of}
use Rattle.applications.specs.WeightFaults.{has_other_key, is_known}

pub other_key_view : (entries : List (String Global × Value)) → has_other_key (members_of (members_view entries)) ≡ list_any (λ key. not (is_known (string_bytes key))) (keys_of entries)
other_key_view [] = refl
other_key_view (entry ∷ entries) = ap (λ (b : Bool). not (is_known (string_bytes entry.0)) || b) (other_key_view entries)

pub rise_none : KeysRise []
unfolding IsStrictlySortedBy
rise_none = tt

-- keys that rise in a map rise among its members
all_below : (key : String Global) (entries : List (String Global × Value)) → AllByRecursion (λ y. string_cmp key y ≡ Less) (keys_of entries)
    → AllByRecursion (λ y. slice_cmp nat_cmp (string_bytes key) y ≡ Less) (map (λ (member : Member). member.0) (members_of (members_view entries)))
all_below key [] below = tt
all_below key (entry ∷ entries) below = (below.0, all_below key entries below.1)

pub rise_view : (entries : List (String Global × Value)) → IsStrictlySortedBy string_cmp (keys_of entries) → KeysRise (members_of (members_view entries))
unfolding IsStrictlySortedBy
rise_view [] rise = tt
rise_view (entry ∷ entries) rise = (all_below entry.0 entries rise.0, rise_view entries rise.1)

-- what holds of each table's members holds of any table's
pub each_table : (document : Members) → KeysRise (members_in Host (Some document)) → KeysRise (members_in Media (Some document)) → KeysRise (members_in App (Some document))
    → (table : WeightTable) → KeysRise (members_in table (Some document))
each_table document host media app Host = host
each_table document host media app Media = media
each_table document host media app App = app
