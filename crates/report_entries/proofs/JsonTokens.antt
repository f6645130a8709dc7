-- The tokens of lists of values and members are those of their trees, and the text of a report's tree reads back as it.
use Rattle.std.proofs.Common.{◌≡◌, ℕ, ℤ, Bool, true, false, if◌then◌else◌, List, [], ◌∷◌, ◌++◌, ◌≤◌, Option, None, Some, map, codes, option_and_then, refl, sym, ap, ◌∙◌, append_assoc, append-nil, arith}
use Rattle.field_tables.specs.declared.readings.PerLimit.{PerLimit}
use Rattle.applications.specs.declared.app.App.{App}
use Rattle.json.specs.Token.{key, end_array, end_object}
use Rattle.json.specs.Json.{Json, document, if_last, max_depth, value, number as number_of}
use Rattle.json.specs.Lex.{tokens}
use Rattle.json.specs.Tree.{depth, items_depth, json_tokens, items_tokens, members_depth, members_tokens}
use Rattle.json.proofs.Printed.Trees.{value-json_tokens}
use Rattle.report_entries.specs.Entries.{Entry, Content, word, right, number, code, revision, text, oui, amount, lanes, limits, state, lane_states, flags, apps, lane_set, fact}
use Rattle.json.specs.Word.{after_number}
use Rattle.report_entries.specs.FactText.{level_text, milliwatts_text}
use Rattle.report_entries.specs.Facts as facts
use Rattle.report_entries.specs.Facts.{Fact}
use Rattle.report_entries.specs.JsonScalars.{is_read, scalar_json}
use Rattle.report_entries.specs.declared.fact.Place.{Place}
use Rattle.report_entries.specs.EntryJson.{alarm_members, amount_json, amount_members, amounts_json, app_json, apps_json, config_status_members, coded_members, config_status_name, count_members, entries_members, fact_key, fact_key_in, fact_members, flag_json, flags_json, form_members, key_in, kind_members, lane_members, lane_state_json, lane_states_json, lanes_members, limits_json, module_state_name, name_members, names_json, string_json, path_state_members, path_state_name, report_json, content_members, snake, starts_members, state_members, string_members, usable_members, warning_members}
use Rattle.report_entries.specs.JsonTrees.{Member, all_member_tokens, all_tokens, items_of, members_of}
use Rattle.report_entries.specs.declared.entry.LaneState.{LaneState}
use Rattle.report_entries.specs.declared.flag.Flag.{Flag}

pub of_items : (values : List Json) → all_tokens values ++ end_array ∷ [] ≡ items_tokens (items_of values)
of_items [] = refl
of_items (j ∷ more) =
    append_assoc (json_tokens j) (all_tokens more) (end_array ∷ []) ∙ ap (λ ts. json_tokens j ++ ts) (of_items more)

pub of_members : (members : List Member) → all_member_tokens members ++ end_object ∷ [] ≡ members_tokens (members_of members)
of_members [] = refl
of_members (m ∷ more) =
    ap (λ ts. key m.0 ∷ ts)
    (append_assoc (json_tokens m.1) (all_member_tokens more) (end_object ∷ [])
    ∙ ap (λ ts. json_tokens m.1 ++ ts) (of_members more))

-- ---- how deep they nest

-- the members of two lists, no deeper than both
pub deep : (ms ns : List Member) (d : ℕ) → members_depth (members_of ms) ≤ d → members_depth (members_of ns) ≤ d → members_depth (members_of (ms ++ ns)) ≤ d
deep [] ns d first second = second
deep (m ∷ ms) ns d first second = omega (arith, deep ms ns d (omega arith) second)

name_depth : (k : List ℕ) (name : Option (List ℕ)) → members_depth (members_of (name_members k name)) ≤ 0
unfolding string_members
name_depth k None = omega arith
name_depth k (Some n) = omega arith

pub count_depth : (k : List ℕ) (n : ℕ) → members_depth (members_of (count_members k n)) ≤ 0
unfolding count_members
count_depth k n = omega arith

state_depth : (name : List ℕ) (n : ℕ) → members_depth (members_of (state_members name n)) ≤ 0
unfolding state_members
state_depth name n = deep (count_members (snake name) n) (name_members (key_in name (codes "name")) (module_state_name n)) 0 (count_depth (snake name) n) (name_depth (key_in name (codes "name")) (module_state_name n))

path_depth : (n : ℕ) → members_depth (members_of (path_state_members n)) ≤ 0
unfolding path_state_members
path_depth n = deep (count_members (codes "path_state") n) (name_members (codes "path_state_name") (path_state_name n)) 0 (count_depth (codes "path_state") n) (name_depth (codes "path_state_name") (path_state_name n))

status_depth : (n : ℕ) → members_depth (members_of (config_status_members n)) ≤ 0
unfolding config_status_members
status_depth n = deep (count_members (codes "config_status") n) (name_members (codes "config_status_name") (config_status_name n)) 0 (count_depth (codes "config_status") n) (name_depth (codes "config_status_name") (config_status_name n))

lane_state_depth : (s : LaneState) → depth (lane_state_json s) ≤ 1
unfolding lane_state_json
lane_state_depth s =
    omega (arith, deep (path_state_members s.path) (config_status_members s.status) 0 (path_depth s.path) (status_depth s.status))

lane_depth : (lane : Option ℕ) → members_depth (members_of (lane_members lane)) ≤ 0
lane_depth None = omega arith
lane_depth (Some n) = count_depth (codes "lane") n

flag_depth : (f : Flag) → depth (flag_json f) ≤ 1
unfolding flag_json string_members
flag_depth f = omega (arith, lane_depth f.lane)

app_depth : (app : App) → depth (app_json app) ≤ 1
unfolding app_json kind_members lanes_members starts_members usable_members count_members
app_depth app = omega arith

-- an array of what nests no deeper
pub all_deep : {A : Type 0} (f : A → Json) (d : ℕ) (one : (x : A) → depth (f x) ≤ d) (xs : List A) → items_depth (items_of (map f xs)) ≤ d
all_deep f d one [] = omega arith
all_deep f d one (x ∷ xs) = omega (arith, one x, all_deep f d one xs)

amount_depth : (z : ℤ) → depth (amount_json z) ≤ 1
amount_depth z = omega arith

limits_depth : (levels : PerLimit ℤ) → depth (limits_json levels) ≤ 1
unfolding limits_json alarm_members warning_members amount_members
limits_depth levels = omega arith

either_depth : (is_number : Bool) (written : List ℕ) → depth (if is_number then number_of written else string_json written) ≤ 1
either_depth true written = omega arith
either_depth false written = omega arith

scalar_depth : (written : List ℕ) → depth (scalar_json written) ≤ 1
unfolding scalar_json
scalar_depth written = either_depth (is_read (after_number written)) written

string_depth : (written : List ℕ) → depth (string_json written) ≤ 1
string_depth written = omega arith

coded_depth : (name : List ℕ) (place : Place) (n : ℕ) (title : Option (List ℕ)) → members_depth (members_of (coded_members name place n title)) ≤ 0
unfolding coded_members
coded_depth name place n title = omega (arith, name_depth (fact_key_in name place (codes "name")) title)

fact_depth : (name : List ℕ) (place : Place) (f : Fact) → members_depth (members_of (fact_members name place f)) ≤ 2
unfolding fact_members names_json
fact_depth name place (facts.word w) = omega arith
fact_depth name place (facts.yes b) = omega arith
fact_depth name place (facts.number n) = omega arith
fact_depth name place (facts.named n title) = omega (arith, coded_depth name place n (Some title))
fact_depth name place (facts.names list) = omega (arith, all_deep string_json 1 string_depth list)
fact_depth name place (facts.revision byte) = omega arith
fact_depth name place (facts.version major minor) = omega arith
fact_depth name place (facts.text bytes) = omega arith
fact_depth name place (facts.oui bytes) = omega arith
fact_depth name place (facts.amount millis unit) = omega arith
fact_depth name place (facts.level power) = omega (arith, scalar_depth (level_text power))
fact_depth name place (facts.milliwatts power) = omega (arith, scalar_depth (milliwatts_text power))
fact_depth name place (facts.lane_set set) = omega arith
fact_depth name place (facts.module_state n) = omega (arith, coded_depth name place n (module_state_name n))
fact_depth name place (facts.path_state n) = omega (arith, coded_depth name place n (path_state_name n))
fact_depth name place (facts.config_status n) = omega (arith, coded_depth name place n (config_status_name n))

content_depth : (name : List ℕ) (content : Content) → members_depth (members_of (content_members name content)) ≤ 2
unfolding content_members amounts_json lane_states_json flags_json apps_json
content_depth name (word w) = omega arith
content_depth name (right is_right) = omega arith
content_depth name (number n) = omega arith
content_depth name (code byte) = omega arith
content_depth name (revision byte) = omega arith
content_depth name (text bytes) = omega arith
content_depth name (oui bytes) = omega arith
content_depth name (amount millis unit) = omega arith
content_depth name (lanes values unit) = omega (arith, all_deep amount_json 1 amount_depth values)
content_depth name (limits levels unit) = omega (arith, limits_depth levels)
content_depth name (state n) = omega (arith, state_depth name n)
content_depth name (lane_states states) = omega (arith, all_deep lane_state_json 1 lane_state_depth states)
content_depth name (flags raised) = omega (arith, all_deep flag_json 1 flag_depth raised)
content_depth name (apps listed) = omega (arith, all_deep app_json 1 app_depth listed)
content_depth name (lane_set set) = omega arith
content_depth name (fact place f) = fact_depth name place f

pub entries_depth : (entries : List Entry) → members_depth (members_of (entries_members entries)) ≤ 2
entries_depth [] = omega arith
entries_depth (e ∷ more) = deep (content_members e.name e.content) (entries_members more) 2 (content_depth e.name e.content) (entries_depth more)

pub form_depth : members_depth (members_of form_members) ≤ 2
unfolding form_members count_members
form_depth = omega arith

report_depth : (entries : List Entry) → depth (report_json entries) ≤ max_depth
report_depth entries = omega (arith, deep form_members (entries_members entries) 2 form_depth (entries_depth entries))

-- ---- reading back

-- a text of the tokens of a value that nests no deeper than the grammar reads is read back as it
pub reads_as : (j : Json) (written : List ℕ) → depth j ≤ max_depth → tokens written ≡ json_tokens j → document written ≡ Some j
reads_as j written shallow is =
    ap (option_and_then (λ p. if_last p.0 p.1))
    (ap (value max_depth) (is ∙ sym (append-nil (json_tokens j))) ∙ value-json_tokens j max_depth [] shallow)

-- so is a report
pub read_back : (entries : List Entry) (written : List ℕ) → tokens written ≡ json_tokens (report_json entries) → document written ≡ Some (report_json entries)
read_back entries written is = reads_as (report_json entries) written (report_depth entries) is
