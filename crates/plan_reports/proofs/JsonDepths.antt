-- How deep the trees of plans, verdicts, faults and procedures nest.
use Rattle.std.proofs.Common.{ℕ, Bool, true, false, List, [], ◌∷◌, ◌++◌, ◌≤◌, ◌||◌, if◌then◌else◌, Option, Some, None, codes, drop, arith}
use Rattle.std.specs.List.{range_with_len}
use Rattle.json.specs.Json as json
use Rattle.json.specs.Json.{max_depth}
use Rattle.json.specs.Tree.{depth, items_depth, members_depth}
use Rattle.json.specs.Word.{after_number}
use Rattle.bus_model.specs.declared.operation.Op.{Op}
use Rattle.bus_model.specs.declared.operation.Op.TheVariants.{Fetch, Store}
use Rattle.bus_model.specs.declared.operation.Reply.{Reply}
use Rattle.bus_model.specs.declared.operation.Reply.TheVariants.{Bytes, Done, Refused}
use Rattle.bus_model.specs.declared.operation.Step.{Step}
use Rattle.applications.specs.Advertised.{Advertised}
use Rattle.applications.specs.AppWeights.{PathWeights}
use Rattle.control_sets.specs.ControlBytes.{control_bytes}
use Rattle.plan_certificate.specs.declared.path.Path.{Path}
use Rattle.plan_certificate.specs.Paths.{app_of}
use Rattle.plan_certificate.specs.Plans.{plan_weight}
use Rattle.report_entries.specs.EntryJson.{count_json, count_members, form_members, string_members}
use Rattle.plan_reports.specs.FaultJson.{code_members, fault_members, names_half, reason_json, reason_members, sentence_members, value_json, values_from, values_json, values_members}
use Rattle.report_entries.specs.JsonScalars.{is_read, scalar_json}
use Rattle.report_entries.specs.JsonTrees.{Member, items_of, members_of, object_of}
use Rattle.plan_reports.specs.PlanJson.{control_members, host_run_members, kept_members, media_run_members, numbers_json, numbers_members, path_json, paths_json, paths_members, plan_members, weight_members}
use Rattle.plan_reports.specs.ProcedureJson.{active_members, answer_members, kind_members, op_members, operations_members, outcome_fault_members, outcome_members, place_members, reply_members, step_json, steps_json, steps_members, taken_members}
use Rattle.report_entries.specs.Shown.{printable}
use Rattle.plan_reports.specs.VerdictJson.{boolean_members, first_members, good_members, why_members}
use Rattle.plan_reports.specs.declared.json_procedure.Outcome.{Outcome}
use Rattle.report_entries.proofs.JsonTokens.{all_deep, count_depth, deep, form_depth}

-- after the version of the form
pub document_depth : (members : List Member) → members_depth (members_of members) ≤ 8 → depth (object_of (form_members ++ members)) ≤ max_depth
document_depth members shallow = omega (arith, deep form_members members 8 (omega (arith, form_depth)) shallow)

-- ---- plans

number_depth : (n : ℕ) → depth (count_json n) ≤ 0
number_depth n = omega arith

numbers_depth : (numbers : List ℕ) → depth (numbers_json numbers) ≤ 1
unfolding numbers_json
numbers_depth numbers = omega (arith, all_deep count_json 0 number_depth numbers)

pub keyed_depth : (key numbers : List ℕ) → members_depth (members_of (numbers_members key numbers)) ≤ 1
unfolding numbers_members
keyed_depth key numbers = omega (arith, numbers_depth numbers)

path_depth : (advert : Advertised) (path : Path) → depth (path_json advert path) ≤ 2
unfolding path_json host_run_members media_run_members
path_depth advert path =
    let app = app_of advert path in
    let host = keyed_depth (codes "host_lane_numbers") (range_with_len path.host app.host_lanes) in
    let media = keyed_depth (codes "media_lane_numbers") (range_with_len path.media app.media_lanes) in
    let lanes = deep (host_run_members advert path) (media_run_members advert path) 1 host media in
    let number = count_depth (codes "app_number") path.app in
    omega (arith, deep (count_members (codes "app_number") path.app) (host_run_members advert path ++ media_run_members advert path) 1 (omega (arith, number)) lanes)

paths_depth : (key : List ℕ) (advert : Advertised) (paths : List Path) → members_depth (members_of (paths_members key advert paths)) ≤ 3
unfolding paths_members paths_json
paths_depth key advert paths = omega (arith, all_deep (path_json advert) 2 (path_depth advert) paths)

pub plan_depth : (advert : Advertised) (weights : PathWeights) (kept paths : List Path) → members_depth (members_of (plan_members advert weights kept paths)) ≤ 8
unfolding plan_members weight_members kept_members control_members
plan_depth advert weights kept paths =
    let control = keyed_depth (codes "control_bytes") (control_bytes advert paths) in
    let all = deep (paths_members (codes "paths") advert paths) (control_members advert paths) 8 (omega (arith, paths_depth (codes "paths") advert paths)) (omega (arith, control)) in
    let further = deep (kept_members advert kept) (paths_members (codes "paths") advert paths ++ control_members advert paths) 8
    (omega (arith, paths_depth (codes "kept_paths") advert kept)) all in
    let weight = count_depth (codes "weight") (plan_weight weights paths) in
    deep (weight_members (plan_weight weights paths))
    (kept_members advert kept ++ (paths_members (codes "paths") advert paths ++ control_members advert paths)) 8 (omega (arith, weight)) further

-- ---- faults

read_depth : (b : Bool) (text : List ℕ) → depth (if b then json.number text else json.string text) ≤ 0
read_depth true text = omega arith
read_depth false text = omega arith

value_depth : (in_key : Bool) (word : List ℕ) → depth (value_json in_key word) ≤ 0
unfolding value_json scalar_json
value_depth true word = omega arith
value_depth false word = read_depth (is_read (after_number (printable word))) (printable word)

values_depth : (in_key : Bool) (words : List (List ℕ)) → items_depth (items_of (values_from in_key words)) ≤ 0
values_depth in_key [] = omega arith
values_depth in_key (word ∷ more) =
    omega (arith, value_depth (in_key || names_half word) word, values_depth (in_key || names_half word) more)

text_depth : (key text : List ℕ) → members_depth (members_of (string_members key text)) ≤ 0
unfolding string_members
text_depth key text = omega arith

reason_depth : (key : List ℕ) (words : List (List ℕ)) (sentence : List ℕ) → members_depth (members_of (reason_members key words sentence)) ≤ 2
unfolding reason_members reason_json code_members values_members values_json sentence_members string_members
reason_depth key words sentence = omega (arith, values_depth false (drop 1 words))

pub fault_depth : (words : List (List ℕ)) (sentence : List ℕ) → members_depth (members_of (fault_members words sentence)) ≤ 8
unfolding fault_members
fault_depth words sentence = omega (arith, reason_depth (codes "fault") words sentence)

-- ---- verdicts

said_depth : (is_good : Bool) → members_depth (members_of (good_members is_good)) ≤ 8
unfolding good_members boolean_members
said_depth is_good = omega arith

first_depth : (first : Option Bool) → members_depth (members_of (first_members first)) ≤ 8
unfolding boolean_members
first_depth None = omega arith
first_depth (Some is_first) = omega arith

pub good_depth : (first : Option Bool) (advert : Advertised) (weights : PathWeights) (kept paths : List Path) → members_depth (members_of (good_members true ++ (first_members first ++ plan_members advert weights kept paths))) ≤ 8
good_depth first advert weights kept paths =
    let plan = deep (first_members first) (plan_members advert weights kept paths) 8 (first_depth first) (plan_depth advert weights kept paths) in
    deep (good_members true) (first_members first ++ plan_members advert weights kept paths) 8 (said_depth true) plan

pub bad_depth : (words : List (List ℕ)) (sentence : List ℕ) → members_depth (members_of (good_members false ++ why_members words sentence)) ≤ 8
unfolding why_members
bad_depth words sentence =
    deep (good_members false) (why_members words sentence) 8 (said_depth false) (omega (arith, reason_depth (codes "reason") words sentence))

-- ---- procedures

op_depth : (op : Op) → members_depth (members_of (op_members op)) ≤ 1
unfolding op_members kind_members place_members string_members count_members
op_depth (Fetch dev offset count) = omega arith
op_depth (Store dev offset bytes) = omega (arith, keyed_depth (codes "stored") bytes.items)

reply_depth : (reply : Reply) → members_depth (members_of (reply_members reply)) ≤ 1
unfolding reply_members answer_members string_members
reply_depth (Bytes bytes) = omega (arith, keyed_depth (codes "read") bytes.items)
reply_depth Done = omega arith
reply_depth Refused = omega arith

step_depth : (step : Step) → depth (step_json step) ≤ 2
unfolding step_json
step_depth step = omega (arith, deep (op_members step.op) (reply_members step.reply) 1 (op_depth step.op) (reply_depth step.reply))

operations_depth : (traced : Bool) (steps : List Step) → members_depth (members_of (operations_members traced steps)) ≤ 8
unfolding steps_members steps_json
operations_depth false steps = omega arith
operations_depth true steps = omega (arith, all_deep step_json 2 step_depth steps)

taken_depth : (key : List ℕ) (taken : Option ℕ) → members_depth (members_of (taken_members key taken)) ≤ 8
taken_depth key None = omega arith
taken_depth key (Some steps) = omega (arith, count_depth key steps)

active_depth : (active : Option (List ℕ)) → members_depth (members_of (active_members active)) ≤ 8
active_depth None = omega arith
active_depth (Some bytes) = omega (arith, keyed_depth (codes "active_bytes") bytes)

outcome_fault_depth : (fault : List (List ℕ)) (sentence : List ℕ) → members_depth (members_of (outcome_fault_members fault sentence)) ≤ 8
outcome_fault_depth [] sentence = omega arith
outcome_fault_depth (code ∷ values) sentence = fault_depth (code ∷ values) sentence

outcome_depth : (o : Outcome) → members_depth (members_of (outcome_members o)) ≤ 8
unfolding outcome_members
outcome_depth o =
    let woken = taken_members (codes "woken_steps") o.woken in
    let provisioned = taken_members (codes "provisioned_steps") o.provisioned in
    let activated = taken_members (codes "activated_steps") o.activated in
    let active = active_members o.active in
    let further = deep activated active 8 (taken_depth (codes "activated_steps") o.activated) (active_depth o.active) in
    let made = deep provisioned (activated ++ active) 8 (taken_depth (codes "provisioned_steps") o.provisioned) further in
    deep woken (provisioned ++ (activated ++ active)) 8 (taken_depth (codes "woken_steps") o.woken) made

pub procedure_depth : (traced : Bool) (steps : List Step) (o : Outcome) (fault : List (List ℕ)) (sentence : List ℕ) → members_depth (members_of (operations_members traced steps ++ (outcome_members o ++ outcome_fault_members fault sentence))) ≤ 8
procedure_depth traced steps o fault sentence =
    let ended = deep (outcome_members o) (outcome_fault_members fault sentence) 8 (outcome_depth o) (outcome_fault_depth fault sentence) in
    deep (operations_members traced steps) (outcome_members o ++ outcome_fault_members fault sentence) 8 (operations_depth traced steps) ended
