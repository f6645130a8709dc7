-- The JSON of what waking up, provisioning and activation came to: the operations, if they are shown, the steps of each call that
-- succeeded, the active control bytes, and a fault. (docs/formats.md, "JSON"; this project's own)
use Rattle.std.specs.Prelude.{ℕ, Bool, true, false, List, [], ◌∷◌, ◌++◌, codes, map, Option, Some, None}
use Rattle.json.specs.Json.{Json}
use Rattle.bus_model.specs.DeviceName.{device_name}
use Rattle.bus_model.specs.declared.device.Dev.{Dev}
use Rattle.bus_model.specs.declared.operation.Op.{Op}
use Rattle.bus_model.specs.declared.operation.Op.TheVariants.{Fetch, Store}
use Rattle.bus_model.specs.declared.operation.Reply.{Reply}
use Rattle.bus_model.specs.declared.operation.Reply.TheVariants.{Bytes, Done, Refused}
use Rattle.bus_model.specs.declared.operation.Step.{Step}
use Rattle.report_entries.specs.EntryJson.{count_members, form_members, string_members}
use Rattle.plan_reports.specs.FaultJson.{fault_members}
use Rattle.report_entries.specs.JsonTrees.{Member, array_of, object_of}
use Rattle.plan_reports.specs.PlanJson.{numbers_members}
use Rattle.plan_reports.specs.declared.json_procedure.Outcome.{Outcome}

-- ---- operations

unfoldable pub kind_members : List ℕ → List Member
kind_members kind = string_members (codes "operation") kind

unfoldable pub place_members : Dev → ℕ → List Member
place_members dev offset = string_members (codes "device") (device_name dev) ++ count_members (codes "offset") offset

unfoldable pub op_members : Op → List Member
op_members (Fetch dev offset count) =
    kind_members (codes "fetch") ++ (place_members dev offset ++ count_members (codes "count") count)
op_members (Store dev offset bytes) =
    kind_members (codes "store") ++ (place_members dev offset ++ numbers_members (codes "stored") bytes.items)

unfoldable pub answer_members : List ℕ → List Member
answer_members word = string_members (codes "reply") word

unfoldable pub reply_members : Reply → List Member
reply_members (Bytes bytes) = answer_members (codes "bytes") ++ numbers_members (codes "read") bytes.items
reply_members Done = answer_members (codes "done")
reply_members Refused = answer_members (codes "refused")

unfoldable pub step_json : Step → Json
step_json step = object_of (op_members step.op ++ reply_members step.reply)

unfoldable pub steps_json : List Step → Json
steps_json steps = array_of (map step_json steps)

unfoldable pub steps_members : List ℕ → List Step → List Member
steps_members key steps = (key, steps_json steps) ∷ []

abbrev pub operations_members : Bool → List Step → List Member
operations_members false steps = []
operations_members true steps = steps_members (codes "operations") steps

-- ---- the outcome

abbrev pub taken_members : List ℕ → Option ℕ → List Member
taken_members key None = []
taken_members key (Some steps) = count_members key steps

abbrev pub active_members : Option (List ℕ) → List Member
active_members None = []
active_members (Some bytes) = numbers_members (codes "active_bytes") bytes

unfoldable pub outcome_members : Outcome → List Member
outcome_members o =
    taken_members (codes "woken_steps") o.woken
    ++ (taken_members (codes "provisioned_steps") o.provisioned
    ++ (taken_members (codes "activated_steps") o.activated ++ active_members o.active))

-- a fault, by its words, if there is one
abbrev pub outcome_fault_members : List (List ℕ) → List ℕ → List Member
outcome_fault_members [] sentence = []
outcome_fault_members (code ∷ values) sentence = fault_members (code ∷ values) sentence

-- with the operations or without them
abbrev pub procedure_json : Bool → List Step → Outcome → List (List ℕ) → List ℕ → Json
procedure_json traced steps o fault sentence =
    object_of (form_members
    ++ (operations_members traced steps ++ (outcome_members o ++ outcome_fault_members fault sentence)))
