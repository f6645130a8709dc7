-- The JSON of a verdict on a certificate: that it is good, and its plan, or that it is bad, and why. (docs/formats.md,
-- "JSON"; this project's own)
use Rattle.std.specs.Prelude.{ℕ, Bool, true, false, List, [], ◌∷◌, ◌++◌, codes, Option, Some, None}
use Rattle.json.specs.Json as json
use Rattle.json.specs.Json.{Json}
use Rattle.applications.specs.Advertised.{Advertised}
use Rattle.applications.specs.AppWeights.{PathWeights}
use Rattle.plan_certificate.specs.declared.path.Path.{Path}
use Rattle.report_entries.specs.EntryJson.{form_members}
use Rattle.plan_reports.specs.FaultJson.{reason_members}
use Rattle.report_entries.specs.JsonTrees.{Member, object_of}
use Rattle.plan_reports.specs.PlanJson.{plan_members}

unfoldable pub boolean_members : List ℕ → Bool → List Member
boolean_members key value = (key, json.boolean value) ∷ []

unfoldable pub good_members : Bool → List Member
good_members is_good = boolean_members (codes "good") is_good

-- whether the plan is the first of the best, if that is asked for
abbrev pub first_members : Option Bool → List Member
first_members None = []
first_members (Some is_first) = boolean_members (codes "first") is_first

abbrev pub good_json : Option Bool → Advertised → PathWeights → List Path → List Path → Json
good_json first advert weights kept paths =
    object_of (form_members ++ (good_members true ++ (first_members first ++ plan_members advert weights kept paths)))

unfoldable pub why_members : List (List ℕ) → List ℕ → List Member
why_members words sentence = reason_members (codes "reason") words sentence

abbrev pub bad_json : List (List ℕ) → List ℕ → Json
bad_json words sentence = object_of (form_members ++ (good_members false ++ why_members words sentence))
