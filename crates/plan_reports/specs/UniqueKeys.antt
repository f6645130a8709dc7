-- That no object has a key twice, in the JSON of plans, verdicts and faults. (RFC 8259, section 4, "names within an
-- object SHOULD be unique"; docs/formats.md, "JSON"; this project's own)
use Rattle.std.specs.Prelude.{ℕ, Bool, List, Option}
use Rattle.json.specs.Strict.{HasUniqueKeys}
use Rattle.applications.specs.Advertised.{Advertised}
use Rattle.applications.specs.AppWeights.{PathWeights}
use Rattle.plan_certificate.specs.declared.path.Path.{Path}
use Rattle.plan_reports.specs.FaultJson.{fault_json}
use Rattle.plan_reports.specs.PlanJson.{plan_json}
use Rattle.plan_reports.specs.VerdictJson.{bad_json, good_json}

abbrev pub PlansHaveUniqueKeys : Type 0
PlansHaveUniqueKeys =
    (advert : Advertised) (weights : PathWeights) (kept paths : List Path) → HasUniqueKeys (plan_json advert weights kept paths)

abbrev pub FaultsHaveUniqueKeys : Type 0
FaultsHaveUniqueKeys = (words : List (List ℕ)) (sentence : List ℕ) → HasUniqueKeys (fault_json words sentence)

pub record VerdictsHaveUniqueKeys : Type 0 where
  pub good : (first : Option Bool) (advert : Advertised) (weights : PathWeights) (kept paths : List Path)
      → HasUniqueKeys (good_json first advert weights kept paths)
  pub bad : (words : List (List ℕ)) (sentence : List ℕ) → HasUniqueKeys (bad_json words sentence)
