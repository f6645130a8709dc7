-- What the command `check` answers to the texts of its parts, with the flags `--first`, `--paired` and `--json` or
-- without them.
-- (docs/formats.md, "Input", "check" and "JSON"; this project's own)
use Rattle.std.specs.Prelude.{◌≡◌, ◌↔◌, ℕ, Bool, true, false, IsTrue, List, [], ◌∷◌, ◌++◌, ◌==◌, if◌then◌else◌, length, codes, Option, Some, None, Ok, Err}
use Rattle.std.specs.Fmt.{decimal}
use Rattle.text_lines.specs.Lines.{lines_of, text_of}
use Rattle.text_lines.specs.Words.{spaced}
use Rattle.applications.specs.declared.conventions.Conventions.{Conventions}
use Rattle.applications.specs.Advertised.{Advertised}
use Rattle.applications.specs.AppWeights.{PathWeights, app_weights}
use Rattle.applications.specs.Weights.{ListedWeights}
use Rattle.applications.specs.WeightFaults.{IsAnswer}
use Rattle.plan_certificate.specs.Certificates.{Claim}
use Rattle.plan_certificate.specs.CertificateText.{IsTextOf}
use Rattle.plan_certificate.specs.CertificateFaults.{IsFirstFault}
use Rattle.plan_certificate.specs.Plans.{IsBest}
use Rattle.plan_certificate.specs.Verdicts.{verdict}
use Rattle.plan_certificate.specs.declared.verdict.Verdict.{Verdict}
use Rattle.plan_certificate.specs.declared.verdict.Verdict.TheVariants.{Good, Bad}
use Rattle.lane_planner.specs.FirstBest.{IsFirstBest}
use Rattle.report_entries.specs.EntryJson.{json_text}
use Rattle.plan_reports.specs.PlanText.{plan_lines}
use Rattle.plan_reports.specs.VerdictJson.{good_json}
use Rattle.plan_certificate.specs.Limits.{most_states}
use Rattle.command_line.specs.declared.choice.options.Options.{Options}
use Rattle.command_line.specs.declared.fault.Fault.TheVariants as fault
use Rattle.command_line.specs.Inputs.{Inputs}
use Rattle.command_line.specs.PlanningInputs.{Advertises, IsAdvertText, IsAdvertRefusal, IsWeightsRefusal}
use Rattle.command_line.specs.Runs.{Answer}

unfoldable pub good_line : List ℕ
good_line = codes "good"

unfoldable pub kept_line : ℕ → List ℕ
kept_line count = spaced (codes "kept" ∷ decimal count ∷ [])

-- how many paths are kept, if some are
abbrev pub kept_lines : ℕ → List (List ℕ)
kept_lines count = if count == 0 then [] else kept_line count ∷ []

unfoldable pub first_line : Bool → List ℕ
first_line true = codes "first yes"
first_line false = codes "first no"

-- if it is said whether the plan is the first of the best
abbrev pub first_lines : Option Bool → List (List ℕ)
first_lines None = []
first_lines (Some is_first) = first_line is_first ∷ []

-- that is said exactly if it is asked for
abbrev pub IsFirstNoted : Bool → Advertised → PathWeights → Claim → Option Bool → Type 0
IsFirstNoted true advert weights certificate (Some is_first) = IsTrue is_first ↔ IsFirstBest advert weights certificate.kept certificate.paths
IsFirstNoted false advert weights certificate None = Unit {0}
IsFirstNoted asked advert weights certificate said = ⊥

-- how many paths a good certificate keeps, its plan, and whether that is the first
abbrev pub good_lines : Option Bool → Advertised → PathWeights → Claim → List (List ℕ)
good_lines is_first advert weights certificate =
    good_line ∷ kept_lines (length certificate.kept) ++ plan_lines advert weights certificate.paths ++ first_lines is_first

-- the same, as JSON or not
abbrev pub good_output : Bool → Option Bool → Advertised → PathWeights → Claim → List ℕ
good_output true is_first advert weights certificate = json_text (good_json is_first advert weights certificate.kept certificate.paths)
good_output false is_first advert weights certificate = text_of (good_lines is_first advert weights certificate)

-- what is reported of a good certificate
pub record IsGoodReport (json first : Bool) (advert : Advertised) (weights : PathWeights) (certificate : Claim) (text : List ℕ) : Type 0 where
  pub is_first : Option Bool
  pub first_noted : IsFirstNoted first advert weights certificate is_first
  pub reported : text ≡ good_output json is_first advert weights certificate

-- the texts are those of an image, of weights and of a certificate, of which this is the verdict
pub record IsJudged (conventions : Conventions) (inputs : Inputs) (judged : Verdict) : Type 0 where
  pub advert : Advertised
  pub weights : ListedWeights
  pub certificate : Claim
  pub is_advert : IsAdvertText conventions inputs.image advert
  pub are_weights : IsAnswer inputs.weights (Ok weights)
  pub is_certificate : IsTextOf most_states (lines_of inputs.certificate) certificate
  pub is_verdict : verdict advert (app_weights advert weights) certificate ≡ judged

-- the certificate is good, so its plan is best among those that hold the kept paths, and the plan is reported
pub record IsGoodAnswer (options : Options) (inputs : Inputs) (text : List ℕ) : Type 0 where
  pub judged : IsJudged options.conventions inputs Good
  pub is_best : IsBest judged.advert (app_weights judged.advert judged.weights) judged.certificate.kept judged.certificate.paths
  pub reported : IsGoodReport options.json options.first judged.advert (app_weights judged.advert judged.weights) judged.certificate text

-- the answer to the texts of an image, of weights and of a certificate
abbrev pub IsCheckAnswer : Options → Inputs → Answer → Type 0
IsCheckAnswer options inputs (Ok (text, None)) = IsGoodAnswer options inputs text
IsCheckAnswer options inputs (Ok (text, ended)) = ⊥
IsCheckAnswer options inputs (Err (fault.Bad reason number)) = IsJudged options.conventions inputs (Bad reason number)
IsCheckAnswer options inputs (Err (fault.Certificate f)) =
    Advertises options.conventions inputs.image × ((listed : ListedWeights) × IsAnswer inputs.weights (Ok listed))
    × IsFirstFault most_states (lines_of inputs.certificate) f
IsCheckAnswer options inputs (Err (fault.Weights f)) = Advertises options.conventions inputs.image × IsWeightsRefusal inputs.weights f
IsCheckAnswer options inputs (Err f) = IsAdvertRefusal options.conventions inputs.image f
