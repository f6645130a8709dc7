-- What the commands `plan` and `draw` answer to the texts of their parts, for a module that pairs first lanes or one that does not.
-- (docs/formats.md, "Input", "plan" and "draw"; this project's own)
use Rattle.std.specs.Prelude.{◌≡◌, ℕ, Bool, true, false, List, None, Ok, Err}
use Rattle.field_tables.specs.declared.field.Field.TheVariants as fields
use Rattle.field_tables.specs.declared.table.cmis.CmisField.TheVariants as cmis
use Rattle.field_tables.specs.Readings.{number}
use Rattle.plan_certificate.specs.Certificates.{Claim}
use Rattle.plan_drawing.specs.Drawings.{IsDrawing}
use Rattle.report_entries.specs.EntryJson.{json_text}
use Rattle.plan_reports.specs.PlanJson.{plan_json}
use Rattle.command_line.specs.Inputs.{Inputs}
use Rattle.command_line.specs.PlanningInputs.{IsPlanning, IsPlanningRefusal}
use Rattle.command_line.specs.declared.choice.options.Options.{Options}
use Rattle.command_line.specs.declared.commands.planning_inputs.Planning.{Planning}
use Rattle.applications.specs.declared.conventions.Conventions.{Conventions}
use Rattle.applications.specs.Advertised.{Advertised}
use Rattle.applications.specs.AppWeights.{PathWeights, app_weights}
use Rattle.plan_certificate.specs.declared.path.Path.{Path}
use Rattle.lane_planner.specs.CertifiedPlans.{IsCertified, IsPlanText}
use Rattle.command_line.specs.Runs.{Answer}

-- a certified plan as JSON, without the certificate's states
pub record IsPlanJson (advert : Advertised) (weights : PathWeights) (kept : List Path) (text : List ℕ) : Type 0 where
  pub certificate : Claim
  pub certified : IsCertified advert weights kept certificate
  pub written : text ≡ json_text (plan_json advert weights kept certificate.paths)

-- that, or the certificate's text
abbrev pub IsPlanReportFor : Bool → Advertised → PathWeights → List Path → List ℕ → Type 0
IsPlanReportFor true advert weights kept text = IsPlanJson advert weights kept text
IsPlanReportFor false advert weights kept text = IsPlanText advert weights kept text

abbrev pub IsPlanReport : Bool → Planning → List ℕ → Type 0
IsPlanReport json planning text = IsPlanReportFor json planning.advert (app_weights planning.advert planning.weights) planning.kept text

-- the drawing of the plan, as an SVG or as text
abbrev pub DrawsPlan : Bool → Planning → List ℕ → Type 0
DrawsPlan svg planning text = (has_paths : Bool)
    × IsDrawing svg (number planning.image (fields.Cmis cmis.MediaType)) planning.advert (app_weights planning.advert planning.weights) planning.kept text has_paths

-- what is reported by the options of the command, which draws the plan or not
abbrev pub IsPlanOutput : Bool → Options → Planning → List ℕ → Type 0
IsPlanOutput true options = DrawsPlan options.svg
IsPlanOutput false options = IsPlanReport options.json

-- the plan for the image, the weights and the kept paths of these texts
pub record IsPlanned (Reported : Planning → List ℕ → Type 0) (conventions : Conventions) (inputs : Inputs) (text : List ℕ) : Type 0 where
  pub planning : Planning
  pub is_planning : IsPlanning conventions inputs planning
  pub reported : Reported planning text

-- the answer to the texts of an image, of weights and of kept paths, by whether the plan is drawn
abbrev pub IsPlanAnswer : Bool → Options → Inputs → Answer → Type 0
IsPlanAnswer draws options inputs (Ok (text, None)) = IsPlanned (IsPlanOutput draws options) options.conventions inputs text
IsPlanAnswer draws options inputs (Ok (text, ended)) = ⊥
IsPlanAnswer draws options inputs (Err f) = IsPlanningRefusal options.conventions inputs f
