-- What `check` answers to the text that `plan` wrote, in its place after the same image and weights. (docs/formats.md,
-- "check"; this project's own)
use Rattle.std.specs.Prelude.{◌≡◌, ◌≢◌, ℕ, ◌≤◌, Bool, true, false, List, [], ◌∷◌, ◌++◌, length, codes, Option, Some, None, Ok, Err}
use Rattle.applications.specs.declared.conventions.Conventions.{Conventions}
use Rattle.applications.specs.AppWeights.{app_weights}
use Rattle.command_line.specs.CheckCommand.{good_output}
use Rattle.command_line.specs.Commands.{IsAnswerOf}
use Rattle.command_line.specs.declared.choice.commands.CommandName.TheVariants.{Check, Plan}
use Rattle.command_line.specs.declared.choice.commands.Request.{Request}
use Rattle.command_line.specs.declared.choice.options.Options.{Options}
use Rattle.command_line.specs.Inputs.{Inputs}
use Rattle.command_line.specs.Limits.{input_limit}
use Rattle.command_line.specs.Parts.{parts_of}
use Rattle.command_line.specs.PlanCommand.{IsPlanned, IsPlanReport}
use Rattle.command_line.specs.Runs.{Answer}
use Rattle.command_line.specs.declared.fault.Fault.TheVariants.{Memory, Io}

-- an LF ends the last line
abbrev pub IsEnded : List ℕ → Type 0
IsEnded text = (before : List ℕ) × (text ≡ before ++ 10 ∷ [])

-- an input, a line `---` and a text after it
abbrev pub input_with : List ℕ → List ℕ → List ℕ
input_with input text = input ++ (codes "---\n" ++ text)

-- the plan is the first of the best, if that is asked for
abbrev pub first_if : Bool → Option Bool
first_if true = Some true
first_if false = None

-- that it is good, and the plan that was given
abbrev pub good_text : {conventions : Conventions} {inputs : Inputs} {text : List ℕ} → Options → IsPlanned (IsPlanReport false) conventions inputs text → List ℕ
good_text options planned = good_output options.json (first_if options.first) planned.planning.advert
    (app_weights planned.planning.advert planned.planning.weights) planned.reported.certificate

-- `plan` with or without `--keep`, and not as JSON
abbrev pub plan_request : Bool → Options → Request
plan_request keep options = record { command = Plan; options = record options { keep = keep; json = false } }

-- `check` by the same conventions
abbrev pub check_request : Conventions → Options → Request
check_request conventions options = record { command = Check; options = record options { conventions = conventions } }

-- whatever other flags are given, `check` answers `good` and the plan to this input, as JSON or not, and, if no allocation and no read
-- is refused, nothing else
pub record IsCalledGood {conventions : Conventions} {inputs : Inputs} {text : List ℕ} (planned : IsPlanned (IsPlanReport false) conventions inputs text) (input : List ℕ) : Type 0 where
  pub good : (options : Options) → IsAnswerOf (check_request conventions options) input (Ok (good_text options planned, None))
  pub alone : (options : Options) (answer : Answer) → IsAnswerOf (check_request conventions options) input answer → answer ≢ Err Memory → answer ≢ Err Io
      → answer ≡ Ok (good_text options planned, None)

-- the inputs of `plan` that have these texts
abbrev pub plan_inputs : List ℕ → List ℕ → List ℕ → Inputs
plan_inputs image weights kept = record { image = image; weights = weights; kept = kept; certificate = []; script = [] }

-- the text is of the plan of these texts, and after the image and the weights `check` calls it good
pub record IsGoodBehind (conventions : Conventions) (image weights kept text : List ℕ) : Type 0 where
  pub planned : IsPlanned (IsPlanReport false) conventions (plan_inputs image weights kept) text
  pub good : (input : List ℕ) → length input ≤ input_limit → parts_of input ≡ image ∷ weights ∷ text ∷ [] → IsCalledGood planned input

-- the text is of the plan of an input without kept paths, and is the third part after that input
pub record IsGoodBehindInput (conventions : Conventions) (input text : List ℕ) : Type 0 where
  pub image : List ℕ
  pub weights : List ℕ
  pub planned : IsPlanned (IsPlanReport false) conventions (plan_inputs image weights []) text
  pub parts : parts_of (input_with input text) ≡ image ∷ weights ∷ text ∷ []
  pub good : IsCalledGood planned (input_with input text)

-- of an input that ends with kept paths: the text is of its plan, keeps them, and in their place is called good
pub record IsGoodInPlace (conventions : Conventions) (input kept text : List ℕ) : Type 0 where
  pub image : List ℕ
  pub weights : List ℕ
  pub kept_text : List ℕ
  pub planned : IsPlanned (IsPlanReport false) conventions (plan_inputs image weights kept_text) text
  pub parts_planned : parts_of (input_with input kept) ≡ image ∷ weights ∷ kept_text ∷ []
  pub parts : parts_of (input_with input text) ≡ image ∷ weights ∷ text ∷ []
  pub good : IsCalledGood planned (input_with input text)
