-- What the commands `provision` and `trace` answer to the texts of their parts: the plan that is given is provisioned on a simulated
-- module of the image, but for its kept paths, over a bus that does as the script says; the module is woken up before and the plan
-- activated after, if that is asked for. (docs/formats.md, "Input", "provision" and "trace"; this project's own)
use Rattle.std.specs.Prelude.{◌≡◌, ◌*◌, ◌&&◌, ℕ, Bool, true, false, List, [], ◌∷◌, ◌++◌, codes, map, option_map, Option, Some, None, is_none, is_some, Result, Ok, Err, IfSome}
use Rattle.std.specs.Option.{option_or}
use Rattle.std.specs.Fmt.{decimal}
use Rattle.hex.specs.Hex.{encode_lower}
use Rattle.text_lines.specs.Lines.{lines_of, text_of}
use Rattle.text_lines.specs.Words.{spaced}
use Rattle.bus_model.specs.Runs.{IsFull, Seen}
use Rattle.bus_model.specs.ScriptedBus.{script_rules}
use Rattle.bus_model.specs.ScriptFaults.{IsFirstFault}
use Rattle.bus_model.specs.ScriptText.{IsTextOf}
use Rattle.bus_model.specs.declared.operation.Step.{Step}
use Rattle.bus_model.specs.declared.script.Directive.{Directive}
use Rattle.paged_memory.specs.Images.{Memory}
use Rattle.applications.specs.declared.conventions.Conventions.{Conventions}
use Rattle.applications.specs.Advertised.{Advertised}
use Rattle.applications.specs.AppWeights.{app_weights}
use Rattle.plan_certificate.specs.Certificates.{Claim}
use Rattle.plan_certificate.specs.declared.path.Path.{Path}
use Rattle.lane_planner.specs.CertifiedPlans.{IsCertified}
use Rattle.control_sets.specs.ControlBytes.{control_bytes}
use Rattle.control_sets.specs.PlanLanes.{lanes_outside, plan_lanes}
use Rattle.control_sets.specs.OutcomeAnswers.{most_steps}
use Rattle.control_sets.specs.OutcomeOfActivation.{IsActivation}
use Rattle.control_sets.specs.OutcomeOfPower.{IsPowerChange}
use Rattle.control_sets.specs.OutcomeOfProvisioning.{IsProvisioning}
use Rattle.control_sets.specs.Procedures.{MakesHistory}
use Rattle.control_sets.specs.declared.fault.ProvisionFault.{ProvisionFault}
use Rattle.control_sets.specs.declared.procedures.power.Power.TheVariants.{Awake}
use Rattle.sim_module.specs.Lanes.{active_bytes}
use Rattle.sim_module.specs.Modules.{conduct}
use Rattle.sim_module.specs.Starts.{start, start_fault}
use Rattle.sim_module.specs.declared.delays.Delays.{Delays}
use Rattle.sim_module.specs.declared.fault.SimFault.{SimFault}
use Rattle.sim_module.specs.declared.module.SimModule.{SimModule}
use Rattle.json.specs.Json.{Json}
use Rattle.report_entries.specs.EntryJson.{json_text}
use Rattle.plan_reports.specs.ProcedureJson.{procedure_json}
use Rattle.plan_reports.specs.Trace.{trace_lines}
use Rattle.plan_reports.specs.declared.json_procedure.Outcome.{Outcome}
use Rattle.command_line.specs.Faults.{fault_words}
use Rattle.command_line.specs.FaultTexts.{fault_sentence}
use Rattle.command_line.specs.declared.remark.opening.Opening.TheVariants.{Other}
use Rattle.command_line.specs.InactivePaths.{first_inactive}
use Rattle.command_line.specs.Inputs.{Inputs}
use Rattle.command_line.specs.PlanningInputs.{IsPlanning, IsPlanningRefusal}
use Rattle.command_line.specs.declared.choice.options.Options.{Options}
use Rattle.command_line.specs.declared.commands.planning_inputs.Planning.{Planning}
use Rattle.command_line.specs.Runs.{Answer}
use Rattle.command_line.specs.declared.commands.outcome.ProcedureResults.{ProcedureResults}
use Rattle.command_line.specs.declared.reported_fault.ReportedFault.{ReportedFault}
use Rattle.command_line.specs.declared.reported_fault.ReportedFault.TheVariants.{Procedure}
use Rattle.command_line.specs.declared.fault.Fault.{Fault}
use Rattle.command_line.specs.declared.fault.Fault.TheVariants as fault

-- how long each work of the module takes, in ticks
abbrev pub delays : Delays
delays = record { apply = 4; init = 4; turn_on = 4; turn_off = 4; deinit = 4; power_up = 4; power_down = 4 }

-- the steps made on a bus, the script that is left, and the module
abbrev pub ModuleBus : Type 0
ModuleBus = Seen (List Directive × SimModule)

-- before any step, with room for those of all three procedures, and the module of an image as it starts
abbrev pub bus_at_start : Memory → List Directive → ModuleBus
bus_at_start memory script = record { steps = []; room = 3 * most_steps; state = (script, start memory delays) }

-- number of steps, or why the procedure ended without success
abbrev pub StepsOrFault : Type 0
StepsOrFault = Result ℕ ProvisionFault

-- what a procedure makes of a bus, and how it ends
abbrev pub BusProcedure : Type 1
BusProcedure = ModuleBus → ModuleBus → StepsOrFault → Type 0

-- waking the module up
abbrev pub Wakes : BusProcedure
Wakes before after ended =
    MakesHistory (script_rules conduct) before after (λ history. IsPowerChange Awake (IsFull after) history ended)

-- provisioning of these paths, on the lanes outside the kept ones
abbrev pub Provisions : Advertised → List Path → List Path → BusProcedure
Provisions advert paths kept before after ended =
    MakesHistory (script_rules conduct) before after
    (λ history. IsProvisioning (control_bytes advert paths) (lanes_outside advert kept) (IsFull after) history ended)

abbrev pub Activates : Advertised → List Path → BusProcedure
Activates advert paths before after ended =
    MakesHistory (script_rules conduct) before after
    (λ history. IsActivation (control_bytes advert paths) (plan_lanes advert paths) (IsFull after) history ended)

-- it is made if it is wanted, and else no step is made
abbrev pub MakesIf : Bool → BusProcedure → ModuleBus → ModuleBus → Option StepsOrFault → Type 0
MakesIf true Does before after (Some ended) = Does before after ended
MakesIf false Does before after None = after ≡ before
MakesIf wanted Does before after ended = ⊥

-- the steps of a procedure that was made and succeeded
abbrev pub steps_of : Option StepsOrFault → Option ℕ
steps_of None = None
steps_of (Some (Ok steps)) = Some steps
steps_of (Some (Err fault)) = None

-- the fault of one that was made and failed
abbrev pub fault_of : Option StepsOrFault → Option ProvisionFault
fault_of None = None
fault_of (Some (Ok steps)) = None
fault_of (Some (Err fault)) = Some fault

-- waking up, if it is asked for; provisioning, unless that failed; activation, if it is asked for and provisioning succeeded. After
-- such a success the control bytes are active, and still so at the end, whatever comes of activation
pub record CarriesOut (wake activate : Bool) (advert : Advertised) (paths kept : List Path) (before after : ModuleBus) (results : ProcedureResults) : Type 0 where
  pub woken : ModuleBus
  pub provisioned : ModuleBus
  pub wakes : MakesIf wake Wakes before woken results.woken
  pub provisions : MakesIf (is_none (fault_of results.woken)) (Provisions advert paths kept) woken provisioned results.provisioned
  pub activates : MakesIf (activate && is_some (steps_of results.provisioned)) (Activates advert paths) provisioned after results.activated
  pub active : IfSome (steps_of results.provisioned) (λ steps. active_bytes provisioned.state.1 ≡ control_bytes advert paths)
  pub still_active : IfSome (steps_of results.provisioned) (λ steps. active_bytes after.state.1 ≡ control_bytes advert paths)

-- what was done, and in how many steps
unfoldable pub steps_line : List ℕ → ℕ → List ℕ
steps_line done steps = spaced (done ∷ decimal steps ∷ [])

-- the control bytes in lower-case hexadecimal, lane 1 first
abbrev pub control_words : List ℕ → List (List ℕ)
control_words bytes = map (λ byte. encode_lower (byte ∷ [])) bytes

unfoldable pub active_line : List ℕ → List ℕ
active_line bytes = spaced (codes "active" ∷ control_words bytes)

-- the fault of the one that failed, after which none is made
abbrev pub outcome_fault : ProcedureResults → Option ProvisionFault
outcome_fault results = option_or (option_or (fault_of results.woken) (fault_of results.provisioned)) (fault_of results.activated)

abbrev pub active_unless : Option ProvisionFault → List ℕ → Option (List ℕ)
active_unless None active = Some active
active_unless (Some fault) active = None

-- what came of them: each success, and the active bytes if there is no fault
abbrev pub outcome_of : ProcedureResults → List ℕ → Outcome
outcome_of results active = record {
  woken = steps_of results.woken;
  provisioned = steps_of results.provisioned;
  activated = steps_of results.activated;
  active = active_unless (outcome_fault results) active;
}

-- ---- as text

abbrev pub line_if : {T : Type 0} → (T → List ℕ) → Option T → List (List ℕ)
line_if line None = []
line_if line (Some reported) = line reported ∷ []

abbrev pub outcome_lines : Outcome → List (List ℕ)
outcome_lines outcome =
    line_if (steps_line (codes "woken")) outcome.woken ++ line_if (steps_line (codes "provisioned")) outcome.provisioned
    ++ line_if (steps_line (codes "activated")) outcome.activated ++ line_if active_line outcome.active

-- the steps stand first, if they are shown
abbrev pub steps_lines : Bool → List Step → List (List ℕ)
steps_lines true steps = trace_lines steps
steps_lines false steps = []

abbrev pub procedure_text : Bool → List Step → Outcome → List ℕ
procedure_text traced steps outcome = text_of (steps_lines traced steps) ++ text_of (outcome_lines outcome)

-- ---- as JSON

-- with the words and the sentence of the fault, if there is one
abbrev pub procedure_tree : Bool → List Step → Outcome → Option ProvisionFault → Json
procedure_tree traced steps outcome None = procedure_json traced steps outcome [] []
procedure_tree traced steps outcome (Some f) =
    procedure_json traced steps outcome (fault_words (fault.Provision f)) (fault_sentence (fault.Provision f) Other)

-- ---- what is reported

-- as JSON, which has the fault too, or not
abbrev pub procedure_output : Bool → Bool → List Step → Outcome → Option ProvisionFault → List ℕ
procedure_output true traced steps outcome refused = json_text (procedure_tree traced steps outcome refused)
procedure_output false traced steps outcome refused = procedure_text traced steps outcome

-- the texts are those of an image, of weights, of kept paths and of a script; their plan, and the module that the image makes
pub record IsSetUp (conventions : Conventions) (inputs : Inputs) : Type 0 where
  pub planning : Planning
  pub is_planning : IsPlanning conventions inputs planning
  pub certificate : Claim
  pub certified : IsCertified planning.advert (app_weights planning.advert planning.weights) planning.kept certificate
  pub script : List Directive
  pub is_script : IsTextOf (lines_of inputs.script) script
  pub starts : start_fault planning.image delays ≡ None

-- the first kept path that the module of the image has not in its Active Control Set
abbrev pub inactive_of : {conventions : Conventions} {inputs : Inputs} → IsSetUp conventions inputs → Option Path
inactive_of set_up = first_inactive set_up.planning.advert set_up.planning.kept (active_bytes (start set_up.planning.image delays))

-- the image makes no module
pub record IsNoModule (conventions : Conventions) (inputs : Inputs) (refused : SimFault) : Type 0 where
  pub planning : Planning
  pub is_planning : IsPlanning conventions inputs planning
  pub script : List Directive
  pub is_script : IsTextOf (lines_of inputs.script) script
  pub stops : start_fault planning.image delays ≡ Some refused

-- the first of the texts that is none
abbrev pub IsSetUpRefusal : Conventions → Inputs → Fault → Type 0
IsSetUpRefusal conventions inputs (fault.Module f) = IsNoModule conventions inputs f
IsSetUpRefusal conventions inputs (fault.Script f) = ((planning : Planning) × IsPlanning conventions inputs planning) × IsFirstFault (lines_of inputs.script) f
IsSetUpRefusal conventions inputs f = IsPlanningRefusal conventions inputs f

-- what was done, and what is reported of it
pub record IsCarriedOut (traced : Bool) (options : Options) (inputs : Inputs) (text : List ℕ) (reported_fault : Option ReportedFault) : Type 0 where
  pub set_up : IsSetUp options.conventions inputs
  pub after : ModuleBus
  pub results : ProcedureResults
  pub done : CarriesOut options.wake options.activate set_up.planning.advert set_up.certificate.paths set_up.planning.kept (bus_at_start set_up.planning.image set_up.script) after results
  pub reported : text ≡ procedure_output options.json traced after.steps (outcome_of results (active_bytes after.state.1)) (outcome_fault results)
  pub fault : reported_fault ≡ option_map (λ f. Procedure f (inactive_of set_up)) (outcome_fault results)

-- the answer to the texts of an image, of weights, of kept paths and of a script, by whether the steps are shown
abbrev pub IsProcedureAnswer : Bool → Options → Inputs → Answer → Type 0
IsProcedureAnswer traced options inputs (Ok (text, reported)) = IsCarriedOut traced options inputs text reported
IsProcedureAnswer traced options inputs (Err f) = IsSetUpRefusal options.conventions inputs f
