-- The answer of a command that carries out procedures, by what it sets up and does.
use Rattle.std.proofs.Common.{◌≡◌, ◌∙◌, ◌-◌, ◌*◌, ℕ, Bool, true, false, List, [], ◌∷◌, Option, Some, None, is_some, IfSome, Ok, Err, refl, sym, subst, ap, ap₂, ◌++◌, length, reverse, arith}
use Rattle.std.specs.Prelude.{◌&&◌, is_none, option_map, slice_index}
use Rattle.std.proofs.lemmas.Grind.{common_steps}
use Rattle.hex.specs.Hex.{encode_lower}
use Rattle.text_lines.specs.Lines.{text_of}
use Rattle.bus_model.specs.declared.operation.Step.{Step}
use Rattle.bus_model.specs.declared.script.Directive.{Directive}
use Rattle.applications.specs.declared.conventions.Conventions.{Conventions}
use Rattle.applications.specs.Advertised.{Advertised}
use Rattle.bus_model.specs.ScriptBuses.{seen_at}
use Rattle.control_sets.specs.OutcomeAnswers.{most_steps}
use Rattle.control_sets.specs.declared.fault.ProvisionFault.{ProvisionFault}
use Rattle.control_sets.specs.declared.procedures.power.Power.TheVariants.{Awake}
use Rattle.control_sets.specs.ControlBytes.{control_bytes}
use Rattle.control_sets.specs.PlanLanes.{lanes_outside, plan_lanes}
use Rattle.plan_certificate.specs.declared.path.Path.{Path}
use Rattle.sim_module.specs.ActiveSets.{HasNoApply, IsAtRest}
use Rattle.sim_module.specs.Lanes.{active_bytes, all_lanes, no_lane}
use Rattle.sim_module.specs.Starts.{start, start_lane}
use Rattle.sim_module.specs.declared.delays.Delays.{Delays}
use Rattle.sim_module.specs.declared.lane.Lane.{Lane}
use Rattle.paged_memory.specs.Images.{Memory}
use Rattle.sim_module.specs.Soundness.{IsSound}
use Rattle.sim_module.specs.declared.module.SimModule.{SimModule}
use Rattle.sim_module.proofs.Activated.{activation_rests}
use Rattle.sim_module.proofs.ChangedPower.{power_rests}
use Rattle.sim_module.proofs.Provisioned.{active_if_none}
use Rattle.sim_module.proofs.SoundModule.{made_keeps, sound_start}
use Rattle.sim_module.proofs.SoundRuns.{runs_leave_sound}
use Rattle.command_line.specs.Inputs.{Inputs}
use Rattle.command_line.specs.PlanningInputs.{IsPlanningRefusal}
use Rattle.command_line.specs.declared.choice.options.Options.{Options}
use Rattle.command_line.specs.ProvisionCommand.{Activates, BusProcedure, CarriesOut, IsCarriedOut, IsSetUpRefusal, MakesIf, ModuleBus, Provisions, StepsOrFault, Wakes, control_words, delays, fault_of, outcome_fault, outcome_of, steps_of, procedure_output}
use Rattle.plan_reports.specs.declared.json_procedure.Outcome.{Outcome}
use Rattle.command_line.proofs.OwnAnswers.{if_known}
use Rattle.command_line.specs.Sessions.{IsSessionOf}
use Rattle.command_line.specs.declared.commands.outcome.ProcedureResults.{ProcedureResults}
use Rattle.command_line.specs.declared.commands.session.Session.{Session}
use Rattle.command_line.specs.declared.reported_fault.ReportedFault.{ReportedFault}
use Rattle.command_line.specs.declared.reported_fault.ReportedFault.TheVariants.{Procedure}
use Rattle.command_line.specs.declared.fault.Fault.{Fault}
use Rattle.command_line.specs.declared.fault.Fault.TheVariants as fault

-- a refusal of what is planned for is one of what is set up
pub planning_refused : (conventions : Conventions) (inputs : Inputs) (f : Fault) → IsPlanningRefusal conventions inputs f → IsSetUpRefusal conventions inputs f
planning_refused conventions inputs (fault.Module g) is = absurd is
planning_refused conventions inputs (fault.Script g) is = absurd is
planning_refused conventions inputs f is = is

-- a bus with this module before any step
abbrev pub bus_with : List Directive → SimModule → ModuleBus
bus_with script module' = record { steps = []; room = 3 * most_steps; state = (script, module') }

-- eight words, by their bytes
pub eight_words : (bytes : List ℕ) → length bytes ≡ 8 → control_words bytes
    ≡ encode_lower (slice_index bytes 0 ∷ []) ∷ encode_lower (slice_index bytes 1 ∷ []) ∷ encode_lower (slice_index bytes 2 ∷ []) ∷ encode_lower (slice_index bytes 3 ∷ [])
    ∷ encode_lower (slice_index bytes 4 ∷ []) ∷ encode_lower (slice_index bytes 5 ∷ []) ∷ encode_lower (slice_index bytes 6 ∷ []) ∷ encode_lower (slice_index bytes 7 ∷ []) ∷ []
eight_words (a ∷ b ∷ c ∷ d ∷ e ∷ f ∷ g ∷ h ∷ []) is = refl
eight_words bytes is = absurd (omega arith)

-- lines one after the other
pub pushed : (old a b c d : List ℕ) (woken provisioned activated active : List (List ℕ)) → a ≡ old ++ text_of woken → b ≡ a ++ text_of provisioned → c ≡ b ++ text_of activated → d ≡ c ++ text_of active
    → d ≡ old ++ text_of (woken ++ provisioned ++ activated ++ active)
pushed old a b c d woken provisioned activated active first second third last = grind (arith, common_steps)

-- what is reported, by what the bus has
pub reported_as : (json traced : Bool) (bus : ModuleBus) (results : ProcedureResults) (text active : List ℕ) (steps : List Step) (outcome : Outcome) (ended : Option ProvisionFault)
    → text ≡ procedure_output json traced steps outcome ended → outcome ≡ outcome_of results active → steps ≡ bus.steps → active ≡ active_bytes bus.state.1
    → text ≡ procedure_output json traced bus.steps (outcome_of results (active_bytes bus.state.1)) ended
reported_as json traced bus results text active steps outcome ended reported is same shown =
    reported ∙ ap₂ (λ (l : List Step) (o : Outcome). procedure_output json traced l o ended) same (is ∙ ap (λ (l : List ℕ). outcome_of results l) shown)

-- a new module is in no apply
new_at_rest : (memory : Memory) (given : Delays) → HasNoApply (start memory given)
unfolding start
new_at_rest memory given lane is = made_keeps (λ (l : Lane). l.applying ≡ None) (start_lane memory) no_lane (λ n. refl) refl all_lanes (lane - 1)

module _ (options : Options) (inputs : Inputs) (session : Session) (is : IsSessionOf options.conventions inputs session) where
  -- what a session's bus makes of the plan
  pub carried : (traced : Bool) (text : List ℕ) (after : ModuleBus) (results : ProcedureResults) (ended : Option ProvisionFault) (reported_fault : Option ReportedFault)
      → CarriesOut options.wake options.activate session.advert session.plan session.kept (seen_at session.bus) after results
      → text ≡ procedure_output options.json traced after.steps (outcome_of results (active_bytes after.state.1)) ended → ended ≡ outcome_fault results → reported_fault ≡ option_map (λ f. Procedure f session.inactive) ended
      → IsCarriedOut traced options inputs text reported_fault
  carried traced text after results ended reported_fault done reported fault same = record {
    set_up = is.set_up;
    after = after;
    results = results;
    done = rw (is.advert, is.plan, is.kept, is.bus) at done;
    reported = reported ∙ ap (procedure_output options.json traced after.steps (outcome_of results (active_bytes after.state.1))) fault;
    fault = same ∙ ap₂ (λ (o : Option Path) (e : Option ProvisionFault). option_map (λ f. Procedure f o) e) is.inactive fault;
  }

  session_module : session.bus.device ≡ start is.set_up.planning.image delays
  session_module = ap (λ (bus : ModuleBus). bus.state.1) is.bus

  -- its module is sound, and in no apply
  pub session_sound : IsSound session.bus.device
  session_sound = subst IsSound (sym session_module) (sound_start is.set_up.planning.image delays)

  pub session_at_rest : HasNoApply session.bus.device
  session_at_rest = subst HasNoApply (sym session_module) (new_at_rest is.set_up.planning.image delays)

-- by the same condition in other words
pub makes_as : (given wanted : Bool) (Does : BusProcedure) (before after : ModuleBus) (ended : Option StepsOrFault)
    → given ≡ wanted → MakesIf given Does before after ended → MakesIf wanted Does before after ended
makes_as given wanted Does before after ended same made = subst (λ (b : Bool). MakesIf b Does before after ended) same made

-- how a module is before a procedure
abbrev Begins : ModuleBus → Type 0
Begins bus = IsSound bus.state.1 × HasNoApply bus.state.1

-- waking up leaves it so
begins_awake : (before after : ModuleBus) (ended : StepsOrFault) → Begins before → Wakes before after ended → Begins after
begins_awake before after ended (sound, none) (history, ran, outcome) = (
  runs_leave_sound before after (reverse history) sound ran,
  (power_rests before after history Awake (active_bytes before.state.1) ended (record { eight = sound.eight; none = none; active = refl }) ran outcome).none,
)

begins_woken : (wake : Bool) (before after : ModuleBus) (woken : Option StepsOrFault) → Begins before → MakesIf wake Wakes before after woken → Begins after
begins_woken true before after (Some ended) begins made = begins_awake before after ended begins made
begins_woken true before after None begins none = absurd none
begins_woken false before after (Some ended) begins none = absurd none
begins_woken false before after None begins same = subst Begins (sym same) begins

module _ (advert : Advertised) (paths : List Path) where
  -- the control bytes are active, and no apply is in progress
  abbrev Rests : ModuleBus → Type 0
  Rests bus = IsAtRest (control_bytes advert paths) bus.state.1

  -- after a success
  rests_provisioned : (wanted : Bool) (kept : List Path) (before after : ModuleBus) (provisioned : Option StepsOrFault) → Begins before → MakesIf wanted (Provisions advert paths kept) before after provisioned
      → IfSome (steps_of provisioned) (λ steps. Rests after)
  rests_provisioned true kept before after (Some (Ok steps)) begins (history, ran, outcome) =
      active_if_none (lanes_outside advert kept) before after history (control_bytes advert paths) steps begins ran outcome
  rests_provisioned false kept before after (Some (Ok steps)) begins none = absurd none
  rests_provisioned wanted kept before after (Some (Err f)) begins made = tt
  rests_provisioned wanted kept before after None begins made = tt

  -- and still, whether activation is made or not
  rests_activated : (wanted : Bool) (before after : ModuleBus) (activated : Option StepsOrFault) → Rests before → MakesIf wanted (Activates advert paths) before after activated → Rests after
  rests_activated true before after (Some ended) rest (history, ran, outcome) =
      activation_rests before after history (control_bytes advert paths) (control_bytes advert paths) (plan_lanes advert paths) ended rest ran outcome
  rests_activated true before after None rest none = absurd none
  rests_activated false before after (Some ended) rest none = absurd none
  rests_activated false before after None rest same = subst Rests (sym same) rest

  -- the procedures, as far as they are made
  pub carries_out : (wake activate : Bool) (kept : List Path) (before woken provisioned after : ModuleBus) (results : ProcedureResults) → IsSound before.state.1 × HasNoApply before.state.1
      → MakesIf wake Wakes before woken results.woken → MakesIf (is_none (fault_of results.woken)) (Provisions advert paths kept) woken provisioned results.provisioned
      → MakesIf (activate && is_some (steps_of results.provisioned)) (Activates advert paths) provisioned after results.activated
      → CarriesOut wake activate advert paths kept before after results
  carries_out wake activate kept before woken provisioned after results begins wakes provisions activates =
      let rest = rests_provisioned (is_none (fault_of results.woken)) kept woken provisioned results.provisioned (begins_woken wake before woken results.woken begins wakes) provisions in
      record {
        woken = woken;
        provisioned = provisioned;
        wakes = wakes;
        provisions = provisions;
        activates = activates;
        active = if_known (steps_of results.provisioned) (λ steps. Rests provisioned) _ (λ steps is. is.active) rest;
        still_active = if_known (steps_of results.provisioned) (λ steps. Rests provisioned) _
            (λ steps is. (rests_activated (activate && is_some (steps_of results.provisioned)) provisioned after results.activated is activates).active) rest;
      }
