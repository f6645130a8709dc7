-- On a module that suits what is wanted no reading fails, the module isn't woken up in vain, and it isn't left alone: what follows each
-- operation.
use Rattle.applications.specs.ActiveSets.{active_in}
use Rattle.applications.specs.Advertised.{Advertised, advertised_under}
use Rattle.managed_module.proofs.ShownAdverts.{with_active}
use Rattle.plan_certificate.specs.Plans.{IsAdmissible}
use Rattle.control_sets.specs.ControlBytes.{control_bytes}
use Rattle.port_manager.specs.declared.turn.Note.TheVariants as notes
use Rattle.port_manager.specs.Goals.{HasGoal, active_at, at_lane, conventions_of}
use Rattle.sim_liveness.specs.Accepted.{read_by}
use Rattle.managed_module.specs.ModuleGoals.{IsOwnGoal, IsPlanned}
use Rattle.managed_module.proofs.GoalLanes.{named}
use Rattle.managed_module.proofs.OwnGoals.{own_goal}
use Rattle.bus_model.specs.ScriptedBus.{passed_on}
use Rattle.managed_module.proofs.OwnLanes.{HasLanes, KeepsLanes, lanes_after}
use Rattle.managed_module.proofs.OwnReplies.{harmless}
use Rattle.managed_module.proofs.OwnWaking.{waking_lanes, IsOwnWaking, begun_waking, waking_begins, waking_turns}
use Rattle.managed_module.proofs.ProcedureSteps.{harmless_leaves}
use Rattle.std.proofs.Common.{◌≡◌, ◌⊎◌, inl, inr, ℕ, ◌≤◌, Bool, true, false, List, Option, Some, None, refl, sym, ap, subst, ◌∙◌, arith}
use Rattle.bus_model.specs.declared.operation.Op.{Op}
use Rattle.bus_model.specs.declared.operation.Reply.{Reply}
use Rattle.bus_model.specs.Operations.{Answers}
use Rattle.conversations.specs.declared.next.Next.{Next}
use Rattle.conversations.specs.declared.next.Next.TheVariants.{Do, Wait, End}
use Rattle.conversations.specs.declared.on_page.OnPage.{OnPage}
use Rattle.conversations.specs.declared.pausing.Patience.{Patience}
use Rattle.conversations.specs.declared.pausing.Timed.{Timed}
use Rattle.conversations.specs.declared.within.Spent.{Spent}
use Rattle.paged_memory.specs.Images.{Memory}
use Rattle.control_sets.specs.Durations.{patience_for}
use Rattle.control_sets.specs.PowerProgress.{PatientPower, change_after, power_wants}
use Rattle.module_reading.specs.declared.halves.Halves.{Halves}
use Rattle.port_manager.specs.declared.deciding.Decision.{Decision}
use Rattle.port_manager.specs.declared.deciding.Decision.TheVariants.{Leave, Wake, Sleep, Hold, Activate, Provision}
use Rattle.port_manager.specs.declared.deciding.Goal.{Goal}
use Rattle.port_manager.specs.declared.deciding.Wanted.{Wanted}
use Rattle.port_manager.specs.declared.job.Job.{Job}
use Rattle.port_manager.specs.declared.job.Job.TheVariants as jobs
use Rattle.port_manager.specs.declared.turn.ProcedureFault.{ProcedureFault}
use Rattle.port_manager.specs.Jobs.{asked, look_after, paged_halves, paged_look, reading_after, reading_wants, waking_after, procedure_after, procedure_wants, paged_tasks}
use Rattle.port_manager.specs.Patients.{Patient, after_on, pause_after as pause_of_patient, wants_on}
use Rattle.port_manager.specs.Turns.{GoesTo, IsRead, IsReadingTurn, IsTurnOf, Turn, activated, decided, fault_in, going, is_low_power_requested, provisioned}
use Rattle.port_manager.proofs.PatientLaws.{never_waits, paged_never}
use Rattle.port_manager.proofs.TurnCases.{IsAnyTurn, halves_never}
use Rattle.sim_module.specs.declared.module.SimModule.{SimModule}
use Rattle.sim_module.specs.Modules.{conduct}
use Rattle.managed_module.specs.Bounds.{IsSteady}
use Rattle.managed_module.specs.Managed.{HasHalves}
use Rattle.managed_module.specs.ComingUp.{IsUpNote}
use Rattle.managed_module.specs.SuitedModules.{IsProvisionable}
use Rattle.managed_module.specs.Succeeds.{AreWhole, IsAwaited, IsNoProcedure, Suits}
use Rattle.managed_module.proofs.Halves.{halves_passed, halves_ticked}
use Rattle.managed_module.proofs.JobSteps.{JobAt}
use Rattle.managed_module.proofs.JobTurns.{confirmed, ends_or_goes}
use Rattle.managed_module.proofs.Links.{takes_reply}
use Rattle.managed_module.proofs.OwnAdverts.{IsPaged}
use Rattle.managed_module.proofs.OwnDecisions.{IsGood, IsWholeImage, IsWork, decides, patience_same}
use Rattle.managed_module.proofs.OwnHalves.{IsOwn}
use Rattle.managed_module.proofs.OwnReading.{IsOwnReading}
use Rattle.managed_module.proofs.OwnReadingEnds.{advert_kept, ends, goes_on, image_kept}
use Rattle.managed_module.proofs.OwnProcedures.{IsOnWay, all_active, begins_activating, begins_provisioning, way_turns}
use Rattle.managed_module.proofs.PlanJobs.{WellTurn}
use Rattle.port_manager.specs.Turns as turns
use Rattle.sim_module.specs.Lanes.{active_bytes}
use Rattle.sim_module.specs.OwnAdverts.{own_advert}
use Rattle.field_tables.specs.LaneSets.{IsLane}
use Rattle.managed_module.proofs.OwnTasks.{module_after, reply_of}
use Rattle.managed_module.proofs.OwnTurns.{OwnJob, OwnTurn, going_own, is_identified, not_begun, reading_begins, suits_now}

-- ---- turns of provisioning and activation, and of the first look

abbrev IsProcedure : Job → Type 0
IsProcedure (jobs.Reading job woken) = ⊥
IsProcedure (jobs.Waking job) = ⊥
IsProcedure (jobs.Sleeping job) = ⊥
IsProcedure (jobs.Provisioning job goal) = Unit {0}
IsProcedure (jobs.Activating job goal) = Unit {0}
IsProcedure (jobs.Confirming job) = Unit {0}
IsProcedure (jobs.Watching job) = ⊥

-- the module has come up, or one of them goes on, or fails
abbrev ProcedureTurn : Turn → Type 0
ProcedureTurn (turns.On job note) = IsUpNote note ⊎ (IsProcedure job × (is_identified note ≡ false) × (¬ (IsUpNote note)))
ProcedureTurn (turns.Paused job time) = IsProcedure job
ProcedureTurn (turns.Failed fault) = ¬ (IsNoProcedure fault)
ProcedureTurn (turns.Left reason) = ⊥

going_turn : (pause : Option ℕ) (job : Job) → IsProcedure job → ProcedureTurn (going pause job)
going_turn None job is = inr (is, refl, λ up. up)
going_turn (Some time) job is = is

provisioned_turn : (goal : Goal) (patience : Patience) (because : Option ProcedureFault) → ProcedureTurn (provisioned goal patience because)
provisioned_turn goal patience None = inr (tt, refl, λ up. up)
provisioned_turn goal patience (Some because) = λ none. none

activated_turn : (goal : Goal) (patience : Patience) (because : Option ProcedureFault) → ProcedureTurn (activated goal patience because)
activated_turn goal patience None = inr (tt, refl, λ up. up)
activated_turn goal patience (Some because) = λ none. none

later_by : {E : Type 0} (next : Next (Spent E)) (pause : Option ℕ) (job : Job) (turn : Turn) (made : Option E → Turn) → IsProcedure job → ((end : Option E) → ProcedureTurn (made end)) → GoesTo next pause job (λ end turn. turn ≡ made end) turn
    → ProcedureTurn turn
later_by (Do op) pause job turn made holds ends is = subst ProcedureTurn (sym is) (going_turn pause job holds)
later_by (Wait time) pause job turn made holds ends is = subst ProcedureTurn (sym is) (going_turn pause job holds)
later_by (End spent) pause job turn made holds ends is = subst ProcedureTurn (sym is) (ends spent.end)

-- ---- one operation

module _ (most : ℕ) (sim : SimModule) (has : HasHalves sim) (whole : AreWhole sim.image) (paged : IsPaged sim.image) (awaited : IsAwaited most sim.image) (wanted : Wanted) (first : SimModule) (same_image : sim.image ≡ first.image) (same_advert : sim.advert ≡ first.advert)
    (suits : Suits first wanted) (op : Op) (reply : Reply) (answers : Answers op reply) (gives : reply ≡ reply_of sim op) where
  abbrev after : SimModule
  after = module_after sim op

  own_after : IsProvisionable most first → after.advert ≡ own_advert after.image
  own_after may = advert_kept op sim ∙ same_advert ∙ may.own ∙ ap own_advert (sym (image_kept op sim ∙ same_image))

  work_own : (woken requested : Bool) (patience : Patience) → patience ≡ patience_for first.image → (decision : Decision) → IsWork decision → ((goal : Goal) → named decision ≡ Some goal → IsPlanned (conventions_of wanted) first → IsOwnGoal most wanted after goal)
      → ((goal : Goal) → decision ≡ Activate goal → IsOwnGoal most wanted after goal → active_bytes after ≡ goal.control) → OwnTurn most wanted first after (decided woken requested patience decision)
  work_own woken requested patience same (Leave reason) work goals active = absurd work
  work_own woken requested patience same Wake work goals active = absurd work
  work_own woken requested patience same Sleep work goals active = absurd work
  work_own woken requested patience same (Hold goal) work goals active = inl tt
  work_own woken requested patience same (Activate goal) work goals active = inr ((λ may. begins_activating most wanted after goal (goals goal refl (may.planned wanted suits)) (own_after may) first patience same (active goal refl (goals goal refl (may.planned wanted suits)))), λ e. goals goal refl)
  work_own woken requested patience same (Provision goal) work goals active = inr ((λ may. begins_provisioning most wanted after goal (goals goal refl (may.planned wanted suits)) (own_after may) first patience same), λ e. goals goal refl)

  -- the control bytes that are active stay those of a plan
  planned_after : KeepsLanes first after → IsPlanned (conventions_of wanted) first → IsPlanned (conventions_of wanted) after
  planned_after keeps planned =
      let same : after.image ≡ first.image = image_kept op sim ∙ same_image in
      let advert : read_by (conventions_of wanted) after ≡ read_by (conventions_of wanted) first = ap (advertised_under (conventions_of wanted)) same in
      record {
        paths = planned.paths;
        plan = subst (λ (advert : Advertised). IsAdmissible advert planned.paths) (sym advert) planned.plan;
        active = keeps.active ∙ planned.active ∙ ap (λ (advert : Advertised). control_bytes advert planned.paths) (sym advert);
      }

  wakes_own : (woken requested : Bool) (patience : Patience) → patience ≡ patience_for sim.image → IsSteady most after → KeepsLanes first after → (woken ≡ true → ⊥) → OwnTurn most wanted first after (decided woken requested patience Wake)
  wakes_own true requested patience same steady spares never = absurd (never refl)
  wakes_own false requested patience same steady spares never = inr ((subst (λ (patience : Patience). IsOwnWaking most (begun_waking patience) after) (sym same) (waking_begins most sim.image after awaited steady), spares), λ e. tt)

  module _ (woken : Bool) (job : Patient (OnPage Halves)) (r : IsOwnReading most woken job sim) (spares : KeepsLanes first sim) (asks : asked (jobs.Reading job woken) ≡ Some op) where
    abbrev next : Patient (OnPage Halves)
    next = reading_after job reply

    abbrev halves : Halves
    halves = next.conversation.conversation.conversation

    now : IsOwnReading most woken next after
    now = goes_on most sim has whole paged woken job r op reply asks answers gives

    spares_on : KeepsLanes first after
    spares_on = lanes_after most first sim (passed_on conduct op sim).1 r.steady (harmless_leaves op sim (harmless most sim has whole paged woken job r op reply asks answers gives)).lanes spares

    suits_here : Suits sim wanted
    suits_here = suits_now first sim wanted same_image spares suits

    own : IsOwn sim.image halves
    own = subst (λ (own : Memory). IsOwn own halves) (image_kept op sim) now.own

    image_whole : 5 ≤ halves.settled → IsWholeImage sim.image halves.image
    image_whole all = record { lower = own.lower (omega (arith, all)); first = own.first (omega (arith, all)); second = own.second (omega (arith, all)); lanes = own.lanes all }

    -- page 11h shows what is active
    shows_after : (lanes : HasLanes halves.image sim) (lane : ℕ) → IsLane lane → active_at lanes.page lane ≡ at_lane (active_bytes after) lane
    shows_after lanes lane within = lanes.shows.active lane within ∙ ap (λ (bytes : List ℕ). at_lane bytes lane) (spares.active ∙ sym spares_on.active)

    good_own : (decision : Decision) (all : 5 ≤ halves.settled) (lanes : HasLanes halves.image sim) → IsGood sim wanted suits_here halves.image (image_whole all) lanes decision → OwnTurn most wanted first after (decided woken (is_low_power_requested halves.image) (patience_for halves.image) decision)
    good_own decision all lanes (inl w) = work_own woken _ (patience_for halves.image) (patience_same sim.image halves.image (image_whole all) ∙ ap patience_for same_image) decision w.work (λ goal is planned.
        let advert : read_by (conventions_of wanted) sim ≡ read_by (conventions_of wanted) after = ap (advertised_under (conventions_of wanted)) (sym (image_kept op sim)) in
        let has_goal = subst (λ (advert : Advertised). HasGoal (with_active (active_in halves.image) advert) wanted lanes.page goal) advert (w.goals goal is) in
        own_goal most wanted after (active_in halves.image) lanes.page goal has_goal (planned_after spares_on planned)
        (shows_after lanes) (halves_ticked (passed_on conduct op sim).1 (halves_passed op sim has)) now.steady (now.tells.ready (omega (arith, all)) w.ready).0) (λ goal is own. all_active most wanted after goal own lanes.page (shows_after lanes) (w.all goal is))
    good_own decision all lanes (inr (wakes, not_ready)) =
        subst (λ (decision : Decision). OwnTurn most wanted first after (decided woken (is_low_power_requested halves.image) (patience_for halves.image) decision)) (sym wakes)
        (wakes_own woken _ (patience_for halves.image) (patience_same sim.image halves.image (image_whole all)) now.steady spares_on (λ is. not_ready (now.tells.read is (omega (arith, all)))))

    ended : (spent : Spent (Timed (Unit {0}))) (turn : Turn) → reading_wants next ≡ End spent → IsRead wanted woken halves.image spent.end turn → OwnTurn most wanted first after turn
    ended spent turn e is =
        let both = ends most sim has whole paged woken job r op reply asks answers gives spent e in
        let (decision, judged, turns_to) = subst (λ (end : Option (Timed (Unit {0}))). IsRead wanted woken halves.image end turn) both.0 is in
        subst (OwnTurn most wanted first after) (sym turns_to) (good_own decision both.1 both.2 (decides sim wanted suits_here halves.image (image_whole both.1) both.2 decision judged))

    reading_turns : (turn : Turn) → IsReadingTurn wanted job woken reply turn → OwnTurn most wanted first after turn
    reading_turns turn is =
        ends_or_goes (reading_wants next) (pause_of_patient (wants_on paged_halves) (after_on paged_halves) job reply) (jobs.Reading next woken) (λ end turn. IsRead wanted woken halves.image end turn) turn (OwnTurn most wanted first after) is
        (λ op e. going_own most wanted first after (pause_of_patient (wants_on paged_halves) (after_on paged_halves) job reply) (jobs.Reading next woken) (now, spares_on))
        (λ time e. never_waits (wants_on paged_halves) (after_on paged_halves) job reply time (paged_never paged_halves halves_never) e) (λ spent e ended_in. ended spent turn e ended_in)

  waking_own : (job : PatientPower) → IsOwnWaking most job sim → KeepsLanes first sim → asked (jobs.Waking job) ≡ Some op → (turn : Turn) → IsTurnOf wanted (jobs.Waking job) reply turn → OwnTurn most wanted first after turn
  waking_own job w spares asks turn is =
      let kept = waking_lanes most sim has job w op reply asks answers gives first spares in
      waking_turns most sim has job w op reply asks answers gives (OwnTurn most wanted first after)
      (λ now. going_own most wanted first after (pause_of_patient power_wants change_after job reply) (jobs.Waking (waking_after job reply)) (now, kept)) (λ steady awake. inr (reading_begins most first true after steady (λ is. awake) kept, not_begun notes.Woken refl)) turn is

  -- ---- provisioning and activation

  own_by : (job : Job) → IsProcedure job → (IsProvisionable most first → IsOnWay most first job after) → OwnJob most first job after
  own_by (jobs.Reading job woken) is way = absurd is
  own_by (jobs.Waking job) is way = absurd is
  own_by (jobs.Sleeping job) is way = absurd is
  own_by (jobs.Provisioning job goal) is way = way
  own_by (jobs.Activating job goal) is way = way
  own_by (jobs.Confirming job) is way = tt
  own_by (jobs.Watching job) is way = absurd is

  -- such a turn goes well, if the module is provisionable
  both : (turn : Turn) → ProcedureTurn turn → (IsProvisionable most first → WellTurn ⊥ (λ job. IsOnWay most first job after) turn) → OwnTurn most wanted first after turn
  both (turns.On job note) (inl up) well = inl up
  both (turns.On job note) (inr (is, off, low)) well = inr (own_by job is (λ may. goes (well may)), not_begun note off) where
    goes : IsUpNote note ⊎ IsOnWay most first job after → IsOnWay most first job after
    goes (inl up) = absurd (low up)
    goes (inr way) = way
  both (turns.Paused job time) is well = own_by job is well
  both (turns.Failed fault) fails well = (fails, λ may. (well may).1)
  both (turns.Left reason) left well = left

  procedure_own : (job : Job) (turn : Turn) → (IsProvisionable most first → IsOnWay most first job sim) → asked job ≡ Some op → ProcedureTurn turn → IsAnyTurn wanted job reply turn → OwnTurn most wanted first after turn
  procedure_own job turn holds asks procedure is = both turn procedure (λ may. way_turns most first sim op reply has answers gives may.lasts wanted job turn (holds may) asks is)

  -- where a look is at a module that came up
  pub turn_own : (job : Job) (turn : Turn) → OwnJob most first job sim → (less : ℕ) → JobAt most job sim less → asked job ≡ Some op → IsAnyTurn wanted job reply turn → OwnTurn most wanted first after turn
  turn_own (jobs.Reading job woken) turn holds less at asks is = reading_turns woken job holds.0 holds.1 asks turn (takes_reply sim op reply wanted (jobs.Reading job woken) turn has gives asks is)
  turn_own (jobs.Waking job) turn holds less at asks is = waking_own job holds.0 holds.1 asks turn (takes_reply sim op reply wanted (jobs.Waking job) turn has gives asks is)
  turn_own (jobs.Sleeping job) turn holds less at asks is = absurd holds
  turn_own (jobs.Provisioning job goal) turn holds less at asks is =
      let next = procedure_after job reply in
      let procedure = later_by (procedure_wants next) (pause_of_patient (wants_on paged_tasks) (after_on paged_tasks) job reply) (jobs.Provisioning next goal) turn (λ end. provisioned goal next.conversation.patience (fault_in end)) tt
      (λ end. provisioned_turn goal next.conversation.patience (fault_in end)) (takes_reply sim op reply wanted (jobs.Provisioning job goal) turn has gives asks is) in
      procedure_own (jobs.Provisioning job goal) turn holds asks procedure is
  turn_own (jobs.Activating job goal) turn holds less at asks is =
      let next = procedure_after job reply in
      let procedure = later_by (procedure_wants next) (pause_of_patient (wants_on paged_tasks) (after_on paged_tasks) job reply) (jobs.Activating next goal) turn (λ end. activated goal next.conversation.patience (fault_in end)) tt
      (λ end. activated_turn goal next.conversation.patience (fault_in end)) (takes_reply sim op reply wanted (jobs.Activating job goal) turn has gives asks is) in
      procedure_own (jobs.Activating job goal) turn holds asks procedure is
  turn_own (jobs.Confirming job) turn holds less at asks is =
      confirmed most sim has wanted job op reply turn at asks gives (takes_reply sim op reply wanted (jobs.Confirming job) turn has gives asks is) (OwnTurn most wanted first after) (λ goal patience. inl tt)
      (going_own most wanted first after (pause_of_patient (wants_on paged_look) (after_on paged_look) job reply) (jobs.Confirming (look_after job reply)) tt)
  turn_own (jobs.Watching job) turn holds less at asks is = absurd holds
