-- A port that begins to provision a plan of what a simulated module advertises brings it up, if it grants the time.
use Rattle.std.proofs.Common.{◌≡◌, ◌⊎◌, inl, inr, ℕ, ◌+◌, ◌*◌, ◌≤◌, true, false, List, [], ◌∷◌, Option, Some, refl, sym, ap, subst, ◌∙◌, arith}
use Rattle.std.proofs.Math.Nat.{mul-le-mul_right}
use Rattle.std.proofs.lemmas.Bool.{false_from_ne_true}
use Rattle.bus_model.specs.declared.operation.Op.{Op}
use Rattle.bus_model.specs.declared.operation.Reply.{Reply}
use Rattle.bus_model.specs.Operations.{Answers}
use Rattle.bus_model.specs.ScriptedBus.{passed_on, ticked_times}
use Rattle.conversations.specs.declared.pausing.Patience.{Patience}
use Rattle.applications.specs.Advertised.{advertised_under}
use Rattle.applications.specs.declared.conventions.Conventions.{Conventions}
use Rattle.plan_certificate.specs.declared.path.Path.{Path}
use Rattle.port_manager.specs.declared.deciding.Goal.{Goal}
use Rattle.port_manager.specs.declared.deciding.Wanted.{Wanted}
use Rattle.port_manager.specs.declared.job.Job.{Job}
use Rattle.port_manager.specs.declared.job.Job.TheVariants as jobs
use Rattle.port_manager.specs.declared.port.Outcome.{Outcome}
use Rattle.port_manager.specs.declared.port.Outcome.TheVariants as outcome
use Rattle.port_manager.specs.declared.port.Outstanding.{Outstanding}
use Rattle.port_manager.specs.declared.port.Outstanding.TheVariants as outstanding
use Rattle.port_manager.specs.declared.port.Port.{Port}
use Rattle.port_manager.specs.declared.port.Stage.{Stage}
use Rattle.port_manager.specs.declared.port.Stage.TheVariants as stages
use Rattle.port_manager.specs.declared.turn.PortFault.{PortFault}
use Rattle.port_manager.specs.Jobs.{IsReplyTo, activating, asked, provisioning}
use Rattle.port_manager.specs.Ports.{again, IsAwaitedBy, IsTakenBy, IsTurnedIn, answered, asked_in, awaited, noting, outcome_of, turned}
use Rattle.port_manager.specs.Progress.{IsGoing, IsGoingOn, made_in}
use Rattle.port_manager.specs.Requests.{granted}
use Rattle.port_manager.specs.Stories.{Story, ask, drop, make, plug, pull, reconsider, acknowledge, hold, demand, hear}
use Rattle.port_manager.specs.Turns.{Turn}
use Rattle.port_manager.specs.Turns as turns
use Rattle.port_manager.proofs.TurnProgress.{left, same_outcome}
use Rattle.sim_module.specs.declared.module.SimModule.{SimModule}
use Rattle.sim_module.specs.Down.{has_low_power}
use Rattle.sim_module.specs.Lanes.{active_bytes}
use Rattle.sim_module.specs.Modules.{conduct}
use Rattle.sim_liveness.proofs.OwnPlans.{plan_read}
use Rattle.managed_module.specs.Bounds.{IsAsleep}
use Rattle.managed_module.specs.Managed.{HasHalves, Manages}
use Rattle.managed_module.specs.ComingUp.{HasComeUp, IsUndisturbed, IsUpResult}
use Rattle.managed_module.specs.ManagedPlans.{BeginsToProvision, IsInTime, IsReadyFor, LastsFor, PlansComeUp, PlansDontFail, TookTooLong, most_made, most_until_up}
use Rattle.managed_module.proofs.GoalLanes.{whole_by}
use Rattle.managed_module.proofs.Halves.{halves_passed, halves_paused, halves_ticked}
use Rattle.managed_module.proofs.JobSteps.{IsWhole, reading_waits}
use Rattle.managed_module.proofs.JobTurns.{activating_at}
use Rattle.managed_module.proofs.OwnTasks.{module_after, reply_of}
use Rattle.managed_module.proofs.PlanJobs.{GoesWell, IsEarly, IsShort, IsTimedJob, IsTimely, WellTurn, at_any_time, begins_active, begins_fine, goes_paused, timely}
use Rattle.managed_module.proofs.PlanPhases.{Rests}
use Rattle.managed_module.proofs.PlanTime.{through}
use Rattle.managed_module.proofs.PlanTurns.{early, turn_well}

module _ (most : ℕ) (patience : Patience) where
  abbrev Goes : ℕ → Job → SimModule → Type 0
  Goes made job sim = GoesWell most (most_until_up most) patience made job sim

  abbrev GoodStage : ℕ → Stage → SimModule → Type 0
  GoodStage made stages.Absent sim = ⊥
  GoodStage made (stages.Left reason) sim = ⊥
  GoodStage made (stages.Working job) sim = Goes made job sim

  stage_pauses : (made : ℕ) (stage : Stage) (count : ℕ) (sim : SimModule) → GoodStage made stage sim → GoodStage made stage (ticked_times conduct count sim)
  stage_pauses made stages.Absent count sim good = good
  stage_pauses made (stages.Left reason) count sim good = good
  stage_pauses made (stages.Working job) count sim good = goes_paused most (most_until_up most) patience made job count sim good

  -- no more operations were made than may be
  few_made : (made : ℕ) (stage : Stage) (sim : SimModule) → GoodStage made stage sim → made ≤ most_until_up most
  few_made made stages.Absent sim good = absurd good
  few_made made (stages.Left reason) sim good = absurd good
  few_made made (stages.Working job) sim good = omega (arith, good.few)

  -- after so many operations the plan is provisioned or its lanes are activated, and a reply is taken as one to what was asked
  record IsOnItsWay (made : ℕ) (port : Port) (sim : SimModule) : Type 0 where
    halves : HasHalves sim
    good : GoodStage made port.stage sim
    fresh : (port.outstanding ≡ outstanding.Nothing) ⊎ (port.outstanding ≡ outstanding.Awaited)

  way_as : (made : ℕ) (before after : Port) (sim : SimModule) → after.stage ≡ before.stage → after.outstanding ≡ before.outstanding → IsOnItsWay made before sim → IsOnItsWay made after sim
  way_as made before after sim stage same way = record { halves = way.halves; good = subst (λ (s : Stage). GoodStage made s sim) (sym stage) way.good; fresh = fresh_as way.fresh } where
    fresh_as : (before.outstanding ≡ outstanding.Nothing) ⊎ (before.outstanding ≡ outstanding.Awaited) → (after.outstanding ≡ outstanding.Nothing) ⊎ (after.outstanding ≡ outstanding.Awaited)
    fresh_as (inl nothing) = inl (same ∙ nothing)
    fresh_as (inr some) = inr (same ∙ some)

-- what was asked for is taken as such
fresh_taken : (o : Outstanding) (port later : Port) (op : Op) (reply : Reply) (wanted : Wanted) (now : ℕ) (result : Outcome) → (o ≡ outstanding.Nothing) ⊎ (o ≡ outstanding.Awaited) → awaited port ≡ Some op → IsAwaitedBy o port reply
    → IsTakenBy o port reply wanted now result later → (o ≡ outstanding.Awaited) ⊎ (o ≡ outstanding.Stale) → Answers op reply × IsTurnedIn port.stage port reply wanted now result later
fresh_taken outstanding.Nothing port later op reply wanted now result fresh asks answers is waited = absurd answers
fresh_taken outstanding.Awaited port later op reply wanted now result fresh asks answers is waited = (subst (λ (found : Option Op). IsReplyTo found reply) asks answers, is)
fresh_taken outstanding.Stale port later op reply wanted now result (inl e) asks answers is waited = absurd cc
fresh_taken outstanding.Stale port later op reply wanted now result (inr e) asks answers is waited = absurd cc
fresh_taken outstanding.Forsaken port later op reply wanted now result (inl e) asks answers is waited = absurd cc
fresh_taken outstanding.Forsaken port later op reply wanted now result (inr e) asks answers is waited = absurd cc

-- ---- a story of whose results P holds: a list of tasks ends in time, or a failure by being late has no P

module _ (most : ℕ) (patience : Patience) (late : Type 0) (P : Outcome → Type 0) (never : (because : PortFault) (moment : ℕ) → P (outcome.Failed because moment) → TookTooLong because → late → ⊥)
    (in_time : (made : ℕ) (job : Job) → IsEarly (λ made. made + 1 ≤ most_made most) made job → (reply : Reply) → IsTimedJob patience made job → IsTimely late job reply) where
  -- the result is that it is up, or it goes on
  abbrev Follows : ℕ → Outcome → Port → SimModule → Type 0
  Follows made result later after = IsUpResult result ⊎ (IsGoing result × (GoodStage most patience made later.stage after × (later.outstanding ≡ outstanding.Nothing)))

  turned_follows : (made : ℕ) (after : SimModule) (port : Port) (turn : Turn) (now : ℕ) → port.outstanding ≡ outstanding.Nothing → WellTurn late (λ job. Goes most patience made job after) turn → P (outcome_of port turn now)
      → Follows made (outcome_of port turn now) (turned port turn now) after
  turned_follows made after port (turns.On job note) now free (inl up) p = inl up
  turned_follows made after port (turns.On job note) now free (inr good) p = inr (tt, (good, free))
  turned_follows made after port (turns.Paused job time) now free good p = inr (tt, (good, free))
  turned_follows made after port (turns.Failed why) now free (took, over) p = absurd (never why (again port now) p took over)
  turned_follows made after port (turns.Left reason) now free well p = absurd well

  stage_follows : (made : ℕ) (stage : Stage) (sim : SimModule) (port later : Port) (op : Op) (reply : Reply) (wanted : Wanted) (now : ℕ) (result : Outcome) → HasHalves sim → GoodStage most patience made stage sim → asked_in stage ≡ Some op → Answers op reply → reply ≡ reply_of sim op → P result
      → IsTurnedIn stage port reply wanted now result later → Follows (made + 1) result later (module_after sim op)
  stage_follows made stages.Absent sim port later op reply wanted now result has good asks answers gives p is = absurd good
  stage_follows made (stages.Left reason) sim port later op reply wanted now result has good asks answers gives p is = absurd good
  stage_follows made (stages.Working job) sim port later op reply wanted now result has good asks answers gives p (turn, leads, outcome, becomes) =
      let noted = noting (answered port) (asked job) reply now in
      let same : result ≡ outcome_of noted turn now = outcome ∙ sym (same_outcome port (asked job) reply turn now) in
      let ends : IsTimely late job reply = in_time made job (early most (most_made most) patience made job sim op good asks) reply good.time in
      let well = turn_well late most (most_until_up most) patience made sim op reply has answers gives (granted port.request wanted) job turn good asks ends (port.apply_refused, leads) in
      subst (λ (result : Outcome). Follows (made + 1) result later (module_after sim op)) (sym same)
      (subst (λ (later : Port). Follows (made + 1) (outcome_of noted turn now) later (module_after sim op)) (sym becomes) (turned_follows (made + 1) (module_after sim op) noted turn now refl well (subst P same p)))

  module _ (port : Port) (sim : SimModule) (way : IsOnItsWay most patience 0 port sim) where
    abbrev Reached : Story → Port → SimModule → Type 0
    Reached story later after = HasComeUp story ⊎ (IsGoingOn story × IsOnItsWay most patience (made_in story) later after)

    -- an event that makes no operation
    same_reached : (before story : Story) (between later : Port) (then_sim after : SimModule) → (HasComeUp before → HasComeUp story) → (IsGoingOn before → IsGoingOn story)
        → (IsOnItsWay most patience (made_in before) between then_sim → IsOnItsWay most patience (made_in story) later after) → Reached before between then_sim → Reached story later after
    same_reached before story between later then_sim after up going same (inl is) = inl (up is)
    same_reached before story between later then_sim after up going same (inr (goes, at)) = inr (going goes, same at)

    runs_well : (later : Port) (after : SimModule) (story : Story) → Manages port sim story later after → IsUndisturbed P story → Reached story later after
    runs_well later after [] (is, same) calm =
        inr (tt, subst (λ (p : Port). IsOnItsWay most patience 0 p after) (sym is) (subst (λ (s : SimModule). IsOnItsWay most patience 0 port s) (sym same) way))
    runs_well later after (plug now ∷ before) ran calm = absurd calm
    runs_well later after (pull ∷ before) ran calm = absurd calm
    runs_well later after (reconsider ∷ before) ran calm = absurd calm
    runs_well later after (hold held ∷ before) ran calm = absurd calm
    runs_well later after (demand request ∷ before) ran calm = absurd calm
    runs_well later after (acknowledge past ∷ before) (between, then_sim, ran, cmis, is, same) calm =
        same_reached before (acknowledge past ∷ before) between later then_sim after (λ up. up) (λ goes. goes)
        (λ at. subst (IsOnItsWay most patience (made_in before) later) (sym same) (way_as most patience (made_in before) between later then_sim (ap (λ (p : Port). p.stage) is) (ap (λ (p : Port). p.outstanding) is) at))
        (runs_well between then_sim before ran calm)
    runs_well later after (hear alive began ∷ before) (between, then_sim, ran, cmis, is, same) calm =
        same_reached before (hear alive began ∷ before) between later then_sim after (λ up. up) (λ goes. goes)
        (λ at. subst (IsOnItsWay most patience (made_in before) later) (sym same) (way_as most patience (made_in before) between later then_sim (ap (λ (p : Port). p.stage) is) (ap (λ (p : Port). p.outstanding) is) at))
        (runs_well between then_sim before ran calm)
    runs_well later after (ask op moment ∷ before) (between, then_sim, ran, cmis, (asks, is), (count, same)) calm =
        same_reached before (ask op moment ∷ before) between later then_sim after (λ up. up) (λ goes. goes)
        (λ at. subst (IsOnItsWay most patience (made_in before) later) (sym same) (record {
          halves = halves_paused count then_sim at.halves;
          good = subst (λ (s : Stage). GoodStage most patience (made_in before) s (ticked_times conduct count then_sim)) (sym (ap (λ (p : Port). p.stage) is)) (stage_pauses most patience (made_in before) between.stage count then_sim at.good);
          fresh = inr (ap (λ (p : Port). p.outstanding) is);
        }))
        (runs_well between then_sim before ran calm)
    runs_well later after (drop ∷ before) (between, then_sim, ran, cmis, (forsaken, is), same) calm =
        same_reached before (drop ∷ before) between later then_sim after (λ up. up) (λ goes. goes)
        (λ at. subst (IsOnItsWay most patience (made_in before) later) (sym same) (record {
          halves = at.halves;
          good = subst (λ (s : Stage). GoodStage most patience (made_in before) s then_sim) (sym (ap (λ (p : Port). p.stage) is)) at.good;
          fresh = inl (ap (λ (p : Port). p.outstanding) is);
        }))
        (runs_well between then_sim before ran calm)
    runs_well later after (make op reply wanted now result ∷ before) (between, then_sim, ran, cmis, (waited, asks, answers, is), (gives, same)) calm = by (runs_well between then_sim before ran calm.1) where
      by : Reached before between then_sim → Reached (make op reply wanted now result ∷ before) later after
      by (inl up) = inl (inr up)
      by (inr (goes, at)) =
          let taken = fresh_taken between.outstanding between later op reply wanted now result at.fresh asks answers is waited in
          to goes at (stage_follows (made_in before) between.stage then_sim between later op reply wanted now result at.halves at.good asks taken.0 gives calm.0 taken.1) where
            to : IsGoingOn before → IsOnItsWay most patience (made_in before) between then_sim → Follows (made_in before + 1) result later (module_after then_sim op) → Reached (make op reply wanted now result ∷ before) later after
            to goes at (inl up) = inl (inl up)
            to goes at (inr (going, (good, free))) =
                inr (
                  (going, goes),
                  subst (IsOnItsWay most patience (made_in before + 1) later) (sym same)
                      (record { halves = halves_ticked (passed_on conduct op then_sim).1 (halves_passed op then_sim at.halves); good = good; fresh = inl free }),
                )

-- ---- the laws

module _ (most : ℕ) (conventions : Conventions) (paths kept : List Path) (goal : Goal) (patience : Patience) (sim : SimModule) (ready : IsReadyFor most conventions paths kept goal sim) where
  at_rest : Rests most sim.image (active_bytes sim) sim
  at_rest = record {
    steady = ready.steady;
    awake = (ready.ready, false_from_ne_true (has_low_power sim) (λ low. subst IsAsleep ready.ready (ready.steady.power low)));
    memory = record { image = refl; own = ready.own };
    active = refl;
  }

  whole : IsWhole goal
  whole = whole_by (advertised_under conventions sim.image) paths goal (plan_read conventions sim.image paths ready.fits.plan) ready.fits.control ready.fits.lanes

  pub provisions_first : GoesWell most (most_until_up most) patience 0 (provisioning goal patience) sim
  provisions_first =
      let many : left (provisioning goal patience) ≡ 36 = refl in
      record {
        linked = λ opened. absurd (let same : false ≡ true = opened in cc);
        fine = begins_fine most conventions paths kept goal patience sim.image (active_bytes sim) sim ready.fits at_rest;
        less = reading_waits most true;
        at = (refl, whole, ready.steady.counters, (λ page e. absurd cc), (ready.steady, omega arith));
        few = omega (arith, many);
        time = record { steps = omega arith; limit = refl; idle = omega arith; patience = refl };
      }

  -- the plan is active already
  pub activates_first : active_bytes sim ≡ goal.control → GoesWell most (most_until_up most) patience 0 (activating goal patience) sim
  activates_first active =
      let few : left (activating goal patience) ≡ 14 = refl in
      record {
        linked = λ opened. absurd (let same : false ≡ true = opened in cc);
        fine = begins_active most goal patience sim.image sim (record { steady = at_rest.steady; awake = at_rest.awake; memory = at_rest.memory; active = active });
        less = reading_waits most true;
        at = activating_at most goal patience sim (reading_waits most true) whole ready.steady (omega arith);
        few = omega (arith, few);
        time = record { steps = omega arith; limit = refl; idle = omega arith; patience = refl };
      }

  on_its_way : (port : Port) → BeginsToProvision goal patience port → IsOnItsWay most patience 0 port sim
  on_its_way port begins = record {
    halves = ready.halves;
    good = subst (λ (s : Stage). GoodStage most patience 0 s sim) (sym begins.stage) provisions_first;
    fresh = inl begins.free;
  }

pub plans_dont_fail : PlansDontFail
plans_dont_fail most conventions paths kept goal patience port later sim after story ready begins ran calm =
    by (runs_well most patience (Unit {0}) IsInTime (λ because moment in_time took over. in_time took) (λ made job few reply time. at_any_time job reply) port sim (on_its_way most conventions paths kept goal patience sim ready port begins) later after story ran calm) where
      by : HasComeUp story ⊎ (IsGoingOn story × IsOnItsWay most patience (made_in story) later after) → HasComeUp story ⊎ IsGoingOn story
      by (inl up) = inl up
      by (inr (goes, at)) = inr goes

short_by : (most : ℕ) (patience : Patience) → LastsFor (most_made most) patience → (made : ℕ) → made + 1 ≤ most_made most → IsShort patience made made
short_by most patience lasts made few =
    let fewer : made ≤ most_made most = omega (arith, few) in
    let less = mul-le-mul_right patience.pause fewer in
    (omega (arith, few, lasts.operations), through (made * patience.pause) (most_made most * patience.pause) patience.limit less lasts.pauses)

early_by : (Few Fewer : ℕ → Type 0) (made : ℕ) → (Few made → Fewer made) → (job : Job) → IsEarly Few made job → IsEarly Fewer made job
early_by Few Fewer made by (jobs.Reading job woken) early = tt
early_by Few Fewer made by (jobs.Waking job) early = tt
early_by Few Fewer made by (jobs.Sleeping job) early = tt
early_by Few Fewer made by (jobs.Provisioning job goal) early = by early
early_by Few Fewer made by (jobs.Activating job goal) early = by early
early_by Few Fewer made by (jobs.Confirming job) early = tt
early_by Few Fewer made by (jobs.Watching job) early = tt

pub in_time_by : (most : ℕ) (patience : Patience) → LastsFor (most_made most) patience → (made : ℕ) (job : Job) → IsEarly (λ made. made + 1 ≤ most_made most) made job → (reply : Reply) → IsTimedJob patience made job → IsTimely ⊥ job reply
in_time_by most patience lasts made job early reply time =
    timely patience made job reply (early_by (λ made. made + 1 ≤ most_made most) (IsShort patience made) made (short_by most patience lasts made) job early) time

pub plans_come_up : PlansComeUp
plans_come_up most conventions paths kept goal patience port later sim after story ready begins lasts ran calm many =
    by (runs_well most patience ⊥ (λ result. Unit {0}) (λ because moment p took over. over) (in_time_by most patience lasts) port sim (on_its_way most conventions paths kept goal patience sim ready port begins) later after story ran calm) where
      by : HasComeUp story ⊎ (IsGoingOn story × IsOnItsWay most patience (made_in story) later after) → HasComeUp story
      by (inl up) = up
      by (inr (goes, at)) = absurd (omega (arith, few_made most patience (made_in story) later.stage after at.good, many))
