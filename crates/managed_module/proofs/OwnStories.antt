-- A port brings up a simulated module that suits what is wanted, unless provisioning, activation or a look fails.
use Rattle.port_manager.specs.declared.deciding.Goal.{Goal}
use Rattle.port_manager.specs.declared.port.Outcome.TheVariants as outcomes
use Rattle.port_manager.specs.declared.turn.Note.TheVariants as notes
use Rattle.port_manager.specs.Ports.{IfWorking, IsAwaitedBy, IsTakenBy, IsTurnedIn, asked_in, forsaken, plugged}
use Rattle.managed_module.specs.ModuleGoals.{Begins, GoalsAreOwn, IsOwnGoal, IsPlanned}
use Rattle.managed_module.proofs.OwnTurns.{IsBegun, reading_begins}
use Rattle.std.proofs.Common.{[], ◌≡◌, ◌⊎◌, inl, inr, ℕ, ◌+◌, ◌*◌, ◌≤◌, ◌<◌, true, false, ◌∷◌, Option, Some, refl, sym, ap, subst, ◌∙◌, arith}
use Rattle.std.proofs.Math.Nat.{mul-le-mul_right}
use Rattle.bus_model.specs.declared.operation.Op.{Op}
use Rattle.paged_memory.specs.Images.{Memory}
use Rattle.control_sets.specs.Durations.{patience_for}
use Rattle.bus_model.specs.declared.operation.Reply.{Reply}
use Rattle.bus_model.specs.Operations.{Answers}
use Rattle.bus_model.specs.ScriptedBus.{passed_on, ticked_times}
use Rattle.port_manager.specs.declared.deciding.Wanted.{Wanted}
use Rattle.port_manager.specs.declared.port.Outcome.{Outcome}
use Rattle.port_manager.specs.declared.port.Outstanding.{Outstanding}
use Rattle.port_manager.specs.declared.port.Outstanding.TheVariants as outstanding
use Rattle.port_manager.specs.declared.port.Port.{Port}
use Rattle.port_manager.specs.declared.port.Stage.{Stage}
use Rattle.port_manager.specs.declared.request.Request.TheVariants.{Wake}
use Rattle.port_manager.specs.Goals.{conventions_of}
use Rattle.port_manager.specs.Jobs.{IsReplyTo}
use Rattle.port_manager.specs.Progress.{IsGoing, IsGoingOn, made_in}
use Rattle.port_manager.specs.Stories.{Story, plug, pull, reconsider, acknowledge, ask, make, drop, hold, demand, hear}
use Rattle.sim_module.specs.declared.module.SimModule.{SimModule}
use Rattle.sim_module.specs.Modules.{conduct}
use Rattle.managed_module.specs.Bounds.{IsSteady, WantsAwake, most_waits}
use Rattle.managed_module.specs.Managed.{HasHalves, IsCmisStage, Manages}
use Rattle.managed_module.specs.ComingUp.{HasComeUp, IsUndisturbed, IsUpResult}
use Rattle.managed_module.specs.ManagedPlans.{LastsFor, most_made}
use Rattle.managed_module.specs.SuitedModules.{SuitedHasComeUp}
use Rattle.managed_module.specs.Succeeds.{AllSuit, AreWhole, ComesUpSuited, IsAwaited, NoProcedureFails, ProceduresSucceed, Suits, Works}
use Rattle.managed_module.proofs.BoundLaw.{Keeps, StageAt, comes_up_within, plugged_keeps, runs_reached}
use Rattle.managed_module.proofs.Halves.{halves_passed, halves_paused, halves_ticked}
use Rattle.managed_module.proofs.OwnAdverts.{IsPaged, is_paged}
use Rattle.managed_module.proofs.OwnReadingEnds.{advert_kept, advert_paused, image_kept, image_paused}
use Rattle.managed_module.proofs.OwnTasks.{module_after, reply_of}
use Rattle.managed_module.proofs.PlanTime.{through}
use Rattle.managed_module.proofs.OwnSteps.{IsUpOrStep, not_up, IsFresh, IsSpared, OwnStage, cmis_stage, stage_paused, stage_step}

-- ---- a whole story

module _ (most : ℕ) (first : SimModule) (whole : AreWhole first.image) (paged : IsPaged first.image) (awaited : IsAwaited most first.image) where
  pub record Holds (port : Port) (sim : SimModule) : Type 0 where
    pub halves : HasHalves sim
    pub image : sim.image ≡ first.image
    pub advert : sim.advert ≡ first.advert
    pub request : port.request ≡ Wake
    pub own : OwnStage most first port.stage sim
    pub fresh : IsFresh port.outstanding

  -- an event that makes no operation
  idle_holds : (between later : Port) (sim : SimModule) → Holds between sim → later.stage ≡ between.stage → later.request ≡ between.request → IsFresh later.outstanding → Holds later sim
  idle_holds between later sim holds stage request fresh = record {
    halves = holds.halves;
    image = holds.image;
    advert = holds.advert;
    request = request ∙ holds.request;
    own = subst (λ (stage : Stage). OwnStage most first stage sim) (sym stage) holds.own;
    fresh = fresh;
  }

  ticks_hold : (port : Port) (count : ℕ) (sim : SimModule) → Holds port sim → Holds port (ticked_times conduct count sim)
  ticks_hold port count sim holds = record {
    halves = halves_paused count sim holds.halves;
    image = image_paused count sim ∙ holds.image;
    advert = advert_paused count sim ∙ holds.advert;
    request = holds.request;
    own = stage_paused most first port.stage count sim holds.own;
    fresh = holds.fresh;
  }

  same_module : (port : Port) (sim after : SimModule) → after ≡ sim → Holds port sim → Holds port after
  same_module port sim after same holds = subst (Holds port) (sym same) holds

  pub fresh_awaited : (o : Outstanding) → IsFresh o → (o ≡ outstanding.Awaited) ⊎ (o ≡ outstanding.Stale) → o ≡ outstanding.Awaited
  fresh_awaited o fresh (inl is) = is
  fresh_awaited o fresh (inr stale) = absurd (subst IsFresh stale fresh)

  record IsMade (result : Outcome) (wanted : Wanted) (later : Port) (after : SimModule) : Type 0 where
    goes : IsGoing result
    holds : Holds later after
    begun : result ≡ outcomes.Went notes.Identified → IfWorking later.stage (IsBegun most wanted first after)

  made_step : (between later : Port) (sim : SimModule) (op : Op) (reply : Reply) (wanted : Wanted) (now : ℕ) (result : Outcome) → Holds between sim → Suits first wanted → between.outstanding ≡ outstanding.Awaited → asked_in between.stage ≡ Some op
      → IsAwaitedBy between.outstanding between reply → reply ≡ reply_of sim op → IsSpared most first result → (less : ℕ) → StageAt most between.stage sim less → IsTakenBy between.outstanding between reply wanted now result later → IsUpResult result ⊎ IsMade result wanted later (module_after sim op)
  made_step between later sim op reply wanted now result holds suits waited asks replies gives early less at is =
      let reply_to : IsReplyTo (asked_in between.stage) reply = subst (λ (o : Outstanding). IsAwaitedBy o between reply) waited replies in
      let answers : Answers op reply = subst (λ (found : Option Op). IsReplyTo found reply) asks reply_to in
      let turned_in : IsTurnedIn between.stage between reply wanted now result later = subst (λ (o : Outstanding). IsTakenBy o between reply wanted now result later) waited is in
      by
      (stage_step most sim holds.halves (subst AreWhole (sym holds.image) whole) (subst IsPaged (sym holds.image) paged) (subst (IsAwaited most) (sym holds.image) awaited) wanted first holds.image holds.advert suits op reply answers gives between later now result
      holds.request early between.stage holds.own less at asks turned_in) where
        by : IsUpOrStep most wanted first result later (module_after sim op) → IsUpResult result ⊎ IsMade result wanted later (module_after sim op)
        by (inl up) = inl up
        by (inr step) = inr (record {
          goes = step.goes;
          holds = record {
            halves = halves_ticked (passed_on conduct op sim).1 (halves_passed op sim holds.halves);
            image = image_kept op sim ∙ holds.image;
            advert = advert_kept op sim ∙ holds.advert;
            request = step.request;
            own = step.own;
            fresh = step.fresh;
          };
          begun = step.begun;
        })

  pub record IsRun (port : Port) (story : Story) (later : Port) (after : SimModule) : Type 0 where
    pub managed : Manages port first story later after
    pub goes : IsGoingOn story
    pub wants : WantsAwake story
    pub holds : Holds later after

  cmis : (port : Port) (sim : SimModule) → Holds port sim → IsCmisStage port.stage
  cmis port sim holds = cmis_stage most first port.stage sim (subst IsPaged (sym holds.image) paged) holds.own

  -- an event that makes no operation
  idle_run : (port between later : Port) (sim after : SimModule) (before story : Story) → HasComeUp before ⊎ IsRun port before between sim → (HasComeUp before → HasComeUp story)
      → (IsRun port before between sim → IsRun port story later after) → HasComeUp story ⊎ IsRun port story later after
  idle_run port between later sim after before story (inl up) still next = inl (still up)
  idle_run port between later sim after before story (inr run) still next = inr (next run)

  -- what is left to be waited for
  left_at : (port later : Port) (after : SimModule) (story : Story) → Keeps most port first (most_waits most) → IsRun port story later after → (less : ℕ) × StageAt most later.stage after less
  left_at port later after story keeps run =
      let reached = runs_reached most (most_waits most) port later first after story keeps run.managed run.goes run.wants in
      (reached.less, reached.keeps.at)

  pub runs : (port later : Port) (after : SimModule) (story : Story) → Keeps most port first (most_waits most) → Holds port first → Works port first story later after → IsUndisturbed (IsSpared most first) story → AllSuit first story → HasComeUp story ⊎ IsRun port story later after
  runs port later after [] keeps holds (is, same) succeed suit = inr (record {
    managed = (is, same);
    goes = tt;
    wants = tt;
    holds = subst (λ (p : Port). Holds p after) (sym is) (same_module port first after same holds);
  })
  runs port later after (plug now ∷ before) keeps holds ran succeed suit = absurd succeed
  runs port later after (pull ∷ before) keeps holds ran succeed suit = absurd succeed
  runs port later after (reconsider ∷ before) keeps holds ran succeed suit = absurd succeed
  runs port later after (hold held ∷ before) keeps holds ran succeed suit = absurd succeed
  runs port later after (demand request ∷ before) keeps holds ran succeed suit = absurd succeed
  runs port later after (acknowledge past ∷ before) keeps holds (between, sim, ran, is, same) succeed suit =
      idle_run port between later sim after before (acknowledge past ∷ before) (runs port between sim before keeps holds ran succeed suit) (λ up. up) (λ run. record {
        managed = (between, sim, run.managed, cmis between sim run.holds, is, same);
        goes = run.goes;
        wants = run.wants;
        holds = same_module later sim after same
            (idle_holds between later sim run.holds (ap (λ (p : Port). p.stage) is) (ap (λ (p : Port). p.request) is) (subst (λ (p : Port). IsFresh p.outstanding) (sym is) run.holds.fresh));
      })
  runs port later after (hear alive began ∷ before) keeps holds (between, sim, ran, is, same) succeed suit =
      idle_run port between later sim after before (hear alive began ∷ before) (runs port between sim before keeps holds ran succeed suit) (λ up. up) (λ run. record {
        managed = (between, sim, run.managed, cmis between sim run.holds, is, same);
        goes = run.goes;
        wants = run.wants;
        holds = same_module later sim after same
            (idle_holds between later sim run.holds (ap (λ (p : Port). p.stage) is) (ap (λ (p : Port). p.request) is) (subst (λ (p : Port). IsFresh p.outstanding) (sym is) run.holds.fresh));
      })
  runs port later after (ask op moment ∷ before) keeps holds (between, sim, ran, (asks, is), (count, same)) succeed suit =
      idle_run port between later sim after before (ask op moment ∷ before) (runs port between sim before keeps holds ran succeed suit) (λ up. up) (λ run. record {
        managed = (between, sim, run.managed, cmis between sim run.holds, (asks, is), (count, same));
        goes = run.goes;
        wants = run.wants;
        holds = same_module later (ticked_times conduct count sim) after same
            (idle_holds between later (ticked_times conduct count sim) (ticks_hold between count sim run.holds) (ap (λ (p : Port). p.stage) is) (ap (λ (p : Port). p.request) is) (subst (λ (p : Port). IsFresh p.outstanding) (sym is) tt));
      })
  runs port later after (drop ∷ before) keeps holds (between, sim, ran, (lost, is), same) succeed suit =
      idle_run port between later sim after before (drop ∷ before) (runs port between sim before keeps holds ran succeed suit) (λ up. up) (λ run. record {
        managed = (between, sim, run.managed, cmis between sim run.holds, (lost, is), same);
        goes = run.goes;
        wants = run.wants;
        holds = same_module later sim after same (idle_holds between later sim run.holds (ap (λ (p : Port). p.stage) is) (ap (λ (p : Port). p.request) is) (subst (λ (p : Port). IsFresh p.outstanding) (sym is) tt));
      })
  runs port later after (make op reply wanted now result ∷ before) keeps holds (between, sim, ran, (waited, asks, answers, is), (gives, same)) succeed suit =
      by (runs port between sim before keeps holds ran succeed.1 suit.1) where
        next : (run : IsRun port before between sim) → IsUpResult result ⊎ IsMade result wanted later (module_after sim op) → HasComeUp (make op reply wanted now result ∷ before) ⊎ IsRun port (make op reply wanted now result ∷ before) later after
        next run (inl up) = inl (inl up)
        next run (inr made) = inr (record {
          managed = (between, sim, run.managed, cmis between sim run.holds, (waited, asks, answers, is), (gives, same));
          goes = (made.goes, run.goes);
          wants = (suit.0.awake, run.wants);
          holds = same_module later (module_after sim op) after same made.holds;
        })

        by : HasComeUp before ⊎ IsRun port before between sim → HasComeUp (make op reply wanted now result ∷ before) ⊎ IsRun port (make op reply wanted now result ∷ before) later after
        by (inl up) = inl (inr up)
        by (inr run) =
            let at = left_at port between sim before keeps run in
            next run (made_step between later sim op reply wanted now result run.holds suit.0 (fresh_awaited between.outstanding run.holds.fresh waited) asks answers gives succeed.0 at.0 at.1 is)

-- ---- the law

-- what was wanted with the newest operation
suited : (sim : SimModule) (story : Story) → AllSuit sim story → 0 < made_in story → (wanted : Wanted) × Suits sim wanted
suited sim [] suit some = absurd (omega (arith, some))
suited sim (plug now ∷ before) suit some = suited sim before suit some
suited sim (pull ∷ before) suit some = suited sim before suit some
suited sim (reconsider ∷ before) suit some = suited sim before suit some
suited sim (hold held ∷ before) suit some = suited sim before suit some
suited sim (demand request ∷ before) suit some = suited sim before suit some
suited sim (acknowledge past ∷ before) suit some = suited sim before suit some
suited sim (hear alive began ∷ before) suit some = suited sim before suit some
suited sim (ask op moment ∷ before) suit some = suited sim before suit some
suited sim (make op reply wanted now result ∷ before) suit some = (wanted, suit.0)
suited sim (drop ∷ before) suit some = suited sim before suit some

forsaken_fresh : (o : Outstanding) → IsFresh (forsaken o)
forsaken_fresh outstanding.Nothing = tt
forsaken_fresh outstanding.Awaited = tt
forsaken_fresh outstanding.Stale = tt
forsaken_fresh outstanding.Forsaken = tt

pub holds_first : (most : ℕ) (sim : SimModule) (whole : AreWhole sim.image) (paged : IsPaged sim.image) (awaited : IsAwaited most sim.image) (port : Port) (now : ℕ) → HasHalves sim → IsSteady most sim → Holds most sim whole paged awaited (plugged now port) sim
holds_first most sim whole paged awaited port now has steady = record {
  halves = has;
  image = refl;
  advert = refl;
  request = refl;
  own = reading_begins most sim false sim steady (λ is. absurd (let wrong : false ≡ true = is in cc)) (record { active = refl; spares = λ lane within spare. spare });
  fresh = forsaken_fresh port.outstanding;
}

-- less is asked of each result
pub undisturbed : (P Q : Outcome → Type 0) → ((result : Outcome) → P result → Q result) → (story : Story) → IsUndisturbed P story → IsUndisturbed Q story
undisturbed P Q less [] calm = tt
undisturbed P Q less (plug now ∷ before) calm = calm
undisturbed P Q less (pull ∷ before) calm = calm
undisturbed P Q less (reconsider ∷ before) calm = calm
undisturbed P Q less (hold held ∷ before) calm = calm
undisturbed P Q less (demand request ∷ before) calm = calm
undisturbed P Q less (acknowledge past ∷ before) calm = undisturbed P Q less before calm
undisturbed P Q less (hear alive began ∷ before) calm = undisturbed P Q less before calm
undisturbed P Q less (ask op moment ∷ before) calm = undisturbed P Q less before calm
undisturbed P Q less (make op reply wanted now result ∷ before) calm = (less result calm.0, undisturbed P Q less before calm.1)
undisturbed P Q less (drop ∷ before) calm = undisturbed P Q less before calm

spared : (most : ℕ) (sim : SimModule) (story : Story) → ProceduresSucceed story → IsUndisturbed (IsSpared most sim) story
spared most sim story succeed = undisturbed NoProcedureFails (IsSpared most sim) (λ result none. inl none) story succeed

-- in both laws
by_bound : (most : ℕ) (port later : Port) (sim after : SimModule) (now : ℕ) (story : Story) → HasHalves sim → IsSteady most sim → AreWhole sim.image → IsAwaited most sim.image → Works (plugged now port) sim story later after
    → IsUndisturbed (IsSpared most sim) story → AllSuit sim story → 65 + 3 * most_waits most < made_in story → HasComeUp story
by_bound most port later sim after now story has steady whole awaited ran calm suit many =
    let (wanted, suits) = suited sim story suit (omega (arith, many)) in
    let paged : IsPaged sim.image = is_paged (conventions_of wanted) sim.image refl suits.read in
    let begun : Holds most sim whole paged awaited (plugged now port) sim = holds_first most sim whole paged awaited port now has steady in
    by paged (runs most sim whole paged awaited (plugged now port) later after story (plugged_keeps most port sim now has steady) begun ran calm suit) where
      by : (paged : IsPaged sim.image) → HasComeUp story ⊎ IsRun most sim whole paged awaited (plugged now port) story later after → HasComeUp story
      by paged (inl up) = up
      by paged (inr run) = absurd (not_up most sim later.stage after run.holds.own (comes_up_within most port later sim after now story has steady run.managed run.goes run.wants many))

pub comes_up_suited : ComesUpSuited
comes_up_suited most port later sim after now story has steady whole awaited ran succeed suit many = by_bound most port later sim after now story has steady whole awaited ran (spared most sim story succeed) suit many

-- time for so many operations is time to await each state
pub awaits : (most : ℕ) (memory : Memory) → LastsFor (most_made most) (patience_for memory) → IsAwaited most memory
awaits most memory lasts =
    let pause = (patience_for memory).pause in
    let fewer : 3 * most + 5 ≤ most_made most = omega arith in
    record {
      ticks = omega (arith, lasts.operations);
      time = through ((3 * most + 5) * pause) (most_made most * pause) (patience_for memory).limit (mul-le-mul_right pause fewer) lasts.pauses;
    }

pub suited_has_come_up : SuitedHasComeUp
suited_has_come_up most port later sim after now story has steady whole may ran calm suit many =
    by_bound most port later sim after now story has steady whole (awaits most sim.image may.lasts) ran (undisturbed (λ result. Unit {0}) (IsSpared most sim) (λ result none. inr may) story calm) suit many

begun_goal : (most : ℕ) (wanted : Wanted) (sim after : SimModule) (stage : Stage) (goal : Goal) → IfWorking stage (IsBegun most wanted sim after) → IsPlanned (conventions_of wanted) sim → Begins stage goal → IsOwnGoal most wanted after goal
begun_goal most wanted sim after stage goal begun planned (patience, inl is) = subst (λ (stage : Stage). IfWorking stage (IsBegun most wanted sim after)) is begun planned
begun_goal most wanted sim after stage goal begun planned (patience, inr is) = subst (λ (stage : Stage). IfWorking stage (IsBegun most wanted sim after)) is begun planned

pub goals_are_own : GoalsAreOwn
goals_are_own most port later sim after now moment story op reply wanted goal has steady whole awaited (between, before, ran, (waited, asks, answers, is), (gives, same)) succeed suit planned begins =
    let paged : IsPaged sim.image = is_paged (conventions_of wanted) sim.image refl suit.0.read in
    let begun : Holds most sim whole paged awaited (plugged now port) sim = holds_first most sim whole paged awaited port now has steady in
    let kept = plugged_keeps most port sim now has steady in
    by paged (runs most sim whole paged awaited (plugged now port) between before story kept begun ran (spared most sim story succeed) suit.1) where
      made : (paged : IsPaged sim.image) → IsUpResult (outcomes.Went notes.Identified) ⊎ IsMade most sim whole paged awaited (outcomes.Went notes.Identified) wanted later (module_after before op) → IsOwnGoal most wanted after goal
      made paged (inl up) = absurd up
      made paged (inr step) = begun_goal most wanted sim after later.stage goal (subst (λ (after : SimModule). IfWorking later.stage (IsBegun most wanted sim after)) (sym same) (step.begun refl)) planned begins

      by : (paged : IsPaged sim.image) → HasComeUp story ⊎ IsRun most sim whole paged awaited (plugged now port) story between before → HasComeUp story ⊎ IsOwnGoal most wanted after goal
      by paged (inl up) = inl up
      by paged (inr run) =
          let at = left_at most sim whole paged awaited (plugged now port) between before story (plugged_keeps most port sim now has steady) run in
          inr (made paged
          (made_step most sim whole paged awaited between later before op reply wanted moment (outcomes.Went notes.Identified) run.holds suit.0 (fresh_awaited most sim whole paged awaited between.outstanding run.holds.fresh waited) asks answers gives (inl tt) at.0 at.1 is))
