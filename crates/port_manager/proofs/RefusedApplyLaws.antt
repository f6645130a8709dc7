-- A refused apply leads to a reading, in which none is stored.
use Rattle.std.proofs.Common.{◌≡◌, inl, inr, ℕ, Bool, true, false, [], ◌∷◌, Option, Some, None, refl, sym, ap, subst, ◌∙◌}
use Rattle.std.specs.Prelude.{◌&&◌, not}
use Rattle.bus_model.specs.declared.operation.Op.{Op}
use Rattle.bus_model.specs.declared.operation.Op.TheVariants.{Fetch, Store}
use Rattle.bus_model.specs.declared.operation.Reply.{Reply}
use Rattle.conversations.specs.declared.on_page.OnPage.{OnPage}
use Rattle.conversations.specs.Pauses.{is_refused}
use Rattle.control_sets.specs.RegisterOperations.{is_apply}
use Rattle.module_reading.specs.declared.halves.Halves.{Halves}
use Rattle.paged_memory.specs.declared.page_addressing.PageAddressing.{PageAddressing}
use Rattle.paged_memory.specs.declared.page_addressing.PageAddressing.TheVariants.{BankAndPage, PageAlone}
use Rattle.paged_memory.specs.PageAddressing.{selection}
use Rattle.paged_memory.proofs.KnownPageLaws.{by_selection}
use Rattle.port_manager.specs.declared.deciding.Wanted.{Wanted}
use Rattle.port_manager.specs.declared.job.Job.{Job}
use Rattle.port_manager.specs.declared.job.Job.TheVariants as jobs
use Rattle.port_manager.specs.declared.port.Outcome.{Outcome}
use Rattle.port_manager.specs.declared.port.Outstanding.{Outstanding}
use Rattle.port_manager.specs.declared.port.Outstanding.TheVariants as outstanding
use Rattle.port_manager.specs.declared.port.Port.{Port}
use Rattle.port_manager.specs.declared.port.Stage.{Stage}
use Rattle.port_manager.specs.declared.port.Stage.TheVariants as stages
use Rattle.port_manager.specs.declared.times.Times.{Times}
use Rattle.port_manager.specs.declared.turn.PortFault.TheVariants.{ApplyRefused}
use Rattle.port_manager.specs.Flags.{no_flags}
use Rattle.port_manager.specs.Jobs.{asked}
use Rattle.port_manager.specs.Patients.{Patient}
use Rattle.port_manager.specs.Ports.{IsTakenBy, IsTurnedIn, IsRestartedIn, absent, asked_in, awaited, outcome_of}
use Rattle.port_manager.specs.ReadAnew.{IsBegunAnew, ReadsAnew}
use Rattle.port_manager.specs.RefusedApplies.{is_refused_apply}
use Rattle.port_manager.specs.Requests.{granted}
use Rattle.port_manager.specs.Runs.{Becomes, Reaches, Runs}
use Rattle.port_manager.specs.Stores.{StoresNothing}
use Rattle.port_manager.specs.Stories.{Event, Story, acknowledge, ask, demand, drop, hear, hold, make, plug, pull, reconsider}
use Rattle.port_manager.specs.Turns.{IsTurn, IsTurnOf, Turn, UnlessApplyRefused}
use Rattle.port_manager.specs.Turns as turns
use Rattle.port_manager.specs.Standing.{IsAt}
use Rattle.port_manager.proofs.StoreLaws.{nothing_else, reading_may}
use Rattle.port_manager.proofs.StoryLaws.{reaches_at}
use Rattle.port_manager.proofs.TurnCases.{IsAnyTurn}

-- ---- a reading goes on

and_false : (b : Bool) → (b && false) ≡ false
and_false true = refl
and_false false = refl

selects_only : (addressing : PageAddressing) (page : ℕ) → is_apply (selection addressing page) ≡ false
selects_only BankAndPage page = refl
selects_only PageAlone page = by_selection (λ op. is_apply op ≡ false) page refl refl

stores_none : (op : Op) → StoresNothing op → is_apply op ≡ false
stores_none (Fetch dev offset count) nothing = refl
stores_none (Store dev offset bytes) (inl fetches) = absurd fetches
stores_none (Store dev offset bytes) (inr (addressing, page, is)) = subst (λ (op : Op). is_apply op ≡ false) (sym is) (selects_only addressing page)

refuses_none : (found : Option Op) (reply : Reply) → ((op : Op) → found ≡ Some op → StoresNothing op) → is_refused_apply found reply ≡ false
refuses_none None reply nothing = refl
refuses_none (Some op) reply nothing = ap (λ (apply : Bool). is_refused reply && apply) (stores_none op (nothing op refl)) ∙ and_false (is_refused reply)

-- what isn't a refused apply is taken by the job
pub goes_on : (wanted : Wanted) (job : Job) (reply : Reply) (turn : Turn) → is_refused_apply (asked job) reply ≡ false → IsAnyTurn wanted job reply turn → IsTurnOf wanted job reply turn
goes_on wanted job reply turn none (again, is) =
    subst (λ (refused : Bool). UnlessApplyRefused refused (IsTurnOf wanted job reply) turn) (ap (λ (refused : Bool). not again && refused) none ∙ and_false (not again)) is

pub reading_goes_on : (wanted : Wanted) (woken : Bool) (job : Patient (OnPage Halves)) (reply : Reply) (turn : Turn) → IsAnyTurn wanted (jobs.Reading job woken) reply turn → IsTurnOf wanted (jobs.Reading job woken) reply turn
reading_goes_on wanted woken job reply turn is =
    goes_on wanted (jobs.Reading job woken) reply turn
    (refuses_none (asked (jobs.Reading job woken)) reply (λ op asks. nothing_else op (reading_may (λ op. ⊥) (λ op. ⊥) job op asks))) is

-- ---- a refused apply of a story

module _ (op : Op) (reply : Reply) (refused : is_refused_apply (Some op) reply ≡ true) where
  fails : (port : Port) (wanted : Wanted) (job : Job) (now : ℕ) (turn : Turn) → port.apply_refused ≡ false → asked job ≡ Some op → IsTurn port.apply_refused wanted job reply turn → IsBegunAnew (outcome_of port turn now)
  fails port wanted job now turn first asks is =
      let at : (not port.apply_refused && is_refused_apply (asked job) reply) ≡ true =
      ap (λ (before : Bool). not before && is_refused_apply (asked job) reply) first ∙ ap (λ (found : Option Op). is_refused_apply found reply) asks ∙ refused in
      let failed : turn ≡ turns.Failed ApplyRefused = subst (λ (refused : Bool). UnlessApplyRefused refused (IsTurnOf wanted job reply) turn) at is in
      subst (λ (turn : Turn). IsBegunAnew (outcome_of port turn now)) (sym failed) refl

  turned_anew : (stage : Stage) (port : Port) (wanted : Wanted) (now : ℕ) (result : Outcome) (after : Port) → port.apply_refused ≡ false → asked_in stage ≡ Some op → IsTurnedIn stage port reply wanted now result after → IsBegunAnew result
  turned_anew stages.Absent port wanted now result after first asks is = absurd (let same = asks in cc)
  turned_anew (stages.Left reason) port wanted now result after first asks is = absurd (let same = asks in cc)
  turned_anew (stages.Working job) port wanted now result after first asks (turn, leads, gives, becomes) =
      subst IsBegunAnew (sym gives) (fails port (granted port.request wanted) job now turn first asks leads)

  restarted_anew : (stage : Stage) (port : Port) (now : ℕ) (result : Outcome) (after : Port) → IsRestartedIn stage port reply now result after → IsBegunAnew result
  restarted_anew stages.Absent port now result after is = subst IsBegunAnew (sym is.0) tt
  restarted_anew (stages.Left reason) port now result after is = subst IsBegunAnew (sym is.0) tt
  restarted_anew (stages.Working job) port now result after is = subst IsBegunAnew (sym is.0) tt

  taken_anew : (o : Outstanding) (port : Port) (wanted : Wanted) (now : ℕ) (result : Outcome) (after : Port) → port.apply_refused ≡ false → awaited port ≡ Some op → IsTakenBy o port reply wanted now result after → IsBegunAnew result
  taken_anew outstanding.Nothing port wanted now result after first asks is = subst IsBegunAnew (sym is.0) tt
  taken_anew outstanding.Forsaken port wanted now result after first asks is = subst IsBegunAnew (sym is.0) tt
  taken_anew outstanding.Awaited port wanted now result after first asks is = turned_anew port.stage port wanted now result after first asks is
  taken_anew outstanding.Stale port wanted now result after first asks is = restarted_anew port.stage port now result after is

becomes_anew : (port after : Port) (event : Event) (before : Story) → IsAt before port → ReadsAnew before → Becomes port event after → ReadsAnew (event ∷ before)
becomes_anew port after (plug now) before at anew is = anew
becomes_anew port after pull before at anew is = anew
becomes_anew port after reconsider before at anew is = anew
becomes_anew port after (hold held) before at anew is = anew
becomes_anew port after (demand request) before at anew is = anew
becomes_anew port after (acknowledge past) before at anew is = anew
becomes_anew port after (hear alive began) before at anew is = anew
becomes_anew port after (ask op moment) before at anew is = anew
becomes_anew port after (make op reply wanted now result) before at anew (waited, asks, answers, is) =
    (λ refused first. taken_anew op reply refused port.outstanding port wanted now result after (at.apply_refused ∙ first) asks is, anew)
becomes_anew port after drop before at anew is = anew

runs_anew : (times : Times) (story : Story) (port : Port) → Runs (absent times outstanding.Nothing no_flags false) story port → ReadsAnew story
runs_anew times [] port is = tt
runs_anew times (event ∷ before) port (between, ran, is) = becomes_anew between port event before (reaches_at before between (times, ran)) (runs_anew times before between ran) is

pub reads_anew : (story : Story) (port : Port) → Reaches story port → ReadsAnew story
reads_anew story port (times, ran) = runs_anew times story port ran
