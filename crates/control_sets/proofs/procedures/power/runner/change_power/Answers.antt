use Rattle.std.proofs.Common.{◌<◌, length, sym, subst}
use Rattle.bus_model.specs.Runs.{IsFull}
use Rattle.conversations.specs.declared.within.Within.{Within}
use Rattle.conversations.specs.Budgets.{HasSpent}
use Rattle.conversations.proofs.BusRuns.{ran_to_end, ran_to_full}
use Rattle.control_sets.specs.declared.procedures.power.PowerChange.{PowerChange}
use Rattle.control_sets.specs.PowerProgress.{GoesOnAt, IsEndedIn}
use Rattle.conversations.specs.Events.{steps_of}
use Rattle.control_sets.specs.OutcomeAnswers.{Answer}
use Rattle.control_sets.specs.OutcomeOfPower.{IsPowerChange}
use Rattle.control_sets.proofs.PowerLaws.{fills_by, spent_is}
use Rattle.control_sets.proofs.procedures.power.runner.change_power.Goals as goal

pub returns-in-Ok : goal.returns-in-Ok
returns-in-Ok g c =
    let (last, events, happens, (told, left, (same, ended))) = c.in-Ok.ensures.made in
    let full = IsFull (g.B.Bus.seen c.run.new.bus) in
    let spent = subst (λ (w : Within PowerChange). HasSpent w.limit (λ events. GoesOnAt w.conversation.power (steps_of events)) (λ events fault. IsEndedIn w.conversation.power fault (steps_of events)) events c.in-Ok.spent) c.to-change.ensures ended in (
      steps_of events,
      ran_to_end g.B.Bus.rules (λ bus. g.B.Bus.seen bus) c.args.bus.now last c.run.new.bus events happens same,
      subst (λ (a : Answer). IsPowerChange c.args.power full (steps_of events) a) (sym c.answer_of.ensures) (spent_is c.args.power full events c.in-Ok.spent spent),
    )

pub returns-in-Err : goal.returns-in-Err
returns-in-Err g c =
    let (last, events, happens, (told, left, out)) = c.in-Err.ensures.made in
    let full = IsFull (g.B.Bus.seen c.run.new.bus) in
    let goes_on = subst (λ (w : Within PowerChange). GoesOnAt w.conversation.power (steps_of events)) c.to-change.ensures out.goes_on in
    let fewer = subst (λ (w : Within PowerChange). length (steps_of events) < w.limit) c.to-change.ensures out.fewer in (
      steps_of events,
      ran_to_full g.B.Bus.rules (λ bus. g.B.Bus.seen bus) c.args.bus.now last c.run.new.bus events c.in-Err.fault happens out.failed,
      fills_by c.args.power full (steps_of events) c.in-Err.fault out.failed.0 goes_on fewer out.failed.1,
    )
