use Rattle.std.proofs.Common.{◌≡◌, sym, subst}
use Rattle.conversations.specs.Events.{steps_of}
use Rattle.conversations.proofs.BusRuns.{ran_to_end, ran_to_full}
use Rattle.control_sets.specs.OutcomeAnswers.{Answer}
use Rattle.control_sets.specs.Procedures.{IsOutcome}
use Rattle.control_sets.specs.Progress.{tasks_of}
use Rattle.control_sets.proofs.Turns.{carried_out, filled}
use Rattle.control_sets.proofs.procedures.runner.carry_out.Goals as goal

pub returns-in-Ok : goal.returns-in-Ok
returns-in-Ok g c =
    let (last, events, happens, (told, left, (same, ended))) = c.in-Ok.ensures.made in
    let after = g.B.Bus.seen c.run.new.bus in (
      steps_of events,
      ran_to_end g.B.Bus.rules (λ bus. g.B.Bus.seen bus) c.args.bus.now last c.run.new.bus events happens same,
      subst (λ (a : Answer). IsOutcome (tasks_of c.args.work) after (steps_of events) a) (sym c.answer_of.ensures)
          (carried_out c.args.work c.of-procedure.result after events c.of-procedure.ensures c.in-Ok.spent ended),
    )

pub returns-in-Err : goal.returns-in-Err
returns-in-Err g c =
    let (last, events, happens, (told, left, out)) = c.in-Err.ensures.made in
    let after = g.B.Bus.seen c.run.new.bus in (
      steps_of events,
      ran_to_full g.B.Bus.rules (λ bus. g.B.Bus.seen bus) c.args.bus.now last c.run.new.bus events c.in-Err.fault happens out.failed,
      filled c.args.work c.of-procedure.result after events c.of-procedure.ensures c.in-Err.fault (after ≡ g.B.Bus.seen last) out,
    )
