use Rattle.command_line.proofs.commands.command.answer_to.Goals as goal

pub returns-in-Report-clause-answer : goal.returns-in-Report-clause-answer
returns-in-Report-clause-answer c = rw c.in-Report.is c.report.ensures.answer

pub returns-in-Details-clause-answer : goal.returns-in-Details-clause-answer
returns-in-Details-clause-answer c = rw c.in-Details.is c.print_details.ensures.answer

pub returns-in-Observables-clause-answer : goal.returns-in-Observables-clause-answer
returns-in-Observables-clause-answer c = rw c.in-Observables.is c.print_observables.ensures.answer

pub returns-in-Metrics-clause-answer : goal.returns-in-Metrics-clause-answer
returns-in-Metrics-clause-answer c = rw c.in-Metrics.is c.print_metrics.ensures.answer

pub returns-in-Plan-clause-answer : goal.returns-in-Plan-clause-answer
returns-in-Plan-clause-answer c = rw c.in-Plan.is c.plan.ensures.answer

pub returns-in-Draw-clause-answer : goal.returns-in-Draw-clause-answer
returns-in-Draw-clause-answer c = rw c.in-Draw.is c.plan-in-Draw.ensures.answer

pub returns-in-Check-clause-answer : goal.returns-in-Check-clause-answer
returns-in-Check-clause-answer c = rw c.in-Check.is c.check.ensures.answer

pub returns-in-Provision-clause-answer : goal.returns-in-Provision-clause-answer
returns-in-Provision-clause-answer c = rw c.in-Provision.is c.provision.ensures.answer

pub returns-in-Trace-clause-answer : goal.returns-in-Trace-clause-answer
returns-in-Trace-clause-answer c = rw c.in-Trace.is c.provision-in-Trace.ensures.answer
