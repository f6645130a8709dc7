use Rattle.std.proofs.Common.{ℕ, subst}
use Rattle.applications.specs.AppWeights.{PathWeights, app_weights}
use Rattle.plan_drawing.specs.Drawings.{IsDrawing}
use Rattle.command_line.specs.PlanCommand.{DrawsPlan}
use Rattle.command_line.proofs.commands.plan_command.output_of.Goals as goal

pub returns-in_ok-drawing : goal.returns-in_ok-drawing
returns-in_ok-drawing c =
    let planning = c.args.planning.now in
    let weights = app_weights planning.advert planning.weights in
    let text = c.in_ok-drawing.drawing.text.items in
    let has_paths = c.in_ok-drawing.drawing.has_paths in
    let weighed = subst (λ (w : PathWeights). IsDrawing c.args.options.now.svg c.number-media_type.result planning.advert w planning.kept text has_paths) c.of-weighed.ensures c.in_ok-drawing.ensures in
    let is : DrawsPlan c.args.options.now.svg planning text =
    (has_paths, subst (λ (m : ℕ). IsDrawing c.args.options.now.svg m planning.advert weights planning.kept text has_paths) (rw c.view.ensures.same at c.number-media_type.ensures.value) weighed) in
    rw c.if-draws.true is

pub returns-else-draws : goal.returns-else-draws
returns-else-draws c = rw c.if-draws.false (rw c.of-weighed.ensures at c.planned.ensures)
