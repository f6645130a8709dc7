use Rattle.report_api.proofs.ReportAnswers.{metrics_told}
use Rattle.report_api.proofs.report_texts.metrics_of.Goals as goal

pub returns : goal.returns
returns c =
    metrics_told c.args.image.now c.in_ok-image.image c.in_ok-image.ensures.ok c.args.all c.new.result c.in_ok-metrics.field-0.text.items c.new.ensures (rw c.view.ensures.same at c.in_ok-metrics.ensures.text)
