use Rattle.std.proofs.lemmas.Result.{err_from_is_err_and}
use Rattle.report_api.proofs.ReportAnswers.{details_refused, details_told}
use Rattle.report_api.proofs.report_texts.details_of.Goals as goal

pub returns-in_err-details_json : goal.returns-in_err-details_json
returns-in_err-details_json c =
    let p = err_from_is_err_and c.from_residual-in_err-details_json.result c.from_residual-in_err-details_json.ensures.1 in
    rw (p.1, p.2) (details_refused c.args.image.now c.in_ok-image.image c.in_ok-image.ensures.ok c.in_err-details_json.field-0.0 (rw c.view.ensures.same at c.in_err-details_json.ensures))

pub returns : goal.returns
returns c = details_told c.args.image.now c.in_ok-image.image c.in_ok-image.ensures.ok c.in_ok-details_json.field-0 (rw c.view.ensures.same at c.in_ok-details_json.ensures)
