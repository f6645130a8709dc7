use Rattle.std.proofs.Common.{Ok, Err, IfErr, OnOk, subst, ap, ◌∙◌, refl}
use Rattle.text_lines.specs.Lines.{lines_of}
use Rattle.plan_certificate.specs.Limits.{most_states}
use Rattle.plan_certificate.specs.CertificateFaults.{IsFirstFault}
use Rattle.plan_certificate.specs.CertificateText.{IsTextOf}
use Rattle.firmware_api.specs.declared.status.Refusal.TheVariants.{Certificate}
use Rattle.firmware_api.specs.Checks.{judgement_of}
use Rattle.firmware_api.proofs.checking.judge_by.Goals as goal

pub returns-in-Ok-clause-told : goal.returns-in-Ok-clause-told
returns-in-Ok-clause-told c =
    let text = c.args.text.now in
    let is_text = subst (λ r. OnOk r (IsTextOf most_states (lines_of text) c.take.new.self)) c.in-Ok.is c.take.ensures.ok in
    (Ok c.judgement_of.result, (Ok c.take.new.self, is_text, ap Ok (c.judgement_of.ensures ∙ ap judgement_of c.check-verdict.ensures.verdict)), (refl, refl))

pub returns-in-Err-clause-told : goal.returns-in-Err-clause-told
returns-in-Err-clause-told c =
    let text = c.args.text.now in
    let first = subst (λ r. IfErr r (IsFirstFault most_states (lines_of text))) c.in-Err.is c.take.ensures.err in
    (Err (Certificate c.in-Err.fault), (Err c.in-Err.fault, first, refl), c.certificate_status.ensures.status)
