use Rattle.std.proofs.Common.{◌≡◌, ◌∙◌, ℕ, List, ◌++◌, length, codes, ap, ap₂, sym, rules}
use Rattle.text_lines.specs.Lines.{text_of}
use Rattle.plan_certificate.specs.Certificates.{Claim}
use Rattle.plan_certificate.specs.declared.path.Path.{Path}
use Rattle.plan_reports.specs.PlanText.{plan_lines}
use Rattle.command_line.specs.CheckCommand.{first_lines, kept_lines}
use Rattle.command_line.proofs.GoodTexts.{good_text_parts}
use Rattle.command_line.proofs.commands.check_command.good_text.Goals as goal

pub returns : goal.returns
returns c =
    let advert = c.args.advert.now in
    let weights = c.args.weights.now in
    let certificate = c.args.certificate.now in
    let count : c.len.result ≡ length certificate.kept = c.len.ensures.value
    ∙ ap (λ (l : List Path). length l) (ap (λ inside. inside.kept) c.certificate-inside.view_is ∙ ap (λ (claim : Claim). claim.kept) c.certificate.view_is) in
    let good : c.in_ok-text.text.items ≡ codes "good\n" = search rules in
    let kept : c.push_kept.new.text.items ≡ codes "good\n" ++ text_of (kept_lines (length certificate.kept)) =
    c.in_ok-push_kept.ensures ∙ ap₂ (λ (l : List ℕ) (n : ℕ). l ++ text_of (kept_lines n)) good count in
    let plan : c.deref.result.now ≡ text_of (plan_lines advert weights certificate.paths) =
    c.deref.ensures.value ∙ c.in_ok-plan.ensures
    ∙ ap (λ (paths : List Path). text_of (plan_lines advert weights paths)) (ap (λ inside. inside.plan) c.certificate-inside.view_is ∙ ap (λ (claim : Claim). claim.paths) c.certificate.view_is) in
    let first = first_lines c.args.is_first in
    c.in_ok-push_first.ensures ∙ ap (λ l. l ++ text_of first) (c.in_ok-extend_from_slice.ensures.items ∙ ap₂ (λ (a b : List ℕ). a ++ b) kept plan)
    ∙ sym (good_text_parts (kept_lines (length certificate.kept)) (plan_lines advert weights certificate.paths) first)
