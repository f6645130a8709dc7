use Rattle.std.proofs.Common.{refl, sym, subst, ap, ◌∙◌, Err, IfErr, OnOk}
use Rattle.text_lines.specs.Lines.{lines_of}
use Rattle.applications.specs.AppWeights.{PathWeights}
use Rattle.plan_certificate.specs.Limits.{most_states}
use Rattle.plan_certificate.specs.Plans.{IsBest}
use Rattle.plan_certificate.specs.Verdicts.{verdict}
use Rattle.plan_certificate.specs.CertificateFaults.{IsFirstFault}
use Rattle.plan_certificate.specs.CertificateText.{IsTextOf}
use Rattle.plan_certificate.specs.declared.verdict.Verdict.TheVariants.{Bad, Good}
use Rattle.command_line.specs.CheckCommand.{IsCheckAnswer, IsGoodAnswer, IsJudged, IsGoodReport}
use Rattle.command_line.specs.Inputs.{inputs_of}
use Rattle.command_line.specs.declared.fault.Fault.TheVariants.{Certificate}
use Rattle.command_line.proofs.commands.check_command.judged.Goals as goal

pub returns-in-Err-clause-answer : goal.returns-in-Err-clause-answer
returns-in-Err-clause-answer c =
    let first : IsFirstFault most_states (lines_of c.args.inputs.now.certificate.now) c.in-Err.fault =
    subst (λ r. IfErr r (IsFirstFault most_states (lines_of c.args.inputs.now.certificate.now))) c.in-Err.is c.take.ensures.err in
    let is : IsCheckAnswer c.args.options.now (inputs_of c.args.inputs.now) (Err (Certificate c.in-Err.fault)) =
    ((c.args.advert.now, c.requires.advert), (c.args.weights.now, c.requires.weights), first) in
    is

pub returns-in_ok-good_output-in-Good-clause-answer : goal.returns-in_ok-good_output-in-Good-clause-answer
returns-in_ok-good_output-in-Good-clause-answer c =
    let options = c.args.options.now in
    let judged : IsJudged options.conventions (inputs_of c.args.inputs.now) Good = record {
      advert = c.args.advert.now;
      weights = c.args.weights.now;
      certificate = c.take.new.self;
      is_advert = c.requires.advert;
      are_weights = c.requires.weights;
      is_certificate = subst (λ r. OnOk r (IsTextOf most_states (lines_of c.args.inputs.now.certificate.now) c.take.new.self)) c.in-Ok.is c.take.ensures.ok;
      is_verdict = ap (λ (weights : PathWeights). verdict c.args.advert.now weights c.take.new.self) (sym c.of-weighed.ensures) ∙ sym c.in-Good.ensures.verdict;
    } in
    let good : IsGoodAnswer options (inputs_of c.args.inputs.now) c.in_ok-good_output-in-Good.field-0.items = record {
      judged = judged;
      is_best = subst (λ (weights : PathWeights). IsBest c.args.advert.now weights c.take.new.self.kept c.take.new.self.paths) c.of-weighed.ensures (c.in-Good.ensures.best refl);
      reported =
          subst (λ (weights : PathWeights). IsGoodReport options.json options.first c.args.advert.now weights c.take.new.self c.in_ok-good_output-in-Good.field-0.items)
          c.of-weighed.ensures c.in_ok-good_output-in-Good.ensures;
    } in
    good

pub returns-in-Bad-clause-answer : goal.returns-in-Bad-clause-answer
returns-in-Bad-clause-answer c =
    let bad : IsJudged c.args.options.now.conventions (inputs_of c.args.inputs.now) (Bad c.in-Bad.reason c.in-Bad.number) = record {
      advert = c.args.advert.now;
      weights = c.args.weights.now;
      certificate = c.take.new.self;
      is_advert = c.requires.advert;
      are_weights = c.requires.weights;
      is_certificate = subst (λ r. OnOk r (IsTextOf most_states (lines_of c.args.inputs.now.certificate.now) c.take.new.self)) c.in-Ok.is c.take.ensures.ok;
      is_verdict = ap (λ (weights : PathWeights). verdict c.args.advert.now weights c.take.new.self) (sym c.of-weighed.ensures) ∙ sym c.in-Bad.ensures.verdict;
    } in
    bad
