use Rattle.std.proofs.Common.{◌≡◌, subst}
use Rattle.applications.specs.AppWeights.{PathWeights}
use Rattle.firmware_api.specs.Checks.{IsTextJudged, IsTextShownBest, IsTold}
use Rattle.firmware_api.specs.Statuses.{done}
use Rattle.firmware_api.proofs.checking.judge.Goals as goal

pub returns-clause-told : goal.returns-clause-told
returns-clause-told c =
    subst (λ (weights : PathWeights). IsTold (IsTextJudged c.args.advert.now weights c.args.text.now) c.judge_by.result c.judge_by.new.judgement)
    c.by_host.ensures c.judge_by.ensures.told

pub returns-clause-best : goal.returns-clause-best
returns-clause-best c =
    subst (λ (weights : PathWeights). c.judge_by.result ≡ done → c.judge_by.new.judgement.reason ≡ 0 → IsTextShownBest c.args.advert.now weights c.args.text.now)
    c.by_host.ensures c.judge_by.ensures.best
