use Rattle.std.proofs.Common.{◌≡◌, subst}
use Rattle.applications.specs.Advertised.{Advertised}
use Rattle.applications.specs.declared.conventions.Conventions.{Conventions}
use Rattle.firmware_api.specs.Checks.{IsJudged, IsShownBest, IsTextShownBest, IsTold}
use Rattle.firmware_api.specs.Halves.{advert_of, refusal_under}
use Rattle.firmware_api.specs.Plans.{path_weights}
use Rattle.firmware_api.specs.Statuses.{done}
use Rattle.firmware_api.proofs.StatusLaws.{same_value}
use Rattle.firmware_api.proofs.ToldJudgements.{told_if_read, told_if_refused}
use Rattle.firmware_api.proofs.checking.dovecounter_check.Goals as goal

pub returns-in-Ok : goal.returns-in-Ok
returns-in-Ok c =
    let halves = c.args.halves.now in
    let weights = c.args.weights.now in
    let stay = c.args.stay in
    let text = c.args.text.now in
    let same = same_value c.read_advert_under.result (refusal_under c.conventions_of.result halves) c.in-Ok.advert (advert_of halves c.conventions_of.result) c.read_advert_under.ensures c.in-Ok.is in
    record {
      told =
          subst (λ (conventions : Conventions). IsTold (IsJudged halves conventions weights stay text) c.judge.result c.judge.new.judgement) c.conventions_of.ensures
          (told_if_read halves c.conventions_of.result weights stay text c.read_advert_under.result c.judge.result c.judge.new.judgement c.read_advert_under.ensures c.in-Ok.advert c.in-Ok.is c.judge.ensures.told);
      refused = c.judge.ensures.refused;
      best =
          subst (λ (conventions : Conventions). c.judge.result ≡ done → c.judge.new.judgement.reason ≡ 0 → IsShownBest halves conventions weights stay text) c.conventions_of.ensures
          (subst (λ (advert : Advertised). c.judge.result ≡ done → c.judge.new.judgement.reason ≡ 0 → IsTextShownBest advert (path_weights advert weights stay) text) same c.judge.ensures.best);
    }

pub returns-in-Err-clause-told : goal.returns-in-Err-clause-told
returns-in-Err-clause-told c =
    let halves = c.args.halves.now in
    let weights = c.args.weights.now in
    let stay = c.args.stay in
    let text = c.args.text.now in
    subst (λ (conventions : Conventions). IsTold (IsJudged halves conventions weights stay text) c.in-Err.status c.args.judgement.now) c.conventions_of.ensures
    (told_if_refused halves c.conventions_of.result weights stay text c.read_advert_under.result c.in-Err.status c.args.judgement.now c.read_advert_under.ensures c.in-Err.is)
