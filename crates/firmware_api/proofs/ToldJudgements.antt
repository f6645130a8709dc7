-- What C is told of a certificate for the module that has certain halves.
use Rattle.std.proofs.Common.{◌≡◌, ℕ, List, Option, Some, None, Result, Ok, Err, refl, sym, ◌∙◌}
use Rattle.std.specs.Prelude.{MatchOption}
use Rattle.applications.specs.Advertised.{Advertised}
use Rattle.applications.specs.declared.conventions.Conventions.{Conventions}
use Rattle.applications.specs.Weights.{TableWeights}
use Rattle.firmware_api.specs.declared.checking.Judgement.{Judgement}
use Rattle.firmware_api.specs.declared.half.HalfBytes.{HalfBytes}
use Rattle.firmware_api.specs.declared.status.Refusal.{Refusal}
use Rattle.firmware_api.specs.Checks.{IsJudged, IsTextJudged, IsTold, Tells}
use Rattle.firmware_api.specs.Halves.{advert_of, refusal_under}
use Rattle.firmware_api.specs.Plans.{path_weights}
use Rattle.firmware_api.specs.Statuses.{status_of}
use Rattle.firmware_api.proofs.ModuleRefusals.{IsPassed}
use Rattle.firmware_api.proofs.StatusLaws.{Answers, not_both, same_err, when_value}

told_refusal : (refusal : Option Refusal) (read : Result Advertised ℕ) (right : Advertised) (status : ℕ) (after : Judgement) (P : Result Judgement Refusal → Type 0) →
    Answers refusal read (read ≡ Ok right) → read ≡ Err status →
    (judged : Result Judgement Refusal) × MatchOption refusal (P judged) (λ r. judged ≡ Err r) × Tells status after judged
told_refusal None read right status after P told is = absurd (not_both right status (sym told ∙ is))
told_refusal (Some refusal) read right status after P told is = (Err refusal, refl, same_err status (status_of refusal) (sym is ∙ told))

module _ (halves : List HalfBytes) (conventions : Conventions) (weights : TableWeights) (stay : ℕ) (text : List ℕ) (read : Result Advertised ℕ) (status : ℕ) (after : Judgement)
    (passes : IsPassed conventions read halves) where
  pub told_if_read : (advert : Advertised) → read ≡ Ok advert → IsTold (IsTextJudged advert (path_weights advert weights stay) text) status after → IsTold (IsJudged halves conventions weights stay text) status after
  told_if_read advert is (judged, right, tells) = (
    judged,
    when_read (refusal_under conventions halves) (λ (a : Advertised). IsTextJudged a (path_weights a weights stay) text judged) (λ refusal. judged ≡ Err refusal) passes is right,
    tells,
  ) where
    when_read : (refusal : Option Refusal) (P : Advertised → Type 0) (H : Refusal → Type 0) → Answers refusal read (read ≡ Ok (advert_of halves conventions)) →
        read ≡ Ok advert → P advert → MatchOption refusal (P (advert_of halves conventions)) H
    when_read None P H told same holds = when_value read None (λ a. None) advert (advert_of halves conventions) P H told same holds
    when_read (Some r) P H told same holds = absurd (not_both advert (status_of r) (sym same ∙ told))

  pub told_if_refused : read ≡ Err status → IsTold (IsJudged halves conventions weights stay text) status after
  told_if_refused is =
      told_refusal (refusal_under conventions halves) read (advert_of halves conventions) status after (IsTextJudged (advert_of halves conventions) (path_weights (advert_of halves conventions) weights stay) text) passes is
