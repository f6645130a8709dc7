-- What a certificate's text is worth, as C is told. (docs/firmware.md, "Certificates"; docs/planning.md, "The checker"; this
-- project's own)
use Rattle.std.specs.Prelude.{◌≡◌, ℕ, List, MatchOption, Result, Ok, Err}
use Rattle.text_lines.specs.Lines.{lines_of}
use Rattle.applications.specs.Advertised.{Advertised}
use Rattle.applications.specs.declared.conventions.Conventions.{Conventions}
use Rattle.applications.specs.AppWeights.{PathWeights}
use Rattle.applications.specs.Weights.{TableWeights}
use Rattle.plan_certificate.specs.declared.fault.CertificateFault.{CertificateFault}
use Rattle.plan_certificate.specs.Limits.{most_states}
use Rattle.plan_certificate.specs.declared.verdict.Verdict.{Verdict}
use Rattle.plan_certificate.specs.declared.verdict.Verdict.TheVariants.{Good, Bad}
use Rattle.plan_certificate.specs.declared.verdict.Reason.{Reason}
use Rattle.plan_certificate.specs.declared.verdict.Reason.TheVariants.{PathNotAllowed, LaneTwice, WeightWrong, NoStart, NotClosed, TooLow, StartNotWeight, KeptNotAdmissible, KeptMissing, PairingDiffers}
use Rattle.plan_certificate.specs.Certificates.{Claim, IsGood}
use Rattle.plan_certificate.specs.CertificateFaults.{IsAnswer}
use Rattle.plan_certificate.specs.CertificateText.{IsTextOf}
use Rattle.plan_certificate.specs.Plans.{IsBest}
use Rattle.plan_certificate.specs.Verdicts.{verdict}
use Rattle.firmware_api.specs.declared.checking.Judgement.{Judgement}
use Rattle.firmware_api.specs.declared.half.HalfBytes.{HalfBytes}
use Rattle.firmware_api.specs.declared.status.Refusal.{Refusal}
use Rattle.firmware_api.specs.declared.status.Refusal.TheVariants.{Certificate}
use Rattle.firmware_api.specs.Halves.{advert_of, refusal_under}
use Rattle.firmware_api.specs.Plans.{path_weights}
use Rattle.firmware_api.specs.Statuses.{done, status_of}

-- the number in its code
abbrev pub reason_number : Reason → ℕ
reason_number PathNotAllowed = 1
reason_number LaneTwice = 2
reason_number WeightWrong = 3
reason_number NoStart = 4
reason_number NotClosed = 5
reason_number TooLow = 6
reason_number StartNotWeight = 7
reason_number KeptNotAdmissible = 8
reason_number KeptMissing = 9
reason_number PairingDiffers = 10

abbrev pub judgement_of : Verdict → Judgement
judgement_of Good = record { reason = 0; number = 0 }
judgement_of (Bad reason number) = record { reason = reason_number reason; number = number }

-- of the certificate, or its text's first fault
abbrev pub judgement_by : Advertised → PathWeights → Result Claim CertificateFault → Result Judgement Refusal
judgement_by advert weights (Ok certificate) = Ok (judgement_of (verdict advert weights certificate))
judgement_by advert weights (Err fault) = Err (Certificate fault)

-- of what the text is read as; a text is read as one result alone
abbrev pub IsTextJudged : Advertised → PathWeights → List ℕ → Result Judgement Refusal → Type 0
IsTextJudged advert weights text judged =
    (read : Result Claim CertificateFault) × IsAnswer most_states (lines_of text) read × (judged ≡ judgement_by advert weights read)

-- the same by the weights that C hands over; refusals of the halves come first
abbrev pub IsJudged : List HalfBytes → Conventions → TableWeights → ℕ → List ℕ → Result Judgement Refusal → Type 0
IsJudged halves conventions weights stay text judged =
    let advert = advert_of halves conventions in
    MatchOption (refusal_under conventions halves) (IsTextJudged advert (path_weights advert weights stay) text judged) (λ refusal. judged ≡ Err refusal)

-- what C is told of a result: the judgement, or the refusal's number
abbrev pub Tells : ℕ → Judgement → Result Judgement Refusal → Type 0
Tells status after (Ok judged) = (status ≡ done) × (after ≡ judged)
Tells status after (Err refusal) = status ≡ status_of refusal

abbrev pub IsTold : (Result Judgement Refusal → Type 0) → ℕ → Judgement → Type 0
IsTold Is status after = (judged : Result Judgement Refusal) × Is judged × Tells status after judged

-- the text is that of a certificate which shows that no plan with its kept paths weighs more than its own
abbrev pub IsTextShownBest : Advertised → PathWeights → List ℕ → Type 0
IsTextShownBest advert weights text =
    (certificate : Claim) × IsTextOf most_states (lines_of text) certificate
    × IsGood advert weights certificate
    × IsBest advert weights certificate.kept certificate.paths

-- the same by the weights that C hands over, for the module whose memory has these halves
abbrev pub IsShownBest : List HalfBytes → Conventions → TableWeights → ℕ → List ℕ → Type 0
IsShownBest halves conventions weights stay text =
    let advert = advert_of halves conventions in
    IsTextShownBest advert (path_weights advert weights stay) text
