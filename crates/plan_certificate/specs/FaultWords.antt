-- How a line names the fault of a certificate's text or of a list of kept paths, and the reason why a certificate is bad: a
-- code, and then its values. (docs/formats.md, "Faults"; this project's own)
use Rattle.std.specs.Prelude.{ℕ, List, [], ◌∷◌, codes}
use Rattle.std.specs.Fmt.{decimal}
use Rattle.plan_certificate.specs.declared.fault.CertificateFault.{CertificateFault}
use Rattle.plan_certificate.specs.declared.fault.CertificateFault.TheVariants.{BadLine, OutOfOrder, TooMany, NoEnd}
use Rattle.plan_certificate.specs.declared.fault.KeptFault.{KeptFault}
use Rattle.plan_certificate.specs.declared.fault.KeptFault.TheVariants as kept
use Rattle.plan_certificate.specs.declared.verdict.Reason.{Reason}
use Rattle.plan_certificate.specs.declared.verdict.Reason.TheVariants.{KeptNotAdmissible, PathNotAllowed, LaneTwice, KeptMissing, WeightWrong, NoStart, NotClosed, TooLow, StartNotWeight, PairingDiffers}

abbrev pub certificate_fault_words : CertificateFault → List (List ℕ)
certificate_fault_words (BadLine line) = codes "CT1" ∷ decimal line ∷ []
certificate_fault_words (OutOfOrder line) = codes "CT2" ∷ decimal line ∷ []
certificate_fault_words TooMany = codes "CT3" ∷ []
certificate_fault_words NoEnd = codes "CT4" ∷ []

abbrev pub kept_fault_words : KeptFault → List (List ℕ)
kept_fault_words (kept.BadLine line) = codes "KP1" ∷ decimal line ∷ []
kept_fault_words kept.TooMany = codes "KP2" ∷ []
kept_fault_words (kept.NotAdmissible number) = codes "KP3" ∷ decimal number ∷ []

abbrev pub reason_words : Reason → List (List ℕ)
reason_words PathNotAllowed = codes "VR1" ∷ []
reason_words LaneTwice = codes "VR2" ∷ []
reason_words WeightWrong = codes "VR3" ∷ []
reason_words NoStart = codes "VR4" ∷ []
reason_words NotClosed = codes "VR5" ∷ []
reason_words TooLow = codes "VR6" ∷ []
reason_words StartNotWeight = codes "VR7" ∷ []
reason_words KeptNotAdmissible = codes "VR8" ∷ []
reason_words KeptMissing = codes "VR9" ∷ []
reason_words PairingDiffers = codes "VR10" ∷ []
