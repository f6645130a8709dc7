-- The first fault of lines that are no certificate's text. (docs/formats.md, "Certificate"; this project's own)
use Rattle.std.specs.Prelude.{◌≡◌, ℕ, List, [], ◌∷◌, ◌++◌, length, Result, Ok, Err}
use Rattle.plan_certificate.specs.declared.fault.CertificateFault.{CertificateFault}
use Rattle.plan_certificate.specs.declared.fault.CertificateFault.TheVariants.{BadLine, OutOfOrder, TooMany, NoEnd}
use Rattle.plan_certificate.specs.Certificates.{Claim}
use Rattle.plan_certificate.specs.CertificateText.{certificate_lines, IsInRange, IsInRangeAndOrder, IsReadable, IsTextOf}

-- the text of some such certificate begins with these lines, or is them
abbrev pub Begins : (Claim → Type 0) → List (List ℕ) → Type 0
Begins Is lines = (certificate : Claim) × Is certificate × (rest : List (List ℕ)) × (certificate_lines certificate ≡ lines ++ rest)

-- What is wrong with the last of these lines, if those before it begin a readable text: with it they begin no
-- text; or only texts whose states don't rise; or only texts with too many kept paths, paths or states.
abbrev pub IsLineFault : ℕ → List (List ℕ) → CertificateFault → Type 0
IsLineFault states lines (BadLine number) = (number ≡ length lines) × ¬ (Begins IsInRange lines)
IsLineFault states lines (OutOfOrder number) = (number ≡ length lines) × Begins IsInRange lines × ¬ (Begins IsInRangeAndOrder lines)
IsLineFault states lines TooMany = Begins IsInRangeAndOrder lines × ¬ (Begins (IsReadable states) lines)
IsLineFault states lines NoEnd = ⊥

-- a line that stops a text that began well
pub record Stops (states : ℕ) (lines before : List (List ℕ)) (line : List ℕ) (rest : List (List ℕ)) (fault : CertificateFault) : Type 0 where
  pub lines_are : lines ≡ before ++ line ∷ rest
  pub begins : Begins (IsReadable states) before
  pub stops : IsLineFault states (before ++ line ∷ []) fault

abbrev pub IsFirstFault : ℕ → List (List ℕ) → CertificateFault → Type 0
IsFirstFault states lines NoEnd = Begins (IsReadable states) lines × ((certificate : Claim) → ¬ (IsTextOf states lines certificate))
IsFirstFault states lines fault = (before : List (List ℕ)) × (line : List ℕ) × (rest : List (List ℕ)) × Stops states lines before line rest fault

-- what reading these lines answers
abbrev pub IsAnswer : ℕ → List (List ℕ) → Result Claim CertificateFault → Type 0
IsAnswer states lines (Ok certificate) = IsTextOf states lines certificate
IsAnswer states lines (Err fault) = IsFirstFault states lines fault
