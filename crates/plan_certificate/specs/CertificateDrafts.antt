-- What has been read of a certificate's text: its lines so far. (docs/formats.md, "Certificate"; this project's own)
use Rattle.std.specs.Prelude.{◌≡◌, ◌≢◌, ◌⊎◌, ℕ, List, [], ◌∷◌, ◌++◌, map}
use Rattle.plan_certificate.specs.declared.line.Line.{Line}
use Rattle.plan_certificate.specs.declared.line.Line.TheVariants.{Header, KeptHeader, Weight, KeepLine, PathLine, StateLine, End}
use Rattle.plan_certificate.specs.declared.stage.Stage.{Stage}
use Rattle.plan_certificate.specs.declared.stage.Stage.TheVariants.{Start, Headed, KeptHeaded, KeptWeighed, Weighed, Ended}
use Rattle.plan_certificate.specs.Certificates.{Claim}
use Rattle.plan_certificate.specs.CertificateText.{header_of, line_text, lines_in, IsReadable}

-- the lines of a certificate up to its last state
abbrev pub lines_before_end : Claim → List Line
lines_before_end certificate =
    header_of certificate.paired certificate.kept
    ∷ Weight certificate.weight
    ∷ map KeepLine certificate.kept ++ map PathLine certificate.paths ++ map StateLine certificate.entries

abbrev pub lines_so_far : Stage → Claim → List Line
lines_so_far Start certificate = []
lines_so_far Headed certificate = Header certificate.paired ∷ []
lines_so_far KeptHeaded certificate = KeptHeader certificate.paired ∷ []
lines_so_far KeptWeighed certificate = KeptHeader certificate.paired ∷ Weight certificate.weight ∷ []
lines_so_far Weighed certificate = lines_before_end certificate
lines_so_far Ended certificate = lines_in certificate

abbrev pub text_so_far : Stage → Claim → List (List ℕ)
text_so_far stage certificate = map line_text (lines_so_far stage certificate)

pub record HasNoLists (certificate : Claim) : Type 0 where
  pub kept : certificate.kept ≡ []
  pub paths : certificate.paths ≡ []
  pub entries : certificate.entries ≡ []

-- neither paths nor states come before the weight, and no other line between it and the first kept path
abbrev pub IsAt : Stage → Claim → Type 0
IsAt Start certificate = HasNoLists certificate
IsAt Headed certificate = HasNoLists certificate
IsAt KeptHeaded certificate = HasNoLists certificate
IsAt KeptWeighed certificate = HasNoLists certificate
IsAt Weighed certificate = Unit {0}
IsAt Ended certificate = Unit {0}

-- what has been read, while no line has been refused
pub record IsDraft (states : ℕ) (stage : Stage) (certificate : Claim) : Type 0 where
  pub readable : IsReadable states certificate
  pub lists : IsAt stage certificate

-- kept paths were read, and nothing after them
pub record HasKeptAlone (certificate : Claim) : Type 0 where
  pub kept : certificate.kept ≢ []
  pub paths : certificate.paths ≡ []
  pub entries : certificate.entries ≡ []

-- this line may come next, whatever the order of states and the room
abbrev pub MayCome : Stage → Claim → Line → Type 0
MayCome stage certificate (Header paired) = stage ≡ Start
MayCome stage certificate (KeptHeader paired) = stage ≡ Start
MayCome stage certificate (Weight weight) = (stage ≡ Headed) ⊎ (stage ≡ KeptHeaded)
MayCome stage certificate (KeepLine path) = (stage ≡ KeptWeighed) ⊎ ((stage ≡ Weighed) × HasKeptAlone certificate)
MayCome stage certificate (PathLine path) = (stage ≡ Weighed) × (certificate.entries ≡ [])
MayCome stage certificate (StateLine entry) = stage ≡ Weighed
MayCome stage certificate End = stage ≡ Weighed
