-- A certificate of which the lines so far have been read, and where the next one stands. (This project's own.)
use Rattle.std.specs.Prelude.{◌≡◌, ℕ, ◌+◌, ◌*◌, ◌<◌, ◌≤◌, List, length}
use Rattle.plan_certificate.specs.declared.certificate.Entry.{Entry}
use Rattle.plan_certificate.specs.declared.certificate.reading.Head.{Head}
use Rattle.plan_certificate.specs.Bounds.{line_at}
use Rattle.plan_certificate.specs.Certificates.{Claim}

abbrev pub claim_of : Head → List Entry → Claim
claim_of head entries = record { paired = head.paired; weight = head.weight; kept = head.kept; paths = head.plan; entries = entries }

-- the line of this number begins there in the text, behind lines of at most 32 bytes
pub record IsLineAt (text : List ℕ) (at : ℕ) (line : List ℕ) (number : ℕ) : Type 0 where
  pub here : line_at text at ≡ line
  pub within : at < length text
  pub near : at + 32 ≤ 32 * number
