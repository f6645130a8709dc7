-- Certificates: a plan, what it keeps, and a bound, for each state, on what can still be gained from it, on modules that pair
-- first lanes or on those that do not. (docs/planning.md, "Certificates"; this project's own)
use Rattle.std.specs.Prelude.{◌≡◌, ℕ, ◌+◌, ◌*◌, ◌<◌, ◌≤◌, Bool, List, All, AllPairs, Contains}
use Rattle.field_tables.specs.LaneSets.{lanes_in}
use Rattle.applications.specs.Advertised.{Advertised}
use Rattle.applications.specs.AppWeights.{PathWeights}
use Rattle.plan_certificate.specs.declared.path.Path.{Path}
use Rattle.plan_certificate.specs.declared.certificate.Entry.{Entry}
use Rattle.plan_certificate.specs.declared.state.State.{State}
use Rattle.plan_certificate.specs.declared.state.Decision.{Decision}
use Rattle.plan_certificate.specs.Plans.{IsAdmissible, Keeps, plan_weight}
use Rattle.plan_certificate.specs.States.{start, decisions_from}

-- what a certificate says, be it right or not
pub record Claim : Type 0 where
  -- it is for a module that pairs first lanes
  pub paired : Bool
  pub weight : ℕ
  pub kept : List Path
  pub paths : List Path
  pub entries : List Entry

abbrev pub state_of : Entry → State
state_of entry = record { boundary = entry.boundary; used = lanes_in entry.used }

-- by boundary, then by the byte of used media lanes
abbrev pub entry_place : Entry → ℕ
entry_place entry = 256 * entry.boundary + entry.used

-- the states of entries: each once, rising, none past host lane 8, with a byte of used media lanes
pub record HasStates (entries : List Entry) : Type 0 where
  pub rising : AllPairs (λ entry later. entry_place entry < entry_place later) entries
  pub within : All (λ entry. entry.boundary ≤ 8) entries
  pub bytes : All (λ entry. entry.used < 256) entries

-- the entry of a state, which bounds what can be gained from there by at most so much
abbrev pub IsBound : List Entry → State → ℕ → Type 0
IsBound entries state potential = (entry : Entry) × Contains entries entry × (state_of entry ≡ state) × (entry.potential ≡ potential)

-- a decision leads to the state of an entry, and what can be gained from there is no more than what is left of the potential
abbrev pub IsCovered : List Entry → ℕ → Decision → Type 0
IsCovered entries potential decision = (later : ℕ) × IsBound entries decision.end later × (decision.weight + later ≤ potential)

-- the certificate is right for these Applications and weights
pub record IsGood (advert : Advertised) (weights : PathWeights) (certificate : Claim) : Type 0 where
  pub paired : certificate.paired ≡ advert.paired
  pub kept : IsAdmissible advert certificate.kept
  pub admissible : IsAdmissible advert certificate.paths
  pub keeps : Keeps certificate.kept certificate.paths
  pub weighs : certificate.weight ≡ plan_weight weights certificate.paths
  pub closed : All (λ entry. All (IsCovered certificate.entries entry.potential) (decisions_from advert weights certificate.kept (state_of entry)))
      certificate.entries
  pub begun : IsBound certificate.entries start certificate.weight
