-- What the certificate of the plan that is given holds. (docs/planning.md, "The planner"; this project's own)
use Rattle.std.specs.Prelude.{◌≡◌, ◌↔◌, ◌<◌, ℕ, List, Contains, map, slice_index}
use Rattle.std.specs.List.{All, AllPairs}
use Rattle.text_lines.specs.Lines.{lines_of, text_of}
use Rattle.applications.specs.Advertised.{Advertised}
use Rattle.applications.specs.AppWeights.{PathWeights}
use Rattle.plan_certificate.specs.declared.path.Path.{Path}
use Rattle.plan_certificate.specs.declared.state.State.{State}
use Rattle.plan_certificate.specs.declared.verdict.Verdict.TheVariants.{Good}
use Rattle.plan_certificate.specs.Plans.{IsBest}
use Rattle.lane_planner.specs.declared.problem.Problem.{Problem}
use Rattle.plan_certificate.specs.ReachedStates.{IsReached}
use Rattle.plan_certificate.specs.Certificates.{Claim, IsGood, state_of}
use Rattle.plan_certificate.specs.CertificateText.{IsTextOf, certificate_lines}
use Rattle.plan_certificate.specs.Verdicts.{verdict}
use Rattle.plan_certificate.specs.Limits.{most_states}
use Rattle.lane_planner.specs.declared.solution.Solution.{Solution}
use Rattle.lane_planner.specs.FirstBest.{IsFirstBest}
use Rattle.lane_planner.specs.Gains.{IsGain}
use Rattle.lane_planner.specs.Tables.{marked_entries}

-- it is good, for the first best plan that holds the kept paths, by the gains of the states that are reached
pub record IsCertified (advert : Advertised) (weights : PathWeights) (kept : List Path) (certificate : Claim) : Type 0 where
  pub keeps : certificate.kept ≡ kept
  pub good : IsGood advert weights certificate
  pub judged : verdict advert weights certificate ≡ Good
  pub best : IsBest advert weights kept certificate.paths
  pub first : IsFirstBest advert weights kept certificate.paths
  pub rising : AllPairs (λ path later. path.host < later.host) certificate.paths
  pub gains : All (λ entry. IsGain advert weights kept (state_of entry) entry.potential) certificate.entries
  pub states : (state : State) → IsReached advert weights kept state ↔ Contains (map state_of certificate.entries) state

-- the text of such a certificate, and of no other
pub record IsPlanText (advert : Advertised) (weights : PathWeights) (kept : List Path) (text : List ℕ) : Type 0 where
  pub certificate : Claim
  pub certified : IsCertified advert weights kept certificate
  pub written : text ≡ text_of (certificate_lines certificate)
  pub read_back : IsTextOf most_states (lines_of text) certificate

-- the certificate that can be made of a solution
abbrev pub claim_of : Problem → Solution → Claim
claim_of problem solution = record {
  paired = problem.advert.now.paired;
  weight = slice_index solution.gains 0;
  kept = problem.kept.now;
  paths = solution.plan;
  entries = marked_entries solution.marks solution.gains most_states;
}

-- its text
abbrev pub claim_text : Problem → Solution → List ℕ
claim_text problem solution = text_of (certificate_lines (claim_of problem solution))

-- the text is read as that certificate again
abbrev pub IsReadBack : Problem → Solution → Type 0
IsReadBack problem solution = IsTextOf most_states (lines_of (claim_text problem solution)) (claim_of problem solution)
