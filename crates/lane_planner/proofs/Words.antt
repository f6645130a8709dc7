-- The names of definitions below that most proofs here cite, passed on from one place. Declares nothing.
pub use Rattle.applications.specs.Advertised.{Advertised}
pub use Rattle.applications.specs.AppWeights.{PathWeights}
pub use Rattle.plan_certificate.specs.declared.path.Path.{Path}
pub use Rattle.plan_certificate.specs.declared.moves.Move.{Move}
pub use Rattle.plan_certificate.specs.declared.state.State.{State}
pub use Rattle.plan_certificate.specs.declared.state.Decision.{Decision}
pub use Rattle.plan_certificate.specs.declared.certificate.Entry.{Entry}
pub use Rattle.plan_certificate.specs.States.{decisions_from, free_decisions, start, fits, free_decision, path_decision, paths_at, state_at, state_place}
pub use Rattle.plan_certificate.specs.Moves.{AreMoves, LeadsOn, is_open, move_decision, decisions_by, move_of, moves_at}
pub use Rattle.plan_certificate.specs.ReachedStates.{IsReached, Leads}
pub use Rattle.plan_certificate.specs.Paths.{media_lanes, path_weight, app_of, IsLower, host_lanes, is_allowed}
pub use Rattle.plan_certificate.specs.KeptPaths.{is_eligible, may_stay_free, is_among}
pub use Rattle.plan_certificate.specs.Plans.{plan_weight, IsBest, IsAdmissible, Keeps}
pub use Rattle.plan_certificate.specs.Certificates.{Claim, entry_place, state_of, IsBound, IsGood, IsCovered}
