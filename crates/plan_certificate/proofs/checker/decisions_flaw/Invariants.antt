use Rattle.std.proofs.Common.{◌≡◌, drop}
use Rattle.field_tables.specs.FirstFault.{first_fault}
use Rattle.plan_certificate.specs.Certificates.{state_of}
use Rattle.plan_certificate.specs.Moves.{decisions_by}
use Rattle.plan_certificate.specs.Verdicts.{decision_flaws, decisions_flaws}
use Rattle.plan_certificate.proofs.MoveFlaws.{flaws_by}
use Rattle.plan_certificate.proofs.checker.decisions_flaw.Given as goal

-- the decisions so far have no flaw
abbrev pub invariant-loop-one : goal.invariant-loop-one
invariant-loop-one g l =
    first_fault (flaws_by (decision_flaws l.entries.entries (l.number, l.entry)) l.state (drop l.one-index l.moves))
    ≡ first_fault (decisions_flaws l.entries.entries (l.number, l.entry) (decisions_by l.may_stay_free (state_of l.entry) l.moves))
