use Rattle.std.proofs.Common.{◌≤◌, ℕ, List, length, ap, arith, rules}
use Rattle.plan_certificate.specs.CertificateDrafts.{MayCome}
use Rattle.plan_certificate.specs.ReadLines.{claim_of}
use Rattle.plan_certificate.proofs.ReadLines.{line_is_short, on_ok}
use Rattle.plan_certificate.proofs.Drafts.{number_is, not_spelled, not_in_turn}
use Rattle.plan_certificate.proofs.certificate.reading.take_line.Goals as goal

pub returns-in_default-clause-fault : goal.returns-in_default-clause-fault
returns-in_default-clause-fault g c =
    let claim = claim_of c.args.head.now c.args.entries.now.entries in
    let ranges = c.requires.drafted.readable.ordered.in_range in
    (number_is c.args.stage claim ranges c.args.line.now c.args.number c.requires.counted, not_spelled c.args.stage claim ranges c.args.line.now c.in_default.ensures)

pub returns-then-not-may_come-clause-fault : goal.returns-then-not-may_come-clause-fault
returns-then-not-may_come-clause-fault g c =
    let claim = claim_of c.args.head.now c.args.entries.now.entries in
    let ranges = c.requires.drafted.readable.ordered.in_range in
    let late : ¬ (MayCome c.args.stage claim c.in-Some.read) = λ may. let yes = c.may_come.ensures.1 may in search rules in (
      number_is c.args.stage claim ranges c.args.line.now c.args.number c.requires.counted,
      not_in_turn c.args.stage claim ranges c.args.line.now c.in-Some.read c.in-Some.ensures.0 c.in-Some.ensures.1 late,
    )

pub returns-clause-fault : goal.returns-clause-fault
returns-clause-fault g c = rw c.in-Some.ensures.1 c.add.ensures.fault

pub returns-clause-short : goal.returns-clause-short
returns-clause-short g c =
    on_ok c.add.result (length c.args.line.now) (omega (arith, ap (λ (l : List ℕ). length l) c.in-Some.ensures.1, line_is_short c.in-Some.read c.in-Some.ensures.0))
