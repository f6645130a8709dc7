use Rattle.std.proofs.Common.{◌≤◌, ◌==◌, ℕ, List, length, subst, ap, ◌∙◌, arith}
use Rattle.plan_certificate.specs.declared.certificate.Entry.{Entry}
use Rattle.plan_certificate.specs.Certificates.{HasStates}
use Rattle.plan_certificate.specs.EntryPlaces.{Listed}
use Rattle.plan_certificate.proofs.EntryPlaces.{few_listed, has_states}
use Rattle.plan_certificate.proofs.certificate.entries.Entries.is_full.Goals as goal

pub returns-clause-value : goal.returns-clause-value
returns-clause-value g c =
    let seen = ap (λ (l : Listed). length l.entries) c.self.view_is in
    ap (λ (n : ℕ). n == g.row.ROOM) (c.self.invariant.counted ∙ seen)

pub returns-clause-fits : goal.returns-clause-fits
returns-clause-fits g c =
    let seen = ap (λ (l : Listed). length l.entries) c.self.view_is in
    omega (arith, c.self.invariant.counted, c.self.invariant.few, seen)

pub returns-clause-few : goal.returns-clause-few
returns-clause-few g c =
    let seen = ap (λ (l : Listed). length l.entries) c.self.view_is in
    omega (arith, few_listed c.self.inside.bounds.bounds, c.self.invariant.all, seen)

pub returns-clause-states : goal.returns-clause-states
returns-clause-states g c =
    subst (λ (l : Listed). HasStates l.entries) c.self.view_is (has_states c.self.inside.bounds.bounds c.self.invariant.all)
