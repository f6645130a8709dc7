use Rattle.std.proofs.Common.{◌≡◌, ℕ, List, Option, None, replicate, sym, ap, subst, ◌∙◌}
use Rattle.plan_certificate.specs.Bounds.{Bounded}
use Rattle.plan_certificate.specs.EntryPlaces.{AreEntries, Listed, entries_of}
use Rattle.plan_certificate.proofs.EntryPlaces.{none_listed, nothing_listed}
use Rattle.plan_certificate.proofs.certificate.entries.Entries.begin.Goals as goal

pub begin-requires : goal.begin-requires
begin-requires g c =
    none_listed c.self.inside.bounds.bounds 2304 c.self.invariant.all (ap (λ (l : Listed). l.entries) c.self.view_is ∙ c.requires)

pub invariant_of-self : goal.invariant_of-self
invariant_of-self g c =
    let none : c.self.inside.bounds.bounds ≡ replicate 2304 None = none_listed c.self.inside.bounds.bounds 2304 c.self.invariant.all (ap (λ (l : Listed). l.entries) c.self.view_is ∙ c.requires) in
    subst (λ (bounds : List (Option ℕ)). AreEntries g.row.ROOM bounds c.self.inside.count c.self.inside.end c.self.inside.blocks)
    (none ∙ sym (ap (λ (b : Bounded). b.bounds) c.begin.ensures)) c.self.invariant

pub returns : goal.returns
returns g c =
    let entries = ap (λ (b : Bounded). entries_of b.bounds) c.begin.ensures ∙ nothing_listed 2304 in
    λ i. record { text = (c.begin.ensures i).text; entries = entries i }
