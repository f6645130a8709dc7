use Rattle.std.proofs.Common.{◌≡◌, ◌+◌, ◌<◌, ◌≤◌, ℕ, Option, Some, None, get_or, sym, ap, subst, ◌∙◌, arith}
use Rattle.std.specs.List.{find}
use Rattle.plan_certificate.specs.EntryPlaces.{AreListed, Listed, is_from}
use Rattle.plan_certificate.proofs.EntryPlaces.{are_listed, first_is, none_here, none_to_end}
use Rattle.plan_certificate.proofs.certificate.entries.Entries.first_from.Goals as goal

pub returns-in-Some-clause-first : goal.returns-in-Some-clause-first
returns-in-Some-clause-first g c =
    let l = c.loop-place in
    ap Some c.entry_at.ensures
    ∙ sym (first_is c.args.from l.place c.in-Some.potential c.self.inside.bounds.bounds l.invariant.past l.invariant.none (sym c.at.ensures ∙ c.in-Some.is))
    ∙ ap (λ (l : Listed). find (is_from c.args.from) l.entries) c.self.view_is

pub returns-in-Some-clause-listed : goal.returns-in-Some-clause-listed
returns-in-Some-clause-listed g c =
    subst (λ (l : Listed). AreListed g.row.ROOM l.entries) c.self.view_is (are_listed g.row.ROOM c.self.inside.bounds.bounds c.self.inside.count c.self.inside.end c.self.inside.blocks c.self.invariant)

pub returns-clause-first : goal.returns-clause-first
returns-clause-first g c =
    let l = c.loop-place in
    sym (none_to_end g.row.ROOM c.self.inside.bounds.bounds c.self.inside.count c.self.inside.end c.self.inside.blocks c.args.from l.place c.self.invariant c.loop-place-test.false l.invariant.none)
    ∙ ap (λ (l : Listed). find (is_from c.args.from) l.entries) c.self.view_is

pub returns-clause-listed : goal.returns-clause-listed
returns-clause-listed g c =
    subst (λ (l : Listed). AreListed g.row.ROOM l.entries) c.self.view_is (are_listed g.row.ROOM c.self.inside.bounds.bounds c.self.inside.count c.self.inside.end c.self.inside.blocks c.self.invariant)

pub loop-place-preserved : goal.loop-place-preserved
loop-place-preserved g c =
    let l = c.loop-place in
    record { past = omega (arith, l.invariant.past); none = none_here c.self.inside.bounds.bounds c.args.from l.place (sym c.at.ensures ∙ c.in-None.is) l.invariant.none }
