use Rattle.std.proofs.Common.{◌≡◌, ◌+◌, ◌-◌, ◌*◌, ◌/◌, ◌%◌, ◌<◌, ◌≤◌, ℕ, Bool, true, false, List, ◌∷◌, ◌++◌, [], Option, Some, None, length, get_or, set, sym, subst, ap, ◌∙◌, inr, inl, arith}
use Rattle.std.proofs.Common.{get_or-set_same, get_or-set_other}
use Rattle.std.proofs.Math.ListN.{length-set}
use Rattle.std.proofs.lemmas.Bool.{cases_eq}
use Rattle.std.proofs.lemmas.List.{length-append}
use Rattle.plan_certificate.specs.declared.certificate.Entry.{Entry}
use Rattle.plan_certificate.specs.Certificates.{entry_place}
use Rattle.plan_certificate.specs.EntryPlaces.{AreEntries, Listed, entries_of}
use Rattle.plan_certificate.proofs.AddedLines.{IsAbove}
use Rattle.plan_certificate.proofs.EntryPlaces.{added_entry, are_more}
use Rattle.plan_certificate.proofs.certificate.entries.Entries.push_stated.Goals as goal

pub invariant_of-self : goal.invariant_of-self
invariant_of-self g c =
    let bounds = c.self.inside.bounds.bounds in
    let above = subst (λ (l : Listed). IsAbove l.entries c.args.entry) (sym c.self.view_is) c.requires.above in
    let room : length (entries_of bounds) < g.row.ROOM = omega (arith, c.requires.room, ap (λ (l : Listed). length l.entries) c.self.view_is) in
    rw (c.put.ensures, c.place-place.ensures) (are_more g.row.ROOM bounds c.self.inside.count c.self.inside.end c.self.inside.blocks c.args.entry c.self.invariant room c.requires.state (omega arith) above)

pub returns : goal.returns
returns g c =
    let bounds = c.self.inside.bounds.bounds in
    let above = subst (λ (l : Listed). IsAbove l.entries c.args.entry) (sym c.self.view_is) c.requires.above in
    let more = added_entry bounds c.args.entry c.self.invariant.all c.requires.state (omega arith) above in
    rw (c.put.ensures, c.place-place.ensures)
    (λ i. record { text = (c.self.view_is i).text; entries = (more ∙ ap (λ (l : Listed). l.entries ++ c.args.entry ∷ []) c.self.view_is) i })
