use Rattle.std.proofs.Common.{◌≡◌, ◌<◌, ◌≤◌, ◌+◌, ◌-◌, ℕ, List, length, sym, subst, ap, inl, inr, arith, rules}
use Rattle.std.proofs.lemmas.List.Elements.{All-contains, All-weaker}
use Rattle.plan_certificate.specs.declared.certificate.Entry.{Entry}
use Rattle.plan_certificate.specs.Certificates.{entry_place}
use Rattle.plan_certificate.specs.EntryPlaces.{Listed, entries_of}
use Rattle.plan_certificate.proofs.AddedLines.{IsAbove}
use Rattle.plan_certificate.proofs.EntryPlaces.{all_below, entry, listed, place_is}
use Rattle.plan_certificate.proofs.certificate.entries.Entries.are_below.Goals as goal

pub returns : goal.returns
returns g c =
    let bounds = c.self.inside.bounds.bounds in
    let end : ℕ = c.self.inside.end in
    let new = c.args.entry.now in
    let seen = ap (λ (l : Listed). l.entries) c.self.view_is in
    let all = all_below end bounds c.self.invariant.below in (
      λ yes.
          let past : end ≤ entry_place new = search rules in
          subst (λ (l : List Entry). IsAbove l new) seen (All-weaker (λ one. entry_place one < end) (λ one. entry_place one < entry_place new) (λ one below. omega (arith, below, past)) (entries_of bounds) all),
      λ above.
          let each = subst (λ (l : List Entry). IsAbove l new) (sym seen) above in
          let past : end ≤ entry_place new = elim (c.self.invariant.last) [
            | inl none ↦ omega (arith, none)
            | inr some ↦
                let there = listed bounds (end - 1) some.0 some.1 in
                omega (arith, place_is (end - 1) some.0, All-contains (λ one. entry_place one < entry_place new) (entries_of bounds) (entry (end - 1) some.0) each there)
          ] in
          search rules,
    )
