use Rattle.std.proofs.Common.{◌≡◌, ℕ, ◌+◌, ◌<◌, ◌≤◌, Option, Some, None, is_some, length, refl, sym, ap, subst, ◌∙◌, arith}
use Rattle.field_tables.specs.FirstFault.{first_fault}
use Rattle.plan_certificate.specs.declared.certificate.Entry.{Entry}
use Rattle.plan_certificate.specs.declared.verdict.Flaw.{Flaw}
use Rattle.plan_certificate.specs.Certificates.{entry_place}
use Rattle.plan_certificate.specs.EntryPlaces.{IsNext}
use Rattle.plan_certificate.specs.Verdicts.{entry_flaws, entries_flaws}
use Rattle.plan_certificate.proofs.MoveFlaws.{none_is, some_flaw}
use Rattle.plan_certificate.proofs.NextEntries.{begin_next, found_is, next_more, no_entry, none_found}
use Rattle.plan_certificate.proofs.Searches.{numbered_here, numbered_later, numbered_end}
use Rattle.plan_certificate.proofs.checker.entries_flaw.Goals as goal

pub loop-entry-init : goal.loop-entry-init
unfolding entries_flaws
loop-entry-init g c = record {
  none = refl;
  next = begin_next c.args.entries.now.entries;
  below = omega (arith, c.list.ensures.boundary);
  moves = c.list.ensures.moves;
}

pub returns-then-has_flaw : goal.returns-then-has_flaw
returns-then-has_flaw g c =
    let l = c.loop-entry in
    let entries = c.args.entries.now.entries in
    let flaws = entry_flaws c.args.advert.now c.args.weights.now c.args.kept.now entries in
    let found = found_is entries l.number l.from c.in-Some.entry l.invariant.next (sym c.first_from.ensures.first ∙ c.in-Some.is) in
    let at : first_fault (flaws (l.number + 1, c.in-Some.entry)) ≡ c.entry_flaw.result = sym c.entry_flaw.ensures in
    let some = some_flaw (first_fault (flaws (l.number + 1, c.in-Some.entry))) (sym c.has_flaw.ensures.flaw ∙ c.if-has_flaw.true) in
    let here = ap (λ (e : Entry). first_fault (flaws (l.number + 1, e))) (sym (found.1 no_entry)) ∙ some.1 in
    sym at ∙ some.1 ∙ sym (sym l.invariant.none ∙ numbered_here flaws entries l.number no_entry some.0 found.0 here)

pub loop-entry-preserved : goal.loop-entry-preserved
loop-entry-preserved g c =
    let l = c.loop-entry in
    let entries = c.args.entries.now.entries in
    let flaws = entry_flaws c.args.advert.now c.args.weights.now c.args.kept.now entries in
    let found = found_is entries l.number l.from c.in-Some.entry l.invariant.next (sym c.first_from.ensures.first ∙ c.in-Some.is) in
    let none = none_is (first_fault (flaws (l.number + 1, c.in-Some.entry))) (sym c.has_flaw.ensures.flaw ∙ c.if-has_flaw.false) in
    let here = ap (λ (e : Entry). first_fault (flaws (l.number + 1, e))) (sym (found.1 no_entry)) ∙ none in
    record {
      none = sym (numbered_later flaws entries l.number no_entry found.0 here) ∙ l.invariant.none;
      next = subst (IsNext entries (l.number + 1)) (ap (λ (e : Entry). entry_place e + 1) (sym (found.1 no_entry)) ∙ ap (λ (place : ℕ). place + 1) (sym c.place-from.ensures))
          (next_more entries l.number l.from no_entry c.first_from.ensures.listed.states found.0 l.invariant.next);
      below = c.has_flaw.ensures.open;
      moves = c.has_flaw.ensures.moves;
    }

pub returns : goal.returns
returns g c =
    let l = c.loop-entry in
    let entries = c.args.entries.now.entries in
    let flaws = entry_flaws c.args.advert.now c.args.weights.now c.args.kept.now entries in
    let past = none_found entries l.number l.from l.invariant.next (sym c.first_from.ensures.first ∙ c.in_default.is) in
    sym (sym l.invariant.none ∙ numbered_end flaws entries l.number past)

pub loop-entry-smaller : goal.loop-entry-smaller
loop-entry-smaller g c =
    let l = c.loop-entry in
    let found = found_is c.args.entries.now.entries l.number l.from c.in-Some.entry l.invariant.next (sym c.first_from.ensures.first ∙ c.in-Some.is) in
    omega (arith, found.0)
