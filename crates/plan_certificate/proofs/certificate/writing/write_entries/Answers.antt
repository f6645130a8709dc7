use Rattle.std.proofs.Common.{◌≡◌, ◌+◌, ◌++◌, ◌∷◌, [], ℕ, ◌<◌, ◌≤◌, List, length, map, take, refl, sym, subst, ap, ◌∙◌, arith}
use Rattle.std.specs.List.{AllByRecursion}
use Rattle.std.proofs.Math.Seq.{take-length}
use Rattle.std.proofs.lemmas.List.{append-nil, take_more}
use Rattle.plan_certificate.specs.declared.certificate.Entry.{Entry}
use Rattle.plan_certificate.specs.declared.line.Line.TheVariants.{StateLine}
use Rattle.plan_certificate.specs.Certificates.{entry_place}
use Rattle.plan_certificate.specs.CertificateText.{IsEntryInRange}
use Rattle.plan_certificate.specs.EntryPlaces.{IsNext}
use Rattle.plan_certificate.proofs.Lists.{all_of_append}
use Rattle.plan_certificate.proofs.NextEntries.{begin_next, found_is, next_more, no_entry, none_found}
use Rattle.plan_certificate.proofs.WrittenCertificates.{entry_text, text_in}
use Rattle.plan_certificate.proofs.certificate.writing.write_entries.Goals as goal

pub loop-entry-init : goal.loop-entry-init
loop-entry-init g c = (0, begin_next c.args.entries.now.entries, sym (append-nil c.args.text.now.items), tt)

pub entry_line-requires : goal.entry_line-requires
entry_line-requires g c =
    let entries = c.args.entries.now.entries in
    let found = found_is entries c.loop-entry.invariant.0 c.loop-entry.from c.in-Some.entry c.loop-entry.invariant.1 (sym c.first_from.ensures.first ∙ c.in-Some.is) in
    let is = ap (λ (e : Entry). e.boundary) (found.1 no_entry) in
    omega (arith, is, c.first_from.ensures.listed.states.within c.loop-entry.invariant.0 no_entry found.0)

pub loop-entry-preserved : goal.loop-entry-preserved
loop-entry-preserved g c =
    let l = c.loop-entry in
    let number = l.invariant.0 in
    let entries = c.args.entries.now.entries in
    let entry = c.in-Some.entry in
    let head = c.args.text.now.items in
    let so_far = take number entries in
    let found = found_is entries number l.from entry l.invariant.1 (sym c.first_from.ensures.first ∙ c.in-Some.is) in
    let more : take (number + 1) entries ≡ so_far ++ entry ∷ [] = take_more entries number entry found.0 ∙ ap (λ (e : Entry). so_far ++ e ∷ []) (sym (found.1 entry)) in
    let added = rw (c.as_slice.ensures.value, c.entry_line.ensures.written) at c.in_ok-extend_from_slice.ensures.items in (
      number + 1,
      subst (IsNext entries (number + 1)) (ap (λ (e : Entry). entry_place e + 1) (sym (found.1 no_entry)) ∙ ap (λ (place : ℕ). place + 1) (sym c.place-from.ensures))
          (next_more entries number l.from no_entry c.first_from.ensures.listed.states found.0 l.invariant.1),
      entry_text head l.text.items c.extend_from_slice.new.self.items so_far entry l.invariant.2 added
          ∙ ap (λ (l : List Entry). head ++ text_in (map StateLine l)) (sym more),
      subst (AllByRecursion IsEntryInRange) (sym more) (all_of_append IsEntryInRange so_far (entry ∷ []) l.invariant.3 (c.entry_line.ensures.fits, tt)),
    )

pub loop-entry-smaller : goal.loop-entry-smaller
loop-entry-smaller g c =
    let l = c.loop-entry in
    let number = l.invariant.0 in
    let entries = c.args.entries.now.entries in
    let found = found_is entries number l.from c.in-Some.entry l.invariant.1 (sym c.first_from.ensures.first ∙ c.in-Some.is) in
    let states = c.first_from.ensures.listed.states in
    let here = ap entry_place (found.1 no_entry) in
    omega (arith, here, l.invariant.1.past number no_entry (omega arith) found.0, states.within number no_entry found.0, states.bytes number no_entry found.0, c.place-from.ensures)

-- at the end there are all
all_taken : (entries : List Entry) (number : ℕ) → length entries ≤ number → number ≤ length entries → take number entries ≡ entries
all_taken entries number past within = (let same : number ≡ length entries = omega (arith, past, within) in ap (λ (n : ℕ). take n entries) same) ∙ take-length entries

pub returns-clause-written : goal.returns-clause-written
returns-clause-written g c =
    let l = c.loop-entry in
    let entries = c.args.entries.now.entries in
    let past = none_found entries l.invariant.0 l.from l.invariant.1 (sym c.first_from.ensures.first ∙ c.in_default.is) in
    l.invariant.2 ∙ ap (λ (l : List Entry). c.args.text.now.items ++ text_in (map StateLine l)) (all_taken entries l.invariant.0 past l.invariant.1.within)

pub returns-clause-each : goal.returns-clause-each
returns-clause-each g c =
    let l = c.loop-entry in
    let entries = c.args.entries.now.entries in
    let past = none_found entries l.invariant.0 l.from l.invariant.1 (sym c.first_from.ensures.first ∙ c.in_default.is) in
    subst (AllByRecursion IsEntryInRange) (all_taken entries l.invariant.0 past l.invariant.1.within) l.invariant.3

pub returns-clause-few : goal.returns-clause-few
returns-clause-few g c = c.first_from.ensures.listed.fits
