-- Entries one after another: the next one is the first whose state is past the one before.
use Rattle.std.proofs.Common.{◌≡◌, ℕ, zero, suc, ◌+◌, ◌<◌, ◌≤◌, Bool, true, false, List, [], ◌∷◌, Option, Some, None, length, get_or, cond, refl, sym, ap, ◌∙◌, inl, inr, arith}
use Rattle.std.specs.List.{All, find}
use Rattle.std.proofs.lemmas.Bool.{cases_lt}
use Rattle.std.proofs.lemmas.Bool.Decides.{nat_tests}
use Rattle.std.proofs.lemmas.List.{get_or_default}
use Rattle.plan_certificate.specs.declared.certificate.Entry.{Entry}
use Rattle.plan_certificate.specs.Certificates.{HasStates, entry_place}
use Rattle.plan_certificate.specs.EntryPlaces.{IsNext, is_from}

abbrev pub no_entry : Entry
no_entry = record { boundary = 0; used = 0; potential = 0 }

pub begin_next : (entries : List Entry) → IsNext entries 0 0
begin_next entries = record { within = omega arith; before = λ k d below. absurd (omega (arith, below)); past = λ k d past below. omega arith }

pub next_more : (entries : List Entry) (number from : ℕ) (d : Entry) → HasStates entries → number < length entries → IsNext entries number from
    → IsNext entries (number + 1) (entry_place (get_or entries number d) + 1)
next_more entries number from d states below next =
    let here : (e : Entry) → entry_place (get_or entries number e) ≡ entry_place (get_or entries number d) = λ e. ap entry_place (get_or_default entries number e d below) in
    record {
      within = omega (arith, below);
      before = λ k e before. elim (cases_lt k number) [
        | inl earlier ↦ omega (arith, states.rising k number e earlier below, here e)
        | inr later ↦ (let same : k ≡ number = omega (arith, before, later) in omega (arith, ap (λ (n : ℕ). entry_place (get_or entries n e)) same, here e))
      ];
      past = λ k e past inside. omega (arith, states.rising number k e (omega (arith, past)) inside, here e);
    }

rest_next : (entry : Entry) (entries : List Entry) (number from : ℕ) → IsNext (entry ∷ entries) (suc number) from → IsNext entries number from
rest_next entry entries number from next = record {
  within = omega (arith, next.within);
  before = λ k d below. next.before (suc k) d (omega (arith, below));
  past = λ k d past below. next.past (suc k) d (omega (arith, past)) (omega (arith, below));
}

passed : (entry : Entry) (entries : List Entry) (from : ℕ) (r : Option Entry) → entry_place entry < from → find (is_from from) entries ≡ r → find (is_from from) (entry ∷ entries) ≡ r
passed entry entries from r below is =
    let fails : is_from from entry ≡ false = grind (arith, nat_tests, below) in
    ap (λ (b : Bool). cond b (Some entry) (find (is_from from) entries)) fails ∙ is

pub next_found : (entries : List Entry) (number from : ℕ) (d : Entry) → number < length entries → IsNext entries number from → find (is_from from) entries ≡ Some (get_or entries number d)
next_found [] number from d below next = absurd (omega (arith, below))
next_found (entry ∷ entries) zero from d below next =
    let past = next.past zero d (omega arith) below in
    let passes : is_from from entry ≡ true = grind (arith, nat_tests, past) in
    ap (λ (b : Bool). cond b (Some entry) (find (is_from from) entries)) passes
next_found (entry ∷ entries) (suc number) from d below next =
    passed entry entries from (Some (get_or entries number d)) (next.before zero d (omega arith))
    (next_found entries number from d (omega (arith, below)) (rest_next entry entries number from next))

pub none_next : (entries : List Entry) (number from : ℕ) → length entries ≤ number → IsNext entries number from → find (is_from from) entries ≡ None
none_next [] number from past next = refl
none_next (entry ∷ entries) zero from past next = absurd (omega (arith, past))
none_next (entry ∷ entries) (suc number) from past next =
    passed entry entries from None (next.before zero entry (omega arith)) (none_next entries number from (omega (arith, past)) (rest_next entry entries number from next))

-- what a search finds

pub found_is : (entries : List Entry) (number from : ℕ) (found : Entry) → IsNext entries number from → find (is_from from) entries ≡ Some found
    → (number < length entries) × ((d : Entry) → found ≡ get_or entries number d)
found_is entries number from found next is = elim (cases_lt number (length entries)) [
  | inl below ↦ (below, λ d. (let same : Some found ≡ Some (get_or entries number d) = sym is ∙ next_found entries number from d below next in cc))
  | inr past ↦ absurd (let none : Some found ≡ None = sym is ∙ none_next entries number from past next in cc)
]

pub none_found : (entries : List Entry) (number from : ℕ) → IsNext entries number from → find (is_from from) entries ≡ None → length entries ≤ number
none_found entries number from next is = elim (cases_lt number (length entries)) [
  | inl below ↦ absurd (let some : None ≡ Some (get_or entries number no_entry) = sym is ∙ next_found entries number from no_entry below next in cc)
  | inr past ↦ past
]
