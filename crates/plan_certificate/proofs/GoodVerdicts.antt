-- Where a certificate has no flaw, it is good, and the other way round.
use Rattle.std.proofs.Common.{◌≡◌, ◌↔◌, ◌==◌, ℕ, ◌+◌, ◌*◌, ◌<◌, Bool, true, false, not, List, [], ◌∷◌, ◌++◌, Option, Some, None, nat_lt, refl, sym, ap, ◌∙◌, arith}
use Rattle.std.specs.Bool.{beq}
use Rattle.std.specs.List.{All, AllByRecursion, Contains, find, enumerate_from}
use Rattle.std.specs.Option.{is_none, option_map, unwrap_or}
use Rattle.std.proofs.lemmas.List.Elements.{All-contains, All-contains_itself, All-from_recursion, recursion_from_All}
use Rattle.std.proofs.lemmas.Bool.{eqb-true, eq-eqb}
use Rattle.std.proofs.lemmas.Bool.Decides.{nat_tests}
use Rattle.field_tables.specs.FirstFault.{first_fault}
use Rattle.field_tables.specs.LaneSets.{lanes_in, byte_of}
use Rattle.field_tables.specs.LaneBytes.{byte_of-lanes_in}
use Rattle.applications.specs.Advertised.{Advertised}
use Rattle.applications.specs.AppWeights.{PathWeights}
use Rattle.plan_certificate.specs.declared.certificate.Entry.{Entry}
use Rattle.plan_certificate.specs.declared.path.Path.{Path}
use Rattle.plan_certificate.specs.declared.state.State.{State}
use Rattle.plan_certificate.specs.declared.state.Decision.{Decision}
use Rattle.plan_certificate.specs.declared.verdict.Verdict.TheVariants.{Good}
use Rattle.plan_certificate.specs.declared.verdict.Flaw.{Flaw}
use Rattle.plan_certificate.specs.declared.verdict.Reason.TheVariants.{WeightWrong, NoStart, NotClosed, TooLow, StartNotWeight}
use Rattle.plan_certificate.specs.Plans.{plan_weight}
use Rattle.plan_certificate.specs.States.{start, state_place, decisions_from}
use Rattle.plan_certificate.specs.Certificates.{Claim, HasStates, IsBound, IsCovered, IsGood, state_of, entry_place}
use Rattle.plan_certificate.specs.Verdicts.{Flaws, PossibleFlaw, all_flaws, bound_flaws, entries_flaws, entry_flaws, flaw, judged, kept_flaws, missing_flaws, pairing_flaw, paths_flaws, plan_flaws, potential_of, decision_flaws, verdict}
use Rattle.plan_certificate.proofs.ByteLanes.{IsByte, lanes_of_byte, start_is_byte, each_end_is_byte}
use Rattle.plan_certificate.proofs.Lists.{each_pair, found, map_each}
use Rattle.plan_certificate.proofs.Lookups.{is_there, found_there}
use Rattle.plan_certificate.proofs.NoFlaw.{NoFlaw, not_false, neither_flaw, flaw_first, none_of_each, kept_admissible, none_missing, plan_admissible}

-- ---- looking up an entry

first_found : (test : Entry → Bool) (entries : List Entry) (entry : Entry) → find test entries ≡ Some entry → Contains entries entry × (test entry ≡ true)
first_found test entries entry is = found (Contains entries) test entries entry is (recursion_from_All (Contains entries) entries (All-contains_itself entries))

entry_is_byte : (entries : List Entry) (entry : Entry) → HasStates entries → Contains entries entry → entry.used < 256
entry_is_byte entries entry states contains = All-contains (λ (e : Entry). e.used < 256) entries entry states.bytes contains

-- an entry found at the place of a state bounds it
bound_of : (entries : List Entry) (state : State) (potential : ℕ) → HasStates entries → IsByte state.used → (o : Option Entry) → find (is_there (state_place state)) entries ≡ o → option_map (λ (entry : Entry). entry.potential) o ≡ Some potential → IsBound entries state potential
bound_of entries state potential states is_byte None at is = absurd cc
bound_of entries state potential states is_byte (Some entry) at is =
    let here = first_found (is_there (state_place state)) entries entry at in
    let place : entry_place entry ≡ state_place state = eqb-true _ _ here.1 in
    let byte : byte_of state.used ≡ is_byte.byte = ap byte_of is_byte.is ∙ byte_of-lanes_in is_byte.byte is_byte.below in
    let fits = entry_is_byte entries entry states here.0 in
    let boundary : entry.boundary ≡ state.boundary = omega (arith, place, byte, is_byte.below, fits) in
    let used : entry.used ≡ byte_of state.used = omega (arith, place, byte, is_byte.below, fits) in
    let same : entry.potential ≡ potential = cc in
    (entry, here.0, (λ i. record { boundary = boundary i; used = (ap lanes_in used ∙ lanes_of_byte state.used is_byte) i }), same)

bound_from : (entries : List Entry) (state : State) (potential : ℕ) → HasStates entries → IsByte state.used → potential_of entries state ≡ Some potential → IsBound entries state potential
unfolding potential_of
bound_from entries state potential states is_byte is = bound_of entries state potential states is_byte (find (is_there (state_place state)) entries) refl is

-- and an entry that bounds a state is found there
bound_to : (entries : List Entry) (state : State) (potential : ℕ) → HasStates entries → IsBound entries state potential → potential_of entries state ≡ Some potential
unfolding potential_of
bound_to entries state potential states (entry, contains, same, is) =
    let place : entry_place entry ≡ state_place state =
    (λ i. 256 * entry.boundary + sym (byte_of-lanes_in entry.used (entry_is_byte entries entry states contains)) i) ∙ ap state_place same in
    let at = found_there entries (state_place state) contains.0 entry states.rising contains.1 (ap entry_place contains.2 ∙ place) in
    ap (option_map (λ (e : Entry). e.potential)) at ∙ ap (λ (e : Entry). Some e.potential) contains.2 ∙ ap (λ (p : ℕ). Some p) is

-- ---- the decisions of an entry

not_none : (o : Option ℕ) → is_none o ≡ false → (potential : ℕ) × (o ≡ Some potential)
not_none None is = absurd cc
not_none (Some potential) is = (potential, refl)

abbrev open_flaw : List Entry → ℕ → Decision → PossibleFlaw
open_flaw entries number decision = (is_none (potential_of entries decision.end), flaw NotClosed number)

abbrev low_flaw : List Entry → ℕ → Entry → Decision → PossibleFlaw
low_flaw entries number entry decision = (nat_lt entry.potential (decision.weight + unwrap_or (potential_of entries decision.end) 0), flaw TooLow number)

abbrev is_low : Entry → Decision → Option ℕ → Bool
is_low entry decision later = nat_lt entry.potential (decision.weight + unwrap_or later 0)

decision_covered : (entries : List Entry) (entry : ℕ × Entry) (decision : Decision) → HasStates entries → IsByte decision.end.used → NoFlaw (decision_flaws entries entry decision) → IsCovered entries entry.1.potential decision
decision_covered entries (number, entry) decision states is_byte none =
    let low = low_flaw entries number entry decision in
    let first = (flaw_first (open_flaw entries number decision) (low ∷ [])).0 none in
    let second = (flaw_first low []).0 first.1 in
    let later = not_none (potential_of entries decision.end) first.0 in
    let test : is_low entry decision (Some later.0) ≡ false = ap (is_low entry decision) (sym later.1) ∙ second.0 in
    (later.0, bound_from entries decision.end later.0 states is_byte later.1, grind (arith, nat_tests))

covered_decision : (entries : List Entry) (entry : ℕ × Entry) (decision : Decision) → HasStates entries → IsCovered entries entry.1.potential decision → NoFlaw (decision_flaws entries entry decision)
covered_decision entries (number, entry) decision states (later, bound, covers) =
    let low = low_flaw entries number entry decision in
    let is = bound_to entries decision.end later states bound in
    let test : is_low entry decision (Some later) ≡ false = grind (arith, nat_tests) in
    (flaw_first (open_flaw entries number decision) (low ∷ [])).1 (ap is_none is, (flaw_first low []).1 (ap (is_low entry decision) is ∙ test, refl))

-- ---- all entries

-- what holds of the second members of numbered elements, and of the elements
unnumbered : {X : Type 0} (P : X → Type 0) (n : ℕ) (xs : List X) → AllByRecursion (λ (p : ℕ × X). P p.1) (enumerate_from n xs) → AllByRecursion P xs
unnumbered P n [] h = tt
unnumbered P n (x ∷ xs) h = (h.0, unnumbered P (n + 1) xs h.1)

numbered : {X : Type 0} (P : X → Type 0) (n : ℕ) (xs : List X) → AllByRecursion P xs → AllByRecursion (λ (p : ℕ × X). P p.1) (enumerate_from n xs)
numbered P n [] h = tt
numbered P n (x ∷ xs) h = (h.0, numbered P (n + 1) xs h.1)

abbrev CoveredAt : Advertised → PathWeights → List Path → List Entry → Entry → Type 0
CoveredAt advert weights kept entries entry = All (IsCovered entries entry.potential) (decisions_from advert weights kept (state_of entry))

abbrev Below : Entry → Type 0
Below entry = entry.used < 256

entry_is_covered : (advert : Advertised) (weights : PathWeights) (kept : List Path) (entries : List Entry) (entry : ℕ × Entry) → HasStates entries → entry.1.used < 256 → NoFlaw (entry_flaws advert weights kept entries entry) → CoveredAt advert weights kept entries entry.1
entry_is_covered advert weights kept entries entry states fits none =
    let decisions = decisions_from advert weights kept (state_of entry.1) in
    let ends = each_end_is_byte advert weights kept (state_of entry.1) (record { byte = entry.1.used; below = fits; is = refl }) in
    let each = (none_of_each (decision_flaws entries entry) decisions).0 none in
    All-from_recursion (IsCovered entries entry.1.potential) decisions
    (each_pair (λ (decision : Decision). IsByte decision.end.used) (λ (decision : Decision). NoFlaw (decision_flaws entries entry decision)) (IsCovered entries entry.1.potential) decisions (λ decision is_byte no. decision_covered entries entry decision states is_byte no) ends each)

covered_entry : (advert : Advertised) (weights : PathWeights) (kept : List Path) (entries : List Entry) (entry : ℕ × Entry) → HasStates entries → CoveredAt advert weights kept entries entry.1 → NoFlaw (entry_flaws advert weights kept entries entry)
covered_entry advert weights kept entries entry states covered =
    let decisions = decisions_from advert weights kept (state_of entry.1) in
    (none_of_each (decision_flaws entries entry) decisions).1
    (map_each (IsCovered entries entry.1.potential) (λ (decision : Decision). NoFlaw (decision_flaws entries entry decision)) decisions (λ decision covers. covered_decision entries entry decision states covers) (recursion_from_All (IsCovered entries entry.1.potential) decisions covered))

entries_covered : (advert : Advertised) (weights : PathWeights) (kept : List Path) (entries : List Entry) → HasStates entries → NoFlaw (entries_flaws advert weights kept entries) ↔ All (CoveredAt advert weights kept entries) entries
unfolding entries_flaws
entries_covered advert weights kept entries states =
    let each = none_of_each (entry_flaws advert weights kept entries) (enumerate_from 1 entries) in
    let bytes = numbered Below 1 entries (recursion_from_All Below entries states.bytes) in (
      λ none. All-from_recursion (CoveredAt advert weights kept entries) entries
          (unnumbered (CoveredAt advert weights kept entries) 1 entries
          (each_pair (λ (p : ℕ × Entry). Below p.1) (λ (p : ℕ × Entry). NoFlaw (entry_flaws advert weights kept entries p)) (λ (p : ℕ × Entry). CoveredAt advert weights kept entries p.1) (enumerate_from 1 entries)
          (λ p fits no. entry_is_covered advert weights kept entries p states fits no) bytes (each.0 none))),
      λ all.
          each.1
          (map_each (λ (p : ℕ × Entry). CoveredAt advert weights kept entries p.1) (λ (p : ℕ × Entry). NoFlaw (entry_flaws advert weights kept entries p)) (enumerate_from 1 entries) (λ p covered. covered_entry advert weights kept entries p states covered)
          (numbered (CoveredAt advert weights kept entries) 1 entries (recursion_from_All (CoveredAt advert weights kept entries) entries all))),
    )

-- ---- the whole certificate

abbrev start_flaw : List Entry → PossibleFlaw
start_flaw entries = (is_none (potential_of entries start), flaw NoStart 0)

abbrev is_other : ℕ → Option ℕ → Bool
is_other weight found = not (unwrap_or found 0 == weight)

abbrev end_flaw : List Entry → ℕ → PossibleFlaw
end_flaw entries weight = (is_other weight (potential_of entries start), flaw StartNotWeight 0)

record IsBounded (advert : Advertised) (weights : PathWeights) (kept : List Path) (entries : List Entry) (weight : ℕ) : Type 0 where
  closed : All (CoveredAt advert weights kept entries) entries
  begun : IsBound entries start weight

bounded : (advert : Advertised) (weights : PathWeights) (kept : List Path) (entries : List Entry) (weight : ℕ) → HasStates entries → NoFlaw (bound_flaws advert weights kept entries weight) ↔ IsBounded advert weights kept entries weight
unfolding bound_flaws
bounded advert weights kept entries weight states =
    let of_entries = entries_flaws advert weights kept entries in
    let ending : Flaws = end_flaw entries weight ∷ [] in
    let first = flaw_first (start_flaw entries) (of_entries ++ ending) in
    let middle = neither_flaw of_entries ending in
    let last = flaw_first (end_flaw entries weight) [] in
    let covered = entries_covered advert weights kept entries states in (
      λ none.
          let begins = first.0 none in
          let rest = middle.0 begins.1 in
          let found = not_none (potential_of entries start) begins.0 in
          let same : found.0 ≡ weight = eqb-true _ _ (not_false (found.0 == weight) (ap (is_other weight) (sym found.1) ∙ (last.0 rest.1).0)) in
          record { closed = covered.0 rest.0; begun = bound_from entries start weight states start_is_byte (found.1 ∙ ap (λ (p : ℕ). Some p) same) },
      λ is.
          let found = bound_to entries start weight states is.begun in
          first.1 (ap is_none found, middle.1 (covered.1 is.closed, last.1 (ap (is_other weight) found ∙ ap not (eq-eqb weight weight refl), refl))),
    )

like_each_other : (paired other : Bool) → (not (beq paired other) ≡ false) ↔ (paired ≡ other)
like_each_other true true = (λ none. refl, λ same. refl)
like_each_other true false = (λ none. absurd cc, λ same. absurd cc)
like_each_other false true = (λ none. absurd cc, λ same. absurd cc)
like_each_other false false = (λ none. refl, λ same. refl)

pub no_flaw_is_good : (advert : Advertised) (weights : PathWeights) (c : Claim) → HasStates c.entries → NoFlaw (all_flaws advert weights c) ↔ IsGood advert weights c
no_flaw_is_good advert weights c states =
    let right : ℕ = plan_weight weights c.paths in
    let bounds = bound_flaws advert weights c.kept c.entries c.weight in
    let weighed : PossibleFlaw = (not (c.weight == right), flaw WeightWrong 0) in
    let missing = missing_flaws c.kept c.paths in
    let plan = plan_flaws advert c.paths in
    let others = paths_flaws advert c.kept c.paths ++ weighed ∷ bounds in
    let outer = flaw_first (pairing_flaw advert c.paired) others in
    let is_like = like_each_other c.paired advert.paired in
    let all = neither_flaw (paths_flaws advert c.kept c.paths) (weighed ∷ bounds) in
    let zeroth = neither_flaw (kept_flaws advert c.kept) (plan ++ missing) in
    let first = neither_flaw plan missing in
    let second = flaw_first weighed bounds in
    let is_kept = kept_admissible advert c.kept in
    let is_plan = plan_admissible advert c.paths in
    let is_held = none_missing c.kept c.paths in
    let is_bounded = bounded advert weights c.kept c.entries c.weight states in (
      λ none.
          let like = outer.0 none in
          let whole = all.0 like.1 in
          let begins = zeroth.0 whole.0 in
          let parts = first.0 begins.1 in
          let rest = second.0 whole.1 in
          let bound = is_bounded.0 rest.1 in
          record {
            paired = is_like.0 like.0;
            kept = is_kept.0 begins.0;
            admissible = is_plan.0 parts.0;
            keeps = is_held.0 parts.1;
            weighs = eqb-true _ _ (not_false (c.weight == right) rest.0);
            closed = bound.closed;
            begun = bound.begun;
          },
      λ good.
          let weighs = second.1 (ap not (eq-eqb c.weight right good.weighs), is_bounded.1 (record { closed = good.closed; begun = good.begun })) in
          let whole = all.1 (zeroth.1 (is_kept.1 good.kept, first.1 (is_plan.1 good.admissible, is_held.1 good.keeps)), weighs) in
          outer.1 (is_like.1 good.paired, whole),
    )

judged_good : (found : Option Flaw) → (judged found ≡ Good) ↔ (found ≡ None)
judged_good None = (λ is. refl, λ is. refl)
judged_good (Some flaw) = (λ is. absurd cc, λ is. absurd cc)

pub good_verdict : (advert : Advertised) (weights : PathWeights) (c : Claim) → HasStates c.entries → (verdict advert weights c ≡ Good) ↔ IsGood advert weights c
unfolding verdict
good_verdict advert weights c states =
    let by_flaw = judged_good (first_fault (all_flaws advert weights c)) in
    let by_none = no_flaw_is_good advert weights c states in
    (λ is. by_none.0 (by_flaw.0 is), λ good. by_flaw.1 (by_none.1 good))
