-- The certificate of the plan that is given is one alone, and so is its text.
use Rattle.std.proofs.Common.{◌≡◌, ◌↔◌, ℕ, zero, suc, ◌<◌, ◌⊎◌, List, [], ◌∷◌, length, get_or, refl, sym, subst, ap, ◌∙◌, inl, inr, arith}
use Rattle.std.specs.List.{AllByRecursion, AllPairs, Contains}
use Rattle.std.proofs.lemmas.List.{get_or-map, length-map}
use Rattle.std.proofs.lemmas.List.Elements.{All-contains, All-from_recursion, Contains-append_right, Contains-get_or}
use Rattle.field_tables.specs.LaneSets.{byte_of}
use Rattle.field_tables.specs.LaneBytes.{byte_of-lanes_in}
use Rattle.lane_planner.proofs.Words.{Advertised, PathWeights, Path, State, Entry, plan_weight, Claim, entry_place, state_of}
use Rattle.text_lines.specs.Lines.{text_of}
use Rattle.plan_certificate.specs.CertificateText.{certificate_lines}
use Rattle.plan_certificate.proofs.Ranks.{Ranked, ranked_from_pairs}
use Rattle.lane_planner.specs.CertifiedPlans.{IsPlanText}
use Rattle.lane_planner.specs.Gains.{IsGain}
use Rattle.lane_planner.proofs.FirstLaws.{one_first}
use Rattle.lane_planner.proofs.ReachedEntries.{contains_mapped}

-- ---- lists that rise and have the same members

module _ {X : Type 0} (rank : X → ℕ) where
  abbrev Above : X → X → Type 0
  Above x y = rank x < rank y

  abbrev HaveSame : List X → List X → Type 0
  HaveSame xs ys = (x : X) → Contains xs x ↔ Contains ys x

  -- a member is the first one, or is of the rest and above it
  first_or_rest : (x : X) (xs : List X) (y : X) → AllByRecursion (Above x) xs → Contains (x ∷ xs) y → (x ≡ y) ⊎ (Above x y × Contains xs y)
  first_or_rest x xs y above (zero, below, is) = inl is
  first_or_rest x xs y above (suc k, below, is) =
      let held : Contains xs y = (k, omega (arith, below), is) in
      inr (All-contains (Above x) xs y (All-from_recursion (Above x) xs above) held, held)

  rest_to : (x y : X) (xs ys : List X) → AllByRecursion (Above x) xs → AllByRecursion (Above y) ys → x ≡ y → (z : X) → (Contains (x ∷ xs) z → Contains (y ∷ ys) z) → Contains xs z → Contains ys z
  rest_to x y xs ys above others is z to held =
      elim (first_or_rest y ys z others (to (Contains-append_right (x ∷ []) xs z held))) [
        | inl same ↦ absurd (omega (arith, All-contains (Above x) xs z (All-from_recursion (Above x) xs above) held, ap rank (is ∙ same)))
        | inr found ↦ found.1
      ]

  one_ranked : (xs ys : List X) → Ranked Above xs → Ranked Above ys → HaveSame xs ys → xs ≡ ys
  one_ranked [] [] rises others same = refl
  one_ranked [] (y ∷ ys) rises others same = let none = (same y).1 (zero, omega arith, refl) in absurd (omega (arith, none.1))
  one_ranked (x ∷ xs) [] rises others same = let none = (same x).0 (zero, omega arith, refl) in absurd (omega (arith, none.1))
  one_ranked (x ∷ xs) (y ∷ ys) rises others same =
      let is : x ≡ y = elim (first_or_rest y ys x others.0 ((same x).0 (zero, omega arith, refl))) [
        | inl is ↦ sym is
        | inr above ↦ elim (first_or_rest x xs y rises.0 ((same y).1 (zero, omega arith, refl))) [
          | inl is ↦ is
          | inr below ↦ absurd (omega (arith, above.0, below.0))
        ]
      ] in
      let rest = one_ranked xs ys rises.1 others.1 (λ z. (rest_to x y xs ys rises.0 others.0 is z (same z).0, rest_to y x ys xs others.0 rises.0 (sym is) z (same z).1)) in
      (λ i. is i ∷ rest i)

  pub one_rising : (xs ys : List X) → AllPairs Above xs → AllPairs Above ys → HaveSame xs ys → xs ≡ ys
  one_rising xs ys rises others same = one_ranked xs ys (ranked_from_pairs Above xs rises) (ranked_from_pairs Above ys others) same

-- ---- entries

one_gain : (advert : Advertised) (weights : PathWeights) (kept : List Path) (state : State) (gain other : ℕ) → IsGain advert weights kept state gain → IsGain advert weights kept state other → gain ≡ other
one_gain advert weights kept state gain other is also =
    omega (arith, is.gained.2, also.gained.2, is.greatest also.gained.0 also.gained.1, also.greatest is.gained.0 is.gained.1)

same_entry : (entry other : Entry) → entry.used < 256 → other.used < 256 → state_of entry ≡ state_of other → entry.potential ≡ other.potential → entry ≡ other
same_entry entry other small also state potential =
    let boundary : entry.boundary ≡ other.boundary = ap (λ (s : State). s.boundary) state in
    let used : entry.used ≡ other.used = sym (byte_of-lanes_in entry.used small) ∙ ap (λ (s : State). byte_of s.used) state ∙ byte_of-lanes_in other.used also in
    λ i. record { boundary = boundary i; used = used i; potential = potential i }

-- ---- certificates

module _ (advert : Advertised) (weights : PathWeights) (kept : List Path) where
  entry_in_other : (text other : List ℕ) (is : IsPlanText advert weights kept text) (also : IsPlanText advert weights kept other) (entry : Entry) → Contains is.certificate.entries entry → Contains also.certificate.entries entry
  entry_in_other text other is also entry contains =
      let own : List Entry = is.certificate.entries in
      let others : List Entry = also.certificate.entries in
      let state : State = state_of entry in
      let Gain : Entry → Type 0 = λ e. IsGain advert weights kept (state_of e) e.potential in
      let Small : Entry → Type 0 = λ e. e.used < 256 in
      let reached = (is.certified.states state).1 (contains_mapped state_of own entry contains) in
      let there = (also.certified.states state).0 reached in
      let place : ℕ = there.0 in
      let below : place < length others = omega (arith, there.1, length-map others state_of) in
      let found : Entry = get_or others place entry in
      let held = Contains-get_or others place entry below in
      let same : state_of found ≡ state = sym (get_or-map state_of others place entry state below) ∙ there.2 in
      let gain = All-contains Gain own entry is.certified.gains contains in
      let gain_found = All-contains Gain others found also.certified.gains held in
      let gain_there = subst (λ (s : State). IsGain advert weights kept s found.potential) same gain_found in
      let potential = one_gain advert weights kept state found.potential entry.potential gain_there gain in
      let small = All-contains Small own entry is.read_back.readable.ordered.states.bytes contains in
      let small_found = All-contains Small others found also.read_back.readable.ordered.states.bytes held in
      subst (Contains others) (same_entry found entry small_found small same potential) held

  one_certificate : (text other : List ℕ) (is : IsPlanText advert weights kept text) (also : IsPlanText advert weights kept other) → is.certificate ≡ also.certificate
  one_certificate text other is also =
      let paths : is.certificate.paths ≡ also.certificate.paths =
      one_rising (λ (path : Path). path.host) is.certificate.paths also.certificate.paths is.certified.rising also.certified.rising
      (one_first advert weights kept is.certificate.paths also.certificate.paths is.certified.first also.certified.first) in
      let entries : is.certificate.entries ≡ also.certificate.entries =
      one_rising entry_place is.certificate.entries also.certificate.entries is.read_back.readable.ordered.states.rising also.read_back.readable.ordered.states.rising
      (λ entry. (entry_in_other text other is also entry, entry_in_other other text also is entry)) in
      let weight : is.certificate.weight ≡ also.certificate.weight = is.certified.good.weighs ∙ ap (plan_weight weights) paths ∙ sym also.certified.good.weighs in
      let keeps : is.certificate.kept ≡ also.certificate.kept = is.certified.keeps ∙ sym also.certified.keeps in
      let paired : is.certificate.paired ≡ also.certificate.paired = is.certified.good.paired ∙ sym also.certified.good.paired in
      λ i. record { paired = paired i; weight = weight i; kept = keeps i; paths = paths i; entries = entries i }

  pub one_text : (text other : List ℕ) → IsPlanText advert weights kept text → IsPlanText advert weights kept other → text ≡ other
  one_text text other is also = is.written ∙ ap (λ (c : Claim). text_of (certificate_lines c)) (one_certificate text other is also) ∙ sym also.written
