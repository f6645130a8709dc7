-- Entries by the places of their states: listed, looked up, and one more.
use Rattle.std.proofs.Common.{◌≡◌, ◌≢◌, ◌==◌, ℕ, zero, suc, ◌+◌, ◌-◌, ◌*◌, ◌/◌, ◌%◌, ◌<◌, ◌≤◌, Bool, true, false, List, [], ◌∷◌, ◌++◌, Option, Some, None, length, get_or, set, replicate, cond, nat_le, refl, sym, subst, ap, ◌∙◌, inl, inr, ◌⊎◌, append_assoc, arith}
use Rattle.std.specs.List.{All, AllPairs, Contains, find, flat_map, enumerate_from}
use Rattle.std.specs.Option.{option_map}
use Rattle.std.proofs.Common.{get_or-set_same, get_or-set_other}
use Rattle.std.proofs.Math.ListN.{length-set}
use Rattle.std.proofs.lemmas.Bool.{cases_eq, cases_lt, eq-eqb, ne_eqb}
use Rattle.std.proofs.lemmas.Bool.Decides.{nat_tests}
use Rattle.std.proofs.lemmas.List.{length-append}
use Rattle.std.proofs.lemmas.List.Elements.{All-cons, All-contains}
use Rattle.std.proofs.lemmas.List.Kept.{AllPairs-cons}
use Rattle.plan_certificate.specs.declared.certificate.Entry.{Entry}
use Rattle.plan_certificate.specs.Certificates.{HasStates, entry_place}
use Rattle.plan_certificate.specs.EntryPlaces.{AreEntries, AreListed, entries_of, entry_at, is_from}
use Rattle.plan_certificate.proofs.Lookups.{is_there}

abbrev Bound : Type 0
Bound = Option ℕ

-- those from a place on
abbrev entries_from : ℕ → List Bound → List Entry
entries_from k bounds = flat_map entry_at (enumerate_from k bounds)

abbrev pub entry : ℕ → ℕ → Entry
entry place potential = record { boundary = place / 256; used = place % 256; potential = potential }

pub place_is : (place potential : ℕ) → entry_place (entry place potential) ≡ place
place_is place potential = omega arith

from_zero : (n : ℕ) → 0 + n ≡ n
from_zero n = omega arith

-- nothing stands from a place on
abbrev pub NoneFrom : ℕ → List Bound → Type 0
NoneFrom place bounds = (i : ℕ) → place ≤ i → get_or bounds i None ≡ None

some_is_not : (potential : ℕ) → ◌≡◌ {A = Bound} (Some potential) None → ⊥
some_is_not potential is = cc

pub some_or_none : (bound : Bound) → (bound ≡ None) ⊎ ((potential : ℕ) × (bound ≡ Some potential))
some_or_none None = inl refl
some_or_none (Some potential) = inr (potential, refl)

behind : (bound : Bound) (bounds : List Bound) → NoneFrom 0 (bound ∷ bounds) → NoneFrom 0 bounds
behind bound bounds none i past = none (suc i) (omega arith)

no_entry : (k : ℕ) (bounds : List Bound) → NoneFrom 0 bounds → entries_from k bounds ≡ []
no_entry k [] none = refl
no_entry k (None ∷ bounds) none = no_entry (k + 1) bounds (behind None bounds none)
no_entry k (Some potential ∷ bounds) none = absurd (some_is_not potential (none zero (omega arith)))

-- ---- none

none_in : (n i : ℕ) → ◌≡◌ {A = Bound} (get_or (replicate n None) i None) None
none_in zero i = refl
none_in (suc n) zero = refl
none_in (suc n) (suc i) = none_in n i

pub nothing_from : (n place : ℕ) → NoneFrom place (replicate n None)
nothing_from n place i past = none_in n i

pub nothing_listed : (n : ℕ) → entries_of (replicate n None) ≡ []
unfolding entries_of
nothing_listed n = no_entry 0 (replicate n None) (nothing_from n 0)

all_none : (k : ℕ) (bounds : List Bound) → entries_from k bounds ≡ [] → bounds ≡ replicate (length bounds) None
all_none k [] none = refl
all_none k (None ∷ bounds) none = ap (λ (rest : List Bound). None ∷ rest) (all_none (k + 1) bounds none)
all_none k (Some potential ∷ bounds) none = absurd cc

pub none_listed : (bounds : List Bound) (n : ℕ) → length bounds ≡ n → entries_of bounds ≡ [] → bounds ≡ replicate n None
unfolding entries_of
none_listed bounds n all none = all_none 0 bounds none ∙ ap (λ (m : ℕ). replicate m None) all

-- ---- their states

length_from : (k : ℕ) (bounds : List Bound) → length (entries_from k bounds) ≤ length bounds
length_from k [] = omega arith
length_from k (None ∷ bounds) = omega (arith, length_from (k + 1) bounds)
length_from k (Some potential ∷ bounds) = omega (arith, length_from (k + 1) bounds)

pub few_listed : (bounds : List Bound) → length (entries_of bounds) ≤ length bounds
unfolding entries_of
few_listed bounds = length_from 0 bounds

none_of_all : (P : Entry → Type 0) → All P []
none_of_all P k d below = absurd (omega (arith, below))

-- at places from k on, and before k and so many
record IsWithin (k n : ℕ) (entry : Entry) : Type 0 where
  pub past : k ≤ entry_place entry
  pub below : entry_place entry < k + n
  pub used : entry.used < 256

within_more : (k n : ℕ) (entries : List Entry) → All (IsWithin (k + 1) n) entries → All (IsWithin k (suc n)) entries
within_more k n entries all i d below =
    let is = all i d below in
    record { past = omega (arith, is.past); below = omega (arith, is.below); used = is.used }

within_from : (k : ℕ) (bounds : List Bound) → All (IsWithin k (length bounds)) (entries_from k bounds)
within_from k [] = none_of_all (IsWithin k 0)
within_from k (None ∷ bounds) = within_more k (length bounds) (entries_from (k + 1) bounds) (within_from (k + 1) bounds)
within_from k (Some potential ∷ bounds) =
    All-cons (IsWithin k (suc (length bounds))) (entry k potential) (entries_from (k + 1) bounds)
    (record { past = omega arith; below = omega arith; used = omega arith })
    (within_more k (length bounds) (entries_from (k + 1) bounds) (within_from (k + 1) bounds))

abbrev Rises : List Entry → Type 0
Rises entries = AllPairs (λ one later. entry_place one < entry_place later) entries

rising_from : (k : ℕ) (bounds : List Bound) → Rises (entries_from k bounds)
rising_from k [] = λ i j d before below. absurd (omega (arith, below))
rising_from k (None ∷ bounds) = rising_from (k + 1) bounds
rising_from k (Some potential ∷ bounds) =
    AllPairs-cons (λ one later. entry_place one < entry_place later) (entry k potential) (entries_from (k + 1) bounds)
    (λ i d below. omega (arith, place_is k potential, (within_from (k + 1) bounds i d below).past))
    (rising_from (k + 1) bounds)

pub has_states : (bounds : List Bound) → length bounds ≡ 2304 → HasStates (entries_of bounds)
unfolding entries_of
has_states bounds all =
    let within = within_from 0 bounds in
    record {
      rising = rising_from 0 bounds;
      within = λ k d below. omega (arith, all, (within k d below).below);
      bytes = λ k d below. (within k d below).used;
    }

-- ---- looking up

none_before : (k place : ℕ) (bounds : List Bound) → place < k → find (is_there place) (entries_from k bounds) ≡ None
none_before k place [] before = refl
none_before k place (None ∷ bounds) before = none_before (k + 1) place bounds (omega (arith, before))
none_before k place (Some potential ∷ bounds) before =
    ap (λ (b : Bool). cond b (Some (entry k potential)) (find (is_there place) (entries_from (k + 1) bounds)))
    (ne_eqb (entry_place (entry k potential)) place (λ same. omega (arith, same, before, place_is k potential)))
    ∙ none_before (k + 1) place bounds (omega (arith, before))

abbrev told : Option Entry → Bound
told found = option_map (λ (one : Entry). one.potential) found

one_further : (k j : ℕ) → k + 1 + j ≡ k + suc j
one_further k j = omega arith

told_from : (k j : ℕ) (bounds : List Bound) → told (find (is_there (k + j)) (entries_from k bounds)) ≡ get_or bounds j None
told_from k j [] = refl
told_from k zero (None ∷ bounds) = ap told (none_before (k + 1) (k + 0) bounds (omega arith))
told_from k zero (Some potential ∷ bounds) =
    ap (λ (b : Bool). told (cond b (Some (entry k potential)) (find (is_there (k + 0)) (entries_from (k + 1) bounds))))
    (eq-eqb (entry_place (entry k potential)) (k + 0) (place_is k potential ∙ (let same : k ≡ k + 0 = omega arith in same)))
told_from k (suc j) (None ∷ bounds) =
    ap (λ (place : ℕ). told (find (is_there place) (entries_from (k + 1) bounds))) (sym (one_further k j)) ∙ told_from (k + 1) j bounds
told_from k (suc j) (Some potential ∷ bounds) =
    ap (λ (b : Bool). told (cond b (Some (entry k potential)) (find (is_there (k + suc j)) (entries_from (k + 1) bounds))))
    (ne_eqb (entry_place (entry k potential)) (k + suc j) (λ same. omega (arith, same, place_is k potential)))
    ∙ ap (λ (place : ℕ). told (find (is_there place) (entries_from (k + 1) bounds))) (sym (one_further k j)) ∙ told_from (k + 1) j bounds

pub told_at : (bounds : List Bound) (place : ℕ) → told (find (is_there place) (entries_of bounds)) ≡ get_or bounds place None
unfolding entries_of
told_at bounds place = subst (λ (n : ℕ). told (find (is_there n) (entries_from 0 bounds)) ≡ get_or bounds place None) (from_zero place) (told_from 0 place bounds)

pub past_all : (bounds : List Bound) (place : ℕ) → length bounds ≤ place → get_or bounds place None ≡ None
past_all [] place past = refl
past_all (bound ∷ bounds) zero past = absurd (omega (arith, past))
past_all (bound ∷ bounds) (suc place) past = past_all bounds place (omega (arith, past))

-- ---- the first from a place on

from_passes : (place : ℕ) (one : Entry) → place ≤ entry_place one → is_from place one ≡ true
from_passes place one past = grind (arith, nat_tests, past)

from_fails : (place : ℕ) (one : Entry) → entry_place one < place → is_from place one ≡ false
from_fails place one below = grind (arith, nat_tests, below)

-- nothing stands from a place up to the j-th
abbrev Between : ℕ → ℕ → ℕ → List Bound → Type 0
Between from k j bounds = (i : ℕ) → from ≤ k + i → i < j → get_or bounds i None ≡ None

between_rest : (from k j : ℕ) (bound : Bound) (bounds : List Bound) → Between from k (suc j) (bound ∷ bounds) → Between from (k + 1) j bounds
between_rest from k j bound bounds none i past below = none (suc i) (omega (arith, past)) (omega (arith, below))

first_at : (from k j potential : ℕ) (bounds : List Bound) → from ≤ k + j → Between from k j bounds → get_or bounds j None ≡ Some potential
    → find (is_from from) (entries_from k bounds) ≡ Some (entry (k + j) potential)
first_at from k j potential [] past none is = absurd (some_is_not potential (sym is))
first_at from k zero potential (None ∷ bounds) past none is = absurd (some_is_not potential (sym is))
first_at from k zero potential (Some other ∷ bounds) past none is =
    let same : other ≡ potential = cc in
    let here : k ≡ k + 0 = omega arith in
    ap (λ (b : Bool). cond b (Some (entry k other)) (find (is_from from) (entries_from (k + 1) bounds)))
    (from_passes from (entry k other) (omega (arith, past, place_is k other)))
    ∙ (λ i. Some (entry (here i) (same i)))
first_at from k (suc j) potential (None ∷ bounds) past none is =
    first_at from (k + 1) j potential bounds (omega (arith, past)) (between_rest from k j None bounds none) is
    ∙ ap (λ (place : ℕ). Some (entry place potential)) (one_further k j)
first_at from k (suc j) potential (Some other ∷ bounds) past none is =
    let before : entry_place (entry k other) < from = elim (cases_lt k from) [
      | inl below ↦ omega (arith, below, place_is k other)
      | inr later ↦ absurd (some_is_not other (none zero (omega (arith, later)) (omega arith)))
    ] in
    ap (λ (b : Bool). cond b (Some (entry k other)) (find (is_from from) (entries_from (k + 1) bounds)))
    (from_fails from (entry k other) before)
    ∙ first_at from (k + 1) j potential bounds (omega (arith, past)) (between_rest from k j (Some other) bounds none) is
    ∙ ap (λ (place : ℕ). Some (entry place potential)) (one_further k j)

pub first_is : (from place potential : ℕ) (bounds : List Bound) → from ≤ place → ((i : ℕ) → from ≤ i → i < place → get_or bounds i None ≡ None) → get_or bounds place None ≡ Some potential
    → find (is_from from) (entries_of bounds) ≡ Some (entry place potential)
unfolding entries_of
first_is from place potential bounds past none is =
    first_at from 0 place potential bounds (omega (arith, past)) (λ i later below. none i (omega (arith, later)) below) is ∙ ap (λ (n : ℕ). Some (entry n potential)) (from_zero place)

abbrev NoneAfter : ℕ → ℕ → List Bound → Type 0
NoneAfter from k bounds = (i : ℕ) → from ≤ k + i → get_or bounds i None ≡ None

no_first : (from k : ℕ) (bounds : List Bound) → NoneAfter from k bounds → find (is_from from) (entries_from k bounds) ≡ None
no_first from k [] none = refl
no_first from k (None ∷ bounds) none = no_first from (k + 1) bounds (λ i past. none (suc i) (omega (arith, past)))
no_first from k (Some potential ∷ bounds) none =
    let before : entry_place (entry k potential) < from = elim (cases_lt k from) [
      | inl below ↦ omega (arith, below, place_is k potential)
      | inr later ↦ absurd (some_is_not potential (none zero (omega (arith, later))))
    ] in
    ap (λ (b : Bool). cond b (Some (entry k potential)) (find (is_from from) (entries_from (k + 1) bounds)))
    (from_fails from (entry k potential) before)
    ∙ no_first from (k + 1) bounds (λ i past. none (suc i) (omega (arith, past)))

pub none_is_from : (from : ℕ) (bounds : List Bound) → NoneFrom from bounds → find (is_from from) (entries_of bounds) ≡ None
unfolding entries_of
none_is_from from bounds none = no_first from 0 bounds (λ i past. none i (omega (arith, past)))

-- ---- all before a place

below_from : (k end : ℕ) (bounds : List Bound) → NoneAfter end k bounds → All (λ one. entry_place one < end) (entries_from k bounds)
below_from k end [] none = none_of_all (λ one. entry_place one < end)
below_from k end (None ∷ bounds) none = below_from (k + 1) end bounds (λ i past. none (suc i) (omega (arith, past)))
below_from k end (Some potential ∷ bounds) none =
    let before : entry_place (entry k potential) < end = elim (cases_lt k end) [
      | inl below ↦ omega (arith, below, place_is k potential)
      | inr later ↦ absurd (some_is_not potential (none zero (omega (arith, later))))
    ] in
    All-cons (λ one. entry_place one < end) (entry k potential) (entries_from (k + 1) bounds) before
    (below_from (k + 1) end bounds (λ i past. none (suc i) (omega (arith, past))))

pub all_below : (end : ℕ) (bounds : List Bound) → NoneFrom end bounds → All (λ one. entry_place one < end) (entries_of bounds)
unfolding entries_of
all_below end bounds none = below_from 0 end bounds (λ i past. none i (omega (arith, past)))

listed_from : (k j potential : ℕ) (bounds : List Bound) → get_or bounds j None ≡ Some potential → Contains (entries_from k bounds) (entry (k + j) potential)
listed_from k j potential [] is = absurd (some_is_not potential (sym is))
listed_from k zero potential (None ∷ bounds) is = absurd (some_is_not potential (sym is))
listed_from k zero potential (Some other ∷ bounds) is =
    let same : other ≡ potential = cc in
    let here : k ≡ k + 0 = omega arith in
    (zero, omega arith, λ i. entry (here i) (same i))
listed_from k (suc j) potential (None ∷ bounds) is =
    subst (λ (place : ℕ). Contains (entries_from (k + 1) bounds) (entry place potential)) (one_further k j) (listed_from (k + 1) j potential bounds is)
listed_from k (suc j) potential (Some other ∷ bounds) is =
    let rest = subst (λ (place : ℕ). Contains (entries_from (k + 1) bounds) (entry place potential)) (one_further k j) (listed_from (k + 1) j potential bounds is) in
    (suc rest.0, omega (arith, rest.1), rest.2)

pub listed : (bounds : List Bound) (place potential : ℕ) → get_or bounds place None ≡ Some potential → Contains (entries_of bounds) (entry place potential)
unfolding entries_of
listed bounds place potential is = subst (λ (n : ℕ). Contains (entries_from 0 bounds) (entry n potential)) (from_zero place) (listed_from 0 place potential bounds is)

-- ---- one more

more_from : (k j potential : ℕ) (bounds : List Bound) → j < length bounds → NoneFrom j bounds
    → entries_from k (set bounds j (Some potential)) ≡ entries_from k bounds ++ entry (k + j) potential ∷ []
more_from k j potential [] below none = absurd (omega (arith, below))
more_from k zero potential (None ∷ bounds) below none =
    let rest = no_entry (k + 1) bounds (behind None bounds none) in
    let here : k ≡ k + 0 = omega arith in
    (λ i. entry (here i) potential ∷ rest i) ∙ ap (λ (l : List Entry). l ++ entry (k + 0) potential ∷ []) (sym rest)
more_from k zero potential (Some other ∷ bounds) below none = absurd (some_is_not other (none zero (omega arith)))
more_from k (suc j) potential (None ∷ bounds) below none =
    more_from (k + 1) j potential bounds (omega (arith, below)) (λ i past. none (suc i) (omega (arith, past)))
    ∙ ap (λ (place : ℕ). entries_from (k + 1) bounds ++ entry place potential ∷ []) (one_further k j)
more_from k (suc j) potential (Some other ∷ bounds) below none =
    ap (λ (l : List Entry). entry k other ∷ l)
    (more_from (k + 1) j potential bounds (omega (arith, below)) (λ i past. none (suc i) (omega (arith, past)))
    ∙ ap (λ (place : ℕ). entries_from (k + 1) bounds ++ entry place potential ∷ []) (one_further k j))

pub one_more : (place potential : ℕ) (bounds : List Bound) → place < length bounds → NoneFrom place bounds
    → entries_of (set bounds place (Some potential)) ≡ entries_of bounds ++ entry place potential ∷ []
unfolding entries_of
one_more place potential bounds below none = more_from 0 place potential bounds below none ∙ ap (λ (n : ℕ). entries_from 0 bounds ++ entry n potential ∷ []) (from_zero place)

-- an entry whose state is past those of all others has nothing at its place or past it
pub none_past : (bounds : List Bound) (place : ℕ) → All (λ before. entry_place before < place) (entries_of bounds) → NoneFrom place bounds
none_past bounds place above i past = elim (some_or_none (get_or bounds i None)) [
  | inl none ↦ none
  | inr some ↦
      let there = listed bounds i some.0 some.1 in
      let below = All-contains (λ before. entry_place before < place) (entries_of bounds) (entry i some.0) above there in
      absurd (omega (arith, below, past, place_is i some.0))
]

module _ (bounds : List Bound) (new : Entry) (all : length bounds ≡ 2304) (boundary : new.boundary ≤ 8) (used : new.used < 256) (above : All (λ before. entry_place before < entry_place new) (entries_of bounds)) where
  abbrev place : ℕ
  place = entry_place new

  entry_back : entry place new.potential ≡ new
  entry_back =
      let first : place / 256 ≡ new.boundary = omega (arith, used) in
      let rest : place % 256 ≡ new.used = omega (arith, used) in
      λ i. record { boundary = first i; used = rest i; potential = new.potential }

  pub place_below : place < length bounds
  place_below = omega (arith, all, boundary, used)

  pub added_entry : entries_of (set bounds place (Some new.potential)) ≡ entries_of bounds ++ new ∷ []
  added_entry = one_more place new.potential bounds place_below (none_past bounds place above) ∙ ap (λ (e : Entry). entries_of bounds ++ e ∷ []) entry_back

module _ (room : ℕ) (bounds : List Bound) (count end : ℕ) (blocks : List Bool) (new : Entry) (are : AreEntries room bounds count end blocks) (few : length (entries_of bounds) < room) (boundary : new.boundary ≤ 8) (used : new.used < 256)
    (above : All (λ before. entry_place before < entry_place new) (entries_of bounds)) where
  abbrev after : List Bound
  after = set bounds (entry_place new) (Some new.potential)

  abbrev marked : List Bool
  marked = set blocks (entry_place new / 16) true

  none_elsewhere : (other : ℕ) → (other ≡ entry_place new → ⊥) → get_or bounds other None ≡ None → get_or after other None ≡ None
  none_elsewhere other differs none = get_or-set_other bounds (entry_place new) other (Some new.potential) None differs ∙ none

  pub are_more : AreEntries room after (count + 1) (entry_place new + 1) marked
  are_more =
      let added = added_entry bounds new are.all boundary used above in
      let here = place_below bounds new are.all boundary used above in
      record {
        all = length-set bounds (entry_place new) (Some new.potential) ∙ are.all;
        counted = omega (arith, are.counted, ap (λ (l : List Entry). length l) added, length-append (entries_of bounds) (new ∷ []));
        few = omega (arith, are.counted, few);
        within = omega (arith, boundary, used);
        below = λ other past. none_elsewhere other (λ same. omega (arith, same, past)) (none_past bounds (entry_place new) above other (omega (arith, past)));
        last = inr (new.potential, (let last : entry_place new + 1 - 1 ≡ entry_place new = omega arith in ap (λ (n : ℕ). get_or after n None) last ∙ get_or-set_same bounds (entry_place new) (Some new.potential) None here));
        all_blocks = length-set blocks (entry_place new / 16) true ∙ are.all_blocks;
        blocked = λ other not. elim (cases_eq other (entry_place new)) [
          | inl same ↦
              let set_there : get_or marked (entry_place new / 16) false ≡ true = get_or-set_same blocks (entry_place new / 16) true false (omega (arith, are.all_blocks, boundary, used)) in
              let wrong : true ≡ false = sym set_there ∙ ap (λ (n : ℕ). get_or marked (n / 16) false) (sym same) ∙ not in
              absurd cc
          | inr differs ↦ none_elsewhere other differs (are.blocked other (elim (cases_eq (other / 16) (entry_place new / 16)) [
            | inl same ↦
                let set_there : get_or marked (entry_place new / 16) false ≡ true = get_or-set_same blocks (entry_place new / 16) true false (omega (arith, are.all_blocks, boundary, used)) in
                let wrong : true ≡ false = sym set_there ∙ ap (λ (n : ℕ). get_or marked n false) (sym same) ∙ not in
                absurd cc
            | inr apart ↦ sym (get_or-set_other blocks (entry_place new / 16) (other / 16) true false apart) ∙ not
          ]))
        ];
      }

pub are_listed : (room : ℕ) (bounds : List Bound) (count end : ℕ) (blocks : List Bool) → AreEntries room bounds count end blocks → AreListed room (entries_of bounds)
are_listed room bounds count end blocks are = record {
  states = has_states bounds are.all;
  fits = omega (arith, are.counted, are.few);
  few = omega (arith, few_listed bounds, are.all);
}

-- nothing is found from a place on if nothing stands from there up to another, at the end or past it
pub none_to_end : (room : ℕ) (bounds : List Bound) (count end : ℕ) (blocks : List Bool) (from place : ℕ) → AreEntries room bounds count end blocks → end ≤ place → ((i : ℕ) → from ≤ i → i < place → get_or bounds i None ≡ None)
    → find (is_from from) (entries_of bounds) ≡ None
none_to_end room bounds count end blocks from place are past none = none_is_from from bounds (λ i later. elim (cases_lt i place) [
  | inl before ↦ none i later before
  | inr after ↦ are.below i (omega (arith, past, after))
])

-- nothing stands up to the next sixteen places if nothing does in these
pub none_in_block : (room : ℕ) (bounds : List Bound) (count end : ℕ) (blocks : List Bool) (from place : ℕ) → AreEntries room bounds count end blocks → get_or blocks (place / 16) false ≡ false
    → ((i : ℕ) → from ≤ i → i < place → get_or bounds i None ≡ None) → (i : ℕ) → from ≤ i → i < 16 * (place / 16) + 16 → get_or bounds i None ≡ None
none_in_block room bounds count end blocks from place are not none i later below = elim (cases_lt i place) [
  | inl before ↦ none i later before
  | inr after ↦
      let same : place / 16 ≡ i / 16 = omega (arith, below, after) in
      are.blocked i (ap (λ (n : ℕ). get_or blocks n false) (sym same) ∙ not)
]

-- nothing stands up to the next place if nothing does here
pub none_here : (bounds : List Bound) (from place : ℕ) → get_or bounds place None ≡ None → ((i : ℕ) → from ≤ i → i < place → get_or bounds i None ≡ None)
    → (i : ℕ) → from ≤ i → i < place + 1 → get_or bounds i None ≡ None
none_here bounds from place here none i later below = elim (cases_lt i place) [
  | inl before ↦ none i later before
  | inr after ↦ (let same : i ≡ place = omega (arith, below, after) in ap (λ (n : ℕ). get_or bounds n None) same ∙ here)
]
