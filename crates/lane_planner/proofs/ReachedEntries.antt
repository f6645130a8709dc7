-- The entries of the marked states: each reached state's once, and each covers its decisions.
use Rattle.std.proofs.Common.{◌≡◌, ◌↔◌, ℕ, ◌+◌, ◌<◌, ◌≤◌, Bool, List, [], ◌∷◌, ◌++◌, map, get_or, refl, sym, subst, ap, ◌∙◌, inl, inr, arith, zero, suc, true, cond, filter}
use Rattle.std.specs.List.{All, Contains, range_with_len}
use Rattle.std.proofs.lemmas.Bool.{cases_lt, false_from_ne_true}
use Rattle.std.proofs.lemmas.List.{get_or-map, length-map, append-nil}
use Rattle.std.proofs.lemmas.List.Elements.{All-contains, All-filter, All-from_recursion, All-map, Contains-get_or, filter_passes}
use Rattle.std.proofs.lemmas.List.FromFn.{filter_of_map_range_with_len_more, get_or-map-range_with_len, length-map-range_with_len}
use Rattle.std.proofs.lemmas.List.Kept.{AllPairs-filter}
use Rattle.std.proofs.lemmas.List.Sums.{count_by-le-length, length-filter}
use Rattle.lane_planner.proofs.Words.{Advertised, PathWeights, Path, State, Decision, Entry, state_at, state_place, decisions_from, IsReached, IsBound, IsCovered, entry_place, state_of}
use Rattle.plan_certificate.proofs.Lists.{each_contained, each_of_filter}
use Rattle.lane_planner.specs.Gains.{IsGain}
use Rattle.lane_planner.specs.Marks.{IsFirstMarked, IsMarked, MarksReached, NoneMarked, is_marked}
use Rattle.lane_planner.specs.Tables.{AreEntries, HasGains, entry_at, gain_at, marked_entries}
use Rattle.lane_planner.proofs.GainLaws.{covers_decision}
use Rattle.lane_planner.proofs.ReachedStates.{place_below, state_of_place, has_place, reached_on}
use Rattle.lane_planner.proofs.TableGains.{gain_in}

place_is : (table : List ℕ) (place : ℕ) → entry_place (entry_at table place) ≡ place
place_is table place = omega arith

-- ---- what they are worth

pub contains_mapped : {X Y : Type 0} (f : X → Y) (xs : List X) (x : X) → Contains xs x → Contains (map f xs) (f x)
contains_mapped f xs x contains = (contains.0, omega (arith, contains.1, length-map xs f), get_or-map f xs contains.0 x (f x) contains.1 ∙ ap f contains.2)

module _ (advert : Advertised) (weights : PathWeights) (kept : List Path) (marks : List ℕ) (table : List ℕ) (entries : List Entry) (reached : MarksReached advert weights kept marks) (has : HasGains advert weights kept 0 table) (are : AreEntries marks table 2304 entries) where
  entry_is : (entry : Entry) → Contains entries entry → IsReached advert weights kept (state_of entry) × IsGain advert weights kept (state_of entry) entry.potential
  entry_is entry contains =
      let at = All-contains (λ e. IsMarked marks (entry_place e) × (e ≡ entry_at table (entry_place e))) entries entry are.marked contains in
      let is = (reached (entry_place entry)).0 at.0 in
      let gain = has.gains (entry_place entry) (omega arith) is in
      (subst (IsReached advert weights kept) (sym (ap state_of at.1)) is, subst (λ (e : Entry). IsGain advert weights kept (state_of e) e.potential) (sym at.1) gain)

  pub bound_at : (state : State) → IsReached advert weights kept state → IsBound entries state (gain_at table state)
  bound_at state is =
      let at = has_place advert weights kept state is in
      let place : ℕ = state_place state in
      let same : state_at place ≡ state = state_of_place state at.is_byte in
      let marked = (reached place).1 (subst (IsReached advert weights kept) (sym same) is) in
      (entry_at table place, are.each place (place_below state at.within) marked, same, refl)

  pub each_gain : All (λ entry. IsGain advert weights kept (state_of entry) entry.potential) entries
  each_gain k d below = (entry_is (get_or entries k d) (Contains-get_or entries k d below)).1

  pub each_covers : All (λ entry. All (IsCovered entries entry.potential) (decisions_from advert weights kept (state_of entry))) entries
  each_covers k d below n e inside =
      let entry : Entry = get_or entries k d in
      let own = entry_is entry (Contains-get_or entries k d below) in
      let state : State = state_of entry in
      let decisions = decisions_from advert weights kept state in
      let decision : Decision = get_or decisions n e in
      let contains = Contains-get_or decisions n e inside in
      let is = reached_on advert weights kept state decision own.0 contains in
      let later = gain_in advert weights kept 0 table decision.end has is (omega arith) in
      (gain_at table decision.end, bound_at decision.end is, covers_decision advert weights kept state entry.potential (gain_at table decision.end) decision own.1 later contains)

  pub states_are : (state : State) → IsReached advert weights kept state ↔ Contains (map state_of entries) state
  states_are state = (
    (λ is.
        let bound = bound_at state is in
        subst (Contains (map state_of entries)) bound.2 (contains_mapped state_of entries bound.0 bound.1)),
    (λ contains. All-contains (IsReached advert weights kept) (map state_of entries) state (All-map (IsReached advert weights kept) state_of entries (λ k d below. (entry_is (get_or entries k d) (Contains-get_or entries k d below)).0)) contains),
  )

-- ---- the entries of the states so far

entries_more : (marks : List ℕ) (table : List ℕ) (place : ℕ) → marked_entries marks table (place + 1) ≡ marked_entries marks table place ++ cond (is_marked marks place) (entry_at table place ∷ []) []
unfolding marked_entries
entries_more marks table place =
    let before = filter (λ (entry : Entry). is_marked marks (entry_place entry)) (map (entry_at table) (range_with_len 0 place)) in
    filter_of_map_range_with_len_more (λ (entry : Entry). is_marked marks (entry_place entry)) (entry_at table) 0 place place (omega arith)
    ∙ ap (λ (n : ℕ). before ++ cond (is_marked marks n) (entry_at table place ∷ []) []) (place_is table place)

-- those before another place are the same where none between is marked
pub no_more : (marks : List ℕ) (table : List ℕ) (from end : ℕ) → from ≤ end → NoneMarked marks from end → marked_entries marks table end ≡ marked_entries marks table from
no_more marks table from zero within none = let same : zero ≡ from = omega (arith, within) in ap (marked_entries marks table) same
no_more marks table from (suc end) within none = elim (cases_lt end from) [
  | inl last ↦ let same : suc end ≡ from = omega (arith, last, within) in ap (marked_entries marks table) same
  | inr more ↦
      let next : suc end ≡ end + 1 = omega arith in
      let last = false_from_ne_true (is_marked marks end) (none end more (omega arith)) in
      ap (marked_entries marks table) next
      ∙ entries_more marks table end
      ∙ rw (last, append-nil (marked_entries marks table end)) (no_more marks table from end more (λ place past below. none place past (omega (arith, below))))
]

-- and past the next marked one, its entry is added
pub one_more : (marks : List ℕ) (table : List ℕ) (from end place : ℕ) → IsFirstMarked marks from end place → marked_entries marks table (place + 1) ≡ marked_entries marks table from ++ entry_at table place ∷ []
one_more marks table from end place found = entries_more marks table place ∙ rw (found.marked, no_more marks table from place found.after found.none) refl

-- what holds of the entry at each place holds of each of them
each_marked : (P : Entry → Type 0) (marks : List ℕ) (table : List ℕ) (n : ℕ) → ((place : ℕ) → place < n → P (entry_at table place)) → All P (marked_entries marks table n)
unfolding marked_entries
each_marked P marks table n each =
    let all = map (entry_at table) (range_with_len 0 n) in
    All-filter (λ (e : Entry). is_marked marks (entry_place e)) P all (λ k d below.
    let low : k < n = omega (arith, below, length-map-range_with_len (entry_at table) 0 n) in
    subst P (sym (get_or-map-range_with_len (entry_at table) 0 n k k d low (omega arith))) (each k low))

pub are_marked : (marks : List ℕ) (table : List ℕ) (n : ℕ) → n ≤ 2304 → AreEntries marks table n (marked_entries marks table n)
unfolding marked_entries
are_marked marks table n within =
    let Rise : Entry → Entry → Type 0 = λ entry later. entry_place entry < entry_place later in
    let test : Entry → Bool = λ entry. is_marked marks (entry_place entry) in
    let all = map (entry_at table) (range_with_len 0 n) in
    let long = length-map-range_with_len (entry_at table) 0 n in
    let place_of = λ (k : ℕ) (d : Entry) (low : k < n). ap entry_place (get_or-map-range_with_len (entry_at table) 0 n k k d low (omega arith)) in
    let own = each_marked (λ e. e ≡ entry_at table (entry_place e)) marks table n (λ place low. ap (entry_at table) (sym (place_is table place))) in
    let Held : Entry → Type 0 = Contains (marked_entries marks table n) in
    record {
      states = record {
        rising = AllPairs-filter Rise test all (λ i j d before below. omega (arith, before, place_of i d (omega (arith, before, below, long)), place_of j d (omega (arith, below, long))));
        within = each_marked (λ e. e.boundary ≤ 8) marks table n (λ place low. omega (arith, low, within));
        bytes = each_marked (λ e. e.used < 256) marks table n (λ place low. omega arith);
      };
      below = each_marked (λ e. entry_place e < n) marks table n (λ place low. omega (arith, low, place_is table place));
      marked = λ k d below. (filter_passes test all k d below, own k d below);
      each = λ place low marked.
          let held = All-from_recursion (λ (e : Entry). test e ≡ true → Held e) all (each_of_filter Held test all (each_contained (filter test all))) in
          let here = get_or-map-range_with_len (entry_at table) 0 n place place (entry_at table place) low (omega arith) in
          All-contains (λ (e : Entry). test e ≡ true → Held e) all (entry_at table place) held (place, omega (arith, low, long), here) (ap (is_marked marks) (place_is table place) ∙ marked);
      few = omega (arith, length-filter test all, count_by-le-length test all, long);
    }
