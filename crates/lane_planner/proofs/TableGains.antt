-- The gains in a table: of where decisions lead, and of one state more.
use Rattle.std.proofs.Common.{◌≡◌, ℕ, ◌+◌, ◌*◌, ◌/◌, ◌-◌, ◌<◌, ◌≤◌, List, [], ◌∷◌, replicate, set, get_or, refl, sym, subst, inl, inr, ◌∙◌, arith, get_or-set_same, get_or-set_other, ◌++◌, Bool, ◌⊎◌, max}
use Rattle.std.specs.List.{Contains}
use Rattle.std.proofs.Math.ListN.{length-replicate, length-set}
use Rattle.std.proofs.lemmas.Bool.{cases_eq, cases_lt}
use Rattle.lane_planner.proofs.Words.{Advertised, PathWeights, Path, Move, State, Decision, state_at, state_place, decisions_from, AreMoves, decisions_by, IsReached}
use Rattle.lane_planner.specs.Gains.{Follow, IsGain, decisions_weight}
use Rattle.lane_planner.specs.Marks.{IsFirstMarked, MarksReached, NoneMarked}
use Rattle.lane_planner.specs.Tables.{AreGains, HasGains, IsTable, gain_at, most_by}
use Rattle.lane_planner.proofs.CellNumbers.{get_of_same}
use Rattle.lane_planner.proofs.ReachedStates.{boundary_of_place, state_of_place, has_place, reached_on}
use Rattle.lane_planner.proofs.DecisionKinds.{at_is_byte, ends_later, place_past, decision_is}
use Rattle.std.proofs.lemmas.List.Elements.{All-contains, Contains-append_right}
use Rattle.std.proofs.lemmas.List.Recursion.{max_bounds, max_push}
use Rattle.std.proofs.lemmas.List.Sums.{sum_by-cons}
use Rattle.lane_planner.proofs.MoreMoves.{heaviest_are, heaviest_cover}
use Rattle.lane_planner.proofs.GainLaws.{GainsAfter, limit_of}

pub gain_in : (advert : Advertised) (weights : PathWeights) (kept : List Path) (from : ℕ) (table : List ℕ) (state : State) → HasGains advert weights kept from table → IsReached advert weights kept state → from ≤ state_place state → IsGain advert weights kept state (gain_at table state)
gain_in advert weights kept from table state has is after =
    let same : state_at (state_place state) ≡ state = state_of_place state (has_place advert weights kept state is).is_byte in
    subst (λ (s : State). IsGain advert weights kept s (gain_at table state)) same (has.gains (state_place state) after (subst (IsReached advert weights kept) (sym same) is))

pub small_in : (table : List ℕ) (state : State) → IsTable table → gain_at table state ≤ 17179869180 * (8 - state.boundary)
small_in table state numbers = omega (arith, numbers.small (state_place state), boundary_of_place state)

-- ---- more states

-- past a boundary, or at it and before a place
abbrev pub IsDone : ℕ → ℕ → ℕ → Type 0
IsDone boundary upto place = (256 * boundary + 256 ≤ place) ⊎ ((256 * boundary ≤ place) × (place < upto))

-- of other places, of which those that are reached are done
pub gains_of : {advert : Advertised} {weights : PathWeights} {kept : List Path} {table : List ℕ} {Done More : ℕ → Type 0} → AreGains advert weights kept Done table → ((place : ℕ) → More place → IsReached advert weights kept (state_at place) → Done place) → AreGains advert weights kept More table
gains_of has done = record { numbers = has.numbers; gains = λ place more is. has.gains place (done place more is) is }

-- of those at the boundary up to the end of it, where no more are marked
pub gains_past : {advert : Advertised} {weights : PathWeights} {kept : List Path} {table : List ℕ} (marks : List ℕ) (boundary from : ℕ) → MarksReached advert weights kept marks → AreGains advert weights kept (IsDone boundary from) table → NoneMarked marks from (256 * boundary + 256) → HasGains advert weights kept (256 * boundary) table
gains_past marks boundary from reached has none = gains_of has (λ place at is. elim (cases_lt place (256 * boundary + 256)) [
  | inr past ↦ inl past
  | inl within ↦ elim (cases_lt place from) [
    | inl before ↦ inr (at, before)
    | inr after ↦ absurd (none place after within ((reached place).1 is))
  ]
])

-- and of the next one that is marked
pub gains_more : {advert : Advertised} {weights : PathWeights} {kept : List Path} {table : List ℕ} {marks : List ℕ} {from end place gain : ℕ} (boundary : ℕ) → MarksReached advert weights kept marks → AreGains advert weights kept (IsDone boundary from) table → IsFirstMarked marks from end place → place < 2304
    → IsGain advert weights kept (state_at place) gain → gain ≤ 17179869180 * (8 - place / 256) → AreGains advert weights kept (IsDone boundary (place + 1)) (set table place gain)
gains_more {advert} {weights} {kept} {table} {marks} {from} {end} {place} {gain} boundary reached has found below is small =
    let Small : ℕ → Type 0 = λ k. get_or (set table place gain) k 0 ≤ 17179869180 * (8 - k / 256) in
    let Gain : ℕ → Type 0 = λ k. IsGain advert weights kept (state_at k) (get_or (set table place gain) k 0) in
    let new : get_or (set table place gain) place 0 ≡ gain = get_or-set_same table place gain 0 (omega (arith, below, has.numbers.all)) in
    record {
      numbers = record {
        all = length-set table place gain ∙ has.numbers.all;
        small = λ k. elim (cases_eq k place) [
          | inl same ↦ subst Small (sym same) (omega (arith, new, small))
          | inr other ↦ omega (arith, get_or-set_other table place k gain 0 other, has.numbers.small k)
        ];
      };
      gains = λ k done at. elim (cases_eq k place) [
        | inl same ↦ subst Gain (sym same) (rw new is)
        | inr other ↦
            let earlier : IsDone boundary from k = elim (done) [
              | inl past ↦ inl past
              | inr here ↦ elim (cases_lt k from) [
                | inl before ↦ inr (here.0, before)
                | inr after ↦ absurd (found.none k after (omega (arith, here.1, other)) ((reached k).1 at))
              ]
            ] in
            rw (get_or-set_other table place k gain 0 other) (has.gains k earlier at)
      ];
    }

-- ---- at the last boundary

nothing_follows : (advert : Advertised) (weights : PathWeights) (kept : List Path) (state : State) → 8 ≤ state.boundary → (decisions : List Decision) → Follow advert weights kept state decisions → decisions_weight decisions ≤ 0
nothing_follows advert weights kept state past [] follow = omega arith
nothing_follows advert weights kept state past (decision ∷ decisions) follow = absurd (omega (arith, past, (decision_is advert weights kept state decision follow.0).below))

pub gains_begun : {advert : Advertised} {weights : PathWeights} {kept : List Path} (n : ℕ) → n ≡ 2304 → HasGains advert weights kept 2048 (replicate n 0)
gains_begun {advert} {weights} {kept} n is = record {
  numbers = record { all = length-replicate n 0 ∙ is; small = λ place. omega (arith, get_of_same {X = ℕ} n place 0) };
  gains = λ place from reached.
      subst (IsGain advert weights kept (state_at place)) (sym (get_of_same {X = ℕ} n place 0)) (record {
        gained = ([], tt, refl);
        greatest = λ decisions follow. nothing_follows advert weights kept (state_at place) (omega (arith, from)) decisions follow;
      });
}

-- ---- the most of several decisions

abbrev through : List ℕ → Decision → ℕ
through table decision = decision.weight + gain_at table decision.end

pub most_more : (table : List ℕ) (decisions : List Decision) (decision : Decision) → most_by table (decisions ++ decision ∷ []) ≡ max (most_by table decisions) (decision.weight + gain_at table decision.end)
most_more table decisions decision = max_push (most_by table) (through table) refl (λ first rest. refl) decisions decision

-- one of them attains it
most_attained : (table : List ℕ) (decisions : List Decision) → (most_by table decisions ≡ 0) ⊎ ((decision : Decision) × Contains decisions decision × (through table decision ≡ most_by table decisions))
most_attained table [] = inl refl
most_attained table (decision ∷ decisions) = elim (cases_lt (most_by table decisions) (through table decision)) [
  | inl more ↦ inr (decision, (0, omega arith, refl), omega (arith, more))
  | inr less ↦ elim (most_attained table decisions) [
    | inl none ↦ inl (omega (arith, none, less))
    | inr by ↦ inr (by.0, Contains-append_right (decision ∷ []) decisions by.0 by.1, omega (arith, by.2, less))
  ]
]

-- ---- over the decisions of the heaviest moves it is the gain

pub gain_is_most : {advert : Advertised} {weights : PathWeights} {kept : List Path} {table : List ℕ} {boundary : ℕ} {free : Bool} {all heaviest : List Move} (place : ℕ) → place / 256 ≡ boundary → boundary < 8 → HasGains advert weights kept (256 * boundary + 256) table → IsReached advert weights kept (state_at place)
    → AreMoves advert weights kept boundary free all heaviest → IsGain advert weights kept (state_at place) (most_by table (decisions_by free (state_at place) heaviest))
gain_is_most {advert} {weights} {kept} {table} {boundary} {free} {all} {heaviest} place at below has is are =
    let state : State = state_at place in
    let by : List Decision = decisions_by free state heaviest in
    let gains : GainsAfter advert weights kept (gain_at table) state = λ decision contains.
    let ends = ends_later advert weights kept state decision (at_is_byte place) contains in
    gain_in advert weights kept (256 * boundary + 256) table decision.end has (reached_on advert weights kept state decision is contains) (omega (arith, at, place_past (place / 256) decision.end ends.0)) in
    let covers = heaviest_cover state at below are (λ decision. through table decision ≤ most_by table by) (λ decision weight light low. omega (arith, light, low)) (max_bounds (most_by table) (through table) refl (λ first rest. refl) by) in
    record {
      gained = elim (most_attained table by) [
        | inl none ↦ ([], tt, sym none)
        | inr one ↦
            let contains = All-contains (Contains (decisions_from advert weights kept state)) by one.0 (heaviest_are state at below are) one.1 in
            let run = (gains one.0 contains).gained in
            (one.0 ∷ run.0, (contains, run.1), omega (arith, sum_by-cons (λ (s : Decision). s.weight) one.0 run.0, run.2, one.2))
      ];
      greatest = limit_of advert weights kept state (most_by table by) (gain_at table) gains covers;
    }
