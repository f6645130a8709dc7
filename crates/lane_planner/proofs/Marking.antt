-- Marking states from the start on: what is marked is what decisions from the start reach.
use Rattle.std.proofs.Common.{◌≡◌, ℕ, ◌+◌, ◌/◌, ◌<◌, Bool, List, [], ◌∷◌, ◌++◌, get_or, refl, sym, subst, ap, ◌∙◌, inl, inr, arith}
use Rattle.std.specs.List.{Contains}
use Rattle.std.proofs.lemmas.Bool.{both_ways, cases_eq, cases_lt, eqb-true, eq-eqb, or_cases, or_left, or_right}
use Rattle.std.proofs.lemmas.List.Elements.{Contains-append_left, Contains-push, Contains-push_cases, Contains-get_or, All-contains}
use Rattle.lane_planner.proofs.Words.{Advertised, PathWeights, Path, Move, State, Decision, start, state_at, state_place, decisions_from, AreMoves, decisions_by, IsReached, Leads}
use Rattle.plan_certificate.proofs.ByteLanes.{IsByte, start_is_byte}
use Rattle.lane_planner.specs.Marks.{AreMarks, IsFirstMarked, IsMarked, MarksEnds, MarksReached, MarksToo, NoneMarked, NothingMarked}
use Rattle.lane_planner.proofs.DecisionKinds.{at_is_byte, ends_later, place_past, decision_is}
use Rattle.lane_planner.proofs.MoreMoves.{heaviest_are, heaviest_cover}
use Rattle.lane_planner.proofs.ReachedStates.{boundary_of_place, start_place, state_of_place, place_of_state_at, reached_on, start_reached}

-- ---- the ends of one state's decisions

pub one_marked : (decisions : List Decision) (decision : Decision) (place : ℕ) (marks more after : List ℕ) → MarksEnds decisions marks more → MarksToo more place after → place ≡ state_place decision.end → MarksEnds (decisions ++ decision ∷ []) marks after
one_marked decisions decision place marks more after are too is other = (
  (λ marked. elim (or_cases _ _ (sym (too other) ∙ marked)) [
    | inl here ↦ inr (decision, Contains-push decisions decision, sym is ∙ sym (eqb-true other place here))
    | inr before ↦ elim ((are other).0 before) [
      | inl so_far ↦ inl so_far
      | inr ends ↦ inr (ends.0, Contains-append_left decisions (decision ∷ []) ends.0 ends.1, ends.2)
    ]
  ]),
  (λ either. too other ∙ elim (either) [
    | inl before ↦ or_right _ _ ((are other).1 (inl before))
    | inr ends ↦ elim (Contains-push_cases decisions decision ends.0 ends.1) [
      | inl so_far ↦ or_right _ _ ((are other).1 (inr (ends.0, so_far, ends.2)))
      | inr same ↦ or_left _ _ (eq-eqb other place (sym ends.2 ∙ ap (λ (s : Decision). state_place s.end) (sym same) ∙ sym is))
    ]
  ]),
)

pub none_marked : (marks : List ℕ) → MarksEnds [] marks marks
none_marked marks place = (
  (λ marked. inl marked),
  (λ either. elim (either) [
    | inl marked ↦ marked
    | inr ends ↦ absurd (omega (arith, ends.1.1))
  ]),
)

-- where the ends of the decisions of the heaviest moves are marked, those of all are
pub ends_of_moves : {advert : Advertised} {weights : PathWeights} {kept : List Path} {boundary : ℕ} {free : Bool} {all heaviest : List Move} (marks more : List ℕ) (state : State) → state.boundary ≡ boundary → boundary < 8
    → AreMoves advert weights kept boundary free all heaviest → MarksEnds (decisions_by free state heaviest) marks more → MarksEnds (decisions_from advert weights kept state) marks more
ends_of_moves {advert} {weights} {kept} {boundary} {free} {all} {heaviest} marks more state at below are new place =
    let decisions = decisions_from advert weights kept state in
    let by : List Decision = decisions_by free state heaviest in
    let End : Decision → Type 0 = λ decision. IsMarked more (state_place decision.end) in
    let each = heaviest_cover state at below are End (λ decision weight light marked. marked) (λ k d inside. (new (state_place (get_or by k d).end)).1 (inr (get_or by k d, Contains-get_or by k d inside, refl))) in (
      (λ marked. elim ((new place).0 marked) [
        | inl before ↦ inl before
        | inr ends ↦ inr (ends.0, All-contains (Contains decisions) by ends.0 (heaviest_are state at below are) ends.1, ends.2)
      ]),
      (λ either. elim (either) [
        | inl before ↦ (new place).1 (inl before)
        | inr ends ↦ subst (IsMarked more) ends.2 (All-contains End decisions ends.0 each ends.1)
      ]),
    )

-- ---- the states so far

pub marks_begun : {advert : Advertised} {weights : PathWeights} {kept : List Path} (blank marks : List ℕ) → NothingMarked blank → MarksToo blank 0 marks → AreMarks advert weights kept 0 marks
marks_begun {advert} {weights} {kept} blank marks none too =
    let first : state_at 0 ≡ start = ap state_at (sym start_place) ∙ state_of_place start start_is_byte in
    record {
      begun = too 0;
      sound = λ place marked. elim (or_cases _ _ (sym (too place) ∙ marked)) [
        | inl same ↦ subst (IsReached advert weights kept) (sym (ap state_at (eqb-true place 0 same) ∙ first)) (start_reached advert weights kept)
        | inr before ↦ absurd (both_ways _ (none place) before)
      ];
      closed = λ place low. absurd (omega (arith, low));
    }

-- further on, up to where no state is marked
pub marks_past : {advert : Advertised} {weights : PathWeights} {kept : List Path} {marks : List ℕ} (from end : ℕ) → AreMarks advert weights kept from marks → NoneMarked marks from end → AreMarks advert weights kept end marks
marks_past from end are none = record {
  begun = are.begun;
  sound = are.sound;
  closed = λ place low marked.
      elim (cases_lt place from) [
        | inl before ↦ are.closed place before marked
        | inr past ↦ absurd (none place past low marked)
      ];
}

-- and past the next that is marked, where the ends of its decisions are
pub marks_more : {advert : Advertised} {weights : PathWeights} {kept : List Path} {marks more : List ℕ} {from end place : ℕ} → AreMarks advert weights kept from marks → IsFirstMarked marks from end place → MarksEnds (decisions_from advert weights kept (state_at place)) marks more → AreMarks advert weights kept (place + 1) more
marks_more {advert} {weights} {kept} {marks} {more} {from} {end} {place} so_far found new =
    let are = marks_past from place so_far found.none in
    let ends_of = λ (decision : Decision) (contains : Contains (decisions_from advert weights kept (state_at place)) decision). ends_later advert weights kept (state_at place) decision (at_is_byte place) contains in
    record {
      begun = (new 0).1 (inl are.begun);
      sound = λ other is. elim ((new other).0 is) [
        | inl before ↦ are.sound other before
        | inr ends ↦
            let state : state_at other ≡ ends.0.end = ap state_at (sym ends.2) ∙ state_of_place ends.0.end (ends_of ends.0 ends.1).1.is_byte in
            subst (IsReached advert weights kept) (sym state) (reached_on advert weights kept (state_at place) ends.0 (are.sound place found.marked) ends.1)
      ];
      closed = λ other low is decision contains. elim ((new other).0 is) [
        | inr ends ↦ absurd (omega (arith, place_past (place / 256) ends.0.end (ends_of ends.0 ends.1).0, ends.2, low))
        | inl before ↦ elim (cases_eq other place) [
          | inl same ↦ (new (state_place decision.end)).1 (inr (decision, subst (λ (n : ℕ). Contains (decisions_from advert weights kept (state_at n)) decision) same contains, refl))
          | inr differs ↦ (new (state_place decision.end)).1 (inl (are.closed other (omega (arith, low, differs)) before decision contains))
        ]
      ];
    }

-- ---- at the end exactly the reached states are marked

reached_from : (advert : Advertised) (weights : PathWeights) (kept : List Path) (marks : List ℕ) → AreMarks advert weights kept 2048 marks → (decisions : List Decision) (from state : State) → IsByte from.used → IsMarked marks (state_place from) → Leads advert weights kept from decisions state → IsMarked marks (state_place state)
reached_from advert weights kept marks are [] from state is_byte marked leads = subst (λ (s : State). IsMarked marks (state_place s)) leads marked
reached_from advert weights kept marks are (decision ∷ decisions) from state is_byte marked leads =
    let ends = ends_later advert weights kept from decision is_byte leads.0 in
    let below : state_place from < 2048 = omega (arith, boundary_of_place from, (decision_is advert weights kept from decision leads.0).below) in
    let at : state_at (state_place from) ≡ from = state_of_place from is_byte in
    let contains = subst (λ (s : State). Contains (decisions_from advert weights kept s) decision) (sym at) leads.0 in
    reached_from advert weights kept marks are decisions decision.end state ends.1.is_byte (are.closed (state_place from) below marked decision contains) leads.1

pub marks_ended : {advert : Advertised} {weights : PathWeights} {kept : List Path} {marks : List ℕ} → AreMarks advert weights kept 2048 marks → MarksReached advert weights kept marks
marks_ended {advert} {weights} {kept} {marks} are place = (
  (λ marked. are.sound place marked),
  (λ is. subst (IsMarked marks) (place_of_state_at place) (reached_from advert weights kept marks are is.0 start (state_at place) start_is_byte (subst (IsMarked marks) (sym start_place) are.begun) is.1)),
)
