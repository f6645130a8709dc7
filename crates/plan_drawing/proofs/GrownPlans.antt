-- A plan that grows from a state by decisions that follow one another.
use Rattle.std.proofs.Common.{◌≡◌, ℕ, zero, suc, ◌+◌, ◌<◌, ◌≤◌, ◌⊎◌, List, [], ◌∷◌, Option, Some, None, subst, ap, inl, inr, arith}
use Rattle.std.specs.List.{Contains}
use Rattle.std.proofs.lemmas.Bool.{cases_Bool, cases_lt}
use Rattle.std.proofs.lemmas.List.Elements.{All-contains}
use Rattle.std.proofs.lemmas.List.Sums.{sum_by-cons}
use Rattle.plan_certificate.specs.declared.path.Path.{Path}
use Rattle.plan_certificate.specs.declared.state.State.{State}
use Rattle.plan_certificate.specs.declared.state.Decision.{Decision}
use Rattle.plan_certificate.specs.Plans.{IsAdmissible, Keeps, plan_weight}
use Rattle.plan_certificate.specs.KeptPaths.{may_stay_free}
use Rattle.lane_planner.specs.Gains.{Follow, decisions_weight}
use Rattle.lane_planner.proofs.KeptLanes.{lane_within, one_has}
use Rattle.lane_planner.proofs.LaterPaths.{Grown, Stands, all_taken}
use Rattle.plan_drawing.specs.Walks.{Basis, decision_of}
use Rattle.plan_drawing.proofs.MadeChoices.{CanMake, is_made, made_grown, made_past, made_weighs, still_taken, taken_or_begins, with_made}

-- a plan with these paths, and others that begin past the state, that weighs at least so much more
pub record Fulfils (basis : Basis) (state : State) (taken : List Path) (gain : ℕ) : Type 0 where
  pub others : List Path
  pub admissible : IsAdmissible basis.advert others
  pub keeps : Keeps basis.kept others
  pub holds : (path : Path) → Contains taken path → Contains others path
  pub either : (path : Path) → Contains others path → Contains taken path ⊎ (state.boundary < path.host)
  pub weighs : plan_weight basis.weights taken + gain ≤ plan_weight basis.weights others

-- after a choice, and so before it
abbrev pub fulfils_before : (basis : Basis) (state : State) (taken : List Path) (made : Option Path) (gain less : ℕ) → CanMake basis state made
    → less ≤ (decision_of basis state made).weight + gain
    → Fulfils basis (decision_of basis state made).end (with_made taken made) gain → Fulfils basis state taken less
fulfils_before basis state taken made gain less can most is = record {
  others = is.others;
  admissible = is.admissible;
  keeps = is.keeps;
  holds = λ path held. is.holds path (still_taken taken made path held);
  either = λ path held. elim (is.either path held) [
    | inl so_far ↦ taken_or_begins basis state taken made path can so_far
    | inr past ↦ inr (omega (arith, past, made_past basis state made can))
  ];
  weighs = omega (arith, is.weighs, made_weighs basis state taken made, most);
}

-- ---- by no more than the kept paths that may still come

ended : (basis : Basis) (state : State) (taken : List Path) → Grown basis.advert basis.kept state taken → 8 ≤ state.boundary
    → Fulfils basis state taken 0
ended basis state taken is past = record {
  others = taken;
  admissible = record {
    allowed = λ k d inside. (is.stand k d inside).can;
    apart = λ i j d before inside. (is.ordered i j d before inside).apart;
  };
  keeps = all_taken basis.advert basis.kept state taken past is.keeps;
  holds = λ path held. held;
  either = λ path held. inl held;
  weighs = omega arith;
}

-- the lane may stay free, or a kept path begins there
one_can : (basis : Basis) (state : State) (taken : List Path) → Grown basis.advert basis.kept state taken
    → (made : Option Path) × CanMake basis state made
one_can basis state taken is =
    let lane : ℕ = state.boundary + 1 in
    elim (cases_Bool (may_stay_free basis.advert basis.kept lane)) [
      | inl may ↦ (None, may)
      | inr not_free ↦
          let one = one_has basis.advert basis.kept lane not_free in
          let within = lane_within basis.advert one.path lane one.has in
          elim (is.keeps one.path one.held) [
            | inl so_far ↦ absurd (omega (arith, within.to, (All-contains (Stands basis.advert state) taken one.path is.stand so_far).before))
            | inr later ↦ (Some one.path, record { begins = omega (arith, later.past, within.from); can = later.can; unused = later.unused })
          ]
    ]

finished : (basis : Basis) (left : ℕ) (state : State) (taken : List Path) → IsAdmissible basis.advert basis.kept
    → 8 ≤ state.boundary + left → Grown basis.advert basis.kept state taken → Fulfils basis state taken 0
finished basis zero state taken plan upto is = ended basis state taken is (omega (arith, upto))
finished basis (suc left) state taken plan upto is =
    elim (cases_lt state.boundary 8) [
      | inr past ↦ ended basis state taken is (omega (arith, past))
      | inl below ↦
          let one = one_can basis state taken is in
          let next = made_grown basis state taken one.0 plan below is one.1 in
          fulfils_before basis state taken one.0 0 0 one.1 (omega arith)
          (finished basis left (decision_of basis state one.0).end (with_made taken one.0) plan (omega (arith, upto, made_past basis state one.0 one.1)) next)
    ]

-- ---- by decisions that follow one another, and then so

pub followed : (basis : Basis) (decisions : List Decision) (state : State) (taken : List Path) → IsAdmissible basis.advert basis.kept
    → Grown basis.advert basis.kept state taken → Follow basis.advert basis.weights basis.kept state decisions
    → Fulfils basis state taken (decisions_weight decisions)
followed basis [] state taken plan is follow = finished basis 8 state taken plan (omega arith) is
followed basis (decision ∷ decisions) state taken plan is follow =
    let by = is_made basis state decision follow.0 in
    let next = made_grown basis state taken by.made plan by.below is by.can in
    let Next : Decision → Type 0 = λ d. Follow basis.advert basis.weights basis.kept d.end decisions in
    let rest = followed basis decisions (decision_of basis state by.made).end (with_made taken by.made) plan next (subst Next by.is follow.1) in
    let total = sum_by-cons (λ (d : Decision). d.weight) decision decisions in
    fulfils_before basis state taken by.made (decisions_weight decisions) (decisions_weight (decision ∷ decisions)) by.can
    (omega (arith, total, ap (λ (d : Decision). d.weight) by.is)) rest
