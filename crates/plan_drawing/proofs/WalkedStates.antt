-- The states that a plan comes through: those that it has taken its paths to, and how every plan with the same paths stands there.
use Rattle.std.proofs.Common.{◌≡◌, ◌==◌, ℕ, zero, suc, ◌+◌, ◌<◌, ◌≤◌, ◌⊎◌, Bool, false, List, [], ◌∷◌, Option, Some, None, cond, refl, sym, subst, inl, inr, arith}
use Rattle.std.specs.List.{All, AllByRecursion, Contains, range_with_len}
use Rattle.std.proofs.lemmas.Bool.{cases_Bool, eq-eqb, eqb-true}
use Rattle.std.proofs.lemmas.List.Elements.{All-contains, All-from_recursion, All-push}
use Rattle.plan_certificate.specs.declared.path.Path.{Path}
use Rattle.plan_certificate.specs.declared.state.State.{State}
use Rattle.plan_certificate.specs.Plans.{IsAdmissible, IsBest, Keeps}
use Rattle.plan_certificate.specs.ReachedStates.{IsReached}
use Rattle.plan_certificate.specs.States.{start}
use Rattle.plan_certificate.proofs.Heaviest.{IsLater}
use Rattle.plan_certificate.proofs.KeptPaths.{IsBeside, all_beside}
use Rattle.plan_certificate.proofs.Lists.{each_contained, found, map_each}
use Rattle.lane_planner.specs.Tables.{HasGains}
use Rattle.lane_planner.proofs.AheadPlans.{Ahead, ahead_at_start, left_later}
use Rattle.lane_planner.proofs.ChosenPaths.{none_passes}
use Rattle.lane_planner.proofs.LaterPaths.{Grown, Stands, grown_from_start}
use Rattle.lane_planner.proofs.ReachedStates.{reached_on, start_reached}
use Rattle.plan_drawing.specs.Alternatives.{SameBelow}
use Rattle.plan_drawing.specs.Walks.{Basis, begins_at, decision_of, next_state, path_at, states_on}
use Rattle.plan_drawing.proofs.MadeChoices.{CanMake, HasMade, made_ahead, made_grown, made_listed, made_past, with_made}

-- what the plan has taken before a state that it comes to
pub record Walked (basis : Basis) (paths : List Path) (state : State) (taken : List Path) : Type 0 where
  pub reached : IsReached basis.advert basis.weights basis.kept state
  pub grown : Grown basis.advert basis.kept state taken
  pub inside : All (Contains paths) taken
  pub ahead : (others : List Path) → IsAdmissible basis.advert others → Keeps basis.kept others
      → SameBelow paths (state.boundary + 1) others → Ahead basis.advert basis.weights basis.kept state taken others

pub walked_at_start : (basis : Basis) (paths : List Path) → IsAdmissible basis.advert basis.kept → Walked basis paths start []
walked_at_start basis paths kept_plan = record {
  reached = start_reached basis.advert basis.weights basis.kept;
  grown = grown_from_start basis.advert basis.kept kept_plan;
  inside = λ k d below. absurd (omega (arith, below));
  ahead = λ others plan keeps same. ahead_at_start basis.advert basis.weights basis.kept others plan keeps;
}

-- what is known where a best plan comes to a state
pub record Here (basis : Basis) (paths : List Path) (state : State) (taken : List Path) : Type 0 where
  pub kept_plan : IsAdmissible basis.advert basis.kept
  pub best : IsBest basis.advert basis.weights basis.kept paths
  pub gains : HasGains basis.advert basis.weights basis.kept 0 basis.table
  pub below : state.boundary < 8
  pub walked : Walked basis paths state taken

-- the plan itself
pub ahead_itself : (basis : Basis) (paths : List Path) (state : State) (taken : List Path) → Here basis paths state taken
    → Ahead basis.advert basis.weights basis.kept state taken paths
ahead_itself basis paths state taken is = is.walked.ahead paths is.best.admissible is.best.keeps (λ path below. ((λ held. held), (λ held. held)))

-- a path of the plan was taken before, or may still come
pub taken_or_later : (basis : Basis) (paths : List Path) (state : State) (taken : List Path) (path : Path)
    → Here basis paths state taken → Contains paths path → Contains taken path ⊎ IsLater basis.advert basis.kept state path
taken_or_later basis paths state taken path is held =
    let Later = IsLater basis.advert basis.kept state in
    let own = ahead_itself basis paths state taken is in
    elim (own.split path held) [
      | inl so_far ↦ inl so_far
      | inr left ↦ inr (All-contains Later own.rest path (All-from_recursion Later own.rest own.later) left)
    ]

-- ---- one choice of the plan

-- that of the first path that begins at the next host lane, or of none
own_choice : (paths : List Path) (state : State) (made : Option Path) → path_at paths (state.boundary + 1) ≡ made → HasMade paths state made
own_choice paths state (Some path) is = (found (Contains paths) (begins_at (state.boundary + 1)) paths path is (each_contained paths)).0
own_choice paths state None is = λ path held begins.
    let Fails : Path → Type 0 = λ p. begins_at (state.boundary + 1) p ≡ false in
    let fails = All-contains Fails paths path (All-from_recursion Fails paths (none_passes (begins_at (state.boundary + 1)) paths is)) held in
    let does = eq-eqb path.host (state.boundary + 1) begins in
    cc

can_make_own : (basis : Basis) (paths : List Path) (state : State) (taken : List Path) (made : Option Path) → Here basis paths state taken
    → path_at paths (state.boundary + 1) ≡ made → CanMake basis state made
can_make_own basis paths state taken (Some path) is at =
    let one = found (Contains paths) (begins_at (state.boundary + 1)) paths path at (each_contained paths) in
    let begins : path.host ≡ state.boundary + 1 = eqb-true path.host (state.boundary + 1) one.1 in
    let later = left_later basis.advert basis.weights basis.kept state taken paths path is.walked.grown.stand
    (ahead_itself basis paths state taken is) one.0 (omega (arith, begins)) in
    record { begins = begins; can = later.can; unused = later.unused }
can_make_own basis paths state taken None is at =
    let none = own_choice paths state None at in
    let Beside = IsBeside basis.advert (state.boundary + 1) in
    all_beside basis.advert basis.kept (state.boundary + 1) (map_each (Contains paths) Beside basis.kept (λ path held.
    elim (taken_or_later basis paths state taken path is held) [
      | inl so_far ↦ inr (All-contains (Stands basis.advert state) taken path is.walked.grown.stand so_far).before
      | inr later ↦ inl (omega (arith, later.past, none path held))
    ]) is.best.keeps)

-- a plan that agrees with it past the state makes it too
makes_too : (basis : Basis) (paths others : List Path) (state : State) (made : Option Path) (upto : ℕ) → CanMake basis state made
    → state.boundary + 1 < upto → SameBelow paths upto others → HasMade paths state made → HasMade others state made
makes_too basis paths others state (Some path) upto can past same held = (same path (omega (arith, can.begins, past))).0 held
makes_too basis paths others state None upto can past same none = λ path held at. none path ((same path (omega (arith, at, past))).1 held) at

inside_with : (paths taken : List Path) (state : State) (made : Option Path) → All (Contains paths) taken → HasMade paths state made
    → All (Contains paths) (with_made taken made)
inside_with paths taken state (Some path) inside held = All-push (Contains paths) taken path inside held
inside_with paths taken state None inside none = inside

walked_on : (basis : Basis) (paths : List Path) (state : State) (taken : List Path) (made : Option Path) → Here basis paths state taken
    → path_at paths (state.boundary + 1) ≡ made → Walked basis paths (decision_of basis state made).end (with_made taken made)
walked_on basis paths state taken made is at =
    let can = can_make_own basis paths state taken made is at in
    let past = made_past basis state made can in
    let own = own_choice paths state made at in
    let listed = made_listed basis state made is.below can in
    record {
      reached = reached_on basis.advert basis.weights basis.kept state (decision_of basis state made) is.walked.reached listed;
      grown = made_grown basis state taken made is.kept_plan is.below is.walked.grown can;
      inside = inside_with paths taken state made is.walked.inside own;
      ahead = λ others plan keeps same.
          let too = makes_too basis paths others state made ((decision_of basis state made).end.boundary + 1) can (omega (arith, past)) same own in
          made_ahead basis state taken others made plan is.walked.grown.stand can too
          (is.walked.ahead others plan keeps (λ path low. same path (omega (arith, low, past))));
    }

-- ---- all of them

-- what holds of each state that is walked to
pub each_walked : (basis : Basis) (paths : List Path) (P : State → Type 0) → IsAdmissible basis.advert basis.kept
    → IsBest basis.advert basis.weights basis.kept paths → HasGains basis.advert basis.weights basis.kept 0 basis.table
    → ((state : State) (taken : List Path) → Here basis paths state taken → P state)
    → (count first : ℕ) (state : State) (taken : List Path) → first + count ≤ 9 → Walked basis paths state taken
    → AllByRecursion P (states_on basis paths state (range_with_len first count))
unfolding states_on
each_walked basis paths P kept_plan best gains holds zero first state taken upto is = tt
each_walked basis paths P kept_plan best gains holds (suc count) first state taken upto is =
    let lanes = range_with_len (first + 1) count in
    let next : State = next_state basis paths state in
    let Made : Bool → Type 0 = λ b. AllByRecursion P (cond b (state ∷ states_on basis paths next lanes) (states_on basis paths state lanes)) in
    elim (cases_Bool (state.boundary + 1 == first)) [
      | inl at ↦
          let same : state.boundary + 1 ≡ first = eqb-true _ _ at in
          let below : state.boundary < 8 = omega (arith, same, upto) in
          let here : Here basis paths state taken = record { kept_plan = kept_plan; best = best; gains = gains; below = below; walked = is } in
          let made : Option Path = path_at paths (state.boundary + 1) in
          let on = walked_on basis paths state taken made here refl in
          let more = each_walked basis paths P kept_plan best gains holds count (first + 1) next (with_made taken made) (omega (arith, upto)) on in
          subst Made (sym at) (holds state taken here, more)
      | inr elsewhere ↦
          let more = each_walked basis paths P kept_plan best gains holds count (first + 1) state taken (omega (arith, upto)) is in
          subst Made (sym elsewhere) more
    ]
