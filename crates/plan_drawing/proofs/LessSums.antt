-- The heaviest plan of each choice weighs as much less as the choice's sum is below what can be gained.
use Rattle.std.proofs.Common.{◌≡◌, ℕ, ◌+◌, ◌-◌, ◌<◌, ◌≤◌, List, [], Option, Some, None, inl, inr, arith}
use Rattle.std.specs.List.{All, AllByRecursion, Contains}
use Rattle.std.proofs.lemmas.List.Elements.{All-contains, Contains-push}
use Rattle.plan_certificate.specs.declared.path.Path.{Path}
use Rattle.plan_certificate.specs.declared.state.State.{State}
use Rattle.plan_certificate.specs.declared.state.Decision.{Decision}
use Rattle.plan_certificate.specs.Plans.{IsAdmissible, IsBest, plan_weight}
use Rattle.plan_certificate.specs.States.{start}
use Rattle.plan_certificate.proofs.KeptPaths.{IsBeside, all_beside}
use Rattle.plan_certificate.proofs.Lists.{each_contained, map_each}
use Rattle.lane_planner.specs.Gains.{decisions_weight}
use Rattle.lane_planner.specs.Tables.{HasGains, gain_at}
use Rattle.lane_planner.proofs.AheadPlans.{ahead_bounded}
use Rattle.lane_planner.proofs.GainLaws.{covers_decision}
use Rattle.lane_planner.proofs.LaterPaths.{Stands}
use Rattle.lane_planner.proofs.ReadOffs.{gains_known}
use Rattle.plan_drawing.specs.declared.choices.Choice.{Choice}
use Rattle.plan_drawing.specs.Alternatives.{AreLess, IsAlternative, IsLess, Makes, SameBelow}
use Rattle.plan_drawing.specs.Choices.{choices_in, ranked}
use Rattle.plan_drawing.specs.Walks.{Basis, decision_of, states_of}
use Rattle.plan_drawing.proofs.FairChoices.{IsFair, each_fair}
use Rattle.plan_drawing.proofs.GrownPlans.{Fulfils, followed, fulfils_before}
use Rattle.plan_drawing.proofs.MadeChoices.{has_made, made_ahead, made_grown, made_listed, made_weighs, with_made}
use Rattle.plan_drawing.proofs.WalkedStates.{Here, ahead_itself, each_walked, taken_or_later, walked_at_start}

-- the plan weighs what it has taken, and all that can be gained
whole : (basis : Basis) (paths : List Path) (state : State) (taken : List Path) → Here basis paths state taken
    → plan_weight basis.weights paths ≡ plan_weight basis.weights taken + gain_at basis.table state
whole basis paths state taken is =
    let gain = (gains_known basis.advert basis.weights basis.kept basis.table state is.gains is.walked.reached is.below).here in
    let own = ahead_itself basis paths state taken is in
    let most = ahead_bounded basis.advert basis.weights basis.kept state taken paths (gain_at basis.table state) gain.greatest own in
    let grown = followed basis gain.gained.0 state taken is.kept_plan is.walked.grown gain.gained.1 in
    omega (arith, most, grown.weighs, gain.gained.2, is.best.heaviest grown.others grown.admissible grown.keeps)

-- plans that grow past the state have the same paths below it
grown_same : (basis : Basis) (paths : List Path) (state : State) (taken : List Path) (gain : ℕ) → Here basis paths state taken
    → (grown : Fulfils basis state taken gain) → SameBelow paths (state.boundary + 1) grown.others
grown_same basis paths state taken gain is grown path low = (
  (λ held. elim (taken_or_later basis paths state taken path is held) [
    | inl so_far ↦ grown.holds path so_far
    | inr later ↦ absurd (omega (arith, low, later.past))
  ]),
  (λ held. elim (grown.either path held) [
    | inl so_far ↦ All-contains (Contains paths) taken path is.walked.inside so_far
    | inr past ↦ absurd (omega (arith, low, past))
  ]),
)

-- after a choice they make it
grown_makes : (basis : Basis) (state : State) (taken : List Path) (made : Option Path) (gain : ℕ) → All (Stands basis.advert state) taken
    → (grown : Fulfils basis (decision_of basis state made).end (with_made taken made) gain)
    → Makes basis.advert grown.others (state.boundary + 1) made
grown_makes basis state taken (Some path) gain stand grown = grown.holds path (Contains-push taken path)
grown_makes basis state taken None gain stand grown =
    let Beside = IsBeside basis.advert (state.boundary + 1) in
    let beside = map_each (Contains grown.others) Beside grown.others (λ path held. elim (grown.either path held) [
      | inl so_far ↦ inr (All-contains (Stands basis.advert state) taken path stand so_far).before
      | inr past ↦ inl past
    ]) (each_contained grown.others) in
    all_beside basis.advert grown.others (state.boundary + 1) beside

less_by : (basis : Basis) (paths : List Path) (state : State) (taken : List Path) → Here basis paths state taken → (choice : Choice)
    → IsFair basis state choice → IsLess basis paths (state.boundary + 1) choice.path (gain_at basis.table state - choice.sum)
less_by basis paths state taken is choice fair =
    let made : Option Path = choice.path in
    let gain : State → ℕ = gain_at basis.table in
    let decision : Decision = decision_of basis state made in
    let after : List Path = with_made taken made in
    let listed = made_listed basis state made is.below fair.can in
    let knows = gains_known basis.advert basis.weights basis.kept basis.table state is.gains is.walked.reached is.below in
    let next = knows.after decision listed in
    let covers = covers_decision basis.advert basis.weights basis.kept state (gain state) (gain decision.end) decision knows.here next listed in
    let all = whole basis paths state taken is in
    let more = made_weighs basis state taken made in
    let greatest : (others : List Path) → IsAlternative basis paths (state.boundary + 1) made others
    → plan_weight basis.weights others + (gain state - choice.sum) ≤ plan_weight basis.weights paths = λ others other.
    let has = has_made basis.advert others state made other.admissible other.makes in
    let before = is.walked.ahead others other.admissible other.keeps other.same_below in
    let ahead = made_ahead basis state taken others made other.admissible is.walked.grown.stand fair.can has before in
    let most = ahead_bounded basis.advert basis.weights basis.kept decision.end after others (gain decision.end) next.greatest ahead in
    omega (arith, most, more, covers, all, fair.summed) in
    let run = next.gained in
    let grown = followed basis run.0 decision.end after is.kept_plan
    (made_grown basis state taken made is.kept_plan is.below is.walked.grown fair.can) run.1 in
    let before = fulfils_before basis state taken made (decisions_weight run.0) 0 fair.can (omega arith) grown in
    let other : IsAlternative basis paths (state.boundary + 1) made grown.others = record {
      admissible = grown.admissible;
      keeps = grown.keeps;
      same_below = grown_same basis paths state taken 0 is before;
      makes = grown_makes basis state taken made (decisions_weight run.0) is.walked.grown.stand grown;
    } in
    record {
      attained = (grown.others, other, omega (arith, grown.weighs, run.2, more, covers, all, fair.summed, greatest grown.others other));
      greatest = greatest;
    }

pub each_sum : (basis : Basis) (paths : List Path) → IsAdmissible basis.advert basis.kept
    → IsBest basis.advert basis.weights basis.kept paths → HasGains basis.advert basis.weights basis.kept 0 basis.table
    → AllByRecursion (AreLess basis paths) (states_of basis paths)
each_sum basis paths kept_plan best gains =
    let Less : State → Choice → Type 0 = λ state choice.
    IsLess basis paths (state.boundary + 1) choice.path (gain_at basis.table state - choice.sum) in
    each_walked basis paths (AreLess basis paths) kept_plan best gains (λ state taken here.
    map_each (IsFair basis state) (Less state) (ranked (choices_in basis state)) (less_by basis paths state taken here) (each_fair basis state))
    8 1 start [] (omega arith) (walked_at_start basis paths kept_plan)
