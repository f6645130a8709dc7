-- Each choice in a state can be made there, and its sum is what its decision weighs with what can be gained after it.
use Rattle.std.proofs.Common.{◌≡◌, ℕ, ◌+◌, Bool, true, false, List, [], ◌∷◌, Option, Some, None, cond, drop, filter, nat_lt, refl, take}
use Rattle.std.specs.List.{All, AllByRecursion, flat_map, position_or_len}
use Rattle.std.proofs.lemmas.Bool.{and_parts}
use Rattle.std.proofs.lemmas.List.Elements.{All-append, All-cons, All-drop, All-filter, All-from_recursion, All-map, All-nil, All-take, filter_passes, recursion_from_All}
use Rattle.applications.specs.declared.app.App.{App}
use Rattle.plan_certificate.specs.declared.path.Path.{Path}
use Rattle.plan_certificate.specs.declared.state.State.{State}
use Rattle.plan_certificate.specs.KeptPaths.{may_stay_free}
use Rattle.plan_certificate.specs.States.{paths_of_app}
use Rattle.plan_certificate.proofs.Lists.{all_of_append, all_of_flat_map, found}
use Rattle.lane_planner.specs.Tables.{gain_at}
use Rattle.plan_drawing.specs.declared.choices.Choice.{Choice}
use Rattle.plan_drawing.specs.Choices.{best_of_app, choice_of, choices_in, free_if_may, greatest, is_greatest, is_worth, listed, placed, ranked, ranked_with, worth_choices}
use Rattle.plan_drawing.specs.Walks.{Basis, decision_of}
use Rattle.plan_drawing.proofs.MadeChoices.{CanMake}

pub record IsFair (basis : Basis) (state : State) (choice : Choice) : Type 0 where
  pub can : CanMake basis state choice.path
  pub summed : choice.sum ≡ (decision_of basis state choice.path).weight + gain_at basis.table (decision_of basis state choice.path).end

-- ---- of an Application

fair_paths : (basis : Basis) (state : State) (paths : List Path) → All (λ path. path.host ≡ state.boundary + 1) paths
    → AllByRecursion (IsFair basis state) (worth_choices basis state paths)
unfolding worth_choices
fair_paths basis state paths begin =
    let Begins : Path → Type 0 = λ path. path.host ≡ state.boundary + 1 in
    let test = is_worth basis state in
    let made = λ (path : Path). choice_of basis state (Some path) in
    recursion_from_All (IsFair basis state) (worth_choices basis state paths) (All-map (IsFair basis state) made (filter test paths) (λ k d below.
    let fits = and_parts _ _ (and_parts _ _ (filter_passes test paths k d below)).0 in
    record { can = record { begins = All-filter test Begins paths begin k d below; can = fits.0; unused = fits.1 }; summed = refl }))

fair_best : (basis : Basis) (state : State) (choices : List Choice) (best : Option Choice) → AllByRecursion (IsFair basis state) choices
    → greatest choices ≡ best → AllByRecursion (IsFair basis state) (listed best)
fair_best basis state choices (Some choice) fair is = ((found (IsFair basis state) (is_greatest choices) choices choice is fair).0, tt)
fair_best basis state choices None fair is = tt

fair_of_app : (basis : Basis) (state : State) (app : App) → AllByRecursion (IsFair basis state) (listed (best_of_app basis state app))
fair_of_app basis state app =
    let paths : List Path = paths_of_app (state.boundary + 1) app.number in
    let begin = All-from_recursion (λ (path : Path). path.host ≡ state.boundary + 1) paths (refl, (refl, (refl, (refl, (refl, (refl, (refl, (refl, tt)))))))) in
    fair_best basis state (worth_choices basis state paths) (best_of_app basis state app) (fair_paths basis state paths begin) refl

-- ---- all of them

fair_free : (basis : Basis) (state : State) (may : Bool) → may_stay_free basis.advert basis.kept (state.boundary + 1) ≡ may
    → AllByRecursion (IsFair basis state) (listed (cond may (Some (choice_of basis state None)) None))
fair_free basis state true may = (record { can = may; summed = refl }, tt)
fair_free basis state false not_free = tt

fair_choices : (basis : Basis) (state : State) → AllByRecursion (IsFair basis state) (choices_in basis state)
fair_choices basis state =
    let Fair = IsFair basis state in
    let of_app = λ (app : App). listed (best_of_app basis state app) in
    let may : Bool = may_stay_free basis.advert basis.kept (state.boundary + 1) in
    all_of_append Fair (flat_map of_app basis.advert.apps) (listed (free_if_may basis state))
    (all_of_flat_map Fair of_app basis.advert.apps (fair_of_app basis state)) (fair_free basis state may refl)

-- ---- by falling sums

all_ranked : (P : Choice → Type 0) (choices others : List Choice) → AllByRecursion P choices → All P others → All P (ranked_with others choices)
unfolding ranked_with placed
all_ranked P [] others each all = all
all_ranked P (choice ∷ choices) others each all =
    let at : ℕ = position_or_len (λ (other : Choice). nat_lt other.sum choice.sum) others in
    all_ranked P choices (placed choice others) each.1
    (All-append P (take at others) (choice ∷ drop at others) (All-take P at others all) (All-cons P choice (drop at others) each.0 (All-drop P at others all)))

pub each_fair : (basis : Basis) (state : State) → AllByRecursion (IsFair basis state) (ranked (choices_in basis state))
each_fair basis state =
    let Fair = IsFair basis state in
    recursion_from_All Fair (ranked (choices_in basis state)) (all_ranked Fair (choices_in basis state) [] (fair_choices basis state) (All-nil Fair))
