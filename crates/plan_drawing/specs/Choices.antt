-- What can be done in a state at the next host lane, and what that makes: a data path begins there, or the lane stays free.
-- (docs/planning.md, "States and decisions"; docs/formats.md, "draw"; this project's own)
use Rattle.std.specs.Prelude.{ℕ, ◌+◌, ◌&&◌, ◌||◌, Bool, nat_lt, nat_le, if◌then◌else◌, List, [], ◌∷◌, ◌++◌, Option, Some, None, filter, find, flat_map, map}
use Rattle.std.specs.List.{insert, list_all, position_or_len}
use Rattle.applications.specs.declared.app.App.{App}
use Rattle.plan_certificate.specs.declared.path.Path.{Path}
use Rattle.plan_certificate.specs.declared.state.State.{State}
use Rattle.plan_certificate.specs.Paths.{path_weight}
use Rattle.plan_certificate.specs.KeptPaths.{is_among, may_stay_free}
use Rattle.plan_certificate.specs.States.{fits, paths_of_app}
use Rattle.lane_planner.specs.Tables.{gain_at}
use Rattle.plan_drawing.specs.declared.choices.Choice.{Choice}
use Rattle.plan_drawing.specs.Walks.{Basis, decision_of}

-- the path fits, and weighs something or is kept
abbrev pub is_worth : Basis → State → Path → Bool
is_worth basis state path =
    fits basis.advert basis.kept state path && (nat_lt 0 (path_weight basis.weights path) || is_among basis.kept path)

-- what the decision weighs, and what can be gained after it
abbrev pub choice_of : Basis → State → Option Path → Choice
choice_of basis state path = record {
  path = path;
  weight = (decision_of basis state path).weight;
  rest = gain_at basis.table (decision_of basis state path).end;
  sum = (decision_of basis state path).weight + gain_at basis.table (decision_of basis state path).end;
}

-- none of the choices has a greater sum
abbrev pub is_greatest : List Choice → Choice → Bool
is_greatest choices choice = list_all (λ (other : Choice). nat_le other.sum choice.sum) choices

-- the first whose sum none exceeds
abbrev pub greatest : List Choice → Option Choice
greatest choices = find (is_greatest choices) choices

abbrev pub path_on : ℕ → ℕ → ℕ → Path
path_on host app media = record { app = app; host = host; media = media }

-- those of these paths that are worth it
unfoldable pub worth_choices : Basis → State → List Path → List Choice
worth_choices basis state paths = map (λ path. choice_of basis state (Some path)) (filter (is_worth basis state) paths)

abbrev pub listed : Option Choice → List Choice
listed (Some choice) = choice ∷ []
listed None = []

-- an Application's path on its best media lane, if it has one; of equal ones the lowest
abbrev pub best_of_app : Basis → State → App → Option Choice
best_of_app basis state app = greatest (worth_choices basis state (paths_of_app (state.boundary + 1) app.number))

-- the free lane, if it may stay free
abbrev pub free_if_may : Basis → State → Option Choice
free_if_may basis state =
    if may_stay_free basis.advert basis.kept (state.boundary + 1) then Some (choice_of basis state None) else None

-- the best media lane of each Application, and the free lane if it may stay free
abbrev pub choices_in : Basis → State → List Choice
choices_in basis state =
    flat_map (λ app. listed (best_of_app basis state app)) basis.advert.apps ++ listed (free_if_may basis state)

-- where the first is whose sum is smaller, or else the end
abbrev pub first_smaller : List Choice → ℕ → ℕ
first_smaller choices sum = position_or_len (λ (other : Choice). nat_lt other.sum sum) choices

-- among others before the first whose sum is smaller
unfoldable pub placed : Choice → List Choice → List Choice
placed choice others = insert others (first_smaller others choice.sum) choice

-- these and then those, each placed in turn: by falling sums, and in their order if the sums are the same
unfoldable pub ranked_with : List Choice → List Choice → List Choice
ranked_with ranked [] = ranked
ranked_with ranked (choice ∷ choices) = ranked_with (placed choice ranked) choices

abbrev pub ranked : List Choice → List Choice
ranked choices = ranked_with [] choices
