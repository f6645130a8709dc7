-- Why no plan weighs more: for each host lane that the plan decides on, what could have been done there, and what that would have
-- made of the weight that was still to be gained. (docs/formats.md, "draw"; this project's own)
use Rattle.std.specs.Prelude.{ℕ, ◌+◌, ◌-◌, ◌==◌, Bool, true, false, not, if◌then◌else◌, List, ◌∷◌, ◌++◌, Option, Some, None, codes, flat_map, length, map, replicate}
use Rattle.std.specs.List.{list_any, range_with_len}
use Rattle.std.specs.Fmt.{decimal}
use Rattle.plan_certificate.specs.declared.path.Path.{Path}
use Rattle.plan_certificate.specs.declared.state.State.{State}
use Rattle.plan_certificate.specs.KeptPaths.{is_among}
use Rattle.plan_certificate.specs.States.{start}
use Rattle.lane_planner.specs.Tables.{gain_at}
use Rattle.plan_drawing.specs.declared.choices.Choice.{Choice}
use Rattle.plan_drawing.specs.Choices.{choices_in, ranked}
use Rattle.plan_drawing.specs.Walks.{Basis, begins_at, states_on}

abbrev pub blanks : ℕ → List ℕ
blanks count = replicate count 32

-- a text at the left of so many columns, or at the right
unfoldable pub left_in : ℕ → List ℕ → List ℕ
left_in width text = text ++ blanks (width - length text)

unfoldable pub right_in : ℕ → List ℕ → List ℕ
right_in width text = blanks (width - length text) ++ text

unfoldable pub name_of : Option Path → List ℕ
name_of (Some path) = codes "app " ++ decimal path.app ++ codes ", media lane " ++ decimal path.media
name_of None = codes "left free"

-- the plan does so at the host lane
abbrev pub is_taken : List Path → ℕ → Option Path → Bool
is_taken paths lane (Some path) = is_among paths path
is_taken paths lane None = not (list_any (begins_at lane) paths)

-- what a sum is beside what can be gained
unfoldable pub note_of : Bool → ℕ → ℕ → List ℕ
note_of true gain sum = codes "taken"
note_of false gain sum = if sum == gain then codes "as much" else decimal (gain - sum) ++ codes " less"

unfoldable pub choice_line : List Path → ℕ → ℕ → Choice → List ℕ
choice_line paths lane gain choice =
    codes "  "
    ++ left_in 24 (name_of choice.path)
    ++ codes " "
    ++ right_in 6 (decimal choice.weight)
    ++ codes " + "
    ++ right_in 6 (decimal choice.rest)
    ++ codes " = "
    ++ right_in 6 (decimal choice.sum)
    ++ codes "  "
    ++ note_of (is_taken paths lane choice.path) gain choice.sum

unfoldable pub lane_line : ℕ → ℕ → List ℕ
lane_line lane gain = codes "host lane " ++ decimal lane ++ codes ", " ++ decimal gain ++ codes " to gain"

-- of a state: the next host lane, what can still be gained, and the choices
unfoldable pub state_lines : Basis → List Path → State → List (List ℕ)
state_lines basis paths state =
    lane_line (state.boundary + 1) (gain_at basis.table state)
    ∷ map (choice_line paths (state.boundary + 1) (gain_at basis.table state)) (ranked (choices_in basis state))

-- of the states in which the plan decides on these host lanes
abbrev pub reasons_on : Basis → List Path → State → List ℕ → List (List ℕ)
reasons_on basis paths state lanes = flat_map (state_lines basis paths) (states_on basis paths state lanes)

-- from the start on
abbrev pub why_lines : Basis → List Path → List (List ℕ)
why_lines basis paths = reasons_on basis paths start (range_with_len 1 8)
