-- How much there is of a plan on eight host lanes and eight media lanes. (docs/planning.md; this project's own)
use Rattle.std.specs.Prelude.{ℕ}

-- the most paths of a plan: each takes a host lane
abbrev pub most_paths : ℕ
most_paths = 8

-- the states of the planner: a boundary from 0 to 8, and a set of media lanes
abbrev pub most_states : ℕ
most_states = 2304
