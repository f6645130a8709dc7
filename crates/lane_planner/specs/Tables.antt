-- The planner's table of gains, by the places of states, and the plan that it reads off. (docs/planning.md, "The planner";
-- this project's own)
use Rattle.std.specs.Prelude.{◌≡◌, ℕ, Bool, ◌+◌, ◌-◌, ◌*◌, ◌/◌, ◌%◌, ◌<◌, ◌≤◌, ◌==◌, ◌&&◌, ◌||◌, nat_lt, nat_le, if◌then◌else◌, List, [], ◌∷◌, All, AllPairs, Contains, filter, length, map, max, slice_index}
use Rattle.std.specs.List.{range_with_len}
use Rattle.applications.specs.Advertised.{Advertised}
use Rattle.applications.specs.AppWeights.{PathWeights}
use Rattle.plan_certificate.specs.declared.path.Path.{Path}
use Rattle.plan_certificate.specs.declared.moves.Move.{Move}
use Rattle.plan_certificate.specs.declared.state.State.{State}
use Rattle.plan_certificate.specs.declared.state.Decision.{Decision}
use Rattle.plan_certificate.specs.declared.certificate.Entry.{Entry}
use Rattle.plan_certificate.specs.Plans.{IsAdmissible, Keeps, plan_weight}
use Rattle.plan_certificate.specs.KeptPaths.{is_among}
use Rattle.plan_certificate.specs.States.{start, state_at, state_place}
use Rattle.plan_certificate.specs.ReachedStates.{IsReached}
use Rattle.plan_certificate.specs.Moves.{is_open, move_decision}
use Rattle.plan_certificate.specs.Certificates.{HasStates, entry_place}
use Rattle.lane_planner.specs.FirstBest.{IsOfUse, IsSameOrBefore}
use Rattle.lane_planner.specs.Gains.{IsGain}
use Rattle.lane_planner.specs.Marks.{IsMarked, is_marked}
use Rattle.plan_certificate.specs.Limits.{most_states}

-- the start and the states past the first boundary have a cell, but for those at the last one
abbrev pub has_cell : ℕ → Bool
has_cell place = place == 0 || nat_le 256 place && nat_lt place 2048

-- the number whose lower 32 bits and higher bits stand in the cell of a place; 0 for the others
abbrev pub number_at : List ℕ → List ℕ → ℕ → ℕ
number_at lows highs place =
    if has_cell place then slice_index lows (place - 255) + 4294967296 * slice_index highs (place - 255) else 0

unfoldable pub numbers_of : List ℕ → List ℕ → List ℕ
numbers_of lows highs = map (number_at lows highs) (range_with_len 0 most_states)

-- there are as many cells for both, and certificates keep such numbers in five bytes
pub record AreParts (lows highs : List ℕ) : Type 0 where
  pub low : length lows ≡ 1793
  pub high : length highs ≡ 1793
  pub small : All (λ high. high < 254) highs

-- a number for each state; each lane that is still to be decided adds at most four weights of 32 bits
pub record IsTable (table : List ℕ) : Type 0 where
  pub all : length table ≡ most_states
  pub small : (place : ℕ) → slice_index table place ≤ 17179869180 * (8 - place / 256)

-- the gains of the reached states at these places
pub record AreGains (advert : Advertised) (weights : PathWeights) (kept : List Path) (Done : ℕ → Type 0) (table : List ℕ) : Type 0 where
  pub numbers : IsTable table
  pub gains : (place : ℕ) → Done place → IsReached advert weights kept (state_at place) → IsGain advert weights kept (state_at place) (slice_index table place)

-- those from a place on
abbrev pub HasGains : Advertised → PathWeights → List Path → ℕ → List ℕ → Type 0
HasGains advert weights kept from = AreGains advert weights kept (λ place. from ≤ place)

abbrev pub gain_at : List ℕ → State → ℕ
gain_at table state = slice_index table (state_place state)

-- the most that one of the decisions weighs together with what the table has where it leads; 0 if there is none
abbrev pub most_by : List ℕ → List Decision → ℕ
most_by table [] = 0
most_by table (decision ∷ decisions) = max (decision.weight + gain_at table decision.end) (most_by table decisions)

abbrev pub entry_at : List ℕ → ℕ → Entry
entry_at table place = record { boundary = place / 256; used = place % 256; potential = slice_index table place }

-- a move is open, weighs something or is a kept path's, and after it the state's whole gain can still be had
abbrev pub move_keeps_gain : List Path → List ℕ → State → Move → Bool
move_keeps_gain kept table state move =
    is_open state move
    && (nat_lt 0 move.weight || is_among kept move.path)
    && move.weight + gain_at table (move_decision state move).end == gain_at table state

-- a plan of so much weight with the kept paths, without others of weight 0
pub record IsPlanOf (advert : Advertised) (weights : PathWeights) (kept : List Path) (weight : ℕ) (paths : List Path) : Type 0 where
  pub admissible : IsAdmissible advert paths
  pub keeps : Keeps kept paths
  pub weighs : plan_weight weights paths ≡ weight
  pub of_use : All (IsOfUse weights kept) paths

-- such a plan of the start's whole gain, by rising host lane, that comes before all others
pub record IsReadOff (advert : Advertised) (weights : PathWeights) (kept : List Path) (table : List ℕ) (paths : List Path) : Type 0 where
  pub plan : IsPlanOf advert weights kept (gain_at table start) paths
  pub rising : AllPairs (λ path later. path.host < later.host) paths
  pub first : (others : List Path) → IsPlanOf advert weights kept (gain_at table start) others → IsSameOrBefore paths others

-- the entries of the marked states before a place, and no others
pub record AreEntries (marks : List ℕ) (table : List ℕ) (upto : ℕ) (entries : List Entry) : Type 0 where
  pub states : HasStates entries
  pub below : All (λ entry. entry_place entry < upto) entries
  pub marked : All (λ entry. IsMarked marks (entry_place entry) × (entry ≡ entry_at table (entry_place entry))) entries
  pub each : (place : ℕ) → place < upto → IsMarked marks place → Contains entries (entry_at table place)
  pub few : length entries ≤ upto

-- these entries themselves, by rising places
unfoldable pub marked_entries : List ℕ → List ℕ → ℕ → List Entry
marked_entries marks table upto = filter (λ entry. is_marked marks (entry_place entry)) (map (entry_at table) (range_with_len 0 upto))
