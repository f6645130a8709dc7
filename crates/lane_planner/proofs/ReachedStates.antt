-- Places of states, and the states that decisions from the start reach: with one the ends of its decisions, and none past the last
-- host lane.
use Rattle.std.proofs.Common.{◌≡◌, ℕ, ◌/◌, ◌%◌, ◌<◌, ◌≤◌, true, List, [], ◌∷◌, ◌++◌, refl, sym, subst, ap, ◌∙◌, inl, inr, arith}
use Rattle.std.specs.List.{Contains}
use Rattle.std.proofs.lemmas.Bool.Decides.{nat_tests}
use Rattle.field_tables.specs.LaneSets.{lanes_in, byte_of}
use Rattle.field_tables.specs.LaneBytes.{byte_of-lanes_in}
use Rattle.field_tables.proofs.LaneLaws.{lanes_in-zero}
use Rattle.plan_certificate.proofs.ByteLanes.{IsByte, lanes_of_byte, start_is_byte}
use Rattle.lane_planner.specs.Tables.{has_cell}
use Rattle.lane_planner.proofs.Words.{Advertised, PathWeights, Path, State, Decision, start, decisions_from, state_at, state_place, IsReached, Leads}
use Rattle.lane_planner.proofs.DecisionKinds.{HasPlace, ends_later}
use Rattle.lane_planner.proofs.DisjointLanes.{byte_below}

-- ---- places

pub place_below : (state : State) → state.boundary ≤ 8 → state_place state < 2304
place_below state within = omega (arith, within, byte_below state.used)

pub boundary_of_place : (state : State) → state_place state / 256 ≡ state.boundary
boundary_of_place state = omega (arith, byte_below state.used)

pub state_of_place : (state : State) → IsByte state.used → state_at (state_place state) ≡ state
state_of_place state is_byte =
    let byte : state_place state % 256 ≡ byte_of state.used = omega (arith, byte_below state.used) in
    (λ i. record { boundary = boundary_of_place state i; used = (ap lanes_in byte ∙ lanes_of_byte state.used is_byte) i })

pub start_place : state_place start ≡ 0
start_place = let none : byte_of start.used ≡ 0 = ap byte_of (sym lanes_in-zero) ∙ byte_of-lanes_in 0 (omega arith) in omega (arith, none)

pub place_of_state_at : (place : ℕ) → state_place (state_at place) ≡ place
place_of_state_at place =
    let byte : byte_of (lanes_in (place % 256)) ≡ place % 256 = byte_of-lanes_in (place % 256) (omega arith) in
    omega (arith, byte)

-- ---- reached states

leads_on : (advert : Advertised) (weights : PathWeights) (kept : List Path) (from : State) (decisions : List Decision) (state : State) (decision : Decision) → Leads advert weights kept from decisions state → Contains (decisions_from advert weights kept state) decision → Leads advert weights kept from (decisions ++ decision ∷ []) decision.end
leads_on advert weights kept from [] state decision leads contains = (subst (λ (s : State). Contains (decisions_from advert weights kept s) decision) (sym leads) contains, refl)
leads_on advert weights kept from (first ∷ decisions) state decision leads contains = (leads.0, leads_on advert weights kept first.end decisions state decision leads.1 contains)

pub reached_on : (advert : Advertised) (weights : PathWeights) (kept : List Path) (state : State) (decision : Decision) → IsReached advert weights kept state → Contains (decisions_from advert weights kept state) decision → IsReached advert weights kept decision.end
reached_on advert weights kept state decision is contains = (is.0 ++ decision ∷ [], leads_on advert weights kept start is.0 state decision is.1 contains)

pub start_reached : (advert : Advertised) (weights : PathWeights) (kept : List Path) → IsReached advert weights kept start
start_reached advert weights kept = ([], refl)

-- its place is one of a table: it is the start, or past the first boundary
led_has_place : (advert : Advertised) (weights : PathWeights) (kept : List Path) (from : State) (decisions : List Decision) (state : State) → HasPlace from → Leads advert weights kept from decisions state → HasPlace state
led_has_place advert weights kept from [] state has leads = subst HasPlace leads has
led_has_place advert weights kept from (decision ∷ decisions) state has leads =
    led_has_place advert weights kept decision.end decisions state (ends_later advert weights kept from decision has.is_byte leads.0).1 leads.1

pub has_place : (advert : Advertised) (weights : PathWeights) (kept : List Path) (state : State) → IsReached advert weights kept state → HasPlace state
has_place advert weights kept state is = led_has_place advert weights kept start is.0 state (record { within = omega arith; is_byte = start_is_byte; later = inl refl }) is.1

-- so each reached state that is before the last boundary has a cell
pub reached_has_cell : (advert : Advertised) (weights : PathWeights) (kept : List Path) (place : ℕ) → IsReached advert weights kept (state_at place) → place < 2048 → has_cell place ≡ true
reached_has_cell advert weights kept place is below = elim ((has_place advert weights kept (state_at place) is).later) [
  | inl first ↦ let begun : place ≡ 0 = sym (place_of_state_at place) ∙ ap state_place first ∙ start_place in rw begun refl
  | inr past ↦ grind (arith, nat_tests, past, below)
]
