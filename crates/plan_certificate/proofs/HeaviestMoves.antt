-- Of moves on the same lanes the heaviest stand for all: what holds of their decisions, and of lighter ones, holds of each.
use Rattle.std.proofs.Common.{◌≡◌, ℕ, ◌+◌, ◌≤◌, ◌∙◌, Bool, true, List, subst, ap}
use Rattle.std.specs.List.{All, AllByRecursion, Contains}
use Rattle.std.specs.FinSet as set
use Rattle.std.proofs.lemmas.List.Elements.{All-contains, All-from_recursion, All-weaker, recursion_from_All}
use Rattle.field_tables.specs.LaneSets.{Lanes, is_disjoint}
use Rattle.plan_certificate.specs.declared.moves.Move.{Move}
use Rattle.plan_certificate.specs.declared.state.State.{State}
use Rattle.plan_certificate.specs.declared.state.Decision.{Decision}
use Rattle.plan_certificate.specs.Moves.{AreHeaviest, IsOutweighed, LeadsOn, is_open, move_decision, decisions_by}
use Rattle.plan_certificate.proofs.EachMove.{WhereOpen, each_by_moves, each_of_decisions}

-- what holds of a decision holds of lighter ones to the same state
abbrev pub HoldsOfLighter : (Decision → Type 0) → Type 0
HoldsOfLighter P = (decision : Decision) (weight : ℕ) → weight ≤ decision.weight → P decision → P (record { weight = weight; end = decision.end })

one_outweighed : (state : State) (P : Decision → Type 0) (moves : List Move) (move : Move) → HoldsOfLighter P → All (WhereOpen state P) moves → IsOutweighed moves move → WhereOpen state P move
one_outweighed state P moves move lighter each by unused =
    let other : Move = by.other in
    let Made : ℕ → Lanes → Type 0 = λ host media. P (record { weight = move.weight; end = record { boundary = state.boundary + host; used = set.union state.used media } }) in
    let open_too : is_open state other ≡ true = ap (λ (lanes : Lanes). is_disjoint lanes state.used) by.lanes.media_lanes ∙ unused in
    let light : Made other.host_lanes other.media_lanes = lighter (move_decision state other) move.weight by.weighs (All-contains (WhereOpen state P) moves other each by.listed open_too) in
    subst (λ (host : ℕ). Made host move.media_lanes) by.lanes.host_lanes (subst (Made other.host_lanes) by.lanes.media_lanes light)

pub each_outweighed : (free : Bool) (state : State) (P : Decision → Type 0) (moves heaviest : List Move) → HoldsOfLighter P → AreHeaviest moves heaviest → AllByRecursion P (decisions_by free state heaviest) → AllByRecursion P (decisions_by free state moves)
each_outweighed free state P moves heaviest lighter are each =
    let parts = each_of_decisions free state P heaviest each in
    let kept = All-from_recursion (WhereOpen state P) heaviest parts.by_moves in
    each_by_moves free state P moves (record {
      freed = parts.freed;
      by_moves = recursion_from_All (WhereOpen state P) moves (All-weaker (IsOutweighed heaviest) (WhereOpen state P) (λ move by. one_outweighed state P heaviest move lighter kept by) moves are.outweighed);
    })

-- and what holds of the decisions of all holds of theirs
pub each_among : (free : Bool) (state : State) (P : Decision → Type 0) (moves heaviest : List Move) → AreHeaviest moves heaviest → AllByRecursion P (decisions_by free state moves) → AllByRecursion P (decisions_by free state heaviest)
each_among free state P moves heaviest are each =
    let parts = each_of_decisions free state P moves each in
    let all = All-from_recursion (WhereOpen state P) moves parts.by_moves in
    each_by_moves free state P heaviest (record {
      freed = parts.freed;
      by_moves = recursion_from_All (WhereOpen state P) heaviest (All-weaker (Contains moves) (WhereOpen state P) (λ move listed. All-contains (WhereOpen state P) moves move all listed) heaviest are.among);
    })

pub heaviest_lead_on : (boundary : ℕ) (moves heaviest : List Move) → AreHeaviest moves heaviest → All (LeadsOn boundary) moves → All (LeadsOn boundary) heaviest
heaviest_lead_on boundary moves heaviest are all =
    All-weaker (Contains moves) (LeadsOn boundary) (λ move listed. All-contains (LeadsOn boundary) moves move all listed) heaviest are.among
