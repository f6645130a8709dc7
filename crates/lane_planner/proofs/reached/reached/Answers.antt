use Rattle.std.proofs.Common.{◌≡◌, ℕ, ◌+◌, ◌*◌, ◌/◌, List, subst, ap, arith}
use Rattle.lane_planner.proofs.Words.{Move, State, state_at, decisions_by}
use Rattle.lane_planner.specs.Marks.{MarksEnds}
use Rattle.lane_planner.proofs.MoreMoves.{listed_lead_on}
use Rattle.lane_planner.proofs.Marking.{ends_of_moves, marks_begun, marks_ended, marks_more, marks_past}
use Rattle.lane_planner.proofs.reached.reached.Goals as goal

pub loop-boundary-init : goal.loop-boundary-init
loop-boundary-init c = marks_begun c.args.marks.now c.mark.new.self c.requires.blank c.mark.ensures

pub mark_ends-requires-clause-lead_on : goal.mark_ends-requires-clause-lead_on
mark_ends-requires-clause-lead_on c =
    let found = c.in-Some.ensures in
    rw c.as_slice.ensures.value (listed_lead_on c.list.ensures c.at-state.result.boundary (omega (arith, ap (λ (s : State). s.boundary) c.at-state.ensures, c.from-from.ensures, found.after, found.before, c.loop-place.invariant.at)))

pub loop-place-preserved : goal.loop-place-preserved
loop-place-preserved c =
    let place : ℕ = c.in-Some.place in
    let found = c.in-Some.ensures in
    let at : place / 256 ≡ c.loop-boundary.boundary = omega (arith, found.after, found.before, c.loop-place.invariant.at, c.from-from.ensures) in
    let Ends = λ (s : State) (moves : List Move). MarksEnds (decisions_by c.list.new.self.may_stay_free s moves) c.loop-place.marks c.mark_ends.new.marks in
    let of_heaviest = subst (Ends (state_at place)) c.as_slice.ensures.value (subst (λ (s : State). Ends s c.as_slice.result.now) c.at-state.ensures c.mark_ends.ensures) in
    record {
      so_far = marks_more c.loop-place.invariant.so_far found (ends_of_moves c.loop-place.marks c.mark_ends.new.marks (state_at place) at c.loop-boundary-test.true c.list.ensures of_heaviest);
      at = omega (arith, found.after, c.loop-place.invariant.at);
    }

pub loop-boundary-preserved : goal.loop-boundary-preserved
loop-boundary-preserved c =
    marks_past c.loop-place.from (256 * (c.loop-boundary.boundary + 1)) c.loop-place.invariant.so_far (λ place past low. c.in_default.ensures place past (omega (arith, low, c.from-from.ensures)))

pub returns : goal.returns
returns c =
    let ended : 256 * c.loop-boundary.boundary ≡ 2048 = omega (arith, c.loop-boundary-test.false, c.loop-boundary.auto.boundary-end) in
    marks_ended (rw ended at c.loop-boundary.invariant)
