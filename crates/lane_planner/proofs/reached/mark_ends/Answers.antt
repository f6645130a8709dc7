use Rattle.std.proofs.Common.{[], List, append-nil, take, sym, subst, ap, ◌∙◌}
use Rattle.lane_planner.proofs.Words.{Move, State, Decision, free_decision, state_place, move_decision, decisions_by}
use Rattle.std.proofs.lemmas.List.{take_all}
use Rattle.lane_planner.specs.Marks.{MarksEnds}
use Rattle.lane_planner.proofs.Marking.{none_marked, one_marked}
use Rattle.lane_planner.proofs.MoreMoves.{decisions_more}
use Rattle.lane_planner.proofs.reached.mark_ends.Goals as goal
use Rattle.lane_planner.proofs.reached.mark_ends.Goals.{then-may_stay_free, else-may_stay_free, then-is_open, else-is_open}

pub loop-one-init : goal.loop-one-init
loop-one-init c =
    let marks = c.args.marks.now in
    elim c.if-may_stay_free.branch [
      | then-may_stay_free w ↦
          let place = w.place.ensures ∙ ap (λ (s : Decision). state_place s.end) w.free_decision-free.ensures in
          rw (w.if-may_stay_free.true, w.marks-is) (one_marked [] (free_decision c.args.state.now) w.place.result marks marks w.mark.new.self (none_marked marks) w.mark.ensures place)
      | else-may_stay_free w ↦ rw (w.if-may_stay_free.false, w.marks-is) (none_marked marks)
    ]

pub loop-one-preserved : goal.loop-one-preserved
loop-one-preserved c =
    let state : State = c.args.state.now in
    let moves = c.args.moves.now in
    let move : Move = c.one-item.result in
    let index = c.loop-one.one-index in
    let before : List Decision = decisions_by c.args.may_stay_free state (take index moves) in
    let more = decisions_more c.args.may_stay_free state moves index move c.loop-one-test.true c.one-item.is in
    elim c.if-is_open.branch [
      | then-is_open w ↦
          let place = w.place-then-is_open.ensures ∙ ap (λ (s : Decision). state_place s.end) w.decision-end.ensures in
          rw (more, sym c.is_open.ensures ∙ w.if-is_open.true, w.marks-is)
          (one_marked before (move_decision state move) w.place-then-is_open.result c.args.marks.now c.loop-one.marks w.mark-then-is_open.new.self c.loop-one.invariant w.mark-then-is_open.ensures place)
      | else-is_open w ↦ rw (more, sym c.is_open.ensures ∙ w.if-is_open.false, append-nil before, w.marks-is) c.loop-one.invariant
    ]

pub returns : goal.returns
returns c =
    let Ends : List Move → Type 0 = λ moves. MarksEnds (decisions_by c.args.may_stay_free c.args.state.now moves) c.args.marks.now c.loop-one.marks in
    subst Ends (take_all c.loop-one.one-index c.args.moves.now c.loop-one-test.false) c.loop-one.invariant
