use Rattle.std.proofs.Common.{find, sym, ap, ◌∙◌}
use Rattle.lane_planner.proofs.Words.{State}
use Rattle.lane_planner.specs.Tables.{move_keeps_gain}
use Rattle.lane_planner.proofs.ChosenPaths.{chosen_move, none_keeps}
use Rattle.lane_planner.proofs.ReadOffs.{begun, free_more, path_more, read_off}
use Rattle.lane_planner.proofs.choices.read_off.Goals as goal

pub loop-state-init : goal.loop-state-init
loop-state-init c = rw (c.start-state.ensures, c.new-paths.ensures) (begun c.args.advert.now c.args.weights.now c.args.kept.now c.args.table.now c.requires.kept)

pub loop-state-preserved-in-Some : goal.loop-state-preserved-in-Some
loop-state-preserved-in-Some c =
    let state : State = c.loop-state.state in
    let found = ap (find (move_keeps_gain c.args.kept.now c.args.table.now state)) (sym (c.as_slice.ensures.value ∙ c.put_moves.ensures.moves)) ∙ sym c.chosen.ensures.found ∙ c.in-Some.is in
    let chosen = chosen_move c.args.advert.now c.args.weights.now c.args.kept.now c.args.table.now state c.in-Some.one (rw c.put_moves.ensures.moves at c.put_moves.ensures.rising) found in
    rw (c.push.ensures.items, c.decision-state.ensures) (path_more c.requires.gains c.loop-state.invariant c.requires.kept c.loop-state-test.true c.in-Some.one chosen)

pub loop-state-preserved : goal.loop-state-preserved
loop-state-preserved c =
    let state : State = c.loop-state.state in
    let none = ap (find (move_keeps_gain c.args.kept.now c.args.table.now state)) (sym (c.as_slice.ensures.value ∙ c.put_moves.ensures.moves)) ∙ sym c.chosen.ensures.found ∙ c.in-None.is in
    let keeps = none_keeps c.args.advert.now c.args.weights.now c.args.kept.now c.args.table.now state none in
    rw c.free_decision-state.ensures (free_more c.requires.gains c.loop-state.invariant c.loop-state-test.true keeps)

pub returns : goal.returns
returns c = read_off c.requires.gains c.loop-state.invariant c.loop-state-test.false
