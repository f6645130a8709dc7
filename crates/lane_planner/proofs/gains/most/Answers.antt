use Rattle.std.proofs.Common.{◌≡◌, ◌∙◌, List, append-nil, take, sym, subst, arith}
use Rattle.std.proofs.lemmas.List.Elements.{All-get_or}
use Rattle.lane_planner.proofs.Words.{Move, State, Decision, free_decision, LeadsOn, decisions_by, move_decision}
use Rattle.lane_planner.specs.Tables.{gain_at}
use Rattle.lane_planner.proofs.MoreMoves.{decisions_more}
use Rattle.lane_planner.proofs.TableGains.{most_more, small_in}
use Rattle.lane_planner.proofs.gains.most.Goals as goal
use Rattle.lane_planner.proofs.gains.most.Goals.{then-may_stay_free, else-may_stay_free, then-is_open, else-is_open}

pub loop-one-init : goal.loop-one-init
loop-one-init c =
    let table = c.args.table.now in
    let decision : Decision = free_decision c.args.state.now in
    elim c.if-may_stay_free.branch [
      | then-may_stay_free w ↦
          let rest : c.if-may_stay_free.most ≡ gain_at table decision.end = cc in
          record { most = rw w.if-may_stay_free.true (omega (arith, rest)); small = omega (arith, rest, small_in table decision.end c.requires.table) }
      | else-may_stay_free w ↦ record { most = rw w.if-may_stay_free.false w.most-is; small = omega (arith, w.most-is) }
    ]

pub loop-one-preserved : goal.loop-one-preserved
loop-one-preserved c =
    let table = c.args.table.now in
    let state : State = c.args.state.now in
    let moves = c.args.moves.now in
    let move : Move = c.one-item.result in
    let index = c.loop-one.one-index in
    let decision : Decision = move_decision state move in
    let before : List Decision = decisions_by c.args.may_stay_free state (take index moves) in
    let more = decisions_more c.args.may_stay_free state moves index move c.loop-one-test.true c.one-item.is in
    let leads = subst (LeadsOn state.boundary) (sym c.one-item.is) (All-get_or (LeadsOn state.boundary) moves index move c.loop-one-test.true c.requires.lead_on) in
    let so_far = c.loop-one.invariant in
    elim c.if-is_open.branch [
      | then-is_open w ↦
          let rest : w.at.result ≡ gain_at table decision.end = cc in
          record {
            most = rw (more, sym c.is_open.ensures ∙ w.if-is_open.true) (omega (arith, most_more table before decision, w.most-is, rest, so_far.most));
            small = omega (arith, w.most-is, rest, so_far.small, small_in table decision.end c.requires.table, leads.further, leads.within, leads.light);
          }
      | else-is_open w ↦ record { most = rw (more, sym c.is_open.ensures ∙ w.if-is_open.false, append-nil before) (w.most-is ∙ so_far.most); small = omega (arith, w.most-is, so_far.small) }
    ]
