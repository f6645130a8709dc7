use Rattle.std.proofs.Common.{sym, subst, ◌∷◌}
use Rattle.conversations.specs.Events.{steps_of}
use Rattle.paged_memory.proofs.KnownPageLaws.{step_of}
use Rattle.lane_controls.specs.declared.lane_change.ChangingLanes.{ChangingLanes}
use Rattle.lane_controls.specs.LaneChanges.{IsTold}
use Rattle.lane_controls.proofs.LaneChangeLaws.{kept}
use Rattle.lane_controls.proofs.lane_change.ChangingLanesConversation.take.Goals as goal

pub returns-clause-told : goal.returns-clause-told
returns-clause-told c events op asks told =
    subst (λ (changing : ChangingLanes). IsTold (step_of op c.args.reply.now ∷ steps_of events) changing) (sym c.advance.ensures) (kept (steps_of events) c.args.self.now op c.args.reply.now asks told)
