use Rattle.std.proofs.Common.{◌≡◌, subst}
use Rattle.conversations.specs.declared.on_page.OnPage.{OnPage}
use Rattle.conversations.specs.declared.pausing.Pausing.{Pausing}
use Rattle.conversations.specs.declared.within.Within.{Within}
use Rattle.conversations.specs.Carried.{IsCarriedOut}
use Rattle.conversations.specs.Pauses.{EndsPausing, GoesOnPausing}
use Rattle.lane_controls.specs.declared.lane_change.ChangingLanes.{ChangingLanes}
use Rattle.lane_controls.specs.LaneRuns.{Ends, GoesOn}
use Rattle.lane_controls.proofs.runs.change_lanes_on.Goals as goal

pub returns : goal.returns
returns g c =
    let (last, events, happens, (told, left, ended)) = c.run.ensures.made in
    let Carries : Within (Pausing (OnPage ChangingLanes)) → Type 0 = λ p. IsCarriedOut p.limit
    (GoesOnPausing p.conversation.patience (GoesOn p.conversation.conversation.doubts p.conversation.conversation.conversation.change))
    (EndsPausing p.conversation.patience (GoesOn p.conversation.conversation.doubts p.conversation.conversation.conversation.change) (Ends p.conversation.conversation.doubts p.conversation.conversation.conversation.change))
    (last ≡ c.run.new.bus) (λ fault. g.B.TimedBus.fails last fault c.run.new.bus) events c.run.result in
    (last, events, happens, subst Carries c.patient_lane_procedure-procedure.ensures.value ended)
