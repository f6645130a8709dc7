-- A change of lanes on a bus: how it begins, what it wants, and what a reply makes of it. (docs/lanes.md, "From C and Python"; this
-- project's own)
use Rattle.std.specs.Prelude.{ℕ, Bool, Some, false}
use Rattle.bus_model.specs.declared.operation.Reply.{Reply}
use Rattle.conversations.specs.declared.next.Next.{Next}
use Rattle.conversations.specs.declared.on_page.OnPage.{OnPage}
use Rattle.conversations.specs.declared.pausing.Patience.{Patience}
use Rattle.conversations.specs.declared.pausing.Timed.{Timed}
use Rattle.conversations.specs.declared.within.Spent.{Spent}
use Rattle.conversations.specs.Patiently.{after_patiently, begun_patiently, wants_patiently}
use Rattle.conversations.specs.Selecting.{chosen, next_on, on_after}
use Rattle.lane_controls.specs.declared.lane_change.ChangingLanes.{ChangingLanes}
use Rattle.lane_controls.specs.declared.lane_change.LaneEnd.{LaneEnd}
use Rattle.lane_controls.specs.LaneChanges as lanes
use Rattle.lane_controls.specs.Unconfirmed.{unconfirmed}
use Rattle.paged_memory.specs.declared.page_addressing.PageAddressing.TheVariants.{BankAndPage}
use Rattle.saved_lanes.specs.declared.numbers.SavedLaneChange.{SavedLaneChange}
use Rattle.saved_lanes.specs.SavedLanes.{Procedure, change_in}

-- how many operations it makes at most
abbrev pub most_steps : ℕ
most_steps = 4096

abbrev pub begun_change : SavedLaneChange → Patience → Bool → Procedure
begun_change change patience doubts = begun_patiently (unconfirmed (lanes.begun (change_in change)) doubts) patience most_steps

abbrev pub wants_on : OnPage ChangingLanes → Next LaneEnd
wants_on on = next_on (chosen (Some BankAndPage)) on.selection (lanes.page_at on.conversation.stage) (lanes.wants on.conversation)

abbrev pub after_on : OnPage ChangingLanes → Reply → OnPage ChangingLanes
after_on on reply =
    on_after lanes.after (λ changing number. changing) false (chosen (Some BankAndPage)) (lanes.page_at on.conversation.stage) on reply

abbrev pub wants : Procedure → Next (Spent (Timed LaneEnd))
wants procedure = wants_patiently wants_on procedure

abbrev pub after : Procedure → Reply → Procedure
after procedure reply = after_patiently wants_on after_on procedure reply
