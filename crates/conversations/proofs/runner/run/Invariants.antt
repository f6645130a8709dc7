use Rattle.std.proofs.Common.{◌≡◌, ◌≤◌, ℕ, length}
use Rattle.conversations.specs.Carried.{Happens}
use Rattle.conversations.specs.Events.{Events, steps_of}
use Rattle.conversations.proofs.RunTold.{turns_left}
use Rattle.conversations.proofs.runner.run.Given as goal

abbrev pub decreases-told : goal.decreases-told
decreases-told g l = turns_left l.within.steps l.within.limit (g.C.Conversation.wants l.within.conversation)

-- it was told what was made
abbrev pub invariant-told : goal.invariant-told
invariant-told g l = record {
  topic : ◌≡◌ {A = ℕ × g.row.C-Topic.Denot} (l.within.limit, g.C.Conversation.topic l.within.conversation) (l.fn.within.limit, g.C.Conversation.topic l.fn.within.conversation);
  told : (events : Events) × Happens (λ old step new. g.B.TimedBus.makes old step new) (λ old time new. g.B.TimedBus.passes old time new) l.fn.bus l.bus events
      × (g.C.Conversation.told events l.within.conversation × (length (steps_of events) ≡ l.within.steps) × (l.within.steps ≤ l.within.limit));
}
