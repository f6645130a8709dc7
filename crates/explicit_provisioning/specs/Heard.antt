-- A conversation that only replies move: where it stands after its events, and how it ends. Events stand with the newest first.
-- (docs/bus.md, "Conversations"; this project's own)
use Rattle.std.specs.Prelude.{◌≡◌, [], ◌∷◌}
use Rattle.bus_model.specs.declared.operation.Op.{Op}
use Rattle.bus_model.specs.declared.operation.Reply.{Reply}
use Rattle.bus_model.specs.Operations.{Answers}
use Rattle.conversations.specs.declared.event.Event.TheVariants.{Made, Waited, Lacked, Asked}
use Rattle.conversations.specs.declared.next.Next.{Next}
use Rattle.conversations.specs.declared.next.Next.TheVariants.{Do, End}
use Rattle.conversations.specs.Events.{Events}

-- where it stands
abbrev pub heard : {S : Type 0} → (S → Reply → S) → S → Events → S
heard after begun [] = begun
heard after begun (Made step ∷ before) = after (heard after begun before) step.reply
heard after begun (Waited time ∷ before) = heard after begun before
heard after begun (Lacked page ∷ before) = heard after begun before
heard after begun (Asked number ∷ before) = heard after begun before

-- each transaction is what was wanted, and its reply one that it can have; it never waits
abbrev pub EachIsWanted : {S E : Type 0} → (S → Next E) → (S → Reply → S) → S → Events → Type 0
EachIsWanted wants after begun [] = Unit {0}
EachIsWanted wants after begun (Made step ∷ before) = (wants (heard after begun before) ≡ Do step.op) × Answers step.op step.reply × EachIsWanted wants after begun before
EachIsWanted wants after begun (Waited time ∷ before) = ⊥
EachIsWanted wants after begun (Lacked page ∷ before) = EachIsWanted wants after begun before
EachIsWanted wants after begun (Asked number ∷ before) = EachIsWanted wants after begun before

-- it stands there after these events
pub record IsHeard {S E : Type 0} (wants : S → Next E) (after : S → Reply → S) (begun : S) (events : Events) (now : S) : Type 0 where
  pub is : now ≡ heard after begun events
  pub each : EachIsWanted wants after begun events

-- it has ended so after them
pub record IsEnded {S E : Type 0} (wants : S → Next E) (after : S → Reply → S) (begun : S) (events : Events) (end : E) : Type 0 where
  pub each : EachIsWanted wants after begun events
  pub ends : wants (heard after begun events) ≡ End end

-- an operation is wanted after them
pub record GoesOn {S E : Type 0} (wants : S → Next E) (after : S → Reply → S) (begun : S) (events : Events) : Type 0 where
  pub each : EachIsWanted wants after begun events
  pub op : Op
  pub goes : wants (heard after begun events) ≡ Do op
