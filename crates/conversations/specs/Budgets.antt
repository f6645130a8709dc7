-- A conversation of so many operations at most: it gives up where one more would be wanted. (docs/bus.md, "Conversations"; this
-- project's own)
use Rattle.std.specs.Prelude.{◌≡◌, ◌≤◌, ℕ, nat_lt, if◌then◌else◌, length, Option, Some, None}
use Rattle.conversations.specs.declared.next.Next.{Next}
use Rattle.conversations.specs.declared.next.Next.TheVariants.{Do, Wait, End}
use Rattle.conversations.specs.declared.within.Spent.{Spent}
use Rattle.conversations.specs.Events.{Events, steps_of}

abbrev pub next_within : {E : Type 0} → ℕ → ℕ → Next E → Next (Spent E)
next_within steps limit (Do op) = if nat_lt steps limit then Do op else End (record { steps = steps; end = None })
next_within steps limit (Wait time) = Wait time
next_within steps limit (End end) = End (record { steps = steps; end = Some end })

-- it ended as it may, or gave up after as many operations as may be, in the middle
abbrev pub HasEnded : {E : Type 0} → ℕ → (Events → Type 0) → (Events → E → Type 0) → Events → Option E → Type 0
HasEnded limit GoesOn Ends events (Some end) = Ends events end
HasEnded limit GoesOn Ends events None = (length (steps_of events) ≡ limit) × GoesOn events

pub record HasSpent {E : Type 0} (limit : ℕ) (GoesOn : Events → Type 0) (Ends : Events → E → Type 0) (events : Events) (spent : Spent E) : Type 0 where
  pub counted : spent.steps ≡ length (steps_of events)
  pub few : length (steps_of events) ≤ limit
  pub ended : HasEnded limit GoesOn Ends events spent.end
