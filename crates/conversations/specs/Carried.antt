-- A conversation that was carried out on a bus. (docs/bus.md, "Conversations"; this project's own)
use Rattle.std.specs.Prelude.{◌≡◌, ◌<◌, ℕ, [], ◌∷◌, length, Result, Ok, Err}
use Rattle.bus_model.specs.declared.bus.BusFault.{BusFault}
use Rattle.bus_model.specs.declared.bus.BusFault.TheVariants.{TraceFull}
use Rattle.bus_model.specs.Runs.{IsFull, Ran, Rules, Seen}
use Rattle.bus_model.specs.declared.operation.Op.{Op}
use Rattle.bus_model.specs.declared.operation.Step.{Step}
use Rattle.conversations.specs.declared.event.Event.TheVariants.{Made, Waited, Lacked, Asked}
use Rattle.conversations.specs.declared.next.Next.{Next}
use Rattle.conversations.specs.declared.next.Next.TheVariants.{Do, End}
use Rattle.conversations.specs.declared.within.Spent.{Spent}
use Rattle.conversations.specs.Budgets.{HasSpent}
use Rattle.conversations.specs.Events.{Events, steps_of}

-- ---- a bus that keeps a list of its steps, on which time passes by itself

abbrev pub MakesStep : {B S : Type 0} → Rules S → (B → Seen S) → B → Step → B → Type 0
MakesStep rules seen old step new = Ran rules (seen old) (seen new) (step ∷ [])

abbrev pub StaysSame : {B : Type 0} → B → ℕ → B → Type 0
StaysSame old time new = old ≡ new

-- its list is full
abbrev pub FillsUp : {B S : Type 0} → (B → Seen S) → B → BusFault → B → Type 0
FillsUp seen old fault new = (fault ≡ TraceFull) × IsFull (seen new) × (seen new ≡ seen old)

-- ---- any bus

-- old becomes new by the transactions and waits of the events, which are nothing else
abbrev pub Happens : {B : Type 0} → (B → Step → B → Type 0) → (B → ℕ → B → Type 0) → B → B → Events → Type 0
Happens makes passes old new [] = old ≡ new
Happens {B} makes passes old new (Made step ∷ before) = (mid : B) × Happens makes passes old mid before × makes mid step new
Happens {B} makes passes old new (Waited time ∷ before) = (mid : B) × Happens makes passes old mid before × passes mid time new
Happens makes passes old new (Lacked page ∷ before) = ⊥
Happens makes passes old new (Asked number ∷ before) = ⊥

-- the bus makes no transaction more in the middle, before as many operations as may be
pub record RunsOut (limit : ℕ) (GoesOn : Events → Type 0) (fails : Type 0) (events : Events) : Type 0 where
  pub failed : fails
  pub fewer : length (steps_of events) < limit
  pub goes_on : GoesOn events

-- it is left where it has ended so, or where an operation is wanted
abbrev pub IsLeft : {E F : Type 0} → Next (Spent E) → Result (Spent E) F → Type 0
IsLeft wanted (Ok spent) = wanted ≡ End spent
IsLeft wanted (Err fault) = (op : Op) × (wanted ≡ Do op)

-- it ended or gave up, or the bus failed
abbrev pub IsCarriedOut : {E F : Type 0} → ℕ → (Events → Type 0) → (Events → E → Type 0) → Type 0 → (F → Type 0) → Events → Result (Spent E) F → Type 0
IsCarriedOut limit GoesOn Ends same fails events (Ok spent) = same × HasSpent limit GoesOn Ends events spent
IsCarriedOut limit GoesOn Ends same fails events (Err fault) = RunsOut limit GoesOn (fails fault) events

-- old becomes new by events of which this holds, after which the bus is the last one
abbrev pub MakesEvents : {B : Type 0} → (B → Step → B → Type 0) → (B → ℕ → B → Type 0) → B → (B → Events → Type 0) → Type 0
MakesEvents {B} makes passes old P = (last : B) × (events : Events) × Happens makes passes old last events × P last events
