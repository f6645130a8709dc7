-- One conversation after another: which events are whose, what both want together, and how they end. Events stand with the newest
-- first. (docs/bus.md, "Conversations"; this project's own)
use Rattle.std.specs.Prelude.{◌≡◌, ◌⊎◌, ℕ, Bool, true, false, [], ◌∷◌, Option, if◌then◌else◌}
use Rattle.bus_model.specs.declared.operation.Reply.{Reply}
use Rattle.conversations.specs.declared.next.Next.{Next}
use Rattle.conversations.specs.declared.next.Next.TheVariants.{Do, Wait, End}
use Rattle.conversations.specs.Events.{Events}
use Rattle.explicit_provisioning.specs.declared.following.Sequel.{Sequel}
use Rattle.explicit_provisioning.specs.declared.following.Sequel.TheVariants.{Early, Late}
use Rattle.explicit_provisioning.specs.declared.following.Then.{Then}

-- ---- whose the events are

-- the events up to where the first conversation is over
abbrev pub first_part : (Events → Bool) → Events → Events
first_part over [] = []
first_part over (event ∷ before) = if over (first_part over before) then first_part over before else event ∷ first_part over before

-- the events since
abbrev pub second_part : (Events → Bool) → Events → Events
second_part over [] = []
second_part over (event ∷ before) = if over (first_part over before) then event ∷ second_part over before else second_part over before

-- ---- what is wanted

-- it has ended so that another one follows
abbrev pub ends_so : {E : Type 0} → (E → Bool) → Next E → Bool
ends_so passes (Do op) = false
ends_so passes (Wait time) = false
ends_so passes (End end) = passes end

abbrev pub early : {E F : Type 0} → Next E → Next (Sequel E F)
early (Do op) = Do op
early (Wait time) = Wait time
early (End end) = End (Early end)

abbrev pub late : {E F : Type 0} → Next F → Next (Sequel E F)
late (Do op) = Do op
late (Wait time) = Wait time
late (End end) = End (Late end)

-- by the second conversation once the first is over
abbrev pub next_then : {E F : Type 0} → Bool → Next E → Next F → Next (Sequel E F)
next_then over first second = if over then late second else early first

abbrev pub page_then : Bool → Option ℕ → Option ℕ → Option ℕ
page_then over first second = if over then second else first

-- that which an operation needs after these events
abbrev pub needs_then : (Events → Bool) → (Events → Option ℕ) → (Events → Option ℕ) → Events → Option ℕ
needs_then over first second events = page_then (over (first_part over events)) (first (first_part over events)) (second (second_part over events))

-- ---- what a reply makes of it, and a page that isn't there

abbrev pub after_then : {A B : Type 0} → Bool → (A → Reply → A) → (B → Reply → B) → Then A B → Reply → Then A B
after_then over first second it reply =
    if over then record { first = it.first; second = second it.second reply } else record { first = first it.first reply; second = it.second }

abbrev pub lacking_then : {A B : Type 0} → Bool → (A → ℕ → A) → (B → ℕ → B) → Then A B → ℕ → Then A B
lacking_then over first second it number =
    if over then record { first = it.first; second = second it.second number } else record { first = first it.first number; second = it.second }

-- ---- how it ends

-- the first ended so that the second follows
pub record HasPassed {E : Type 0} (over : Events → Bool) (passes : E → Bool) (Ends : Events → E → Type 0) (events : Events) : Type 0 where
  pub end : E
  pub passed : passes end ≡ true
  pub ended : Ends (first_part over events) end

-- the first ended otherwise, or the second ended
abbrev pub EndsThen : {E F : Type 0} → (Events → Bool) → (E → Bool) → (Events → E → Type 0) → (Events → F → Type 0) → Events → Sequel E F → Type 0
EndsThen over passes First Second events (Early end) = (passes end ≡ false) × (second_part over events ≡ []) × First (first_part over events) end
EndsThen over passes First Second events (Late end) = HasPassed over passes First events × Second (second_part over events) end

abbrev pub GoesOnThen : {E : Type 0} → (Events → Bool) → (E → Bool) → (Events → E → Type 0) → (Events → Type 0) → (Events → Type 0) → Events → Type 0
GoesOnThen over passes Ended First Second events =
    ((second_part over events ≡ []) × First (first_part over events)) ⊎ (HasPassed over passes Ended events × Second (second_part over events))
