-- What a conversation is carried out by on a bus that keeps a list of its steps, where time passes by itself.
use Rattle.std.proofs.Common.{◌≡◌, List, [], ◌∷◌, reverse, sym, subst}
use Rattle.std.proofs.lemmas.List.{reverse-append}
use Rattle.bus_model.specs.declared.bus.BusFault.{BusFault}
use Rattle.bus_model.specs.declared.operation.Step.{Step}
use Rattle.bus_model.specs.Runs.{Ran, Rules, Seen}
use Rattle.bus_model.proofs.RunLaws.{ran_none, ran_on}
use Rattle.conversations.specs.declared.event.Event.TheVariants.{Asked, Lacked, Made, Waited}
use Rattle.conversations.specs.Carried.{FillsUp, Happens, MakesStep, StaysSame}
use Rattle.conversations.specs.Events.{Events, steps_of}

module _ {B S : Type 0} (rules : Rules S) (seen : B → Seen S) where
  ran_more : (old mid new : Seen S) (history : List Step) (step : Step) → Ran rules old mid (reverse history) → Ran rules mid new (step ∷ []) → Ran rules old new (reverse (step ∷ history))
  ran_more old mid new history step before later = subst (Ran rules old new) (sym (reverse-append (step ∷ []) history)) (ran_on before later)

  -- its transactions are the steps of the events
  pub ran_by : (old new : B) (events : Events) → Happens (MakesStep rules seen) StaysSame old new events → Ran rules (seen old) (seen new) (reverse (steps_of events))
  ran_by old new [] same = subst (λ (now : B). Ran rules (seen old) (seen now) []) same (ran_none (seen old))
  ran_by old new (Made step ∷ before) (mid, happens, made) = ran_more (seen old) (seen mid) (seen new) (steps_of before) step (ran_by old mid before happens) made
  ran_by old new (Waited time ∷ before) (mid, happens, same) = subst (λ (now : B). Ran rules (seen old) (seen now) (reverse (steps_of before))) same (ran_by old mid before happens)
  ran_by old new (Lacked page ∷ before) none = absurd none
  ran_by old new (Asked number ∷ before) none = absurd none

  -- up to where it ended
  pub ran_to_end : (old last new : B) (events : Events) → Happens (MakesStep rules seen) StaysSame old last events → last ≡ new → Ran rules (seen old) (seen new) (reverse (steps_of events))
  ran_to_end old last new events happens same = subst (λ (now : B). Ran rules (seen old) (seen now) (reverse (steps_of events))) same (ran_by old last events happens)

  -- or where the list was full
  pub ran_to_full : (old last new : B) (events : Events) (fault : BusFault) → Happens (MakesStep rules seen) StaysSame old last events → FillsUp seen last fault new → Ran rules (seen old) (seen new) (reverse (steps_of events))
  ran_to_full old last new events fault happens (is, full, same) = subst (λ (now : Seen S). Ran rules (seen old) now (reverse (steps_of events))) (sym same) (ran_by old last events happens)
