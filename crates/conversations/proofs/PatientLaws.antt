-- A conversation with pauses, of so many operations at most: what a wait is that it wants, and what a reply is one to.
use Rattle.std.proofs.Common.{◌≡◌, ◌≢◌, ◌≤◌, ◌<◌, ◌+◌, ℕ, Bool, true, false, ◌∷◌, Some, None, refl, ap, sym, subst, inl, if◌then◌else◌, nat_lt}
use Rattle.std.proofs.lemmas.Bool.{ltb-false, ltb-true}
use Rattle.bus_model.specs.declared.operation.Op.{Op}
use Rattle.bus_model.specs.declared.operation.Reply.{Reply}
use Rattle.bus_model.specs.Operations.{Answers}
use Rattle.conversations.specs.declared.event.Event.TheVariants.{Waited}
use Rattle.conversations.specs.declared.next.Next.{Next}
use Rattle.conversations.specs.declared.next.Next.TheVariants.{Do, Wait, End}
use Rattle.conversations.specs.declared.pausing.Timed.{Timed}
use Rattle.conversations.specs.declared.pausing.Timed.TheVariants.{Overdue}
use Rattle.conversations.specs.declared.within.Spent.{Spent}
use Rattle.conversations.specs.Budgets.{next_within}
use Rattle.conversations.specs.Events.{Events}
use Rattle.conversations.specs.Patiently.{Patient, ToldPatiently, paused, wants_patiently}
use Rattle.conversations.specs.Pauses.{AddsPauses, counted, next_pausing}
use Rattle.conversations.specs.Wanted.{IsReplyTo, op_of}

-- ---- a wait that is wanted is a pause that is due, where the conversation within never waits by itself

module _ {C E : Type 0} (wants : C → Next E) (told : Events → C → Type 0) (it : Patient C) (time : ℕ) where
  abbrev inner : C
  inner = it.conversation.conversation

  no_budget : (few : Bool) (op : Op) → ◌≡◌ {A = Next (Spent (Timed E))} (if few then Do op else End (record { steps = it.steps; end = None })) (Wait time) → ⊥
  no_budget true op waits = cc
  no_budget false op waits = cc

  by_patience : (beyond : Bool) → ◌≡◌ {A = Next (Spent (Timed E))} (next_within it.steps it.limit (if beyond then End Overdue else Wait it.conversation.patience.pause)) (Wait time) →
      (beyond ≡ false) × (time ≡ it.conversation.patience.pause)
  by_patience true waits = absurd cc
  by_patience false waits = let same : ◌≡◌ {A = Next (Spent (Timed E))} (Wait it.conversation.patience.pause) (Wait time) = waits in (refl, cc)

  due_by : (wanted : Next E) → ((t : ℕ) → wanted ≢ Wait t) → (due : Bool) → next_within it.steps it.limit (next_pausing due it.conversation.idle it.conversation.patience wanted) ≡ Wait time →
      (op : Op) × (wanted ≡ Do op) × (due ≡ true) × (it.conversation.idle ≤ it.conversation.patience.limit) × (time ≡ it.conversation.patience.pause)
  due_by (Wait other) never due waits = absurd (never other refl)
  due_by (End end) never due waits = absurd cc
  due_by (Do op) never false waits = absurd (no_budget (nat_lt it.steps it.limit) op waits)
  due_by (Do op) never true waits =
      let (within, same) = by_patience (nat_lt it.conversation.patience.limit it.conversation.idle) waits in
      (op, refl, refl, ltb-false it.conversation.patience.limit it.conversation.idle within, same)

  pub told_pause : ((t : ℕ) → wants inner ≢ Wait t) → wants_patiently wants it ≡ Wait time → (events : Events) → ToldPatiently wants told events it → ToldPatiently wants told (Waited time ∷ events) (paused it)
  told_pause never waits events ((own, adds, told_own), counted_steps, few) =
      let (op, wanted, due, patient, same) = due_by (wants inner) never it.conversation.due waits in
      let patience = it.conversation.patience in
      let adds_due : AddsPauses patience own events (op_of (wants inner)) true it.conversation.idle =
      subst (λ (d : Bool). AddsPauses patience own events (op_of (wants inner)) d it.conversation.idle) due adds in
      let is_op : op_of (wants inner) ≡ Some op = ap (λ (n : Next E). op_of n) wanted in
      let after : AddsPauses patience own (Waited time ∷ events) (op_of (wants inner)) false (counted (it.conversation.idle + patience.pause)) =
      inl (op, it.conversation.idle, is_op, adds_due, patient, same, refl, ap (λ (t : ℕ). counted (it.conversation.idle + t)) (sym same)) in
      ((own, after, told_own), counted_steps, few)

-- ---- a reply is one to an operation of the conversation within, and may be made

module _ {C E : Type 0} (wants : C → Next E) (it : Patient C) (reply : Reply) where
  few_by : (few : Bool) (op : Op) → nat_lt it.steps it.limit ≡ few → IsReplyTo {E = Spent (Timed E)} (if few then Do op else End (record { steps = it.steps; end = None })) reply →
      (it.steps < it.limit) × Answers op reply
  few_by true op is answers = (ltb-true it.steps it.limit is, answers)
  few_by false op is answers = absurd answers

  none_due : (beyond : Bool) → IsReplyTo {E = Spent (Timed E)} (next_within it.steps it.limit (if beyond then End Overdue else Wait it.conversation.patience.pause)) reply → ⊥
  none_due true answers = answers
  none_due false answers = answers

  made_by : (wanted : Next E) (due : Bool) → IsReplyTo (next_within it.steps it.limit (next_pausing due it.conversation.idle it.conversation.patience wanted)) reply →
      (it.steps < it.limit) × IsReplyTo wanted reply
  made_by (Do op) false answers = few_by (nat_lt it.steps it.limit) op refl answers
  made_by (Do op) true answers = absurd (none_due (nat_lt it.conversation.patience.limit it.conversation.idle) answers)
  made_by (Wait time) due answers = absurd answers
  made_by (End end) due answers = absurd answers

  pub made : IsReplyTo (wants_patiently wants it) reply → (it.steps < it.limit) × IsReplyTo (wants it.conversation.conversation) reply
  made answers = made_by (wants it.conversation.conversation) it.conversation.due answers
