-- What was read last on a page is what the conversation's own steps read last.
use Rattle.std.proofs.Common.{◌≡◌, ℕ, ◌&&◌, Bool, true, false, List, [], ◌∷◌, ◌++◌, Option, Some, None, refl, sym, ap, subst, ◌∙◌, inl, inr, if◌then◌else◌}
use Rattle.bus_model.specs.declared.operation.Op.{Op}
use Rattle.bus_model.specs.declared.operation.Step.{Step}
use Rattle.bus_model.specs.SameOperation.{same_op}
use Rattle.conversations.specs.declared.event.Event.{Event}
use Rattle.conversations.specs.declared.event.Event.TheVariants.{Made, Waited, Lacked, Asked}
use Rattle.conversations.specs.Events.{Events, steps_of}
use Rattle.conversations.specs.Selecting.{AddsSelections, IsSelecting, trusted}
use Rattle.conversations.specs.Selecting as selecting
use Rattle.paged_memory.specs.declared.page_addressing.PageAddressing.TheVariants.{BankAndPage}
use Rattle.control_sets.specs.Pages.{History, is_page_confirmed, read_selection, selection}
use Rattle.control_sets.proofs.Doubts.{on_all}
use Rattle.explicit_provisioning.specs.Following.{first_part, needs_then, page_then, second_part}
use Rattle.explicit_provisioning.specs.LastReads.{bytes_or, is_change, last_read}

-- whatever page was selected
abbrev pub last_given : Op → History → Option (List ℕ)
last_given op [] = None
last_given op (step ∷ before) = if same_op op step.op then bytes_or (last_given op before) step.reply else (if is_change step.op then None else last_given op before)

-- each time that the operation was made, the page was confirmed
abbrev pub EachOn : ℕ → Op → History → Type 0
EachOn page op [] = Unit {0}
EachOn page op (step ∷ before) = (same_op op step.op ≡ true → is_page_confirmed page before ≡ true) × EachOn page op before

-- each time that the operation is made, that page is needed
abbrev pub AreOn : ℕ → Op → (Events → Option ℕ) → Events → Type 0
AreOn page op needs [] = Unit {0}
AreOn page op needs (Made step ∷ before) = (same_op op step.op ≡ true → needs before ≡ Some page) × AreOn page op needs before
AreOn page op needs (Waited time ∷ before) = AreOn page op needs before
AreOn page op needs (Lacked number ∷ before) = AreOn page op needs before
AreOn page op needs (Asked number ∷ before) = AreOn page op needs before

module _ (page : ℕ) (op : Op) (no_read_back : same_op op read_selection ≡ false) (no_selection : (number : ℕ) → same_op op (selection number) ≡ false) where
  -- a selection is another operation, and changes nothing
  selects_other : (needed : Option ℕ) (other : Op) (before : History) → IsSelecting BankAndPage needed other before → (same_op op other ≡ false) × (is_change other ≡ false)
  selects_other needed other before (inl (awaited, is)) = (ap (same_op op) is ∙ no_read_back, ap is_change is)
  selects_other needed other before (inr (closed, (number, asked, unconfirmed, is))) = (ap (same_op op) is ∙ no_selection number, ap is_change is)

  skips : (step : Step) (before : History) → (same_op op step.op ≡ false) × (is_change step.op ≡ false) → last_read page op (step ∷ before) ≡ last_read page op before
  skips step before (other, still) =
      ap (λ (b : Bool). if b && is_page_confirmed page before then bytes_or (last_read page op before) step.reply else (if is_change step.op then None else last_read page op before)) other
      ∙ ap (λ (b : Bool). if b then None else last_read page op before) still

  module _ (needs : Events → Option ℕ) where
    confirmed : (needed : Option ℕ) (history : History) → needed ≡ Some page → selecting.is_on BankAndPage needed (trusted true history) ≡ true → is_page_confirmed page history ≡ true
    confirmed needed history is on = on_all true (Some page) history (subst (λ (n : Option ℕ). selecting.is_on BankAndPage n (trusted true history) ≡ true) is on)

    own_step : (step : Step) (earlier before : Events) (b : Bool) → same_op op step.op ≡ b → (b ≡ true → needs earlier ≡ Some page)
        → selecting.is_on BankAndPage (needs earlier) (trusted true (steps_of before)) ≡ true → last_read page op (steps_of before) ≡ last_given op (steps_of earlier)
        → (if b && is_page_confirmed page (steps_of before) then bytes_or (last_read page op (steps_of before)) step.reply else (if is_change step.op then None else last_read page op (steps_of before)))
        ≡ (if b then bytes_or (last_given op (steps_of earlier)) step.reply else (if is_change step.op then None else last_given op (steps_of earlier)))
    own_step step earlier before true is needed on same =
        ap (λ (c : Bool). if c then bytes_or (last_read page op (steps_of before)) step.reply else (if is_change step.op then None else last_read page op (steps_of before)))
        (confirmed (needs earlier) (steps_of before) (needed refl) on) ∙ ap (λ (o : Option (List ℕ)). bytes_or o step.reply) same
    own_step step earlier before false is needed on same = ap (λ (o : Option (List ℕ)). if is_change step.op then None else o) same

    at_step : (step : Step) (earlier before : Events) → (same_op op step.op ≡ true → needs earlier ≡ Some page)
        → selecting.is_on BankAndPage (needs earlier) (trusted true (steps_of before)) ≡ true → last_read page op (steps_of before) ≡ last_given op (steps_of earlier)
        → last_read page op (step ∷ steps_of before) ≡ last_given op (step ∷ steps_of earlier)
    at_step step earlier before needed on same = own_step step earlier before (same_op op step.op) refl needed on same ∙ refl

    pub same_read : (own events : Events) → AddsSelections true false BankAndPage needs own events → AreOn page op needs own → last_read page op (steps_of events) ≡ last_given op (steps_of own)
    same_read own [] adds are = sym (ap (λ (e : Events). last_given op (steps_of e)) adds)
    same_read own (Made step ∷ before) (inl (selects, lacks, answers, adds)) are =
        skips step (steps_of before) (selects_other (needs own) step.op (trusted true (steps_of before)) selects) ∙ same_read own before adds are
    same_read own (Made step ∷ before) (inr (inl (earlier, is, closed, on, adds))) are =
        let now = subst (AreOn page op needs) is are in
        at_step step earlier before now.0 on (same_read earlier before adds now.1) ∙ sym (ap (λ (e : Events). last_given op (steps_of e)) is)
    same_read own (Made step ∷ before) (inr (inr (number, earlier, is, may, needed, shows, answers, adds))) are = absurd cc
    same_read own (Waited time ∷ before) (earlier, is, adds) are = same_read earlier before adds (subst (AreOn page op needs) is are) ∙ sym (ap (λ (e : Events). last_given op (steps_of e)) is)
    same_read own (Lacked number ∷ before) adds are = absurd adds
    same_read own (Asked number ∷ before) (earlier, is, adds) are = same_read earlier before adds (subst (AreOn page op needs) is are) ∙ sym (ap (λ (e : Events). last_given op (steps_of e)) is)

    pub each_on : (own events : Events) → AddsSelections true false BankAndPage needs own events → AreOn page op needs own → EachOn page op (steps_of events)
    each_on own [] adds are = tt
    each_on own (Made step ∷ before) (inl (selects, lacks, answers, adds)) are =
        (λ same. let (other, still) = selects_other (needs own) step.op (trusted true (steps_of before)) selects in absurd cc, each_on own before adds are)
    each_on own (Made step ∷ before) (inr (inl (earlier, is, closed, on, adds))) are =
        let now = subst (AreOn page op needs) is are in
        (λ same. confirmed (needs earlier) (steps_of before) (now.0 same) on, each_on earlier before adds now.1)
    each_on own (Made step ∷ before) (inr (inr (number, earlier, is, may, needed, shows, answers, adds))) are = absurd cc
    each_on own (Waited time ∷ before) (earlier, is, adds) are = each_on earlier before adds (subst (AreOn page op needs) is are)
    each_on own (Lacked number ∷ before) adds are = absurd adds
    each_on own (Asked number ∷ before) (earlier, is, adds) are = each_on earlier before adds (subst (AreOn page op needs) is are)

module _ (page : ℕ) (op : Op) (over : Events → Bool) (first second : Events → Option ℕ) where
  -- in two conversations, where it is so in each
  module _ (step : Step) (before : Events) (earlier : AreOn page op first (first_part over before) → AreOn page op second (second_part over before) → AreOn page op (needs_then over first second) before) where
    made_by : (b : Bool) → over (first_part over before) ≡ b → AreOn page op first (if b then first_part over before else Made step ∷ first_part over before)
        → AreOn page op second (if b then Made step ∷ second_part over before else second_part over before) → AreOn page op (needs_then over first second) (Made step ∷ before)
    made_by true is one other = (λ same. ap (λ (b : Bool). page_then b (first (first_part over before)) (second (second_part over before))) is ∙ other.0 same, earlier one other.1)
    made_by false is one other = (λ same. ap (λ (b : Bool). page_then b (first (first_part over before)) (second (second_part over before))) is ∙ one.0 same, earlier one.1 other)

  -- another event says nothing
  module _ (event : Event) (before : Events) (apart : (needs : Events → Option ℕ) (events : Events) → AreOn page op needs (event ∷ events) → AreOn page op needs events)
      (earlier : AreOn page op first (first_part over before) → AreOn page op second (second_part over before) → AreOn page op (needs_then over first second) before) where
    other_by : (b : Bool) → over (first_part over before) ≡ b → AreOn page op first (if b then first_part over before else event ∷ first_part over before)
        → AreOn page op second (if b then event ∷ second_part over before else second_part over before) → AreOn page op (needs_then over first second) before
    other_by true is one other = earlier one (apart second (second_part over before) other)
    other_by false is one other = earlier (apart first (first_part over before) one) other

  pub on_both : (events : Events) → AreOn page op first (first_part over events) → AreOn page op second (second_part over events) → AreOn page op (needs_then over first second) events
  on_both [] one other = tt
  on_both (Made step ∷ before) one other = made_by step before (on_both before) (over (first_part over before)) refl one other
  on_both (Waited time ∷ before) one other = other_by (Waited time) before (λ needs events are. are) (on_both before) (over (first_part over before)) refl one other
  on_both (Lacked number ∷ before) one other = other_by (Lacked number) before (λ needs events are. are) (on_both before) (over (first_part over before)) refl one other
  on_both (Asked number ∷ before) one other = other_by (Asked number) before (λ needs events are. are) (on_both before) (over (first_part over before)) refl one other
