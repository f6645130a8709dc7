-- Waking a module up and putting it to sleep: each stage makes the steps that it may, and the answer is the outcome's.
use Rattle.std.proofs.Common.{nat_lt, false, true, if◌then◌else◌, ◌≡◌, ◌≢◌, ℕ, ◌<◌, ◌≤◌, Bool, List, [], ◌∷◌, length, Option, Some, None, Ok, Err, IfOk, arith, refl, sym, subst, ap, inl, inr, ◌∙◌}
use Rattle.std.proofs.lemmas.Bool.{ltb-false}
use Rattle.arrayvec.specs.ArrayVec.{ArrayVec}
use Rattle.bus_model.specs.declared.bus.BusFault.{BusFault}
use Rattle.bus_model.specs.declared.bus.BusFault.TheVariants.{TraceFull}
use Rattle.bus_model.specs.declared.operation.Op.{Op}
use Rattle.bus_model.specs.declared.operation.Reply.{Reply}
use Rattle.bus_model.specs.declared.operation.Reply.TheVariants.{Bytes}
use Rattle.bus_model.specs.declared.operation.Step.{Step}
use Rattle.bus_model.specs.Operations.{Answers}
use Rattle.module_states.specs.declared.state.ModuleState.TheVariants.{Fault, LowPwr, Ready}
use Rattle.module_states.specs.declared.state.ModuleState.{ModuleState as State}
use Rattle.module_states.specs.Codes.{state_at}
use Rattle.control_sets.specs.declared.fault.ProvisionFault.{ProvisionFault}
use Rattle.control_sets.specs.declared.fault.ProvisionFault.TheVariants.{GaveUp, Bus, ModuleState, Reserved}
use Rattle.control_sets.specs.declared.procedures.judgement.ReplyJudgement.TheVariants.{Met, NotYet, Fails}
use Rattle.conversations.specs.declared.next.Next.{Next}
use Rattle.conversations.specs.declared.next.Next.TheVariants.{Do, End}
use Rattle.conversations.specs.declared.within.Spent.{Spent}
use Rattle.conversations.specs.declared.within.Within.{Within}
use Rattle.conversations.specs.Budgets.{HasEnded, HasSpent, next_within}
use Rattle.conversations.specs.Events.{Events, steps_of}
use Rattle.control_sets.specs.declared.procedures.power.Power.{Power}
use Rattle.control_sets.specs.declared.procedures.power.Power.TheVariants.{Awake, Asleep}
use Rattle.control_sets.specs.declared.procedures.power.PowerChange.{PowerChange}
use Rattle.control_sets.specs.declared.procedures.power.PowerStage.{PowerStage}
use Rattle.control_sets.specs.declared.procedures.power.PowerStage.TheVariants as stage
use Rattle.control_sets.specs.Pages.{History}
use Rattle.control_sets.specs.OutcomeSteps.{Gives, IsAnswered, Stands}
use Rattle.control_sets.specs.OutcomeOperations.{read_module_state}
use Rattle.control_sets.specs.OutcomeCodes.{module_code}
use Rattle.control_sets.specs.OutcomeAnswers.{Answer, most_steps}
use Rattle.control_sets.specs.OutcomeOfProvisioning.{IsStore}
use Rattle.control_sets.specs.OutcomeOfPower.{EndsPower, IsPowerChange, IsPowerOrder, IsTaken}
use Rattle.control_sets.specs.PowerControls.{read_controls, set_controls, wanted_controls, wanted_state}
use Rattle.paged_memory.proofs.KnownPageLaws.{step_of}
use Rattle.control_sets.proofs.OutcomeWords.{items_in}
use Rattle.control_sets.specs.PowerProgress.{GoesOnAt, HasComeTo, IsAtStage, IsEnded, IsEndedIn, IsFound, IsPowerAt, IsStored, IsUnread, answer_at, answer_of, judged_power, judged_state, operation_at, power_wants, wants_by}

-- ---- operations differ

state_is_other : read_controls ≢ read_module_state
state_is_other e = absurd cc

pub store_is_other : (byte : ℕ) → set_controls byte ≢ read_controls
store_is_other byte e = absurd cc

pub store_is_no_state : (byte : ℕ) → set_controls byte ≢ read_module_state
store_is_no_state byte e = absurd cc

-- ---- the order of the steps, by the newest

module _ (step : Step) (before : History) (order : IsPowerOrder before) where
  order_controls : step.op ≡ read_controls → ¬ (Stands (IsAnswered read_controls) before) → IsPowerOrder (step ∷ before)
  order_controls is none = record {
    controls = (λ _. none, order.controls);
    stores = (λ store. absurd (subst IsStore is store), order.stores);
    states = (λ e. absurd (state_is_other (sym is ∙ e)), order.states);
  }

  order_store : (byte : ℕ) → step.op ≡ set_controls byte → ¬ (Stands IsTaken before) → IsPowerOrder (step ∷ before)
  order_store byte is none = record {
    controls = (λ e. absurd (store_is_other byte (sym is ∙ e)), order.controls);
    stores = (λ _. none, order.stores);
    states = (λ e. absurd (store_is_no_state byte (sym is ∙ e)), order.states);
  }

  order_state : step.op ≡ read_module_state → Stands IsTaken before → IsPowerOrder (step ∷ before)
  order_state is stored = record {
    controls = (λ e. absurd (state_is_other (sym e ∙ is)), order.controls);
    stores = (λ store. absurd (subst IsStore is store), order.stores);
    states = (λ _. stored, order.states);
  }

module _ (power : Power) where
  -- only a read of the state ends anything
  reads_state : (answer : Answer) (step : Step) → EndsPower power answer step → step.op ≡ read_module_state
  reads_state (Ok steps) step (bytes, (is, gave), holds) = is
  reads_state (Err (ModuleState code)) step (bytes, (is, gave), holds) = is
  reads_state (Err (Reserved code)) step (bytes, (is, gave), holds) = is
  reads_state (Err _) step ends = absurd ends

  -- ---- the steps that may be made, the newest of which is of one kind or another

  reads_controls : (step : Step) (before : History) → GoesOnAt power before → step.op ≡ read_controls → ¬ (Stands (IsAnswered read_controls) before) → GoesOnAt power (step ∷ before)
  reads_controls step before on is none = record {
    shape = (inl is, on.shape);
    order = order_controls step before on.order is none;
    none = (λ answer ends. state_is_other (sym is ∙ reads_state answer step ends), on.none);
  }

  stores : (step : Step) (before : History) (byte : ℕ) → GoesOnAt power before → step.op ≡ set_controls (wanted_controls power byte) → Stands (Gives read_controls (byte ∷ [])) before → ¬ (Stands IsTaken before) → GoesOnAt power (step ∷ before)
  stores step before byte on is found none = record {
    shape = (inr (inl (byte, is, found)), on.shape);
    order = order_store step before on.order (wanted_controls power byte) is none;
    none = (λ answer ends. store_is_no_state (wanted_controls power byte) (sym is ∙ reads_state answer step ends), on.none);
  }

  -- ---- before the controls were read

  unread_unanswered : (history : History) → IsUnread history → ¬ (Stands (IsAnswered read_controls) history)
  unread_unanswered [] unread stands = stands
  unread_unanswered (step ∷ before) (refused, unread) (inl (bytes, (is, gave), holds)) = let e = sym refused.1 ∙ gave in absurd cc
  unread_unanswered (step ∷ before) (refused, unread) (inr stands) = unread_unanswered before unread stands

  unread_untaken : (history : History) → IsUnread history → ¬ (Stands IsTaken history)
  unread_untaken [] unread stands = stands
  unread_untaken (step ∷ before) (refused, unread) (inl taken) = subst IsStore refused.0 taken.0
  unread_untaken (step ∷ before) (refused, unread) (inr stands) = unread_untaken before unread stands

  unread_goes_on : (history : History) → IsUnread history → GoesOnAt power history
  unread_goes_on [] unread = record { shape = tt; order = record { controls = tt; stores = tt; states = tt }; none = tt }
  unread_goes_on (step ∷ before) (refused, unread) = reads_controls step before (unread_goes_on before unread) refused.0 (unread_unanswered before unread)

  -- ---- before they were stored

  found_gives : (byte : ℕ) (history : History) → IsFound power byte history → Stands (Gives read_controls (byte ∷ [])) history
  found_gives byte [] found = absurd found
  found_gives byte (step ∷ before) (inl (refused, found)) = inr (found_gives byte before found)
  found_gives byte (step ∷ before) (inr (gives, unread)) = inl gives

  found_untaken : (byte : ℕ) (history : History) → IsFound power byte history → ¬ (Stands IsTaken history)
  found_untaken byte [] found stands = stands
  found_untaken byte (step ∷ before) (inl (refused, found)) (inl (store, done)) = let e = sym refused.1 ∙ done in absurd cc
  found_untaken byte (step ∷ before) (inl (refused, found)) (inr stands) = found_untaken byte before found stands
  found_untaken byte (step ∷ before) (inr (gives, unread)) (inl taken) = subst IsStore gives.0 taken.0
  found_untaken byte (step ∷ before) (inr (gives, unread)) (inr stands) = unread_untaken before unread stands

  found_goes_on : (byte : ℕ) (history : History) → IsFound power byte history → GoesOnAt power history
  found_goes_on byte [] found = absurd found
  found_goes_on byte (step ∷ before) (inl (refused, found)) = stores step before byte (found_goes_on byte before found) refused.0 (found_gives byte before found) (found_untaken byte before found)
  found_goes_on byte (step ∷ before) (inr (gives, unread)) = reads_controls step before (unread_goes_on before unread) gives.0 (unread_unanswered before unread)

  -- ---- while the state is awaited

  stored_taken : (history : History) → IsStored power history → Stands IsTaken history
  stored_taken [] stored = absurd stored
  stored_taken (step ∷ before) (inl (waits, stored)) = inr (stored_taken before stored)
  stored_taken (step ∷ before) (inr (byte, accepted, found)) = inl (subst IsStore (sym accepted.0) tt, accepted.1)

  stored_goes_on : (history : History) → IsStored power history → GoesOnAt power history
  stored_goes_on [] stored = absurd stored
  stored_goes_on (step ∷ before) (inl (waits, stored)) =
      let on = stored_goes_on before stored in
      record { shape = (inr (inr waits.0), on.shape); order = order_state step before on.order waits.0 (stored_taken before stored); none = (waits.1, on.none) }
  stored_goes_on (step ∷ before) (inr (byte, accepted, found)) = stores step before byte (found_goes_on byte before found) accepted.0 (found_gives byte before found) (found_untaken byte before found)

  -- ---- the end

  pub ended_is_change : (full : Type 0) (history : History) (answer : Answer) → IsEnded power answer history → length history ≤ most_steps
      → ((steps : ℕ) → answer ≡ Ok steps → steps ≡ length history) → IsPowerChange power full history answer
  ended_is_change full [] answer ended few counted = absurd ended
  ended_is_change full (step ∷ before) answer (ends, is, stored) few counted =
      let on = stored_goes_on before stored in
      record {
        shape = (inr (inr is), on.shape);
        order = order_state step before on.order is (stored_taken before stored);
        answered = record {
          at_most = few;
          counted = counts answer counted;
          answered = inl (record { last = step; before = before; split = refl; ends = ends; first = on.none });
        };
      }
    where
      counts : (a : Answer) → ((steps : ℕ) → a ≡ Ok steps → steps ≡ length (step ∷ before)) → IfOk a (λ steps. steps ≡ length (step ∷ before))
      counts (Ok steps) c = c steps refl
      counts (Err fault) c = tt

  pub goes_on : (now : PowerStage) (history : History) (op : Op) → operation_at power now ≡ Some op → IsAtStage power now history → GoesOnAt power history
  goes_on stage.Unread history op is at = unread_goes_on history at
  goes_on (stage.Found byte) history op is at = found_goes_on byte history at
  goes_on stage.Stored history op is at = stored_goes_on history at
  goes_on stage.Met history op is at = absurd cc

  pub gives_up : (full : Type 0) (history : History) → GoesOnAt power history → length history ≡ most_steps → IsPowerChange power full history (Err GaveUp)
  gives_up full history on all = record {
    shape = on.shape;
    order = on.order;
    answered = record { at_most = omega (arith, all); counted = tt; answered = inr (inl (record { fault = refl; all = all; none = on.none })) };
  }

-- ---- what a conversation that was carried out is

pub ended_is : (power : Power) (full : Type 0) (steps : ℕ) (events : Events) (end : Option (Option ProvisionFault)) → steps ≡ length (steps_of events) → length (steps_of events) ≤ most_steps
    → HasEnded most_steps (λ events. GoesOnAt power (steps_of events)) (λ events fault. IsEndedIn power fault (steps_of events)) events end → IsPowerChange power full (steps_of events) (answer_at steps end)
ended_is power full steps events None counted few ended = gives_up power full (steps_of events) ended.1 ended.0
ended_is power full steps events (Some None) counted few ended =
    subst (λ n. IsPowerChange power full (steps_of events) (Ok n)) (sym counted) (ended_is_change power full (steps_of events) (Ok (length (steps_of events))) ended few (λ n e. cc))
ended_is power full steps events (Some (Some fault)) counted few ended = ended_is_change power full (steps_of events) (Err fault) ended few (λ n e. absurd cc)

pub spent_is : (power : Power) (full : Type 0) (events : Events) (spent : Spent (Option ProvisionFault))
    → HasSpent most_steps (λ events. GoesOnAt power (steps_of events)) (λ events fault. IsEndedIn power fault (steps_of events)) events spent → IsPowerChange power full (steps_of events) (answer_of spent)
spent_is power full events spent has = ended_is power full spent.steps events spent.end has.counted has.few has.ended

-- a bus that is full before the end
pub fills_by : (power : Power) (full : Type 0) (history : History) (fault : BusFault) → fault ≡ TraceFull → GoesOnAt power history → length history < most_steps → full
    → IsPowerChange power full history (Err (Bus fault))
fills_by power full history fault is on fewer is_full = record {
  shape = on.shape;
  order = on.order;
  answered = record {
    at_most = omega (arith, fewer);
    counted = tt;
    answered = inr (inr (record { fault = ap (λ (f : BusFault). Err (Bus f)) is; is_full = is_full; fewer = fewer; none = on.none }));
  };
}

-- a conversation that was driven by hand
pub driven_is : (within : Within PowerChange) (full : Type 0) (history : History) (spent : Spent (Option ProvisionFault)) → IsPowerAt history within
    → next_within within.steps within.limit (power_wants within.conversation) ≡ End spent → IsPowerChange within.conversation.power full history (answer_of spent)
driven_is within full history spent at asks =
    go within.conversation.power within.conversation.stage within.conversation.fault within.steps within.limit at.limit at.counted at.few at.come asks
  where
    gives : (power : Power) (now : PowerStage) (steps limit : ℕ) (op : Op) → limit ≡ most_steps → length history ≡ steps → steps ≤ most_steps → operation_at power now ≡ Some op
        → IsAtStage power now history → next_within {E = Option ProvisionFault} steps limit (Do op) ≡ End spent → IsPowerChange power full history (answer_of spent)
    gives power now steps limit op most counted few wanted at asks = by (nat_lt steps limit) refl asks where
      by : (fewer : Bool) → nat_lt steps limit ≡ fewer → ◌≡◌ {A = Next (Spent (Option ProvisionFault))} (if fewer then Do op else End (record { steps = steps; end = None })) (End spent) → IsPowerChange power full history (answer_of spent)
      by true fewer asks = absurd cc
      by false all asks =
          let gave : Spent (Option ProvisionFault) = record { steps = steps; end = None } in
          let same : gave ≡ spent = cc in
          subst (λ (s : Spent (Option ProvisionFault)). IsPowerChange power full history (answer_of s)) same
          (gives_up power full history (goes_on power now history op wanted at) (omega (arith, counted, few, most, ltb-false steps limit all)))

    go : (power : Power) (now : PowerStage) (fault : Option ProvisionFault) (steps limit : ℕ) → limit ≡ most_steps → length history ≡ steps → steps ≤ most_steps
        → HasComeTo power now fault history → next_within steps limit (wants_by fault (operation_at power now)) ≡ End spent → IsPowerChange power full history (answer_of spent)
    go power now (Some fault) steps limit most counted few come asks =
        let ended : Spent (Option ProvisionFault) = record { steps = steps; end = Some (Some fault) } in
        let same : ended ≡ spent = cc in
        subst (λ (s : Spent (Option ProvisionFault)). IsPowerChange power full history (answer_of s)) same
        (ended_is_change power full history (Err fault) come (omega (arith, counted, few)) (λ n e. absurd cc))
    go power stage.Met None steps limit most counted few come asks =
        let ended : Spent (Option ProvisionFault) = record { steps = steps; end = Some None } in
        let same : ended ≡ spent = cc in
        subst (λ (s : Spent (Option ProvisionFault)). IsPowerChange power full history (answer_of s)) same
        (subst (λ n. IsPowerChange power full history (Ok n)) counted (ended_is_change power full history (Ok (length history)) come (omega (arith, counted, few)) (λ n e. cc)))
    go power now None steps limit most counted few come asks = gives power now steps limit _ most counted few refl come asks

-- ---- what the state says

says : (power : Power) (code : ℕ) (found : Option State) → state_at code ≡ found → judged_power power code ≡ judged_state code found power
says power code found e = ap (λ (found : Option State). judged_state code found power) e

wanted_says : (power : Power) (code : ℕ) → state_at code ≡ Some (wanted_state power) → judged_power power code ≡ Met
wanted_says Awake code e = says Awake code (Some Ready) e
wanted_says Asleep code e = says Asleep code (Some LowPwr) e

-- ---- one step more

-- the code that a step with these bytes ends in
same_code : (op : Op) (read : Reply) (bytes : List ℕ) → read ≡ Bytes (record { items = bytes }) → module_code (items_in read) ≡ module_code bytes
same_code op read bytes gave = ap (λ r. module_code (items_in r)) gave

pub waits : (power : Power) (op : Op) (read : Reply) → judged_power power (module_code (items_in read)) ≡ NotYet → (answer : Answer) → ¬ (EndsPower power answer (step_of op read))
waits power op read not_yet (Ok steps) (bytes, (is, gave), holds) =
    let met = wanted_says power (module_code bytes) holds in
    let same = ap (judged_power power) (same_code op read bytes gave) in
    let no : NotYet ≡ Met = sym not_yet ∙ same ∙ met in absurd cc
waits power op read not_yet (Err (ModuleState code)) (bytes, (is, gave), (coded, holds)) =
    let fails = says power code (Some Fault) holds in
    let same = ap (judged_power power) (same_code op read bytes gave ∙ sym coded) in
    let no : NotYet ≡ Fails (ModuleState code) = sym not_yet ∙ same ∙ fails in absurd cc
waits power op read not_yet (Err (Reserved code)) (bytes, (is, gave), (coded, holds)) =
    let fails = says power code None holds in
    let same = ap (judged_power power) (same_code op read bytes gave ∙ sym coded) in
    let no : NotYet ≡ Fails (Reserved code) = sym not_yet ∙ same ∙ fails in absurd cc
waits power op read not_yet (Err _) ends = ends

-- a reply to a fetch of one byte
pub one_of_controls : (power : Power) (now : PowerStage) (read : Reply) (bytes : ArrayVec ℕ) → now ≡ stage.Unread → read ≡ Bytes bytes
    → ((op : Op) → operation_at power now ≡ Some op → Answers op read) → length bytes.items ≡ 1
one_of_controls power now read bytes is reads fits = subst (λ r. Answers read_controls r) reads (fits read_controls (ap (operation_at power) is))

pub one_of_state : (power : Power) (now : PowerStage) (read : Reply) (bytes : ArrayVec ℕ) → now ≡ stage.Stored → read ≡ Bytes bytes
    → ((op : Op) → operation_at power now ≡ Some op → Answers op read) → length bytes.items ≡ 1
one_of_state power now read bytes is reads fits = subst (λ r. Answers read_module_state r) reads (fits read_module_state (ap (operation_at power) is))
