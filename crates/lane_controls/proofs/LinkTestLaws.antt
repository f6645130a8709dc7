-- A link test keeps account of what it switched, step by step.
use Rattle.std.proofs.Common.{◌≡◌, ◌⊎◌, ℕ, ◌||◌, Bool, true, false, List, [], ◌∷◌, Option, Some, None, slice_get, refl, sym, ap, subst, inl, inr, ◌∙◌}
use Rattle.bus_model.specs.declared.operation.Reply.{Reply}
use Rattle.bus_model.specs.declared.operation.Step.{Step}
use Rattle.paged_memory.specs.PageAddressing.{History}
use Rattle.paged_memory.proofs.KnownPageLaws.{step_of}
use Rattle.lane_controls.specs.declared.test_plan.Change.{Change}
use Rattle.lane_controls.specs.declared.link_test.LinkTest.{LinkTest}
use Rattle.lane_controls.specs.declared.test_plan.TestPlan.{TestPlan}
use Rattle.lane_controls.specs.declared.link_test.TestStage.{TestStage}
use Rattle.lane_controls.specs.declared.test_plan.Switch.{Switch}
use Rattle.lane_controls.specs.ByteHistories.{last_read, read_at, store_at, stores_at}
use Rattle.lane_controls.specs.TestPlans.{address, restored, up_lanes}
use Rattle.lane_controls.specs.TestOperations.{is_among, is_of}
use Rattle.lane_controls.specs.LinkTests.{down_by, next_down, next_up, up_by}
use Rattle.lane_controls.specs.TestSteps.{AllMade, IsTestStep, WasMade}
use Rattle.lane_controls.specs.TestAccounts.{AllAccounted, IsControl}
use Rattle.lane_controls.proofs.TestInvariants.{AreKept, IsFresh, IsSound, KnowsUp, on_or_of}
use Rattle.lane_controls.proofs.ByteLaws.{itself}
use Rattle.lane_controls.proofs.ControlLaws.{within}
use Rattle.lane_controls.proofs.ElsewhereLaws.{IsAside, IsAt, differ, fetch_is_at, fresh_kept, change_kept, kept_step, read_aside, store_aside, store_is_at}
use Rattle.lane_controls.proofs.TestPlanLaws.{each_allowed, each_supported}

abbrev pub IsSoundTest : History → LinkTest → Type 0
IsSoundTest history test = IsSound test.stage history test

-- ---- names

pub or_right : (x y : Bool) → y ≡ true → (x || y) ≡ true
or_right true y e = refl
or_right false y e = e

or_left : (x y : Bool) → x ≡ true → (x || y) ≡ true
or_left x y e = ap (λ (b : Bool). b || y) e

pub or_assoc : (x y z : Bool) → ((x || y) || z) ≡ (x || (y || z))
or_assoc true y z = refl
or_assoc false y z = refl

pub or_swap : (x y z : Bool) → (x || (y || z)) ≡ true → (y || (x || z)) ≡ true
or_swap true true z e = refl
or_swap true false z e = refl
or_swap false true z e = refl
or_swap false false z e = e

or_rest : (x y : Bool) → x ≡ false → (x || y) ≡ true → y ≡ true
or_rest x y none e = sym (ap (λ (b : Bool). b || y) none) ∙ e

-- what is on or left
abbrev pub is_kept : LinkTest → ℕ → Bool
is_kept test a = is_among test.on.items a || is_among test.still_on.items a

pub named_more : (plan : TestPlan) (history : History) (named named' : ℕ → Bool) → ((a : ℕ) → named a ≡ true → named' a ≡ true) → AllAccounted plan history named → AllAccounted plan history named'
named_more plan history named named' gives all a control =
    elim (all a control) [
      | inl none ↦ inl none
      | inr is ↦ elim is [ inl n ↦ inr (inl (gives a n)) | inr back ↦ inr (inr back) ]
    ]

renamed : (plan : TestPlan) (history : History) (named named' : ℕ → Bool) (on left : List Change) → ((a : ℕ) → named a ≡ true → named' a ≡ true) → AreKept plan history named on left → AreKept plan history named' on left
renamed plan history named named' on left gives kept =
    record { steps = kept.steps; accounted = named_more plan history named named' gives kept.accounted; on_right = kept.on_right; left_right = kept.left_right }

-- ---- from one control to the next

module _ (history : History) where
  down_at : (on : List Change) (test : LinkTest) → test.on.items ≡ on → AreKept test.plan history (is_kept test) test.on.items test.still_on.items → IsSoundTest history (down_by on test)
  down_at [] test e kept = record { kept = kept; at = e }
  down_at (change ∷ on) test e kept =
      let right : AllMade test.plan history (change ∷ on) = subst (AllMade test.plan history) e kept.on_right in
      record {
        kept = record {
          steps = kept.steps;
          accounted = named_more test.plan history (is_kept test) (λ a. is_of a change || (is_among on a || is_among test.still_on.items a))
              (λ a n. sym (or_assoc (is_of a change) (is_among on a) (is_among test.still_on.items a)) ∙ ap (λ (l : List Change). is_among l a || is_among test.still_on.items a) (sym e) ∙ n) kept.accounted;
          on_right = right.1;
          left_right = kept.left_right;
        };
        at = right.0;
      }

  pub down_sound : (test : LinkTest) → AreKept test.plan history (is_kept test) test.on.items test.still_on.items → IsSoundTest history (next_down test)
  down_sound test kept = down_at test.on.items test refl kept

  -- what comes next isn't on
  abbrev pub IsClear : LinkTest → Type 0
  IsClear test = (switch : Switch) → slice_get test.plan.switches.items test.next_switch ≡ Some switch → is_among test.on.items (address switch) ≡ false

  up_at : (next : Option Switch) (test : LinkTest) → slice_get test.plan.switches.items test.next_switch ≡ next → IsClear test → KnowsUp history test → IsFresh history (is_among test.on.items)
      → AreKept test.plan history (is_kept test) test.on.items test.still_on.items → IsSoundTest history (up_by next test)
  up_at None test e clear knows fresh kept = record { kept = kept; at = knows }
  up_at (Some switch) test e clear knows fresh kept =
      let ((capabilities, seen, able), (states, read, none)) = knows in
      record {
        kept = kept;
        at = (
          record { knows = knows; fresh = fresh },
          (test.next_switch, e),
          (states, read, each_allowed test.plan (up_lanes states) test.next_switch switch none e),
          (capabilities, seen, each_supported capabilities test.plan test.next_switch switch able e),
          unstored (fresh (address switch) (within switch.control)) (clear switch e),
        );
      }
    where
      unstored : (stores_at (address switch) history ≡ 0) ⊎ (is_among test.on.items (address switch) ≡ true) → is_among test.on.items (address switch) ≡ false → stores_at (address switch) history ≡ 0
      unstored (inl none) lacks = none
      unstored (inr is) lacks = let t : true ≡ false = sym is ∙ lacks in absurd cc

  pub up_sound : (test : LinkTest) → IsClear test → KnowsUp history test → IsFresh history (is_among test.on.items) → AreKept test.plan history (is_kept test) test.on.items test.still_on.items → IsSoundTest history (next_up test)
  up_sound test clear knows fresh kept = up_at (slice_get test.plan.switches.items test.next_switch) test refl clear knows fresh kept

  -- what is known stays so after a step aside
  pub knows_aside : (test : LinkTest) (step : Step) → IsAside step history → KnowsUp history test → KnowsUp (step ∷ history) test
  knows_aside test step aside ((capabilities, seen, able), (states, read, none)) = ((capabilities, aside.capabilities ∙ seen, able), (states, aside.paths ∙ read, none))

-- ---- a step at each stage

is_control : (switch : Switch) → IsControl (address switch)
is_control switch = within switch.control

module _ (history : History) (test : LinkTest) where
  -- the byte that was read is at hand: it is named
  module _ (change : Change) (reply : Reply) where
    abbrev pub read_change : Step
    read_change = step_of (read_at (address change.switch)) reply

    at_read : IsAt (address change.switch) read_change history
    at_read = fetch_is_at (address change.switch) 1 reply history

    aside : IsAside read_change history
    aside = read_aside (address change.switch) reply history

    abbrev pub in_hand : ℕ → Bool
    in_hand a = is_of a change || is_kept test a

    here_named : in_hand (address change.switch) ≡ true
    here_named = or_left (is_of (address change.switch) change) (is_kept test (address change.switch)) (itself (address change.switch))

    pub read_in_hand : AreKept test.plan history in_hand test.on.items test.still_on.items → AreKept test.plan (read_change ∷ history) in_hand test.on.items test.still_on.items
    read_in_hand kept = kept_step test.plan history read_change aside (address change.switch) at_read in_hand in_hand (λ a apart n. n) test.on.items test.still_on.items (inl tt) (λ control. inr (inl here_named)) kept

    pub right_read : WasMade test.plan history change → WasMade test.plan (read_change ∷ history) change
    right_read right = change_kept test.plan history read_change aside change right

    pub knows_read : KnowsUp history test → KnowsUp (read_change ∷ history) test
    knows_read knows = knows_aside history test read_change aside knows

    pub fresh_read : IsFresh history (on_or_of test change) → IsFresh (read_change ∷ history) (on_or_of test change)
    fresh_read fresh =
        fresh_kept test.plan history read_change aside (address change.switch) at_read (on_or_of test change) (on_or_of test change) (λ a apart n. n)
        (λ control. inr (or_left (is_of (address change.switch) change) (is_among test.on.items (address change.switch)) (itself (address change.switch)))) fresh

    -- it is as before: it needn't be named
    pub read_as_before : (byte : ℕ) → last_read (address change.switch) (read_change ∷ history) ≡ Some byte → restored change byte ≡ byte → WasMade test.plan history change
        → AreKept test.plan history in_hand test.on.items test.still_on.items → AreKept test.plan (read_change ∷ history) (is_kept test) test.on.items test.still_on.items
    read_as_before byte read same right kept =
        kept_step test.plan history read_change aside (address change.switch) at_read in_hand (is_kept test)
        (λ a apart n. or_rest (is_of a change) (is_kept test a) (differ (address change.switch) a apart) n) test.on.items test.still_on.items (inl tt)
        (λ control. inr (inr (record { change = change; right = right_read right; of = refl; now = byte; read = read; same = same }))) kept

  -- a store on the byte at hand
  module _ (change : Change) (byte : ℕ) (reply : Reply) where
    abbrev pub store_change : Step
    store_change = step_of (store_at (address change.switch) byte) reply

    at_store : IsAt (address change.switch) store_change history
    at_store = store_is_at (address change.switch) byte reply history

    pub store_in_hand : (named : ℕ → Bool) → IsTestStep test.plan store_change history → ((a : ℕ) → named a ≡ true → in_hand change reply a ≡ true)
        → AreKept test.plan history named test.on.items test.still_on.items → AreKept test.plan (store_change ∷ history) (in_hand change reply) test.on.items test.still_on.items
    store_in_hand named is stay kept =
        kept_step test.plan history store_change (store_aside (address change.switch) byte reply history) (address change.switch) at_store named (in_hand change reply) (λ a apart n. stay a n) test.on.items test.still_on.items is (λ control. inr (inl (here_named change reply))) kept

    pub right_stored : WasMade test.plan history change → WasMade test.plan (store_change ∷ history) change
    right_stored right = change_kept test.plan history store_change (store_aside (address change.switch) byte reply history) change right

    pub fresh_stored : (named : ℕ → Bool) → ((a : ℕ) → named a ≡ true → on_or_of test change a ≡ true) → IsFresh history named → IsFresh (store_change ∷ history) (on_or_of test change)
    fresh_stored named stay fresh =
        fresh_kept test.plan history store_change (store_aside (address change.switch) byte reply history) (address change.switch) at_store named (on_or_of test change) (λ a apart n. stay a n)
        (λ control. inr (or_left (is_of (address change.switch) change) (is_among test.on.items (address change.switch)) (itself (address change.switch)))) fresh

-- nothing came of the step
pub stays : (history : History) (test : LinkTest) (now : TestStage) (step : Step) → test.stage ≡ now → IsSound now (step ∷ history) test → IsSoundTest (step ∷ history) test
stays history test now step e sound = subst (λ (s : TestStage). IsSound s (step ∷ history) test) (sym e) sound
