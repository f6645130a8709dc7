-- A link test ends as it should if the module can do what its plan wants, refuses nothing, and keeps what is stored.
use Rattle.std.proofs.Common.{◌≡◌, ◌⊎◌, ℕ, ◌-◌, ◌<◌, ◌≤◌, ◌||◌, ◌==◌, Bool, true, false, if◌then◌else◌, nat_eq, nat_lt, List, [], ◌∷◌, length, Option, Some, None, slice_index, slice_get, arith, refl, sym, ap, subst, inl, inr, ◌∙◌}
use Rattle.std.proofs.lemmas.Bool.{eq-eqb, ltb-false}
use Rattle.arrayvec.specs.ArrayVec.{ArrayVec}
use Rattle.bus_model.specs.declared.operation.Op.{Op}
use Rattle.bus_model.specs.declared.operation.Reply.{Reply}
use Rattle.bus_model.specs.declared.operation.Reply.TheVariants.{Bytes, Done, Refused}
use Rattle.bus_model.specs.Operations.{Answers}
use Rattle.conversations.specs.declared.event.Event.TheVariants.{Made, Waited, Lacked, Asked}
use Rattle.conversations.specs.declared.next.Next.TheVariants.{Do, End}
use Rattle.conversations.specs.Events.{Events, steps_of}
use Rattle.paged_memory.specs.PageAddressing.{EachStep, History}
use Rattle.paged_memory.proofs.KnownPageLaws.{step_of}
use Rattle.lane_controls.specs.declared.link_test.LinkTest.{LinkTest}
use Rattle.lane_controls.specs.declared.link_test.TestEnd.{TestEnd}
use Rattle.lane_controls.specs.declared.link_test.TestFault.{TestFault}
use Rattle.lane_controls.specs.declared.link_test.TestFault.TheVariants as fault
use Rattle.lane_controls.specs.declared.link_test.TestStage.{TestStage}
use Rattle.lane_controls.specs.declared.link_test.TestStage.TheVariants as stage
use Rattle.lane_controls.specs.declared.test_plan.Change.{Change}
use Rattle.lane_controls.specs.declared.test_plan.Switch.{Switch}
use Rattle.lane_controls.specs.declared.test_plan.TestPlan.{TestPlan}
use Rattle.lane_controls.specs.ByteHistories.{last_stored, read_at, store_at}
use Rattle.lane_controls.specs.Capabilities.{has_diagnostics}
use Rattle.lane_controls.specs.LaneProgress.{byte_now}
use Rattle.lane_controls.specs.LinkTests.{admitted_by, after_at, capable_by, down_by, is_on, leave_on, next_down, next_up, off_with, rested_at, stop, stopped, test_after, up_by}
use Rattle.lane_controls.specs.TestAccounts.{was_stopped}
use Rattle.lane_controls.specs.TestOperations.{begun_by, joined, read_advertised, read_capabilities, read_flags, read_paths, read_results, refused, select_results, wants, wants_at}
use Rattle.lane_controls.specs.TestPlans.{address, forbidden, incapability, repeated, restored, switched, up_lanes}
use Rattle.lane_controls.specs.TestProgress.{AreWanted, Serves}
use Rattle.lane_controls.proofs.ControlLaws.{within}
use Rattle.lane_controls.proofs.LaneProgressLaws.{merged_again}
use Rattle.lane_controls.proofs.TestProgressLaws.{IsHeld, kept_plan, no_bytes, no_store, ranked}

-- ---- a byte that was given the bits has them

switched_once : (switch : Switch) (byte x : ℕ) → byte ≡ switched switch x → (switched switch byte == byte) ≡ true
switched_once switch byte x is = eq-eqb _ _ (ap (switched switch) is ∙ merged_again switch.mask switch.bits x ∙ sym is)

restored_once : (change : Change) (byte x : ℕ) → byte ≡ restored change x → (restored change byte == byte) ≡ true
restored_once change byte x is = eq-eqb _ _ (ap (restored change) is ∙ merged_again change.switch.mask change.original x ∙ sym is)

-- ---- what holds at each stage

abbrev IsFineAt : TestStage → History → LinkTest → Type 0
IsFineAt stage.Advertised history test = Unit {0}
IsFineAt stage.Capabilities history test = Unit {0}
IsFineAt stage.Paths history test = Unit {0}
IsFineAt (stage.Unread switch) history test = Unit {0}
IsFineAt (stage.Found change) history test = Unit {0}
IsFineAt (stage.Switched change) history test = (x : ℕ) × (last_stored (address change.switch) history ≡ Some (switched change.switch x))
IsFineAt (stage.Again change now) history test = ⊥
IsFineAt stage.Selecting history test = Unit {0}
IsFineAt stage.Clearing history test = Unit {0}
IsFineAt stage.Resting history test = Unit {0}
IsFineAt stage.Reading history test = Unit {0}
IsFineAt stage.Collecting history test = Unit {0}
IsFineAt (stage.Down change) history test = (test.tries ≡ test.plan.tries) ⊎ ((x : ℕ) × (last_stored (address change.switch) history ≡ Some (restored change x)))
IsFineAt (stage.Restore change now) history test = Unit {0}
IsFineAt stage.Over history test = Unit {0}

record IsFine (history : History) (now : TestStage) (test : LinkTest) : Type 0 where
  pub fault : test.fault ≡ None
  pub none : test.still_on.items ≡ []
  pub at : IsFineAt now history test

abbrev IsFineTest : History → LinkTest → Type 0
IsFineTest history test = IsFine history test.stage test

up_fine : (history : History) (test : LinkTest) → test.fault ≡ None → test.still_on.items ≡ [] → (next : Option Switch) → IsFineTest history (up_by next test)
up_fine history test fault none None = record { fault = fault; none = none; at = tt }
up_fine history test fault none (Some switch) = record { fault = fault; none = none; at = tt }

down_fine : (history : History) (test : LinkTest) → test.fault ≡ None → test.still_on.items ≡ [] → (on : List Change) → IsFineTest history (down_by on test)
down_fine history test fault none [] = record { fault = fault; none = none; at = tt }
down_fine history test fault none (change ∷ on) = record { fault = fault; none = none; at = inl refl }

stored_now : (a byte : ℕ) (reply : Reply) (history : History) → last_stored a (step_of (store_at a byte) reply ∷ history) ≡ Some byte
stored_now a byte reply history = ap (λ (b : Bool). if b then Some byte else last_stored a history) (eq-eqb a a refl)

-- ---- each turn

module _ (history : History) (test : LinkTest) where
  next_up_fine : test.fault ≡ None → test.still_on.items ≡ [] → IsFineTest history (next_up test)
  next_up_fine fault none = up_fine history test fault none (slice_get test.plan.switches.items test.next_switch)

  advertised_fine : (has : Bool) → has ≡ true → IsFine history stage.Advertised test → IsFineTest history (if has then record test { stage = stage.Capabilities } else refused fault.NoDiagnostics test)
  advertised_fine true e f = record { fault = f.fault; none = f.none; at = tt }
  advertised_fine false e f = absurd cc

  capable_fine : (why : Option TestFault) → why ≡ None → IsFine history stage.Capabilities test → IsFineTest history (capable_by why test)
  capable_fine None e f = record { fault = f.fault; none = f.none; at = tt }
  capable_fine (Some why) e f = absurd cc

  admitted_fine : (found : Option Switch) → found ≡ None → IsFine history stage.Paths test → IsFineTest history (admitted_by found test)
  admitted_fine None e f = next_up_fine f.fault f.none
  admitted_fine (Some switch) e f = absurd cc

  found_fine : (switch : Switch) (byte : ℕ) (b : Bool) → IsFine history (stage.Unread switch) test
      → IsFineTest history (if b then next_up test else record test { stage = stage.Found (record { switch = switch; original = byte }) })
  found_fine switch byte true f = next_up_fine f.fault f.none
  found_fine switch byte false f = record { fault = f.fault; none = f.none; at = tt }

  on_fine : (change : Change) (more : Bool) → nat_lt (length test.on.items) 16 ≡ more → length test.on.items < 16 → test.fault ≡ None → test.still_on.items ≡ []
      → IsFineTest history (if more then next_up (record test { on = record { items = change ∷ test.on.items } }) else off_with change (fault.TooMany change.switch.control) test)
  on_fine change true e few fault none =
      up_fine history (record test { on = record { items = change ∷ test.on.items } }) fault none (slice_get test.plan.switches.items test.next_switch)
  on_fine change false e few fault none = let full : 16 ≤ length test.on.items = ltb-false _ _ e in absurd (omega (arith, full, few))

  read_up_fine : (change : Change) (byte : ℕ) (b : Bool) → b ≡ true → length test.on.items < 16 → test.fault ≡ None → test.still_on.items ≡ []
      → IsFineTest history (if b then is_on change test else (if nat_lt 0 test.tries then record test { stage = stage.Again change byte; tries = test.tries - 1 } else off_with change (fault.NotSwitched change.switch.control) test))
  read_up_fine change byte true e few fault none = on_fine change (nat_lt (length test.on.items) 16) refl few fault none
  read_up_fine change byte false e few fault none = absurd cc

  read_down_fine : (change : Change) (byte : ℕ) (b more : Bool) → nat_lt 0 test.tries ≡ more → (b ≡ true) ⊎ (0 < test.tries) → test.fault ≡ None → test.still_on.items ≡ []
      → IsFineTest history (if b then next_down test else (if more then record test { stage = stage.Restore change byte; tries = test.tries - 1 } else leave_on change test))
  read_down_fine change byte true more e may fault none = down_fine history test fault none test.on.items
  read_down_fine change byte false true e may fault none = record { fault = fault; none = none; at = tt }
  read_down_fine change byte false false e (inl never) fault none = absurd cc
  read_down_fine change byte false false e (inr some) fault none = let full : test.tries ≤ 0 = ltb-false 0 test.tries e in absurd (omega (arith, full, some))

  collected_fine : (bytes : List ℕ) (more : Bool) → IsFine history stage.Collecting test
      → IsFineTest history (if more then record test { stage = stage.Resting; rounds = test.rounds - 1; flags = joined test.flags bytes } else next_down (record test { flags = joined test.flags bytes }))
  collected_fine bytes true f = record { fault = f.fault; none = f.none; at = tt }
  collected_fine bytes false f = down_fine history (record test { flags = joined test.flags bytes }) f.fault f.none test.on.items

module _ (first : ℕ → ℕ) (history : History) (test : LinkTest) (some : 0 < test.plan.tries) where
  -- what a control shows
  shown : (switch : Switch) (op : Op) (bytes : ArrayVec ℕ) (x : ℕ) → op ≡ read_at (address switch) → Serves test.plan first (step_of op (Bytes bytes)) history
      → last_stored (address switch) history ≡ Some x → slice_index bytes.items 0 ≡ x
  shown switch op bytes x same serves stored = serves.controls (address switch) bytes (within switch.control) same refl ∙ ap (byte_now (first (address switch))) stored

  down_may : (change : Change) (op : Op) (bytes : ArrayVec ℕ) → op ≡ read_at (address change.switch) → Serves test.plan first (step_of op (Bytes bytes)) history → IsFineAt (stage.Down change) history test
      → ((restored change (slice_index bytes.items 0) == slice_index bytes.items 0) ≡ true) ⊎ (0 < test.tries)
  down_may change op bytes same serves (inl fresh) = inr (omega (arith, fresh, some))
  down_may change op bytes same serves (inr (x, stored)) = inl (restored_once change (slice_index bytes.items 0) x (shown change.switch op bytes (restored change x) same serves stored))

  abbrev Turns : Op → TestStage → Reply → Type 0
  Turns op now reply = IsFineTest (step_of op reply ∷ history) (after_at now test reply)

  turn : (op : Op) (now : TestStage) (reply : Reply) → wants_at now test ≡ Do op → Answers op reply → Serves test.plan first (step_of op reply) history → IsHeld now test → IsFine history now test → Turns op now reply
  turn op stage.Advertised (Bytes bytes) w a s h f =
      let same : op ≡ read_advertised = cc in
      advertised_fine (step_of op (Bytes bytes) ∷ history) test (has_diagnostics (slice_index bytes.items 0)) (s.advertised bytes same refl) (record { fault = f.fault; none = f.none; at = tt })
  turn op stage.Advertised Done w a s h f = let same : read_advertised ≡ op = cc in absurd (no_store read_advertised op same a)
  turn op stage.Capabilities (Bytes bytes) w a s h f =
      let same : op ≡ read_capabilities = cc in
      capable_fine (step_of op (Bytes bytes) ∷ history) test (incapability bytes.items test.plan) (s.capabilities bytes same refl) (record { fault = f.fault; none = f.none; at = tt })
  turn op stage.Capabilities Done w a s h f = let same : read_capabilities ≡ op = cc in absurd (no_store read_capabilities op same a)
  turn op stage.Paths (Bytes bytes) w a s h f =
      let same : op ≡ read_paths = cc in
      admitted_fine (step_of op (Bytes bytes) ∷ history) test (forbidden test.plan (up_lanes bytes.items)) (s.paths bytes same refl) (record { fault = f.fault; none = f.none; at = tt })
  turn op stage.Paths Done w a s h f = let same : read_paths ≡ op = cc in absurd (no_store read_paths op same a)
  turn op (stage.Unread switch) (Bytes bytes) w a s h f =
      let byte = slice_index bytes.items 0 in found_fine (step_of op (Bytes bytes) ∷ history) test switch byte (nat_eq (switched switch byte) byte) (record { fault = f.fault; none = f.none; at = tt })
  turn op (stage.Unread switch) Done w a s h f = let same : read_at (address switch) ≡ op = cc in absurd (no_store (read_at (address switch)) op same a)
  turn op (stage.Found change) reply w a s h f =
      let byte = switched change.switch change.original in
      let same : op ≡ store_at (address change.switch) byte = cc in
      record { fault = f.fault; none = f.none; at = (change.original, subst (λ (op : Op). last_stored (address change.switch) (step_of op reply ∷ history) ≡ Some byte) (sym same) (stored_now (address change.switch) byte reply history)) }
  turn op (stage.Switched change) (Bytes bytes) w a s h f =
      let byte = slice_index bytes.items 0 in
      let same : op ≡ read_at (address change.switch) = cc in
      let held = h.0 in let begun = h.1 in
      read_up_fine (step_of op (Bytes bytes) ∷ history) test change byte (nat_eq (switched change.switch byte) byte)
      (switched_once change.switch byte f.at.0 (shown change.switch op bytes (switched change.switch f.at.0) same s f.at.1)) (omega (arith, held, begun)) f.fault f.none
  turn op (stage.Switched change) Done w a s h f = let same : read_at (address change.switch) ≡ op = cc in absurd (no_store (read_at (address change.switch)) op same a)
  turn op (stage.Again change now) reply w a s h f = absurd f.at
  turn op stage.Selecting (Bytes bytes) w a s h f = let same : select_results test.plan ≡ op = cc in absurd (no_bytes (select_results test.plan) op bytes same a)
  turn op stage.Selecting Done w a s h f = record { fault = f.fault; none = f.none; at = tt }
  turn op stage.Clearing (Bytes bytes) w a s h f = record { fault = f.fault; none = f.none; at = tt }
  turn op stage.Clearing Done w a s h f = let same : read_flags ≡ op = cc in absurd (no_store read_flags op same a)
  turn op stage.Resting reply w a s h f = absurd cc
  turn op stage.Reading (Bytes bytes) w a s h f = record { fault = f.fault; none = f.none; at = tt }
  turn op stage.Reading Done w a s h f = let same : read_results ≡ op = cc in absurd (no_store read_results op same a)
  turn op stage.Collecting (Bytes bytes) w a s h f = collected_fine (step_of op (Bytes bytes) ∷ history) test bytes.items (nat_lt 1 test.rounds) (record { fault = f.fault; none = f.none; at = tt })
  turn op stage.Collecting Done w a s h f = let same : read_flags ≡ op = cc in absurd (no_store read_flags op same a)
  turn op (stage.Down change) (Bytes bytes) w a s h f =
      let byte = slice_index bytes.items 0 in
      let same : op ≡ read_at (address change.switch) = cc in
      read_down_fine (step_of op (Bytes bytes) ∷ history) test change byte (nat_eq (restored change byte) byte) (nat_lt 0 test.tries) refl (down_may change op bytes same s f.at) f.fault f.none
  turn op (stage.Down change) Done w a s h f = let same : read_at (address change.switch) ≡ op = cc in absurd (no_store (read_at (address change.switch)) op same a)
  turn op (stage.Restore change now) reply w a s h f =
      let byte = restored change now in
      let same : op ≡ store_at (address change.switch) byte = cc in
      record { fault = f.fault; none = f.none; at = inr (now, subst (λ (op : Op). last_stored (address change.switch) (step_of op reply ∷ history) ≡ Some byte) (sym same) (stored_now (address change.switch) byte reply history)) }
  turn op stage.Over reply w a s h f = absurd cc
  turn op now Refused w a s h f = let never : true ≡ false = s.answers in absurd cc

  rest : (now : TestStage) → test.stage ≡ now → IsFine history now test → IsFineTest history (rested_at now test)
  rest stage.Resting e f = record { fault = f.fault; none = f.none; at = tt }
  rest stage.Advertised e f = subst (λ (s : TestStage). IsFine history s test) (sym e) f
  rest stage.Capabilities e f = subst (λ (s : TestStage). IsFine history s test) (sym e) f
  rest stage.Paths e f = subst (λ (s : TestStage). IsFine history s test) (sym e) f
  rest (stage.Unread switch) e f = subst (λ (s : TestStage). IsFine history s test) (sym e) f
  rest (stage.Found change) e f = subst (λ (s : TestStage). IsFine history s test) (sym e) f
  rest (stage.Switched change) e f = subst (λ (s : TestStage). IsFine history s test) (sym e) f
  rest (stage.Again change now) e f = absurd f.at
  rest stage.Selecting e f = subst (λ (s : TestStage). IsFine history s test) (sym e) f
  rest stage.Clearing e f = subst (λ (s : TestStage). IsFine history s test) (sym e) f
  rest stage.Reading e f = subst (λ (s : TestStage). IsFine history s test) (sym e) f
  rest stage.Collecting e f = subst (λ (s : TestStage). IsFine history s test) (sym e) f
  rest (stage.Down change) e f = subst (λ (s : TestStage). IsFine history s test) (sym e) f
  rest (stage.Restore change now) e f = subst (λ (s : TestStage). IsFine history s test) (sym e) f
  rest stage.Over e f = subst (λ (s : TestStage). IsFine history s test) (sym e) f

-- ---- over all events

module _ (plan : TestPlan) (first : ℕ → ℕ) (room : length plan.switches.items ≤ 16) (some : 0 < plan.tries) (apart : repeated plan.switches.items ≡ None) where
  some_in : (events : Events) → 0 < (test_after plan events).plan.tries
  some_in events = subst (λ (kept : TestPlan). 0 < kept.tries) (sym (kept_plan plan events)) some

  begun_fine : (found : Option Switch) → found ≡ None → IsFineTest [] (begun_by found plan)
  begun_fine None e = record { fault = refl; none = refl; at = tt }
  begun_fine (Some switch) e = absurd cc

  unasked : (b before : Bool) → (b || before) ≡ false → (b ≡ false) × (before ≡ false)
  unasked true before e = absurd cc
  unasked false before e = (refl, e)

  fine : (events : Events) → AreWanted plan events → was_stopped events ≡ false → EachStep (Serves plan first) (steps_of events) → IsFineTest (steps_of events) (test_after plan events)
  fine [] own going serves = begun_fine (repeated plan.switches.items) apart
  fine (Made step ∷ before) (wanted, answers, own) going (served, serves) =
      let test = test_after plan before in
      let served_so = subst (λ (kept : TestPlan). Serves kept first step (steps_of before)) (sym (kept_plan plan before)) served in
      turn first (steps_of before) test (some_in before) step.op test.stage step.reply wanted answers served_so (ranked plan room before own).held (fine before own going serves)
  fine (Waited time ∷ before) (wanted, own) going serves = rest first (steps_of before) (test_after plan before) (some_in before) (test_after plan before).stage refl (fine before own going serves)
  fine (Lacked page ∷ before) own going serves = fine before own going serves
  fine (Asked number ∷ before) own going serves =
      let not_now = unasked (nat_eq number stop) (was_stopped before) going in
      let test = test_after plan before in
      subst (λ (b : Bool). IsFineTest (steps_of before) (if b then stopped test else test)) (sym not_now.0) (fine before own not_now.1 serves)

  ends_by : (test : LinkTest) (history : History) (end : TestEnd) → IsFineTest history test → wants test ≡ End end → (end.fault ≡ None) × (end.still_on.items ≡ [])
  ends_by test history end f e = by test.stage f e
    where
      by : (now : TestStage) → IsFine history now test → wants_at now test ≡ End end → (end.fault ≡ None) × (end.still_on.items ≡ [])
      by stage.Over f e = let is : record { fault = test.fault; still_on = test.still_on } ≡ end = cc in (ap (λ (it : TestEnd). it.fault) (sym is) ∙ f.fault, ap (λ (it : TestEnd). it.still_on.items) (sym is) ∙ f.none)
      by stage.Advertised f e = absurd cc
      by stage.Capabilities f e = absurd cc
      by stage.Paths f e = absurd cc
      by (stage.Unread switch) f e = absurd cc
      by (stage.Found change) f e = absurd cc
      by (stage.Switched change) f e = absurd cc
      by (stage.Again change now) f e = absurd cc
      by stage.Selecting f e = absurd cc
      by stage.Clearing f e = absurd cc
      by stage.Resting f e = absurd cc
      by stage.Reading f e = absurd cc
      by stage.Collecting f e = absurd cc
      by (stage.Down change) f e = absurd cc
      by (stage.Restore change now) f e = absurd cc

  pub test_ends_so : (events : Events) (end : TestEnd) → AreWanted plan events → was_stopped events ≡ false → EachStep (Serves plan first) (steps_of events)
      → wants (test_after plan events) ≡ End end → (end.fault ≡ None) × (end.still_on.items ≡ [])
  test_ends_so events end own going serves e = ends_by (test_after plan events) (steps_of events) end (fine events own going serves) e
