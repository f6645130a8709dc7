-- A link test ends in time.
use Rattle.std.proofs.Common.{◌≡◌, ℕ, suc, ◌+◌, ◌-◌, ◌*◌, ◌<◌, ◌≤◌, Bool, true, false, if◌then◌else◌, nat_eq, nat_lt, List, [], ◌∷◌, length, Option, Some, None, slice_index, slice_get, arith, refl, sym, ap, subst, suc-mul, ◌∙◌}
use Rattle.std.proofs.lemmas.Bool.{ltb-true, ltb-false}
use Rattle.std.proofs.lemmas.Option.{slice_get_within}
use Rattle.arrayvec.specs.ArrayVec.{ArrayVec}
use Rattle.bus_model.specs.declared.operation.Op.{Op}
use Rattle.bus_model.specs.declared.operation.Reply.{Reply}
use Rattle.bus_model.specs.declared.operation.Reply.TheVariants.{Bytes, Done, Refused}
use Rattle.bus_model.specs.Operations.{Answers}
use Rattle.conversations.specs.declared.event.Event.TheVariants.{Made, Waited, Lacked, Asked}
use Rattle.conversations.specs.declared.next.Next.TheVariants.{Do, Wait}
use Rattle.conversations.specs.Events.{Events, steps_of}
use Rattle.lane_controls.specs.declared.link_test.LinkTest.{LinkTest}
use Rattle.lane_controls.specs.declared.link_test.TestFault.{TestFault}
use Rattle.lane_controls.specs.declared.link_test.TestFault.TheVariants as fault
use Rattle.lane_controls.specs.declared.link_test.TestStage.{TestStage}
use Rattle.lane_controls.specs.declared.link_test.TestStage.TheVariants as stage
use Rattle.lane_controls.specs.declared.test_plan.Change.{Change}
use Rattle.lane_controls.specs.declared.test_plan.Switch.{Switch}
use Rattle.lane_controls.specs.declared.test_plan.TestPlan.{TestPlan}
use Rattle.lane_controls.specs.ByteHistories.{read_at, was_refused}
use Rattle.lane_controls.specs.Capabilities.{has_diagnostics}
use Rattle.lane_controls.specs.LaneProgress.{answered}
use Rattle.lane_controls.specs.LinkTests.{admitted_by, after_at, capable_by, down_by, failing, is_on, leave_on, next_down, next_up, off_with, rested_at, stop, stopped, stopped_at, test_after, up_by}
use Rattle.lane_controls.specs.TestAccounts.{at_least_one, wanted_measurements}
use Rattle.lane_controls.specs.TestOperations.{begun_by, joined, read_advertised, read_capabilities, read_flags, read_paths, read_results, refused, select_results, wants_at}
use Rattle.lane_controls.specs.TestPlans.{address, forbidden, incapability, repeated, restored, switched, up_lanes}
use Rattle.lane_controls.specs.TestProgress.{AreWanted, most_answered, most_for_each, pauses}
use Rattle.lane_controls.proofs.LinkTestPlans.{plan_kept, rested_plan, stopped_plan}

-- ---- how often results are read after the next time

abbrev pub further : ℕ → ℕ
further rounds = if nat_lt 1 rounds then rounds - 1 else 0

one_further : (rounds : ℕ) → at_least_one rounds ≡ further rounds + 1
one_further rounds = by (nat_lt 1 rounds) refl
  where
    by : (b : Bool) → nat_lt 1 rounds ≡ b → (if b then rounds else 1) ≡ (if b then rounds - 1 else 0) + 1
    by true e = let more : 1 < rounds = ltb-true 1 rounds e in omega (arith, more)
    by false e = refl

fewer : (rounds : ℕ) → nat_lt 1 rounds ≡ true → further (rounds - 1) + 1 ≡ further rounds
fewer rounds e = by (nat_lt 1 (rounds - 1)) refl ∙ ap (λ (b : Bool). if b then rounds - 1 else 0) (sym e)
  where
    more : 1 < rounds
    more = ltb-true 1 rounds e

    by : (b : Bool) → nat_lt 1 (rounds - 1) ≡ b → (if b then rounds - 1 - 1 else 0) + 1 ≡ rounds - 1
    by true f = let again : 1 < rounds - 1 = ltb-true 1 (rounds - 1) f in omega (arith, more, again)
    by false f = let last : rounds - 1 ≤ 1 = ltb-false 1 (rounds - 1) f in omega (arith, more, last)

-- ---- how many operations are answered at most until all is over, and how often time passes

-- to switch off all of these
abbrev pub all_down : ℕ → List Change → ℕ
all_down tries [] = 0
all_down tries (change ∷ on) = all_down tries on + (1 + 2 * tries)

-- for the switches that are not begun
abbrev pub to_come : LinkTest → ℕ
to_come test = (length test.plan.switches.items - test.next_switch) * most_for_each test.plan

-- besides what is in hand
abbrev pub before_results : LinkTest → ℕ
before_results test = 4 + 2 * further test.plan.rounds + to_come test + all_down test.plan.tries test.on.items

abbrev pub once_on : LinkTest → ℕ
once_on test = 2 * further test.rounds + all_down test.plan.tries test.on.items

abbrev pub left : TestStage → LinkTest → ℕ
left stage.Advertised test = before_results test + 3
left stage.Capabilities test = before_results test + 2
left stage.Paths test = before_results test + 1
left (stage.Unread switch) test = before_results test + (4 + 2 * test.plan.tries + 2 * test.tries)
left (stage.Found change) test = before_results test + (3 + 2 * test.plan.tries + 2 * test.tries)
left (stage.Switched change) test = before_results test + (2 + 2 * test.plan.tries + 2 * test.tries)
left (stage.Again change now) test = before_results test + (3 + 2 * test.plan.tries + 2 * test.tries)
left stage.Selecting test = once_on test + 4
left stage.Clearing test = once_on test + 3
left stage.Resting test = once_on test + 2
left stage.Reading test = once_on test + 2
left stage.Collecting test = once_on test + 1
left (stage.Down change) test = all_down test.plan.tries test.on.items + (1 + 2 * test.tries)
left (stage.Restore change now) test = all_down test.plan.tries test.on.items + (2 + 2 * test.tries)
left stage.Over test = 0

abbrev pub waits : TestStage → LinkTest → ℕ
waits stage.Advertised test = further test.plan.rounds + 1
waits stage.Capabilities test = further test.plan.rounds + 1
waits stage.Paths test = further test.plan.rounds + 1
waits (stage.Unread switch) test = further test.plan.rounds + 1
waits (stage.Found change) test = further test.plan.rounds + 1
waits (stage.Switched change) test = further test.plan.rounds + 1
waits (stage.Again change now) test = further test.plan.rounds + 1
waits stage.Selecting test = further test.rounds + 1
waits stage.Clearing test = further test.rounds + 1
waits stage.Resting test = further test.rounds + 1
waits stage.Reading test = further test.rounds
waits stage.Collecting test = further test.rounds
waits (stage.Down change) test = 0
waits (stage.Restore change now) test = 0
waits stage.Over test = 0

-- so many controls are kept
abbrev pub kept : LinkTest → ℕ
kept test = length test.on.items + length test.still_on.items

-- no more than were begun, one of which is in hand
abbrev pub IsHeld : TestStage → LinkTest → Type 0
IsHeld stage.Advertised test = (kept test ≤ test.next_switch) × (test.next_switch ≤ 16)
IsHeld stage.Capabilities test = (kept test ≤ test.next_switch) × (test.next_switch ≤ 16)
IsHeld stage.Paths test = (kept test ≤ test.next_switch) × (test.next_switch ≤ 16)
IsHeld (stage.Unread switch) test = (kept test < test.next_switch) × (test.next_switch ≤ 16)
IsHeld (stage.Found change) test = (kept test < test.next_switch) × (test.next_switch ≤ 16)
IsHeld (stage.Switched change) test = (kept test < test.next_switch) × (test.next_switch ≤ 16)
IsHeld (stage.Again change now) test = (kept test < test.next_switch) × (test.next_switch ≤ 16)
IsHeld stage.Selecting test = kept test ≤ 16
IsHeld stage.Clearing test = kept test ≤ 16
IsHeld stage.Resting test = kept test ≤ 16
IsHeld stage.Reading test = kept test ≤ 16
IsHeld stage.Collecting test = kept test ≤ 16
IsHeld (stage.Down change) test = kept test < 16
IsHeld (stage.Restore change now) test = kept test < 16
IsHeld stage.Over test = Unit {0}

abbrev IsHeldTest : LinkTest → Type 0
IsHeldTest test = IsHeld test.stage test

abbrev left_of : LinkTest → ℕ
left_of test = left test.stage test

abbrev waits_of : LinkTest → ℕ
waits_of test = waits test.stage test

-- ---- the next one to switch on, and to switch off

further_one : (count next each : ℕ) → next < count → (count - next) * each ≡ (count - (next + 1)) * each + each
further_one count next each more =
    let one : count - next ≡ suc (count - (next + 1)) = omega (arith, more) in
    ap (λ (n : ℕ). n * each) one ∙ suc-mul (count - (next + 1)) each

module _ (test : LinkTest) where
  abbrev switches : List Switch
  switches = test.plan.switches.items

  up_left : (next : Option Switch) → slice_get switches test.next_switch ≡ next → left_of (up_by next test) ≤ before_results test
  up_left None e = omega arith
  up_left (Some switch) e = let one = further_one (length switches) test.next_switch (most_for_each test.plan) (slice_get_within switches test.next_switch switch e) in omega (arith, one)

  up_waits : (next : Option Switch) → waits_of (up_by next test) ≡ further test.plan.rounds + 1
  up_waits None = refl
  up_waits (Some switch) = refl

  up_held : length switches ≤ 16 → (next : Option Switch) → slice_get switches test.next_switch ≡ next → kept test ≤ test.next_switch → test.next_switch ≤ 16 → IsHeldTest (up_by next test)
  up_held room None e few begun = omega (arith, few, begun)
  up_held room (Some switch) e few begun = let more = slice_get_within switches test.next_switch switch e in (omega (arith, few), omega (arith, more, room))

down_left : (on : List Change) (test : LinkTest) → left_of (down_by on test) ≡ all_down test.plan.tries on
down_left [] test = refl
down_left (change ∷ on) test = refl

down_waits : (on : List Change) (test : LinkTest) → waits_of (down_by on test) ≡ 0
down_waits [] test = refl
down_waits (change ∷ on) test = refl

down_held : (on : List Change) (test : LinkTest) → length on + length test.still_on.items ≤ 16 → IsHeldTest (down_by on test)
down_held [] test few = tt
down_held (change ∷ on) test few = omega (arith, few)

-- ---- each turn

-- after so many operations that were answered and so many pauses
pub record IsRanked (most rests n p : ℕ) (now : TestStage) (test : LinkTest) : Type 0 where
  pub few : n + left now test ≤ most
  pub seldom : p + waits now test ≤ rests
  pub held : IsHeld now test

abbrev pub IsRankedTest : ℕ → ℕ → ℕ → ℕ → LinkTest → Type 0
IsRankedTest most rests n p test = IsRanked most rests n p test.stage test

abbrev count : Reply → ℕ → ℕ
count reply n = if was_refused reply then n else n + 1

module _ (most rests n p before : ℕ) (test : LinkTest) (few : n + before ≤ most) where
  up_ranked : before_results test + 1 ≤ before → length (switches test) ≤ 16 → p + (further test.plan.rounds + 1) ≤ rests → kept test ≤ test.next_switch → test.next_switch ≤ 16
      → IsRankedTest most rests (n + 1) p (next_up test)
  up_ranked less room seldom held begun =
      let next = slice_get (switches test) test.next_switch in
      let fewer = up_left test next refl in
      let rest = up_waits test next in
      record { few = omega (arith, few, less, fewer); seldom = omega (arith, seldom, rest); held = up_held test room next refl held begun }

  down_ranked : all_down test.plan.tries test.on.items + 1 ≤ before → p ≤ rests → kept test ≤ 16 → IsRankedTest most rests (n + 1) p (next_down test)
  down_ranked less seldom held =
      let is = down_left test.on.items test in
      let none = down_waits test.on.items test in
      record { few = omega (arith, few, less, is); seldom = omega (arith, seldom, none); held = down_held test.on.items test held }

  off_ranked : (change : Change) (why : TestFault) → all_down test.plan.tries test.on.items + (1 + 2 * test.plan.tries) + 1 ≤ before → p ≤ rests → kept test < 16
      → IsRankedTest most rests (n + 1) p (off_with change why test)
  off_ranked change why less seldom held = record { few = omega (arith, few, less); seldom = omega (arith, seldom); held = held }

  over_ranked : (why : TestFault) → 1 ≤ before → p ≤ rests → IsRankedTest most rests (n + 1) p (refused why test)
  over_ranked why less seldom = record { few = omega (arith, few, less); seldom = omega (arith, seldom); held = tt }

-- a store is over, whatever is answered
counted : (b : Bool) (n l m most : ℕ) → l + 1 ≤ m → n + m ≤ most → (if b then n else n + 1) + l ≤ most
counted true n l m most less few = omega (arith, less, few)
counted false n l m most less few = omega (arith, less, few)

pub no_store : (wanted op : Op) → wanted ≡ op → Answers op Done → Answers wanted Done
no_store wanted op same answers = subst (λ (op : Op). Answers op Done) (sym same) answers

pub no_bytes : (wanted op : Op) (bytes : ArrayVec ℕ) → wanted ≡ op → Answers op (Bytes bytes) → Answers wanted (Bytes bytes)
no_bytes wanted op bytes same answers = subst (λ (op : Op). Answers op (Bytes bytes)) (sym same) answers

module _ (most rests n p : ℕ) (test : LinkTest) (room : length (switches test) ≤ 16) where
  abbrev Goes : LinkTest → Type 0
  Goes later = IsRankedTest most rests (n + 1) p later

  stays : (now : TestStage) → test.stage ≡ now → IsRanked most rests n p now test → IsRankedTest most rests n p test
  stays now e ranked = subst (λ (s : TestStage). IsRanked most rests n p s test) (sym e) ranked

  advertised_turn : (has : Bool) → IsRanked most rests n p stage.Advertised test → Goes (if has then record test { stage = stage.Capabilities } else refused fault.NoDiagnostics test)
  advertised_turn true r = let few = r.few in record { few = omega (arith, few); seldom = r.seldom; held = r.held }
  advertised_turn false r = let seldom = r.seldom in over_ranked most rests n p _ test r.few fault.NoDiagnostics (omega arith) (omega (arith, seldom))

  capable_turn : (why : Option TestFault) → IsRanked most rests n p stage.Capabilities test → Goes (capable_by why test)
  capable_turn None r = let few = r.few in record { few = omega (arith, few); seldom = r.seldom; held = r.held }
  capable_turn (Some why) r = let seldom = r.seldom in over_ranked most rests n p _ test r.few why (omega arith) (omega (arith, seldom))

  admitted_turn : (found : Option Switch) → IsRanked most rests n p stage.Paths test → Goes (admitted_by found test)
  admitted_turn None r = up_ranked most rests n p _ test r.few (omega arith) room r.seldom r.held.0 r.held.1
  admitted_turn (Some switch) r = let seldom = r.seldom in over_ranked most rests n p _ test r.few (fault.NotPermitted switch.control) (omega arith) (omega (arith, seldom))

  found_turn : (switch : Switch) (byte : ℕ) (b : Bool) → IsRanked most rests n p (stage.Unread switch) test
      → Goes (if b then next_up test else record test { stage = stage.Found (record { switch = switch; original = byte }) })
  found_turn switch byte true r = let held = r.held.0 in up_ranked most rests n p _ test r.few (omega arith) room r.seldom (omega (arith, held)) r.held.1
  found_turn switch byte false r = let few = r.few in record { few = omega (arith, few); seldom = r.seldom; held = r.held }

  on_turn : (change : Change) (more : Bool) → nat_lt (length test.on.items) 16 ≡ more → IsRanked most rests n p (stage.Switched change) test
      → Goes (if more then next_up (record test { on = record { items = change ∷ test.on.items } }) else off_with change (fault.TooMany change.switch.control) test)
  on_turn change true e r =
      let held = r.held.0 in
      up_ranked most rests n p _ (record test { on = record { items = change ∷ test.on.items } }) r.few (omega arith) room r.seldom (omega (arith, held)) r.held.1
  on_turn change false e r =
      let held = r.held.0 in let begun = r.held.1 in let seldom = r.seldom in
      off_ranked most rests n p _ test r.few change (fault.TooMany change.switch.control) (omega arith) (omega (arith, seldom)) (omega (arith, held, begun))

  read_up_turn : (change : Change) (byte : ℕ) (b more : Bool) → nat_lt 0 test.tries ≡ more → IsRanked most rests n p (stage.Switched change) test
      → Goes (if b then is_on change test else (if more then record test { stage = stage.Again change byte; tries = test.tries - 1 } else off_with change (fault.NotSwitched change.switch.control) test))
  read_up_turn change byte true more e r = on_turn change (nat_lt (length test.on.items) 16) refl r
  read_up_turn change byte false true e r =
      let few = r.few in let some : 0 < test.tries = ltb-true 0 test.tries e in record { few = omega (arith, few, some); seldom = r.seldom; held = r.held }
  read_up_turn change byte false false e r =
      let held = r.held.0 in let begun = r.held.1 in let seldom = r.seldom in
      off_ranked most rests n p _ test r.few change (fault.NotSwitched change.switch.control) (omega arith) (omega (arith, seldom)) (omega (arith, held, begun))

  left_turn : (change : Change) (more : Bool) → nat_lt (length test.still_on.items) 16 ≡ more → IsRanked most rests n p (stage.Down change) test
      → Goes (if more then next_down (record test { still_on = record { items = change ∷ test.still_on.items } }) else test)
  left_turn change true e r =
      let seldom = r.seldom in let held = r.held in
      down_ranked most rests n p _ (record test { still_on = record { items = change ∷ test.still_on.items } }) r.few (omega arith) (omega (arith, seldom)) (omega (arith, held))
  left_turn change false e r = let full : 16 ≤ length test.still_on.items = ltb-false _ _ e in let held = r.held in absurd (omega (arith, full, held))

  read_down_turn : (change : Change) (byte : ℕ) (b more : Bool) → nat_lt 0 test.tries ≡ more → IsRanked most rests n p (stage.Down change) test
      → Goes (if b then next_down test else (if more then record test { stage = stage.Restore change byte; tries = test.tries - 1 } else leave_on change test))
  read_down_turn change byte true more e r =
      let seldom = r.seldom in let held = r.held in down_ranked most rests n p _ test r.few (omega arith) (omega (arith, seldom)) (omega (arith, held))
  read_down_turn change byte false true e r =
      let few = r.few in let some : 0 < test.tries = ltb-true 0 test.tries e in record { few = omega (arith, few, some); seldom = r.seldom; held = r.held }
  read_down_turn change byte false false e r = left_turn change (nat_lt (length test.still_on.items) 16) refl r

  collected_turn : (bytes : List ℕ) (more : Bool) → nat_lt 1 test.rounds ≡ more → IsRanked most rests n p stage.Collecting test
      → Goes (if more then record test { stage = stage.Resting; rounds = test.rounds - 1; flags = joined test.flags bytes } else next_down (record test { flags = joined test.flags bytes }))
  collected_turn bytes true e r =
      let few = r.few in let seldom = r.seldom in let less = fewer test.rounds e in record { few = omega (arith, few, less); seldom = omega (arith, seldom, less); held = r.held }
  collected_turn bytes false e r =
      let seldom = r.seldom in down_ranked most rests n p _ (record test { flags = joined test.flags bytes }) r.few (omega arith) (omega (arith, seldom)) r.held

  -- a reading is answered by bytes, or refused
  abbrev Turns : TestStage → Reply → Type 0
  Turns now reply = IsRankedTest most rests (count reply n) p (after_at now test reply)

  turn : (op : Op) (now : TestStage) (reply : Reply) → wants_at now test ≡ Do op → Answers op reply → test.stage ≡ now → IsRanked most rests n p now test → Turns now reply
  turn op stage.Advertised (Bytes bytes) w a e r = advertised_turn (has_diagnostics (slice_index bytes.items 0)) r
  turn op stage.Advertised Done w a e r = let same : read_advertised ≡ op = cc in absurd (no_store read_advertised op same a)
  turn op stage.Advertised Refused w a e r = stays stage.Advertised e r
  turn op stage.Capabilities (Bytes bytes) w a e r = capable_turn (incapability bytes.items test.plan) r
  turn op stage.Capabilities Done w a e r = let same : read_capabilities ≡ op = cc in absurd (no_store read_capabilities op same a)
  turn op stage.Capabilities Refused w a e r = stays stage.Capabilities e r
  turn op stage.Paths (Bytes bytes) w a e r = admitted_turn (forbidden test.plan (up_lanes bytes.items)) r
  turn op stage.Paths Done w a e r = let same : read_paths ≡ op = cc in absurd (no_store read_paths op same a)
  turn op stage.Paths Refused w a e r = stays stage.Paths e r
  turn op (stage.Unread switch) (Bytes bytes) w a e r = let byte = slice_index bytes.items 0 in found_turn switch byte (nat_eq (switched switch byte) byte) r
  turn op (stage.Unread switch) Done w a e r = let same : read_at (address switch) ≡ op = cc in absurd (no_store (read_at (address switch)) op same a)
  turn op (stage.Unread switch) Refused w a e r = stays (stage.Unread switch) e r
  turn op (stage.Found change) reply w a e r = record { few = counted (was_refused reply) n _ _ most (omega arith) r.few; seldom = r.seldom; held = r.held }
  turn op (stage.Switched change) (Bytes bytes) w a e r = let byte = slice_index bytes.items 0 in read_up_turn change byte (nat_eq (switched change.switch byte) byte) (nat_lt 0 test.tries) refl r
  turn op (stage.Switched change) Done w a e r = let same : read_at (address change.switch) ≡ op = cc in absurd (no_store (read_at (address change.switch)) op same a)
  turn op (stage.Switched change) Refused w a e r = stays (stage.Switched change) e r
  turn op (stage.Again change now) reply w a e r = record { few = counted (was_refused reply) n _ _ most (omega arith) r.few; seldom = r.seldom; held = r.held }
  turn op stage.Selecting (Bytes bytes) w a e r = let same : select_results test.plan ≡ op = cc in absurd (no_bytes (select_results test.plan) op bytes same a)
  turn op stage.Selecting Done w a e r = let few = r.few in record { few = omega (arith, few); seldom = r.seldom; held = r.held }
  turn op stage.Selecting Refused w a e r = stays stage.Selecting e r
  turn op stage.Clearing (Bytes bytes) w a e r = let few = r.few in record { few = omega (arith, few); seldom = r.seldom; held = r.held }
  turn op stage.Clearing Done w a e r = let same : read_flags ≡ op = cc in absurd (no_store read_flags op same a)
  turn op stage.Clearing Refused w a e r = stays stage.Clearing e r
  turn op stage.Resting reply w a e r = absurd cc
  turn op stage.Reading (Bytes bytes) w a e r = let few = r.few in record { few = omega (arith, few); seldom = r.seldom; held = r.held }
  turn op stage.Reading Done w a e r = let same : read_results ≡ op = cc in absurd (no_store read_results op same a)
  turn op stage.Reading Refused w a e r = stays stage.Reading e r
  turn op stage.Collecting (Bytes bytes) w a e r = collected_turn bytes.items (nat_lt 1 test.rounds) refl r
  turn op stage.Collecting Done w a e r = let same : read_flags ≡ op = cc in absurd (no_store read_flags op same a)
  turn op stage.Collecting Refused w a e r = stays stage.Collecting e r
  turn op (stage.Down change) (Bytes bytes) w a e r = let byte = slice_index bytes.items 0 in read_down_turn change byte (nat_eq (restored change byte) byte) (nat_lt 0 test.tries) refl r
  turn op (stage.Down change) Done w a e r = let same : read_at (address change.switch) ≡ op = cc in absurd (no_store (read_at (address change.switch)) op same a)
  turn op (stage.Down change) Refused w a e r = stays (stage.Down change) e r
  turn op (stage.Restore change now) reply w a e r = record { few = counted (was_refused reply) n _ _ most (omega arith) r.few; seldom = r.seldom; held = r.held }
  turn op stage.Over reply w a e r = absurd cc

  -- time passes only before results are read
  rest : (time : ℕ) (now : TestStage) → wants_at now test ≡ Wait time → IsRanked most rests n p now test → IsRankedTest most rests n (p + 1) (rested_at now test)
  rest time stage.Resting w r = let seldom = r.seldom in record { few = r.few; seldom = omega (arith, seldom); held = r.held }
  rest time stage.Advertised w r = absurd cc
  rest time stage.Capabilities w r = absurd cc
  rest time stage.Paths w r = absurd cc
  rest time (stage.Unread switch) w r = absurd cc
  rest time (stage.Found change) w r = absurd cc
  rest time (stage.Switched change) w r = absurd cc
  rest time (stage.Again change now) w r = absurd cc
  rest time stage.Selecting w r = absurd cc
  rest time stage.Clearing w r = absurd cc
  rest time stage.Reading w r = absurd cc
  rest time stage.Collecting w r = absurd cc
  rest time (stage.Down change) w r = absurd cc
  rest time (stage.Restore change now) w r = absurd cc
  rest time stage.Over w r = absurd cc

  -- ---- it is stopped

  ends_down : (before : ℕ) → n + before ≤ most → p ≤ rests → all_down test.plan.tries test.on.items ≤ before → kept test ≤ 16 → IsRankedTest most rests n p (next_down (failing fault.Stopped test))
  ends_down before few seldom less held =
      let stopping = failing fault.Stopped test in
      let is = down_left test.on.items stopping in
      let none = down_waits test.on.items stopping in
      record { few = omega (arith, few, less, is); seldom = omega (arith, seldom, none); held = down_held test.on.items stopping held }

  stopped_turn : (now : TestStage) → test.stage ≡ now → IsRanked most rests n p now test → IsRankedTest most rests n p (stopped_at now test)
  stopped_turn stage.Advertised e r = let seldom = r.seldom in let held = r.held.0 in let begun = r.held.1 in ends_down _ r.few (omega (arith, seldom)) (omega arith) (omega (arith, held, begun))
  stopped_turn stage.Capabilities e r = let seldom = r.seldom in let held = r.held.0 in let begun = r.held.1 in ends_down _ r.few (omega (arith, seldom)) (omega arith) (omega (arith, held, begun))
  stopped_turn stage.Paths e r = let seldom = r.seldom in let held = r.held.0 in let begun = r.held.1 in ends_down _ r.few (omega (arith, seldom)) (omega arith) (omega (arith, held, begun))
  stopped_turn (stage.Unread switch) e r = let seldom = r.seldom in let held = r.held.0 in let begun = r.held.1 in ends_down _ r.few (omega (arith, seldom)) (omega arith) (omega (arith, held, begun))
  stopped_turn (stage.Found change) e r = let seldom = r.seldom in let held = r.held.0 in let begun = r.held.1 in ends_down _ r.few (omega (arith, seldom)) (omega arith) (omega (arith, held, begun))
  stopped_turn (stage.Switched change) e r =
      let few = r.few in let seldom = r.seldom in let held = r.held.0 in let begun = r.held.1 in record { few = omega (arith, few); seldom = omega (arith, seldom); held = omega (arith, held, begun) }
  stopped_turn (stage.Again change now) e r =
      let few = r.few in let seldom = r.seldom in let held = r.held.0 in let begun = r.held.1 in record { few = omega (arith, few); seldom = omega (arith, seldom); held = omega (arith, held, begun) }
  stopped_turn stage.Selecting e r = let seldom = r.seldom in ends_down _ r.few (omega (arith, seldom)) (omega arith) r.held
  stopped_turn stage.Clearing e r = let seldom = r.seldom in ends_down _ r.few (omega (arith, seldom)) (omega arith) r.held
  stopped_turn stage.Resting e r = let seldom = r.seldom in ends_down _ r.few (omega (arith, seldom)) (omega arith) r.held
  stopped_turn stage.Reading e r = let seldom = r.seldom in ends_down _ r.few (omega (arith, seldom)) (omega arith) r.held
  stopped_turn stage.Collecting e r = let seldom = r.seldom in ends_down _ r.few (omega (arith, seldom)) (omega arith) r.held
  stopped_turn (stage.Down change) e r = stays (stage.Down change) e r
  stopped_turn (stage.Restore change now) e r = stays (stage.Restore change now) e r
  stopped_turn stage.Over e r = stays stage.Over e r

  stopped_if : (b : Bool) → IsRankedTest most rests n p test → IsRankedTest most rests n p (if b then stopped test else test)
  stopped_if true r = stopped_turn test.stage refl r
  stopped_if false r = r

-- ---- over all events

pub kept_plan : (plan : TestPlan) (events : Events) → (test_after plan events).plan ≡ plan
kept_plan plan [] = begun_plan (repeated plan.switches.items) plan
  where
    begun_plan : (found : Option Switch) (plan : TestPlan) → (begun_by found plan).plan ≡ plan
    begun_plan None plan = refl
    begun_plan (Some switch) plan = refl
kept_plan plan (Made step ∷ before) = plan_kept (test_after plan before) step.reply ∙ kept_plan plan before
kept_plan plan (Waited time ∷ before) = rested_plan (test_after plan before) ∙ kept_plan plan before
kept_plan plan (Lacked page ∷ before) = kept_plan plan before
kept_plan plan (Asked number ∷ before) = stopped_plan number (test_after plan before) ∙ kept_plan plan before

module _ (plan : TestPlan) (room : length plan.switches.items ≤ 16) where
  abbrev pub IsSo : ℕ → ℕ → LinkTest → Type 0
  IsSo n p test = IsRankedTest (most_answered plan) (wanted_measurements plan) n p test

  begun_ranked : (found : Option Switch) → IsSo 0 0 (begun_by found plan)
  begun_ranked None = let one = one_further plan.rounds in record { few = few; seldom = omega (arith, one); held = (omega arith, omega arith) }
    where
      all : length plan.switches.items - 0 ≡ length plan.switches.items
      all = omega arith

      few : 0 + (4 + 2 * further plan.rounds + (length plan.switches.items - 0) * most_for_each plan + 0 + 3) ≤ most_answered plan
      few =
          let one = one_further plan.rounds in
          let each = ap (λ (n : ℕ). n * most_for_each plan) all in
          omega (arith, one, each)
  begun_ranked (Some switch) = record { few = omega arith; seldom = omega arith; held = tt }

  room_in : (events : Events) → length (switches (test_after plan events)) ≤ 16
  room_in events = subst (λ (kept : TestPlan). length kept.switches.items ≤ 16) (sym (kept_plan plan events)) room

  pub ranked : (events : Events) → AreWanted plan events → IsSo (answered (steps_of events)) (pauses events) (test_after plan events)
  ranked [] own = begun_ranked (repeated plan.switches.items)
  ranked (Made step ∷ before) (wanted, answers, own) =
      let test = test_after plan before in
      turn (most_answered plan) (wanted_measurements plan) (answered (steps_of before)) (pauses before) test (room_in before) step.op test.stage step.reply wanted answers refl (ranked before own)
  ranked (Waited time ∷ before) (wanted, own) =
      let test = test_after plan before in
      rest (most_answered plan) (wanted_measurements plan) (answered (steps_of before)) (pauses before) test (room_in before) time test.stage wanted (ranked before own)
  ranked (Lacked page ∷ before) own = ranked before own
  ranked (Asked number ∷ before) own =
      let test = test_after plan before in
      stopped_if (most_answered plan) (wanted_measurements plan) (answered (steps_of before)) (pauses before) test (room_in before) (nat_eq number stop) (ranked before own)

  pub test_ends_in_time : (events : Events) → AreWanted plan events → answered (steps_of events) ≤ most_answered plan
  test_ends_in_time events own = let few = (ranked events own).few in omega (arith, few)

  pub test_waits_seldom : (events : Events) → AreWanted plan events → pauses events ≤ wanted_measurements plan
  test_waits_seldom events own = let seldom = (ranked events own).seldom in omega (arith, seldom)
