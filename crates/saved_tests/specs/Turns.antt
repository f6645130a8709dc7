-- A link test on a bus: how it begins, what it wants, and what a reply, time and its caller make of it. (docs/lanes.md, "From C and
-- Python"; this project's own)
use Rattle.std.specs.Prelude.{◌≡◌, ℕ, Bool, ◌∷◌, Some, false}
use Rattle.bus_model.specs.declared.operation.Reply.{Reply}
use Rattle.conversations.specs.declared.event.Event.TheVariants.{Asked, Waited}
use Rattle.conversations.specs.declared.next.Next.{Next}
use Rattle.conversations.specs.declared.next.Next.TheVariants.{Wait}
use Rattle.conversations.specs.declared.on_page.OnPage.{OnPage}
use Rattle.conversations.specs.declared.pausing.Patience.{Patience}
use Rattle.conversations.specs.declared.pausing.Timed.{Timed}
use Rattle.conversations.specs.declared.within.Spent.{Spent}
use Rattle.conversations.specs.Events.{Events, steps_of}
use Rattle.conversations.specs.Patiently.{ToldPatiently, after_patiently, begun_patiently, wants_patiently}
use Rattle.conversations.specs.Selecting.{Knows, chosen, next_on, on_after, trusted}
use Rattle.lane_controls.specs.declared.link_test.LinkTest.{LinkTest}
use Rattle.lane_controls.specs.declared.link_test.TestEnd.{TestEnd}
use Rattle.lane_controls.specs.LinkTests as tests
use Rattle.lane_controls.specs.TestAccounts as accounts
use Rattle.lane_controls.specs.TestOperations as operations
use Rattle.lane_controls.specs.TestRuns.{OnTestPages}
use Rattle.lane_controls.specs.Unconfirmed.{unconfirmed}
use Rattle.paged_memory.specs.declared.page_addressing.PageAddressing.TheVariants.{BankAndPage}
use Rattle.saved_tests.specs.declared.link_plan.LinkPlan.{LinkPlan}
use Rattle.saved_tests.specs.LinkPlans.{plan_of}
use Rattle.saved_tests.specs.SavedTests.{Procedure}

-- how many operations it makes at most
abbrev pub most_steps : ℕ
most_steps = 4096

abbrev pub begun_test : LinkPlan → Patience → Bool → Procedure
begun_test plan patience doubts = begun_patiently (unconfirmed (operations.begun (plan_of plan)) doubts) patience most_steps

abbrev pub wants_on : OnPage LinkTest → Next TestEnd
wants_on on = next_on (chosen (Some BankAndPage)) on.selection (operations.page_at on.conversation.stage) (operations.wants on.conversation)

abbrev pub after_on : OnPage LinkTest → Reply → OnPage LinkTest
after_on on reply =
    on_after tests.after (λ test number. test) false (chosen (Some BankAndPage)) (operations.page_at on.conversation.stage) on reply

abbrev pub told_on : Events → OnPage LinkTest → Type 0
told_on events on =
    Knows false (Some BankAndPage) on.selection on.taken (trusted on.doubts (steps_of events))
    × OnTestPages on.doubts on.conversation.plan (λ own. accounts.IsTold own on.conversation) events

abbrev pub wants : Procedure → Next (Spent (Timed TestEnd))
wants procedure = wants_patiently wants_on procedure

abbrev pub after : Procedure → Reply → Procedure
after procedure reply = after_patiently wants_on after_on procedure reply

-- it was told these events, the newest first
abbrev pub IsTold : Events → Procedure → Type 0
IsTold events procedure = ToldPatiently wants_on told_on events procedure

-- the test within
abbrev pub test_of : Procedure → LinkTest
test_of procedure = procedure.conversation.conversation.conversation

-- it is about the same plan on the same terms
pub record IsOfSame (before later : Procedure) : Type 0 where
  pub plan : (test_of later).plan ≡ (test_of before).plan
  pub doubts : later.conversation.conversation.doubts ≡ before.conversation.conversation.doubts
  pub patience : later.conversation.patience ≡ before.conversation.patience
  pub limit : later.limit ≡ before.limit

-- so long as was wanted has passed
pub record IsRested (before later : Procedure) : Type 0 where
  pub same : IsOfSame before later
  pub told : (events : Events) (time : ℕ) → wants before ≡ Wait time → IsTold events before → IsTold (Waited time ∷ events) later

-- its caller said that it is to stop
pub record IsStopped (before later : Procedure) : Type 0 where
  pub same : IsOfSame before later
  pub told : (events : Events) → IsTold events before → IsTold (Asked tests.stop ∷ events) later
