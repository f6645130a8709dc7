-- What may be on is named in one list.
use Rattle.std.proofs.Common.{◌≡◌, ℕ, ◌||◌, Bool, true, false, List, [], ◌∷◌, ◌++◌, refl, sym, ap, ◌∙◌}
use Rattle.conversations.specs.Events.{Events, steps_of}
use Rattle.paged_memory.specs.PageAddressing.{History}
use Rattle.lane_controls.specs.declared.link_test.LinkTest.{LinkTest}
use Rattle.lane_controls.specs.declared.link_test.TestStage.{TestStage}
use Rattle.lane_controls.specs.declared.link_test.TestStage.TheVariants as stage
use Rattle.lane_controls.specs.declared.test_plan.Change.{Change}
use Rattle.lane_controls.specs.declared.test_plan.TestPlan.{TestPlan}
use Rattle.lane_controls.specs.TestAccounts.{IsTold, LeavesNothing, change_in_hand, changes_of, is_in_hand, is_named}
use Rattle.lane_controls.specs.TestOperations.{is_among, is_of}
use Rattle.lane_controls.specs.TestSteps.{AllMade}
use Rattle.lane_controls.proofs.LinkTestLaws.{named_more, or_assoc}
use Rattle.lane_controls.proofs.LinkTestTold.{leaves_nothing, sound_now}
use Rattle.lane_controls.proofs.TestInvariants.{IsSound}

among_both : (on left : List Change) (a : ℕ) → is_among (on ++ left) a ≡ (is_among on a || is_among left a)
among_both [] left a = refl
among_both (change ∷ on) left a = ap (λ (b : Bool). is_of a change || b) (among_both on left a) ∙ sym (or_assoc (is_of a change) (is_among on a) (is_among left a))

made_both : (plan : TestPlan) (history : History) (on left : List Change) → AllMade plan history on → AllMade plan history left → AllMade plan history (on ++ left)
made_both plan history [] left made rest = rest
made_both plan history (change ∷ on) left (first, made) rest = (first, made_both plan history on left made rest)

or_nothing : (x : Bool) → (x || false) ≡ x
or_nothing true = refl
or_nothing false = refl

in_hand_among : (now : TestStage) (a : ℕ) → is_among (change_in_hand now) a ≡ is_in_hand now a
in_hand_among stage.Advertised a = refl
in_hand_among stage.Capabilities a = refl
in_hand_among stage.Paths a = refl
in_hand_among (stage.Unread switch) a = refl
in_hand_among (stage.Found change) a = refl
in_hand_among (stage.Switched change) a = or_nothing (is_of a change)
in_hand_among (stage.Again change now) a = or_nothing (is_of a change)
in_hand_among stage.Selecting a = refl
in_hand_among stage.Clearing a = refl
in_hand_among stage.Resting a = refl
in_hand_among stage.Reading a = refl
in_hand_among stage.Collecting a = refl
in_hand_among (stage.Down change) a = or_nothing (is_of a change)
in_hand_among (stage.Restore change now) a = or_nothing (is_of a change)
in_hand_among stage.Over a = refl

named_among : (test : LinkTest) (a : ℕ) → is_named test.stage test a ≡ true → is_among (changes_of test) a ≡ true
named_among test a named =
    among_both (change_in_hand test.stage ++ test.on.items) test.still_on.items a
    ∙ ap (λ (b : Bool). b || is_among test.still_on.items a) (among_both (change_in_hand test.stage) test.on.items a)
    ∙ or_assoc (is_among (change_in_hand test.stage) a) (is_among test.on.items a) (is_among test.still_on.items a)
    ∙ ap (λ (b : Bool). b || (is_among test.on.items a || is_among test.still_on.items a)) (in_hand_among test.stage a)
    ∙ named

pub names : (events : Events) (test : LinkTest) → IsTold events test → LeavesNothing test.plan events (is_among (changes_of test))
names events test told =
    let leaves = leaves_nothing events test told in
    record {
      steps = leaves.steps;
      accounted = named_more test.plan (steps_of events) (is_named test.stage test) (is_among (changes_of test)) (named_among test) leaves.accounted;
      on = leaves.on;
    }

made_at : (history : History) (test : LinkTest) (now : TestStage) → IsSound now history test → AllMade test.plan history (change_in_hand now)
made_at history test stage.Advertised sound = tt
made_at history test stage.Capabilities sound = tt
made_at history test stage.Paths sound = tt
made_at history test (stage.Unread switch) sound = tt
made_at history test (stage.Found change) sound = tt
made_at history test (stage.Switched change) sound = (sound.at.1, tt)
made_at history test (stage.Again change now) sound = (sound.at.1, tt)
made_at history test stage.Selecting sound = tt
made_at history test stage.Clearing sound = tt
made_at history test stage.Resting sound = tt
made_at history test stage.Reading sound = tt
made_at history test stage.Collecting sound = tt
made_at history test (stage.Down change) sound = (sound.at, tt)
made_at history test (stage.Restore change now) sound = (sound.at.0, tt)
made_at history test stage.Over sound = tt

pub made_all : (events : Events) (test : LinkTest) → IsTold events test → AllMade test.plan (steps_of events) (changes_of test)
made_all events test told =
    let sound = sound_now events test told in
    let history = steps_of events in
    made_both test.plan history (change_in_hand test.stage ++ test.on.items) test.still_on.items
    (made_both test.plan history (change_in_hand test.stage) test.on.items (made_at history test test.stage sound) sound.kept.on_right) sound.kept.left_right
