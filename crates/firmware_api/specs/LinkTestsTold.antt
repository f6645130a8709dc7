-- Link tests as C keeps them: what is told of each call. (docs/lanes.md, "From C and Python"; this project's own)
use Rattle.std.specs.Prelude.{◌≡◌, ℕ, ◌==◌, Option, Some, None, if◌then◌else◌}
use Rattle.conversations.specs.declared.next.Next.{Next}
use Rattle.conversations.specs.declared.next.Next.TheVariants.{Do, Wait, End}
use Rattle.conversations.specs.declared.pausing.Timed.{Timed}
use Rattle.conversations.specs.declared.within.Spent.{Spent}
use Rattle.lane_controls.specs.declared.link_test.TestEnd.{TestEnd}
use Rattle.lane_controls.specs.declared.results.Endian.{Endian}
use Rattle.lane_controls.specs.declared.results.Endian.TheVariants.{Little, Big}
use Rattle.saved_tests.specs.declared.ending.SavedTestEnd.{SavedTestEnd}
use Rattle.saved_tests.specs.declared.link_plan.LinkPlan.{LinkPlan}
use Rattle.saved_tests.specs.declared.numbers.SavedTest.{SavedTest}
use Rattle.saved_tests.specs.Endings.{ending_of}
use Rattle.saved_tests.specs.LinkPlans.{is_plan}
use Rattle.saved_tests.specs.SavedTests.{Procedure, test_in}
use Rattle.saved_tests.specs.Turns.{wants}
use Rattle.firmware_api.specs.declared.status.Refusal.{Refusal}
use Rattle.firmware_api.specs.declared.status.Refusal.TheVariants.{NoConversation, NotEnded}
use Rattle.firmware_api.specs.Statuses.{done, status_of}

-- a plan of no such results, gate, side, pattern or loopback is none
abbrev pub refusal_of : LinkPlan → Option Refusal
refusal_of plan = if is_plan plan then None else Some NoConversation

abbrev pub refusal_in : Option Procedure → Option Refusal
refusal_in None = Some NoConversation
refusal_in (Some procedure) = None

abbrev pub wanted_of : Option Procedure → Option (Next (Spent (Timed TestEnd)))
wanted_of None = None
wanted_of (Some procedure) = Some (wants procedure)

abbrev pub wanted_in : SavedTest → Option (Next (Spent (Timed TestEnd)))
wanted_in saved = wanted_of (test_in saved)

abbrev pub IsEndBy : ℕ → SavedTestEnd → Next (Spent (Timed TestEnd)) → Type 0
IsEndBy status ended (Do op) = status ≡ status_of NotEnded
IsEndBy status ended (Wait time) = status ≡ status_of NotEnded
IsEndBy status ended (End spent) = (status ≡ done) × (ended ≡ ending_of spent)

abbrev pub IsEndTold : ℕ → SavedTestEnd → Option Procedure → Type 0
IsEndTold status ended None = status ≡ status_of NoConversation
IsEndTold status ended (Some procedure) = IsEndBy status ended (wants procedure)

-- each number but 0 says that the highest byte comes first
abbrev pub endian_of : ℕ → Endian
endian_of number = if number == 0 then Little else Big
