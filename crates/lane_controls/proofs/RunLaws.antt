-- What holds of a link test holds of it on any bus.
use Rattle.std.proofs.Common.{ℕ, Bool, true, Option}
use Rattle.bus_model.specs.declared.operation.Op.{Op}
use Rattle.conversations.specs.declared.pausing.Patience.{Patience}
use Rattle.conversations.specs.Events.{Events}
use Rattle.lane_controls.specs.declared.link_test.LinkTest.{LinkTest}
use Rattle.lane_controls.specs.TestAccounts.{IsTold, LeavesNothing, is_named}
use Rattle.lane_controls.specs.TestRuns.{OnRealBus, OnTestPages}
use Rattle.lane_controls.proofs.LinkTestTold.{leaves_nothing}

pub names_anywhere : (doubts : Bool) (events : Events) (test : LinkTest) → OnTestPages doubts test.plan (λ own. IsTold own test) events
    → OnTestPages doubts test.plan (λ own. LeavesNothing test.plan own (is_named test.stage test)) events
names_anywhere doubts events test (own, adds, told) = (own, adds, leaves_nothing own test told)

pub names_really : (patience : Patience) (events : Events) (test : LinkTest) (wanted : Option Op) (due : Bool) (idle : ℕ) → OnRealBus patience test.plan (λ own. IsTold own test) wanted due idle events
    → OnRealBus patience test.plan (λ own. LeavesNothing test.plan own (is_named test.stage test)) wanted due idle events
names_really patience events test wanted due idle (own, paused, on) = (own, paused, names_anywhere true own test on)
