-- A link test as plain numbers: which numbers are whose. (docs/lanes.md, "From C and Python"; this project's own)
use Rattle.std.specs.Prelude.{ℕ, ◌==◌, ◌&&◌, ◌||◌, nat_le, Bool, List, map, take, Option, Some, None, if◌then◌else◌}
use Rattle.std.specs.List.{list_all}
use Rattle.conversations.specs.declared.on_page.OnPage.{OnPage}
use Rattle.conversations.specs.Patiently.{Patient}
use Rattle.lane_controls.specs.declared.link_test.LinkTest.{LinkTest}
use Rattle.lane_controls.specs.declared.link_test.TestFault.{TestFault}
use Rattle.lane_controls.specs.declared.link_test.TestFault.TheVariants as faults
use Rattle.lane_controls.specs.declared.link_test.TestStage.{TestStage}
use Rattle.lane_controls.specs.declared.link_test.TestStage.TheVariants as stages
use Rattle.lane_controls.specs.declared.test_plan.Change.{Change}
use Rattle.lane_controls.specs.declared.test_plan.Switch.{Switch}
use Rattle.lane_controls.specs.declared.test_plan.TestPlan.{TestPlan}
use Rattle.lane_controls.specs.Controls.{address_of}
use Rattle.paged_memory.specs.declared.page_addressing.KnownPage.{KnownPage}
use Rattle.paged_memory.specs.declared.page_addressing.KnownPage.TheVariants as pages
use Rattle.saved_tests.specs.declared.numbers.SavedChange.{SavedChange}
use Rattle.saved_tests.specs.declared.numbers.SavedSwitch.{SavedSwitch}
use Rattle.saved_tests.specs.declared.numbers.SavedTest.{SavedTest}
use Rattle.saved_tests.specs.declared.numbers.SavedTestPlan.{SavedTestPlan}
use Rattle.saved_tests.specs.SavedControls.{control_in, is_control}
use Rattle.saved_tests.specs.Selections.{is_selection, results_in}

-- what stands in each: DCT1, in ASCII
abbrev pub test_magic : ℕ
test_magic = 0x44435431

-- each number but 1 stands for no
abbrev pub is_one : ℕ → Bool
is_one number = number == 1

-- ---- what is switched

abbrev pub is_switch : SavedSwitch → Bool
is_switch saved = is_control saved.control

abbrev pub switch_in : SavedSwitch → Switch
switch_in saved = record { control = control_in saved.control; mask = saved.mask; bits = saved.bits }

abbrev pub is_change : SavedChange → Bool
is_change saved = is_switch saved.switch

abbrev pub change_in : SavedChange → Change
change_in saved = record { switch = switch_in saved.switch; original = saved.original }

abbrev pub numbers_of_switch : Switch → SavedSwitch
numbers_of_switch switch = record { control = address_of switch.control; mask = switch.mask; bits = switch.bits }

abbrev pub numbers_of_change : Change → SavedChange
numbers_of_change change = record { switch = numbers_of_switch change.switch; original = change.original }

-- the first of them, so many
abbrev pub are_switches : ℕ → List SavedSwitch → Bool
are_switches count saved = nat_le count 16 && list_all is_switch (take count saved)

abbrev pub are_changes : ℕ → List SavedChange → Bool
are_changes count saved = nat_le count 16 && list_all is_change (take count saved)

abbrev pub changes_in : ℕ → List SavedChange → List Change
changes_in count saved = map change_in (take count saved)

-- ---- what is to be done

abbrev pub is_plan : SavedTestPlan → Bool
is_plan saved = is_selection saved.results && are_switches saved.count saved.switches

abbrev pub plan_in : SavedTestPlan → TestPlan
plan_in saved = record {
  switches = record { items = map switch_in (take saved.count saved.switches) };
  permitted = saved.permitted;
  media_paths = saved.media_paths;
  tries = saved.tries;
  results = results_in saved.results;
  rounds = saved.rounds;
  period = saved.period;
}

-- ---- how far it has come

-- a control, or none
abbrev pub is_hand : ℕ → Bool
is_hand control = control == 0 || is_control control

abbrev pub is_stage : ℕ → SavedChange → Bool
is_stage number hand = nat_le number 14 && is_hand hand.switch.control

abbrev pub stage_in : ℕ → SavedChange → ℕ → TestStage
stage_in number hand byte =
    if number == 0 then stages.Advertised
    else (if number == 1 then stages.Capabilities
    else (if number == 2 then stages.Paths
    else (if number == 3 then stages.Unread (switch_in hand.switch)
    else (if number == 4 then stages.Found (change_in hand)
    else (if number == 5 then stages.Switched (change_in hand)
    else (if number == 6 then stages.Again (change_in hand) byte
    else (if number == 7 then stages.Selecting
    else (if number == 8 then stages.Clearing
    else (if number == 9 then stages.Resting
    else (if number == 10 then stages.Reading
    else (if number == 11 then stages.Collecting
    else (if number == 12 then stages.Down (change_in hand)
    else (if number == 13 then stages.Restore (change_in hand) byte
    else stages.Over)))))))))))))

abbrev pub is_fault : ℕ → ℕ → Bool
is_fault number control = nat_le number 9 && is_hand control

abbrev pub fault_in : ℕ → ℕ → Option TestFault
fault_in number control =
    if number == 0 then None
    else (if number == 1 then Some (faults.Twice (control_in control))
    else (if number == 2 then Some faults.NoDiagnostics
    else (if number == 3 then Some (faults.Unsupported (control_in control))
    else (if number == 4 then Some faults.UnsupportedResults
    else (if number == 5 then Some faults.LoopbacksOnBothSides
    else (if number == 6 then Some (faults.NotPermitted (control_in control))
    else (if number == 7 then Some faults.Stopped
    else (if number == 8 then Some (faults.NotSwitched (control_in control))
    else Some (faults.TooMany (control_in control))))))))))

abbrev pub numbers_of_fault : Option TestFault → ℕ × ℕ
numbers_of_fault None = (0, 0)
numbers_of_fault (Some (faults.Twice control)) = (1, address_of control)
numbers_of_fault (Some faults.NoDiagnostics) = (2, 0)
numbers_of_fault (Some (faults.Unsupported control)) = (3, address_of control)
numbers_of_fault (Some faults.UnsupportedResults) = (4, 0)
numbers_of_fault (Some faults.LoopbacksOnBothSides) = (5, 0)
numbers_of_fault (Some (faults.NotPermitted control)) = (6, address_of control)
numbers_of_fault (Some faults.Stopped) = (7, 0)
numbers_of_fault (Some (faults.NotSwitched control)) = (8, address_of control)
numbers_of_fault (Some (faults.TooMany control)) = (9, address_of control)

abbrev pub test_at : SavedTest → LinkTest
test_at saved = record {
  plan = plan_in saved.plan;
  stage = stage_in saved.stage saved.hand saved.byte;
  next_switch = saved.next_switch;
  on = record { items = changes_in saved.on_count saved.on };
  still_on = record { items = changes_in saved.still_on_count saved.still_on };
  tries = saved.tries;
  rounds = saved.rounds;
  fault = fault_in saved.fault saved.fault_control;
  results = record { items = take saved.result_count saved.results };
  flags = saved.flags;
}

-- ---- on a bus

abbrev pub page_in : ℕ → ℕ → KnownPage
page_in number page = if number == 2 then pages.Page page else (if number == 1 then pages.Open else pages.Unknown)

abbrev pub taken_in : ℕ → ℕ → Option ℕ
taken_in number page = if number == 1 then Some page else None

abbrev pub Procedure : Type 0
Procedure = Patient (OnPage LinkTest)

abbrev pub procedure_in : SavedTest → Procedure
procedure_in saved = record {
  conversation = record {
    conversation = record {
      conversation = test_at saved;
      selection = page_in saved.selection saved.page;
      taken = taken_in saved.taken saved.taken_page;
      doubts = is_one saved.doubts;
    };
    patience = record { pause = saved.pause; limit = saved.limit };
    due = is_one saved.due;
    idle = saved.idle;
  };
  steps = saved.steps;
  limit = saved.max_steps;
}

-- no more controls than may be, and each is one
abbrev pub has_lists : SavedTest → Bool
has_lists saved = nat_le saved.result_count 128 && (are_changes saved.on_count saved.on && are_changes saved.still_on_count saved.still_on)

abbrev pub is_sound : SavedTest → Bool
is_sound saved =
    saved.magic == test_magic && (is_plan saved.plan && (is_stage saved.stage saved.hand && (is_fault saved.fault saved.fault_control && has_lists saved)))

-- the test under way by these numbers; none by other memory
unfoldable pub test_in : SavedTest → Option Procedure
test_in saved = if is_sound saved then Some (procedure_in saved) else None
