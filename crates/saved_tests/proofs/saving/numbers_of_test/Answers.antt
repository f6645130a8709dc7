use Rattle.std.proofs.Common.{refl}
use Rattle.saved_tests.specs.declared.numbers.SavedTest.{SavedTest}
use Rattle.saved_tests.specs.SavedTests.{test_magic}
use Rattle.saved_tests.proofs.ProcedureBack.{sound, test_back}
use Rattle.saved_tests.proofs.saving.numbers_of_test.Goals as goal

abbrev numbers : goal.After-result-2-1 → SavedTest
numbers c =
    let test = c.args.test.now in
    record {
      magic = test_magic;
      idle = 0;
      pause = 0;
      limit = 0;
      plan = c.numbers_of_plan-plan.result;
      next_switch = test.next_switch;
      steps = 0;
      max_steps = 0;
      stage = c.numbers_of_stage-stage.result.0;
      byte = c.numbers_of_stage-stage.result.2;
      hand = c.numbers_of_stage-stage.result.1;
      tries = test.tries;
      rounds = test.rounds;
      fault = c.numbers_of_fault-fault.result.0;
      fault_control = c.numbers_of_fault-fault.result.1;
      on_count = c.numbers_of_changes-on.result.0;
      still_on_count = c.numbers_of_changes-still_on.result.0;
      result_count = c.numbers_of_bytes-results.result.0;
      due = 0;
      doubts = 0;
      selection = 0;
      page = 0;
      taken = 0;
      taken_page = 0;
      flags = test.flags;
      on = c.numbers_of_changes-on.result.1;
      still_on = c.numbers_of_changes-still_on.result.1;
      results = c.numbers_of_bytes-results.result.1;
    }

pub returns-clause-same : goal.returns-clause-same
returns-clause-same c =
    test_back (numbers c) c.args.test.now (record {
      plan = c.numbers_of_plan-plan.ensures.same;
      stage = c.numbers_of_stage-stage.ensures.same;
      next_switch = refl;
      on = c.numbers_of_changes-on.ensures.same;
      still_on = c.numbers_of_changes-still_on.ensures.same;
      tries = refl;
      rounds = refl;
      fault = c.numbers_of_fault-fault.ensures.same;
      results = c.numbers_of_bytes-results.ensures.same;
      flags = refl;
    })

pub returns-clause-sound : goal.returns-clause-sound
returns-clause-sound c =
    sound (numbers c) (record {
      magic = refl;
      plan = c.numbers_of_plan-plan.ensures.known;
      stage = c.numbers_of_stage-stage.ensures.known;
      fault = c.numbers_of_fault-fault.ensures.known;
      results = c.numbers_of_bytes-results.ensures.few;
      on = c.numbers_of_changes-on.ensures.known;
      still_on = c.numbers_of_changes-still_on.ensures.known;
    })
