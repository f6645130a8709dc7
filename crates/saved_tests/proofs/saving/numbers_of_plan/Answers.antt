use Rattle.std.proofs.Common.{◌∙◌, ℕ, ap}
use Rattle.std.proofs.lemmas.Bool.{and_from}
use Rattle.saved_tests.specs.SavedTests.{are_switches}
use Rattle.saved_tests.specs.Selections.{is_selection, results_in}
use Rattle.saved_tests.proofs.SelectionsBack.{results_back, results_known}
use Rattle.saved_tests.proofs.saving.numbers_of_plan.Goals as goal

pub returns-clause-same : goal.returns-clause-same
returns-clause-same c =
    let plan = c.args.plan.now in
    let results = ap (λ (code : ℕ). results_in code) c.code_for-results.ensures ∙ results_back plan.results in
    let switches = c.numbers_of_switches-switches.ensures.same in
    λ i. record {
      switches = record { items = switches i };
      permitted = plan.permitted;
      media_paths = plan.media_paths;
      tries = plan.tries;
      results = results i;
      rounds = plan.rounds;
      period = plan.period;
    }

pub returns-clause-known : goal.returns-clause-known
returns-clause-known c =
    let known = ap (λ (code : ℕ). is_selection code) c.code_for-results.ensures ∙ results_known c.args.plan.now.results in
    and_from (is_selection c.code_for-results.result) (are_switches c.numbers_of_switches-switches.result.0 c.numbers_of_switches-switches.result.1) known c.numbers_of_switches-switches.ensures.known
