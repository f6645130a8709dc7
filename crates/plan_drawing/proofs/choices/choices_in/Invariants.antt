use Rattle.std.proofs.Common.{◌≡◌, ◌≤◌, ◌++◌, length, drop}
use Rattle.std.specs.List.{flat_map}
use Rattle.applications.specs.declared.app.App.{App}
use Rattle.plan_drawing.specs.Choices.{best_of_app, choices_in, free_if_may, listed, ranked, ranked_with}
use Rattle.plan_drawing.specs.Walks.{basis_of}
use Rattle.plan_drawing.proofs.choices.choices_in.Given as goal

-- those that are placed, and those of the Applications that are left, make the whole
abbrev pub invariant-loop-app : goal.invariant-loop-app
invariant-loop-app l = record {
  whole : ranked (choices_in (basis_of l.problem l.gains) l.state)
      ≡ ranked_with l.choices.items
      (flat_map (λ (app : App). listed (best_of_app (basis_of l.problem l.gains) l.state app)) (drop l.app-index l.problem.advert.now.apps)
      ++ listed (free_if_may (basis_of l.problem l.gains) l.state));
  few : length l.choices.items ≤ l.app-index;
}
