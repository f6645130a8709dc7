-- Choices by falling sums, some placed after others.
use Rattle.std.proofs.Common.{◌≡◌, List, [], ◌∷◌, ◌++◌, refl}
use Rattle.plan_drawing.specs.declared.choices.Choice.{Choice}
use Rattle.plan_drawing.specs.Choices.{placed, ranked_with}

pub ranked_append : (ranked some more : List Choice) → ranked_with ranked (some ++ more) ≡ ranked_with (ranked_with ranked some) more
unfolding ranked_with
ranked_append ranked [] more = refl
ranked_append ranked (choice ∷ some) more = ranked_append (placed choice ranked) some more
