-- A test that all elements of a list pass.
use Rattle.std.proofs.Common.{◌≡◌, inl, inr, ℕ, ◌<◌, Bool, true, List, get_or, length, sym, ◌∙◌}
use Rattle.std.proofs.lemmas.Bool.{cases_Bool, true≢false}
use Rattle.std.proofs.lemmas.List.Folds.{list_all_at}
use Rattle.std.specs.List.{list_all}

pub at_fits : {X : Type 0} (test : X → Bool) (xs : List X) (i : ℕ) (d : X) → i < length xs → list_all test xs ≡ true → test (get_or xs i d) ≡ true
at_fits test xs i d below all =
    elim (cases_Bool (test (get_or xs i d))) [
      | inl passes ↦ passes
      | inr fails ↦ absurd (true≢false (sym all ∙ list_all_at test xs i d below fails))
    ]
