-- How a list is cut at the first element that passes a test.
use Rattle.std.proofs.Common.{◌≡◌, ℕ, ◌+◌, ◌<◌, Bool, cond, List, [], ◌∷◌, length, take, drop, Some, None, ap, ◌∙◌, inl, inr, arith}
use Rattle.std.specs.List.{position, position_or_len, slice_split}
use Rattle.std.proofs.lemmas.Bool.{cases_lt, lt-ltb, le-ltb}
use Rattle.std.proofs.lemmas.List.Sums.{fails_before_first}
use Rattle.std.proofs.lemmas.List.Splits.{slice_split_first, slice_split_none}

module _ {X : Type 0} (p : X → Bool) (xs : List X) where
  abbrev place : ℕ
  place = position_or_len p xs

  cut_place : (end : ℕ) → Some end ≡ position p xs → (place ≡ end) × (place < length xs)
  cut_place end e = elim (cases_lt place (length xs)) [
    | inl within ↦
        let found : Some end ≡ Some place = e ∙ ap (λ b. cond b (Some place) None) (lt-ltb _ _ within) in
        (cc, within)
    | inr past ↦
        let lost : Some end ≡ None = e ∙ ap (λ b. cond b (Some place) None) (le-ltb _ _ past) in
        absurd cc
  ]

  -- at the first element that passes
  pub split_at_place : (d : X) (end : ℕ) → Some end ≡ position p xs → slice_split p xs ≡ take end xs ∷ slice_split p (drop (end + 1) xs)
  split_at_place d end e =
      let found = cut_place end e in
      rw (← found.0) (slice_split_first p xs d found.1)

  -- nowhere
  pub split_nowhere : None ≡ position p xs → slice_split p xs ≡ xs ∷ []
  split_nowhere e = elim (cases_lt place (length xs)) [
    | inl within ↦
        let found : None ≡ Some place = e ∙ ap (λ b. cond b (Some place) None) (lt-ltb _ _ within) in
        absurd cc
    | inr past ↦ slice_split_none p xs (λ i d within. fails_before_first p xs i d (omega arith))
  ]
