-- The observations before a place: after places that have none they are the same, and after one more that has one they are one more.
use Rattle.std.proofs.Common.{◌≡◌, ◌<◌, ◌≤◌, ◌∙◌, ℕ, zero, suc, ◌+◌, Option, None, [], ◌∷◌, ◌++◌, ap, arith, ◌-◌}
use Rattle.std.specs.Prelude.{option_to_list}
use Rattle.std.proofs.lemmas.List.{append-nil}
use Rattle.paged_memory.specs.Images.{Memory}
use Rattle.observables.specs.declared.observation.Observation.{Observation}
use Rattle.observables.specs.Observations.{IsNextObservation, all_places, observation_at, observations_before}

abbrev NoneUpTo : Memory → ℕ → ℕ → Type 0
NoneUpTo memory from to = (k : ℕ) → from ≤ k → k < to → observation_at memory k ≡ None

same_after : (memory : Memory) (from n to : ℕ) → to ≡ n + from → NoneUpTo memory from to → observations_before memory to ≡ observations_before memory from
unfolding observations_before
same_after memory from zero to is none = let same : to ≡ from = omega (arith, is) in ap (λ (k : ℕ). observations_before memory k) same
same_after memory from (suc n) to is none =
    let last : to ≡ suc (n + from) = omega (arith, is) in
    ap (λ (k : ℕ). observations_before memory k) last
    ∙ ap (λ (o : Option Observation). observations_before memory (n + from) ++ option_to_list o) (none (n + from) (omega arith) (omega (arith, last)))
    ∙ append-nil (observations_before memory (n + from))
    ∙ same_after memory from n (n + from) (omega arith) (λ k reached below. none k reached (omega (arith, last, below)))

same_up_to : (memory : Memory) (from to : ℕ) → from ≤ to → NoneUpTo memory from to → observations_before memory to ≡ observations_before memory from
same_up_to memory from to within none = same_after memory from (to - from) to (omega (arith, within)) none

successor : (n : ℕ) → n + 1 ≡ suc n
successor n = omega arith

pub one_more : (memory : Memory) (from place : ℕ) (found : Observation) → IsNextObservation memory from (place, found)
    → observations_before memory (place + 1) ≡ observations_before memory from ++ found ∷ []
unfolding observations_before
one_more memory from place found next =
    ap (λ (n : ℕ). observations_before memory n) (successor place)
    ∙ ap (λ (o : Option Observation). observations_before memory place ++ option_to_list o) next.is_there
    ∙ ap (λ before. before ++ found ∷ []) (same_up_to memory from place next.not_before next.first)

pub no_more : (memory : Memory) (from : ℕ) → from ≤ all_places → NoneUpTo memory from all_places → observations_before memory all_places ≡ observations_before memory from
no_more memory from within none = same_up_to memory from all_places within none
