-- The instances that a module lists: one more, what holds of all, and those of memories that have the same.
use Rattle.std.proofs.Common.{◌≡◌, ◌∙◌, ℕ, zero, suc, ◌+◌, ◌-◌, ◌<◌, ◌≤◌, Bool, true, false, Option, None, Some, List, [], ◌∷◌, ◌++◌, refl, sym, ap, subst, append-nil, if◌then◌else◌, arith}
use Rattle.std.specs.List.{AllByRecursion}
use Rattle.paged_memory.specs.Images.{Memory}
use Rattle.observables.specs.declared.observation.Observation.{Observation}
use Rattle.observables.specs.Observations.{IsNextObservation, all_places, instance_places, monitor_places, observation_at}
use Rattle.observable_reports.specs.ListedInstances.{all_listed, listed, listed_before}
use Rattle.observable_reports.specs.declared.listed_instances.Seen.{Seen}

abbrev NoneUpTo : Memory → ℕ → ℕ → Type 0
NoneUpTo memory from to = (k : ℕ) → from ≤ k → k < to → observation_at memory k ≡ None

same_after : (memory : Memory) (from n to : ℕ) → to ≡ n + from → NoneUpTo memory (monitor_places + from) (monitor_places + to) → listed_before memory to ≡ listed_before memory from
unfolding listed_before
same_after memory from zero to is none = let same : to ≡ from = omega (arith, is) in ap (λ (k : ℕ). listed_before memory k) same
same_after memory from (suc n) to is none =
    let last : to ≡ suc (n + from) = omega (arith, is) in
    ap (λ (k : ℕ). listed_before memory k) last
    ∙ ap (λ (o : Option Observation). listed_before memory (n + from) ++ listed (suc (n + from)) o) (none (monitor_places + (n + from)) (omega arith) (omega (arith, last)))
    ∙ append-nil (listed_before memory (n + from))
    ∙ same_after memory from n (n + from) (omega arith) (λ k reached below. none k reached (omega (arith, last, below)))

same_up_to : (memory : Memory) (from to : ℕ) → from ≤ to → NoneUpTo memory (monitor_places + from) (monitor_places + to) → listed_before memory to ≡ listed_before memory from
same_up_to memory from to within none = same_after memory from (to - from) to (omega (arith, within)) none

-- the first observation from a place on is one more instance
pub one_more : (memory : Memory) (from place : ℕ) (found : Observation) → monitor_places ≤ from → IsNextObservation memory from (place, found)
    → listed_before memory (place + 1 - monitor_places) ≡ listed_before memory (from - monitor_places) ++ listed (place + 1 - monitor_places) (Some found)
unfolding listed_before
one_more memory from place found after next =
    let reached = next.not_before in
    let last : place + 1 - monitor_places ≡ suc (place - monitor_places) = omega (arith, reached, after) in
    ap (λ (k : ℕ). listed_before memory k) last
    ∙ ap (λ (k : ℕ). listed_before memory (place - monitor_places) ++ listed (suc (place - monitor_places)) (observation_at memory k)) (omega (arith, reached, after))
    ∙ ap (λ (o : Option Observation). listed_before memory (place - monitor_places) ++ listed (suc (place - monitor_places)) o) next.is_there
    ∙ ap (λ (n : ℕ). listed_before memory (place - monitor_places) ++ listed n (Some found)) (sym last)
    ∙ ap (λ before. before ++ listed (place + 1 - monitor_places) (Some found))
    (same_up_to memory (from - monitor_places) (place - monitor_places) (omega (arith, reached)) (λ k above below. next.first k (omega (arith, above, after)) (omega (arith, below, reached, after))))

-- where no more follows, all are seen
pub no_more : (memory : Memory) (from : ℕ) → monitor_places ≤ from → from ≤ all_places → NoneUpTo memory from all_places → all_listed memory ≡ listed_before memory (from - monitor_places)
no_more memory from after within none =
    same_up_to memory (from - monitor_places) instance_places (omega (arith, within)) (λ k above below. none k (omega (arith, above, after)) (omega (arith, below)))

-- ---- what holds of all instances

pub all_append : {A : Type 0} (P : A → Type 0) (xs ys : List A) → AllByRecursion P xs → AllByRecursion P ys → AllByRecursion P (xs ++ ys)
all_append P [] ys all more = more
all_append P (x ∷ xs) ys all more = (all.0, all_append P xs ys all.1 more)

-- it holds of none, and still where a number has no instance, or one more
module _ (P : ℕ → List Seen → Type 0) (none : P 0 []) (without : (n : ℕ) (seen : List Seen) → P n seen → P (suc n) seen)
    (with_one : (n : ℕ) (seen : List Seen) (found : Observation) → P n seen → P (suc n) (seen ++ record { number = suc n; observation = found } ∷ [])) where
  passed : (n : ℕ) (seen : List Seen) → P n seen → P (suc n) (seen ++ [])
  passed n seen holds = subst (λ (all : List Seen). P (suc n) all) (sym (append-nil seen)) (without n seen holds)

  if_advertised : (n : ℕ) (seen : List Seen) (found : Observation) (advertised : Bool) → P n seen
      → P (suc n) (seen ++ (if advertised then record { number = suc n; observation = found } ∷ [] else []))
  if_advertised n seen found false holds = passed n seen holds
  if_advertised n seen found true holds = with_one n seen found holds

  if_there : (n : ℕ) (seen : List Seen) (found : Option Observation) → P n seen → P (suc n) (seen ++ listed (suc n) found)
  if_there n seen None holds = passed n seen holds
  if_there n seen (Some found) holds = if_advertised n seen found found.advertised holds

  pub each_listed : (memory : Memory) (n : ℕ) → P n (listed_before memory n)
  unfolding listed_before
  each_listed memory zero = none
  each_listed memory (suc n) = if_there n (listed_before memory n) (observation_at memory (monitor_places + n)) (each_listed memory n)

-- ---- memories with the same instances

module _ (a b : Memory) (same : (place : ℕ) → monitor_places ≤ place → observation_at a place ≡ observation_at b place) where
  before_same : (n : ℕ) → listed_before a n ≡ listed_before b n
  unfolding listed_before
  before_same zero = refl
  before_same (suc n) =
      let here = same (monitor_places + n) (omega arith) in
      λ i. before_same n i ++ listed (suc n) (here i)

  pub listed_same : all_listed a ≡ all_listed b
  listed_same = before_same instance_places
