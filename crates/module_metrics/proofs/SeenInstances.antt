-- The numbers of the instances that are seen rise.
use Rattle.std.proofs.Common.{◌≡◌, ◌≢◌, ℕ, suc, ◌<◌, ◌≤◌, Option, None, Some, List, [], ◌∷◌, ◌++◌, map, sym, subst, arith}
use Rattle.std.proofs.lemmas.List.{map-append}
use Rattle.std.specs.List.{AllByRecursion}
use Rattle.paged_memory.specs.Images.{Memory}
use Rattle.observables.specs.declared.observation.Observation.{Observation}
use Rattle.observables.specs.Observations.{instance_places}
use Rattle.reports.specs.declared.fault.ReportFault.{ReportFault}
use Rattle.reports.specs.Families.{detail_fault}
use Rattle.module_metrics.specs.Unless.{unless}
use Rattle.observable_reports.specs.ListedInstances.{all_listed}
use Rattle.observable_reports.proofs.ListedInstances.{all_append, each_listed}
use Rattle.module_metrics.specs.VdmMetrics.{vdm_seen}
use Rattle.observable_reports.specs.declared.listed_instances.Seen.{Seen}
use Rattle.module_metrics.specs.WellFormed.{AreApart}

-- ---- numbers

abbrev pub numbers : List Seen → List ℕ
numbers seen = map (λ (s : Seen). s.number) seen

abbrev Below : ℕ → List ℕ → Type 0
Below n ks = AllByRecursion (λ (k : ℕ). k < n) ks

below_more : (n m : ℕ) (ks : List ℕ) → n ≤ m → Below n ks → Below m ks
below_more n m [] more below = tt
below_more n m (k ∷ ks) more below = (omega (arith, more, below.0), below_more n m ks more below.1)

unlike : (n : ℕ) (ks : List ℕ) → Below n ks → AllByRecursion (λ (k : ℕ). AllByRecursion (λ (other : ℕ). k ≢ other) (n ∷ [])) ks
unlike n [] below = tt
unlike n (k ∷ ks) below = ((λ same. absurd (omega (arith, same, below.0)), tt), unlike n ks below.1)

pub apart_append : {A : Type 0} (xs ys : List A) → AreApart xs → AreApart ys → AllByRecursion (λ (x : A). AllByRecursion (λ (y : A). x ≢ y) ys) xs → AreApart (xs ++ ys)
apart_append [] ys first second across = second
apart_append (x ∷ xs) ys first second across = (all_append (λ y. x ≢ y) xs ys first.0 across.0, apart_append xs ys first.1 second across.1)

-- those before an instance have smaller numbers, and one more makes no number twice
pub record AreNumbered (bound : ℕ) (seen : List Seen) : Type 0 where
  pub below : AllByRecursion (λ (k : ℕ). k < bound) (numbers seen)
  pub apart : AreApart (numbers seen)

more_below : (n : ℕ) (seen : List Seen) → AreNumbered (suc n) seen → Below (suc (suc n)) (numbers seen)
more_below n seen are = below_more (suc n) (suc (suc n)) (numbers seen) (omega arith) are.below

numbered_one : (n : ℕ) (seen : List Seen) (found : Observation) → AreNumbered (suc n) seen → AreNumbered (suc (suc n)) (seen ++ record { number = suc n; observation = found } ∷ [])
numbered_one n seen found are =
    let last : List Seen = record { number = suc n; observation = found } ∷ [] in
    let all : numbers (seen ++ last) ≡ numbers seen ++ suc n ∷ [] = map-append (λ (s : Seen). s.number) seen last in
    record {
      below = subst (λ ks. Below (suc (suc n)) ks) (sym all)
          (all_append (λ (k : ℕ). k < suc (suc n)) (numbers seen) (suc n ∷ []) (more_below n seen are) (omega arith, tt));
      apart = subst (λ ks. AreApart ks) (sym all)
          (apart_append (numbers seen) (suc n ∷ []) are.apart (tt, tt) (unlike (suc n) (numbers seen) are.below));
    }

numbered_all : (memory : Memory) → AreNumbered 1025 (all_listed memory)
numbered_all memory =
    each_listed (λ (n : ℕ) (seen : List Seen). AreNumbered (suc n) seen) (record { below = tt; apart = tt })
    (λ n seen are. record { below = more_below n seen are; apart = are.apart })
    numbered_one memory instance_places

unless_numbered : (n : ℕ) (fault : Option ReportFault) (seen : List Seen) → AreNumbered n seen → AreNumbered n (unless fault seen)
unless_numbered n None seen are = are
unless_numbered n (Some fault) seen are = record { below = tt; apart = tt }

pub seen_numbered : (memory : Memory) → AreNumbered 1025 (vdm_seen memory)
unfolding vdm_seen
seen_numbered memory = unless_numbered 1025 (detail_fault memory) (all_listed memory) (numbered_all memory)
