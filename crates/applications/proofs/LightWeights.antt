-- No path weighs more than four weights of 32 bits.
use Rattle.std.proofs.Common.{ℕ, ◌*◌, ◌-◌, ◌≤◌, ◌==◌, ◌&&◌, nat_lt, List, get_or, slice_index, arith}
use Rattle.std.specs.List.{All}
use Rattle.std.proofs.lemmas.Bool.{cond_both}
use Rattle.std.proofs.lemmas.List.{get_or_past}
use Rattle.applications.specs.AppWeights.{ArePathWeights, PathWeights, stay_at, weight_from}

app_light : (weights : List ℕ) → All (λ weight. weight ≤ 3 * 4294967295) weights → (number : ℕ) → get_or weights number 0 ≤ 3 * 4294967295
app_light weights light number = grind (arith, light number 0, get_or_past)

pub stay_light : (weights : PathWeights) → ArePathWeights weights → (number host : ℕ) → stay_at weights number host ≤ 4294967295
stay_light weights are number host =
    cond_both (nat_lt 0 number && slice_index weights.active (host - 1) == number) weights.stay 0 (λ stay. stay ≤ 4294967295) (λ e. are.stay) (λ e. omega arith)

pub path_light : (weights : PathWeights) → ArePathWeights weights → (number host : ℕ) → weight_from weights number host ≤ 4 * 4294967295
unfolding weight_from
path_light weights are number host = omega (arith, app_light weights.by_app are.light number, stay_light weights are number host)
