-- The first instance that is used, after some that are not.
use Rattle.std.proofs.Common.{◌≡◌, ◌<◌, ◌≤◌, ◌∙◌, ℕ, None, Some, ap, arith}
use Rattle.paged_memory.specs.Images.{Memory}
use Rattle.observables.specs.declared.instance.Instance.{Instance}
use Rattle.observables.specs.Instances.{IsNextInstance, instance_at}

pub next : (memory : Memory) (bank from instance byte : ℕ) (found : Instance) → byte ≡ instance → found.number ≡ byte
    → instance_at memory bank byte ≡ Some found → from ≤ instance → ((k : ℕ) → from ≤ k → k < instance → instance_at memory bank k ≡ None)
    → IsNextInstance memory bank from found
next memory bank from instance byte found same number value above before = record {
  is_used = ap (λ (k : ℕ). instance_at memory bank k) number ∙ value;
  not_before = omega (arith, same, number);
  first = λ k reached below. before k reached (omega (arith, same, number, below));
}
