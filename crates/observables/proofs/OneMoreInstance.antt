-- One more instance, which is used or not.
use Rattle.std.proofs.Common.{◌≡◌, ◌∙◌, ℕ, suc, ◌+◌, Option, Some, None, [], ◌∷◌, ◌++◌, ap, sym, arith}
use Rattle.std.specs.Prelude.{option_to_list}
use Rattle.std.proofs.lemmas.List.{append-nil}
use Rattle.paged_memory.specs.Images.{Memory}
use Rattle.observables.specs.declared.instance.Instance.{Instance}
use Rattle.observables.specs.Instances.{instance_at, instances_before}

successor : (n : ℕ) → n + 1 ≡ suc n
successor n = omega arith

pub one_more : (memory : Memory) (bank instance byte : ℕ) (found : Instance) → byte ≡ instance → instance_at memory bank byte ≡ Some found
    → instances_before memory bank (instance + 1) ≡ instances_before memory bank instance ++ found ∷ []
unfolding instances_before
one_more memory bank instance byte found same value =
    ap (λ (n : ℕ). instances_before memory bank n) (successor instance)
    ∙ ap (λ (k : ℕ). instances_before memory bank instance ++ option_to_list (instance_at memory bank k)) (sym same)
    ∙ ap (λ (o : Option Instance). instances_before memory bank instance ++ option_to_list o) value

pub none_more : (memory : Memory) (bank instance byte : ℕ) → byte ≡ instance → instance_at memory bank byte ≡ None
    → instances_before memory bank (instance + 1) ≡ instances_before memory bank instance
unfolding instances_before
none_more memory bank instance byte same value =
    ap (λ (n : ℕ). instances_before memory bank n) (successor instance)
    ∙ ap (λ (k : ℕ). instances_before memory bank instance ++ option_to_list (instance_at memory bank k)) (sym same)
    ∙ ap (λ (o : Option Instance). instances_before memory bank instance ++ option_to_list o) value
    ∙ append-nil (instances_before memory bank instance)
