-- The order of keys is total, and tells keys apart.
use Rattle.std.proofs.Common.{sym, ap, ◌∙◌}
use Rattle.std.specs.Ordering.{nat_cmp}
use Rattle.std.specs.Cmp.{IsTotalOrder, nat_cmp_total}
use Rattle.std.specs.FinMap.{IsAntisymmetric}
use Rattle.std.proofs.lemmas.Cmp.{on_total, then_total}
use Rattle.std.proofs.lemmas.Map.Lookups.{exact_pairs, exact_unsigned}
use Rattle.paged_memory.specs.KeyOrder.{key_cmp, device_rank, half_rank}
use Rattle.paged_memory.specs.KeyCode.{numbers_of, key_of, key_back}

pub keys_total : IsTotalOrder key_cmp
keys_total = then_total (on_total (λ key. device_rank key.dev) nat_cmp_total) (then_total (on_total (λ key. half_rank key.half) nat_cmp_total)
    (then_total (on_total (λ key. key.bank) nat_cmp_total) (on_total (λ key. key.page) nat_cmp_total)))

-- keys that compare as equal are one
pub keys_apart : IsAntisymmetric key_cmp
keys_apart a b equal =
    let numbers = exact_pairs nat_cmp _ exact_unsigned (exact_pairs nat_cmp _ exact_unsigned (exact_pairs nat_cmp nat_cmp exact_unsigned exact_unsigned)) in
    sym (key_back a) ∙ ap key_of (numbers (numbers_of a) (numbers_of b) equal) ∙ key_back b
