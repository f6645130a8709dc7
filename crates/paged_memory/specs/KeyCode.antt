-- Keys as data that a proof can tell apart: by the device, the half, the bank and the page. (This project's own.)
use Rattle.std.specs.Prelude.{◌≡◌, ℕ, zero, suc, refl}
use Rattle.std.proofs.Common.{sym}
use Rattle.std.specs.Coded.{Coded, code_by, coded×, coded_ℕ}
use mathlib.Core.HLevel.{×_prop, Σ_prop_path}
use native.Mathlib.Nat.{ℕ_set}
use Rattle.bus_model.specs.declared.device.Dev.{Dev}
use Rattle.bus_model.specs.declared.device.Dev.TheVariants.{A0, A2}
use Rattle.paged_memory.specs.declared.key.Half.{Half}
use Rattle.paged_memory.specs.declared.key.Half.TheVariants.{Lower, Upper}
use Rattle.paged_memory.specs.declared.key.Key.{Key}
use Rattle.paged_memory.specs.Keys.{lower_key, upper_key}
use Rattle.paged_memory.specs.KeyOrder.{device_rank, half_rank}

abbrev pub numbers_of : Key → ℕ × (ℕ × (ℕ × ℕ))
numbers_of key = (device_rank key.dev, (half_rank key.half, (key.bank, key.page)))

abbrev pub device_of : ℕ → Dev
device_of zero = A0
device_of (suc n) = A2

abbrev pub key_of : ℕ × (ℕ × (ℕ × ℕ)) → Key
key_of (d, (zero, bp)) = lower_key (device_of d)
key_of (d, (suc h, (bank, page))) = upper_key (device_of d) bank page

one_proof : (parts : Dev × Half × ℕ × ℕ) → IsProp (parts.1 ≡ Lower → (parts.2 ≡ 0) × (parts.3 ≡ 0))
one_proof parts x y = λ i lower. ×_prop (ℕ_set _ _) (ℕ_set _ _) (x lower) (y lower) i

-- keys of the same parts are one
pub same_key : (a b : Key) → a.dev ≡ b.dev → a.half ≡ b.half → a.bank ≡ b.bank → a.page ≡ b.page → a ≡ b
same_key a b dev half bank page =
    let parts : ◌≡◌ {A = (parts : Dev × Half × ℕ × ℕ) × (parts.1 ≡ Lower → (parts.2 ≡ 0) × (parts.3 ≡ 0))}
    ((a.dev, a.half, a.bank, a.page), a.one_lower_half) ((b.dev, b.half, b.bank, b.page), b.one_lower_half)
    = Σ_prop_path one_proof (λ i. (dev i, half i, bank i, page i)) in
    λ i. record { dev = (parts i).0.0; half = (parts i).0.1; bank = (parts i).0.2; page = (parts i).0.3; one_lower_half = (parts i).1 }

device_back : (dev : Dev) → device_of (device_rank dev) ≡ dev
device_back A0 = refl
device_back A2 = refl

half_back : (key : Key) (half : Half) → key.half ≡ half → key_of (device_rank key.dev, (half_rank half, (key.bank, key.page))) ≡ key
half_back key Lower same =
    let zeros = key.one_lower_half same in
    same_key _ key (device_back key.dev) (sym same) (sym zeros.0) (sym zeros.1)
half_back key Upper same = same_key _ key (device_back key.dev) (sym same) refl refl

pub key_back : (key : Key) → key_of (numbers_of key) ≡ key
key_back key = half_back key key.half refl

abbrev pub coded_key : Coded Key
coded_key = code_by (ℕ × (ℕ × (ℕ × ℕ))) (coded× coded_ℕ (coded× coded_ℕ (coded× coded_ℕ coded_ℕ))) numbers_of key_of key_back
