-- The byte of global controls that is stored, for each of the 256 that may be read.
use Rattle.std.proofs.Common.{◌≡◌, ℕ, zero, suc, ◌<◌, Bool, true, ◌&&◌, ◌==◌, bit_and, bit_or, arith, refl, inl, inr}
use Rattle.std.proofs.lemmas.Bool.{and_parts, cases_eq, eqb-true}
use Rattle.control_sets.specs.declared.procedures.power.Power.TheVariants.{Awake, Asleep}
use Rattle.control_sets.specs.PowerControls.{wanted_controls}

-- each number below passes
abbrev passes_below : (ℕ → Bool) → ℕ → Bool
passes_below test zero = true
passes_below test (suc n) = test n && passes_below test n

passed : (test : ℕ → Bool) (n i : ℕ) → passes_below test n ≡ true → i < n → test i ≡ true
passed test zero i e below = absurd (omega (arith, below))
passed test (suc n) i e below =
    let parts = and_parts (test n) (passes_below test n) e in
    elim (cases_eq i n) [
      | inl same ↦ rw same parts.0
      | inr other ↦ passed test n i parts.1 (omega (arith, below, other))
    ]

abbrev is_awake : ℕ → Bool
is_awake byte = bit_and byte 167 == wanted_controls Awake byte

abbrev is_asleep : ℕ → Bool
is_asleep byte = bit_and (bit_or byte 16) 247 == wanted_controls Asleep byte

all_awake : passes_below is_awake 256 ≡ true
unfolding wanted_controls
all_awake = refl

all_asleep : passes_below is_asleep 256 ≡ true
unfolding wanted_controls
all_asleep = refl

pub awake_bits : (byte : ℕ) → byte < 256 → bit_and byte 167 ≡ wanted_controls Awake byte
awake_bits byte below = eqb-true (bit_and byte 167) (wanted_controls Awake byte) (passed is_awake 256 byte all_awake below)

pub asleep_bits : (byte : ℕ) → byte < 256 → bit_and (bit_or byte 16) 247 ≡ wanted_controls Asleep byte
asleep_bits byte below = eqb-true (bit_and (bit_or byte 16) 247) (wanted_controls Asleep byte) (passed is_asleep 256 byte all_asleep below)
