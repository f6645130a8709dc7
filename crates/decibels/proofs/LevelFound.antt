-- The level that is found is the greatest that the power reaches.
use Rattle.std.proofs.Common.{◌≡◌, ◌∙◌, ℕ, zero, suc, Bool, true, false, refl, sym, ap, subst, inl, inr, arith}
use Rattle.std.specs.Prelude.{◌^◌, ◌*◌, ◌≤◌, ◌<◌, nat_le, if◌then◌else◌}
use Rattle.std.proofs.Math.Nat.{pow-le-pow_left, pow-le-pow_right}
use Rattle.std.proofs.lemmas.Bool.{cases_lt, le-leb, leb-true, true≢false}
use Rattle.decibels.specs.Levels.{IsLevel, greatest}
use Rattle.decibels.proofs.Powers.{pow-pow}

pick : (b : Bool) (n rest level : ℕ) → (b ≡ true → n ≡ level) → (b ≡ false → rest ≡ level) → (if b then n else rest) ≡ level
pick true n rest level here later = here refl
pick false n rest level here later = later refl

greatest_is : (test : ℕ → Bool) (bound level : ℕ) → test level ≡ true → ((h : ℕ) → test h ≡ true → h ≤ level) → level ≤ bound → greatest test bound ≡ level
unfolding greatest
greatest_is test zero level passes most below = omega (arith, below)
greatest_is test (suc n) level passes most below =
    pick (test (suc n)) (suc n) (greatest test n) level
    (λ e. omega (arith, most (suc n) e, below))
    (λ e. elim (cases_lt n level) [
      | inl above ↦ let last : level ≡ suc n = omega (arith, above, below) in absurd (true≢false (sym passes ∙ (ap test last ∙ e)))
      | inr within ↦ greatest_is test n level passes most within
    ])

beyond : (level raised : ℕ) → 10 ^ 5001 ≤ 10 ^ level → raised ≤ (10 ^ 5) ^ 1000 → 10 ^ level ≤ raised → ⊥
beyond level raised low high reached = omega (arith, low, high, reached)

-- no power of 16 bits reaches more than 5000
bounded : (power level : ℕ) → power < 65536 → IsLevel power level → level ≤ 5000
bounded power level fits is = elim (cases_lt 5000 level) [
  | inl above ↦
      let far : 5001 ≤ level = omega (arith, above) in
      let ten : 0 < 10 = omega arith in
      let near : power ≤ 10 ^ 5 = omega (arith, fits) in
      absurd (beyond level (power ^ 1000) (pow-le-pow_right ten far) (pow-le-pow_left near 1000) is.0)
  | inr within ↦ within
]

pub level_is_greatest : (power level : ℕ) → power < 65536 → IsLevel power level → greatest (λ (hundredths : ℕ). nat_le (10 ^ hundredths) (power ^ 1000)) 5000 ≡ level
level_is_greatest power level fits is =
    greatest_is (λ (hundredths : ℕ). nat_le (10 ^ hundredths) (power ^ 1000)) 5000 level
    (le-leb (10 ^ level) (power ^ 1000) is.0)
    (λ h e. is.1 h (leb-true (10 ^ h) (power ^ 1000) e))
    (bounded power level fits is)
