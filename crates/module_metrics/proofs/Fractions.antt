-- The digits of a fraction, one after another.
use Rattle.std.proofs.Common.{◌≡◌, ◌≢◌, ℕ, zero, suc, ◌-◌, ◌/◌, ◌%◌, ◌^◌, [], ◌++◌, decimal, refl, sym, ap, ◌∙◌, arith, if◌then◌else◌}
use Rattle.std.proofs.lemmas.Bool.{ne_eqb}
use Rattle.module_metrics.specs.Scaled.{fraction}

pub no_places : (places rest : ℕ) → places ≡ 0 → fraction places rest ≡ []
unfolding fraction
no_places zero rest none = refl
no_places (suc places) rest none = absurd (omega (arith, none))

pub no_rest : (places rest : ℕ) → rest ≡ 0 → fraction places rest ≡ []
unfolding fraction
no_rest zero rest none = refl
no_rest (suc places) rest none = ap (λ (r : ℕ). fraction (suc places) r) none

pub one_place : (places rest : ℕ) → places ≢ 0 → rest ≢ 0 → fraction places rest ≡ decimal (rest / 10 ^ (places - 1)) ++ fraction (places - 1) (rest % 10 ^ (places - 1))
unfolding fraction
one_place zero rest some more = absurd (some refl)
one_place (suc places) rest some more =
    let one : suc places - 1 ≡ places = omega arith in
    ap (λ b. if b then [] else decimal (rest / 10 ^ places) ++ fraction places (rest % 10 ^ places)) (ne_eqb rest 0 more)
    ∙ ap (λ (n : ℕ). decimal (rest / 10 ^ n) ++ fraction n (rest % 10 ^ n)) (sym one)
