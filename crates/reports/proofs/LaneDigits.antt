-- How a number below a hundred is written.
use Rattle.std.proofs.Common.{◌≡◌, ◌<◌, ◌≤◌, ◌+◌, ◌/◌, ◌%◌, ◌∙◌, ℕ, Bool, true, false, List, [], ◌∷◌, ◌++◌, decimal, ap, if◌then◌else◌, nat_lt, refl, arith}
use Rattle.std.proofs.lemmas.Bool.{ltb-false, ltb-true}
use Rattle.std.proofs.lemmas.Fmt.{decimal_digit, decimal_step}

-- in one digit or two
abbrev pub digits_of : ℕ → List ℕ
digits_of lane = if nat_lt lane 10 then (48 + lane) ∷ [] else (48 + lane / 10) ∷ (48 + lane % 10) ∷ []

pub written : (lane : ℕ) → lane < 100 → decimal lane ≡ digits_of lane
written lane small = by (nat_lt lane 10) refl where
  by : (one_digit : Bool) → nat_lt lane 10 ≡ one_digit → decimal lane ≡ digits_of lane
  by true e = rw e (decimal_digit lane (ltb-true lane 10 e))
  by false e =
      let more : 10 ≤ lane = ltb-false lane 10 e in
      let first : lane / 10 < 10 = omega (arith, small) in
      rw e (decimal_step lane more (omega (arith, small)) ∙ ap (λ (digits : List ℕ). digits ++ (48 + lane % 10) ∷ []) (decimal_digit (lane / 10) first))
