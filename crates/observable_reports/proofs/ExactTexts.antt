-- The text of an amount writes the amount.
use Rattle.std.proofs.Common.{◌≡◌, ◌≢◌, ◌⊎◌, inl, inr, ℕ, suc, ◌*◌, ◌/◌, ◌%◌, ◌^◌, ◌<◌, ◌==◌, ◌∙◌, true, false, ℤ, pos, negsuc, Option, Some, None, refl, sym, ap, arith}
use Rattle.std.specs.Prelude.{◌*ℤ◌, neg_ℤ, int_le, int_lt, unsigned_abs, IfSome}
use Rattle.std.specs.Option.{option_map_or}
use Rattle.std.proofs.lemmas.Bool.{and_parts, cond_both, eqb-false, eqb-true, false≢true, ltb-false, ltb-true}
use Rattle.field_tables.specs.Units.{floor_div}
use Rattle.observables.specs.declared.amount.Amount.{Amount}
use Rattle.observables.specs.declared.fixed.Places.{Places}
use Rattle.observables.specs.declared.fixed.Places.TheVariants as places
use Rattle.observables.specs.declared.quantity.Format.{Format}
use Rattle.observables.specs.declared.quantity.Format.TheVariants.{Unsigned, Signed, Float}
use Rattle.observables.specs.Fixed.{count_of}
use Rattle.observables.specs.Scientific.{IsShortest, shortest, without_zeros}
use Rattle.observables.proofs.ExactFractions.{is_exact as fixed_is_exact}
use Rattle.observables.proofs.ExactTexts.{is_exact as scientific_is_exact}
use Rattle.observable_reports.specs.declared.amount_text.ShownAmount.{ShownAmount}
use Rattle.observable_reports.specs.declared.amount_text.ShownAmount.TheVariants as shown
use Rattle.observable_reports.specs.AmountTexts.{exact_of, is_float, is_small, places_by, places_of, rounded_of, scientific_of, text_of}
use Rattle.observable_reports.specs.WrittenAmounts.{EachAmountIsWritten, IsWritten}
use Rattle.observables.proofs.Floors.{rounds}

-- ---- the shortest digits

without : (k n : ℕ) (e : ℤ) → n % 10 ^ k ≡ 0 → n / 10 ^ k * 10 ^ k ≡ n → (n / 10 ^ k % 10 ≢ 0) ⊎ (n / 10 ^ k ≡ 0) → IsShortest n e (without_zeros k n e)
without k n e none same last = record { zeros = k; same = same; power = inl refl; shortest = last }

zero_is : (n : ℕ) (e : ℤ) → n ≡ 0 → IsShortest n e (record { digits = 0; exponent = pos 0 })
zero_is n e none = record { zeros = 0; same = sym none; power = inr none; shortest = inr refl }

is_shortest : (n : ℕ) (e : ℤ) → n < 2048 → IsShortest n e (shortest n e)
is_shortest n e below = cond_both (n == 0) _ _ (IsShortest n e) (λ is. zero_is n e (eqb-true n 0 is)) (λ some.
    cond_both (n % 1000 == 0) _ _ (IsShortest n e)
    (λ is. let by = eqb-true (n % 1000) 0 is in let not_zero = eqb-false n 0 some in
    without 3 n e by (omega (arith, by)) (inl (λ none. not_zero (omega (arith, by, below, none))))) (λ not_3.
    cond_both (n % 100 == 0) _ _ (IsShortest n e)
    (λ is. let by = eqb-true (n % 100) 0 is in let more = eqb-false (n % 1000) 0 not_3 in
    without 2 n e by (omega (arith, by)) (inl (λ none. more (omega (arith, by, none))))) (λ not_2.
    cond_both (n % 10 == 0) _ _ (IsShortest n e)
    (λ is. let by = eqb-true (n % 10) 0 is in let more = eqb-false (n % 100) 0 not_2 in
    without 1 n e by (omega (arith, by)) (inl (λ none. more (omega (arith, by, none)))))
    (λ not_1. let more = eqb-false (n % 10) 0 not_1 in
    without 0 n e (omega arith) (omega arith) (inl (λ none. more (omega (arith, none))))))))

-- ---- what each is shown as

abbrev Writes : Amount → ShownAmount → Type 0
Writes amount as_shown = IsWritten amount (text_of as_shown)

parts : (amount : Amount) → Writes amount (shown.Fraction amount)
unfolding text_of
parts amount = inr (inr (inr refl))

fixed_units : (amount : Amount) (those : Places) → amount.divisor ≡ 1 → amount.exponent ≡ neg_ℤ (pos (count_of those))
    → Writes amount (shown.Fixed (record { mantissa = amount.mantissa; places = those }))
unfolding text_of
fixed_units amount those whole counts = inr (inl record {
  places = count_of those;
  counts = counts;
  written = fixed_is_exact amount.mantissa those;
  whole = whole;
})

-- the power of ten of so many places
abbrev Counts : ℤ → Option Places → Type 0
Counts exponent o = IfSome o (λ those. exponent ≡ neg_ℤ (pos (count_of those)))

-- that many
abbrev AreMany : ℕ → Option Places → Type 0
AreMany digits o = IfSome o (λ those. count_of those ≡ digits)

many : (n : ℕ) → AreMany n (places_by n)
many n = cond_both (n == 0) _ _ (AreMany n) (λ is. sym (eqb-true n 0 is)) (λ _.
    cond_both (n == 1) _ _ (AreMany n) (λ is. sym (eqb-true n 1 is)) (λ _.
    cond_both (n == 2) _ _ (AreMany n) (λ is. sym (eqb-true n 2 is)) (λ _.
    cond_both (n == 3) _ _ (AreMany n) (λ is. sym (eqb-true n 3 is)) (λ _.
    cond_both (n == 4) _ _ (AreMany n) (λ is. sym (eqb-true n 4 is)) (λ _.
    cond_both (n == 6) _ _ (AreMany n) (λ is. sym (eqb-true n 6 is)) (λ _.
    cond_both (n == 8) _ _ (AreMany n) (λ is. sym (eqb-true n 8 is)) (λ _. tt)))))))

counted : (exponent : ℤ) (digits : ℕ) (o : Option Places) → exponent ≡ neg_ℤ (pos digits) → AreMany digits o → Counts exponent o
counted exponent digits None is are = tt
counted exponent digits (Some those) is are = is ∙ ap (λ k. neg_ℤ (pos k)) (sym are)

not_above : (exponent : ℤ) → int_lt (pos 0) exponent ≡ false → exponent ≡ neg_ℤ (pos (unsigned_abs exponent))
not_above (pos n) is = let none : n ≡ 0 = let over = ltb-false 0 n is in omega (arith, over) in rw none refl
not_above (negsuc n) is = refl

places_is : (exponent : ℤ) → Counts exponent (places_of exponent)
places_is exponent = cond_both (int_lt (pos 0) exponent) _ _ (Counts exponent) (λ _. tt)
    (λ below. counted exponent (unsigned_abs exponent) (places_by (unsigned_abs exponent)) (not_above exponent below) (many (unsigned_abs exponent)))

by_places : (amount : Amount) (o : Option Places) → amount.divisor ≡ 1 → Counts amount.exponent o
    → Writes amount (option_map_or (λ those. shown.Fixed (record { mantissa = amount.mantissa; places = those })) o (shown.Fraction amount))
by_places amount None whole counts = parts amount
by_places amount (Some those) whole counts = fixed_units amount those whole counts

float_of : (amount : Amount) (mantissa : ℤ) → amount.divisor ≡ 1 → amount.mantissa ≡ mantissa → int_le (pos 0) mantissa ≡ true → int_lt mantissa (pos 2048) ≡ true
    → Writes amount (shown.Scientific (shortest (unsigned_abs mantissa) amount.exponent))
unfolding text_of
float_of amount (pos n) whole is low high =
    let below = ltb-true n 2048 high in
    inl record {
      mantissa = n;
      is = is;
      written = scientific_is_exact n amount.exponent (shortest n amount.exponent) below (is_shortest n amount.exponent below);
      whole = whole;
    }
float_of amount (negsuc n) whole is low high = absurd (false≢true low)

scientific : (amount : Amount) → amount.divisor ≡ 1 → Writes amount (scientific_of amount)
scientific amount whole = cond_both (is_float amount) _ _ (Writes amount) (λ is.
    let from = and_parts _ _ is in
    let to = and_parts _ _ from.1 in
    float_of amount amount.mantissa whole refl from.0 to.0) (λ _. parts amount)

exact : (format : Format) (amount : Amount) → amount.divisor ≡ 1 → Writes amount (exact_of format amount)
exact Float amount whole = scientific amount whole
exact Unsigned amount whole = by_places amount (places_of amount.exponent) whole (places_is amount.exponent)
exact Signed amount whole = by_places amount (places_of amount.exponent) whole (places_is amount.exponent)

thousandths : (amount : Amount) → 0 < amount.divisor → amount.exponent ≡ pos 0
    → Writes amount (shown.Fixed (record { mantissa = floor_div (amount.mantissa *ℤ pos 1000) amount.divisor; places = places.Three }))
unfolding text_of
thousandths amount some counts = inr (inr (inl record {
  thousandths = floor_div (amount.mantissa *ℤ pos 1000) amount.divisor;
  counts = counts;
  rounded = rounds (amount.mantissa *ℤ pos 1000) amount.divisor some;
  written = fixed_is_exact (floor_div (amount.mantissa *ℤ pos 1000) amount.divisor) places.Three;
}))

zero_only : (e : ℤ) → (unsigned_abs e == 0) ≡ true → e ≡ pos 0
zero_only (pos n) is = ap pos (eqb-true n 0 is)
zero_only (negsuc n) is = let none : suc n ≡ 0 = eqb-true (suc n) 0 is in absurd (omega (arith, none))

rounded : (amount : Amount) → Writes amount (rounded_of amount)
rounded amount = cond_both (is_small amount) _ _ (Writes amount) (λ is.
    let some = and_parts _ _ is in
    let whole = and_parts _ _ some.1 in
    thousandths amount (ltb-true 0 amount.divisor some.0) (zero_only amount.exponent whole.0)) (λ _. parts amount)

pub each_is_written : EachAmountIsWritten
each_is_written format amount = cond_both (amount.divisor == 1) _ _ (Writes amount) (λ is. exact format amount (eqb-true amount.divisor 1 is)) (λ _. rounded amount)
