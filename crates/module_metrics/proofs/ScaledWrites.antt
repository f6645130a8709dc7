-- A scaled number writes what it is of.
use Rattle.std.proofs.Common.{◌≡◌, ℕ, ℤ, zero, suc, ◌+◌, ◌*◌, ◌^◌, ◌/◌, ◌%◌, ◌<◌, List, [], ◌∷◌, ◌++◌, length, decimal, unsigned_abs, refl, sym, ap, ◌∙◌, arith}
use Rattle.std.proofs.Math.Nat.{div-add-mod, div-lt_iff_lt-mul, mod-lt, pow-succ'}
use Rattle.std.proofs.lemmas.Bool.{ne_eqb}
use Rattle.std.proofs.lemmas.Fmt.{decimal_is_IsNumeral, decimal_digit}
use Rattle.std.proofs.lemmas.Str.{digit_value_digit}
use Rattle.std.specs.Char.{digit_value}
use Rattle.std.specs.Str.Parse.{AllDigits, digits_value_after}
use Rattle.module_metrics.specs.Scaled.{Writes, after_point, fraction, pointed, scaled}
use Rattle.report_entries.specs.Shown.{minus_of, three_digits, thousandths}

value_append : (n : ℕ) (xs ys : List ℕ) → digits_value_after 10 n (xs ++ ys) ≡ digits_value_after 10 (digits_value_after 10 n xs) ys
value_append n [] ys = refl
value_append n (x ∷ xs) ys = value_append (n * 10 + digit_value x) xs ys

some_power : (k : ℕ) → 0 < 10 ^ k
some_power zero = omega arith
some_power (suc k) = let more = some_power k in omega (arith, more, pow-succ' 10 k)

-- digits after a number, and the zeros that they lack
record After (n places rest : ℕ) (ds : List ℕ) : Type 0 where
  zeros : ℕ
  at_most : length ds + zeros ≡ places
  digits : AllDigits 10 ds
  value : digits_value_after 10 n ds * 10 ^ zeros ≡ n * 10 ^ places + rest

one_more : (n places rest d : ℕ) (ds : List ℕ) → d < 10 → d * 10 ^ places + rest % 10 ^ places ≡ rest
    → After (n * 10 + d) places (rest % 10 ^ places) ds → After n (suc places) rest ((48 + d) ∷ ds)
one_more n places rest d ds small parts more =
    let digit : digit_value (48 + d) ≡ d = let range = digit_value_digit (48 + d) (omega arith, omega arith) in omega (arith, range) in
    record {
      zeros = more.zeros;
      at_most = omega (arith, more.at_most);
      digits = (omega (arith, digit, small), more.digits);
      value = ap (λ (k : ℕ). digits_value_after 10 (n * 10 + k) ds * 10 ^ more.zeros) digit
          ∙ omega (arith, more.value, parts) ∙ sym (ap (λ (q : ℕ). n * q + rest) (pow-succ' 10 places));
    }

fraction_after : (places n rest : ℕ) → rest < 10 ^ places → After n places rest (fraction places rest)
unfolding fraction
fraction_after zero n rest below = record { zeros = 0; at_most = refl; digits = tt; value = omega (arith, below) }
fraction_after (suc places) n zero below = record { zeros = suc places; at_most = omega arith; digits = tt; value = omega arith }
fraction_after (suc places) n (suc r) below =
    let rest = suc r in
    let one = 10 ^ places in
    let some : 0 < one = some_power places in
    let under : rest < 10 * one = omega (arith, below, pow-succ' 10 places) in
    let small : rest / one < 10 = (div-lt_iff_lt-mul some).1 under in
    let parts : rest / one * one + rest % one ≡ rest = omega (arith, div-add-mod rest one) in
    rw (ne_eqb (suc r) 0 (λ e. omega (arith, e)), decimal_digit (rest / one) small)
    (one_more n places rest (rest / one) (fraction places (rest % one)) small parts (fraction_after places (n * 10 + rest / one) (rest % one) (mod-lt rest some)))

-- ---- the whole

pointed_is : (places rest : ℕ) → rest < 10 ^ places → pointed places rest ≡ after_point (fraction places rest)
unfolding fraction
pointed_is zero zero below = refl
pointed_is zero (suc r) below = absurd (omega (arith, below))
pointed_is (suc places) zero below = refl
pointed_is (suc places) (suc r) below =
    let some : 0 < 10 ^ places = some_power places in
    let under : suc r < 10 * 10 ^ places = omega (arith, below, pow-succ' 10 places) in
    let small : suc r / 10 ^ places < 10 = (div-lt_iff_lt-mul some).1 under in
    rw (ne_eqb (suc r) 0 (λ e. omega (arith, e)), decimal_digit (suc r / 10 ^ places) small) refl

pub writes_scaled : (places : ℕ) (z : ℤ) → unsigned_abs z < 2 ^ 64 → Writes (scaled places z) z places
unfolding scaled
writes_scaled places z fits =
    let one = 10 ^ places in
    let size = unsigned_abs z in
    let some : 0 < one = some_power places in
    let parts : one * (size / one) + size % one ≡ size = div-add-mod size one in
    let whole_fits : size / one < 2 ^ 64 = (div-lt_iff_lt-mul some).1 (omega (arith, fits, some)) in
    let numeral = decimal_is_IsNumeral (size / one) whole_fits in
    let below : size % one < one = mod-lt size some in
    let after = fraction_after places (size / one) (size % one) below in
    record {
      whole = decimal (size / one);
      fraction = fraction places (size % one);
      zeros = after.zeros;
      is_text = ap (λ (t : List ℕ). minus_of z ++ (decimal (size / one) ++ t)) (pointed_is places (size % one) below);
      is_whole = numeral.0;
      is_fraction = after.digits;
      at_most = after.at_most;
      value = ap (λ (v : ℕ). v * 10 ^ after.zeros) (value_append 0 (decimal (size / one)) (fraction places (size % one))
          ∙ ap (λ (v : ℕ). digits_value_after 10 v (fraction places (size % one))) numeral.1) ∙ omega (arith, after.value, parts);
    }

-- ---- what a report prints

digit_is : (d : ℕ) → d < 10 → digit_value (48 + d) ≡ d
digit_is d small = let range = digit_value_digit (48 + d) (omega arith, omega arith) in omega (arith, range)

three_are : (n : ℕ) → three_digits n ≡ (48 + n / 100 % 10) ∷ (48 + n / 10 % 10) ∷ (48 + n % 10) ∷ []
three_are n =
    rw (decimal_digit (n / 100 % 10) (omega arith), decimal_digit (n / 10 % 10) (omega arith), decimal_digit (n % 10) (omega arith)) refl

three_digits_of : (a b c : ℕ) → a < 10 → b < 10 → c < 10 → AllDigits 10 ((48 + a) ∷ (48 + b) ∷ (48 + c) ∷ [])
three_digits_of a b c la lb lc =
    (omega (arith, digit_is a la, la), (omega (arith, digit_is b lb, lb), (omega (arith, digit_is c lc, lc), tt)))

three_value : (w a b c : ℕ) → a < 10 → b < 10 → c < 10 → digits_value_after 10 w ((48 + a) ∷ (48 + b) ∷ (48 + c) ∷ []) ≡ w * 1000 + (a * 100 + b * 10 + c)
three_value w a b c la lb lc = omega (arith, digit_is a la, digit_is b lb, digit_is c lc)

pub writes_thousandths : (z : ℤ) → unsigned_abs z < 2 ^ 64 → Writes (thousandths z) z 3
unfolding thousandths
writes_thousandths z fits =
    let size = unsigned_abs z in
    let rest = size % 1000 in
    let whole_fits : size / 1000 < 2 ^ 64 = omega (arith, fits) in
    let numeral = decimal_is_IsNumeral (size / 1000) whole_fits in
    let a = rest / 100 % 10 in
    let b = rest / 10 % 10 in
    let c = rest % 10 in
    let la : a < 10 = omega arith in
    let lb : b < 10 = omega arith in
    let lc : c < 10 = omega arith in
    let digits = (48 + a) ∷ (48 + b) ∷ (48 + c) ∷ [] in
    record {
      whole = decimal (size / 1000);
      fraction = digits;
      zeros = 0;
      is_text = ap (λ (t : List ℕ). minus_of z ++ (decimal (size / 1000) ++ 46 ∷ t)) (three_are rest);
      is_whole = numeral.0;
      is_fraction = three_digits_of a b c la lb lc;
      at_most = refl;
      value = ap (λ (v : ℕ). v * 10 ^ 0) (value_append 0 (decimal (size / 1000)) digits
          ∙ ap (λ (v : ℕ). digits_value_after 10 v digits) numeral.1 ∙ three_value (size / 1000) a b c la lb lc) ∙ omega arith;
    }
