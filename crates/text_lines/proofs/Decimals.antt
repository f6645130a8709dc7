-- What begins as a decimal number does, and is read digit by digit, is what the number spells.
use Rattle.std.proofs.Common.{◌≡◌, ◌≢◌, ℕ, zero, suc, ◌+◌, ◌-◌, ◌*◌, ◌^◌, ◌<◌, ◌≤◌, List, [], ◌∷◌, ◌++◌, length, get_or, take, refl, sym, subst, ap, ◌∙◌, inl, inr, arith}
use Rattle.std.specs.Char.{digit_value}
use Rattle.std.specs.Fmt.{decimal}
use Rattle.std.specs.Int.{IsInRange}
use Rattle.std.specs.Str.Parse.{AllDigits, digits_value, digits_value_after}
use Rattle.std.proofs.Math.Seq.{take-length}
use Rattle.std.proofs.lemmas.List.{take_more}
use Rattle.std.proofs.lemmas.Str.{digit_value_digit}
use Rattle.std.proofs.lemmas.Str.Parse.{IsNumeralModel, numerals_by_value, tells_digits, digit_at}
use Rattle.std.proofs.lemmas.Fmt.{decimal_digit, first_decimal, decimal-digits_value, decimal_is_IsNumeral}
use Rattle.text_lines.specs.Decimal.{BeginsDecimal}

own : IsNumeralModel (AllDigits 10) (digits_value 10)
own = numerals_by_value (AllDigits 10) tells_digits

-- each number begins so
pub begins : (n : ℕ) → n < 2 ^ 64 → BeginsDecimal (decimal n)
begins zero fits = inl (decimal_digit 0 (omega arith))
begins (suc n) fits =
    let digits = (decimal_is_IsNumeral (suc n) fits).0 in
    inr (first_decimal (suc n) (omega arith) fits, omega (arith, (digit_at (decimal (suc n)) 0 digits.1 digits.0).1))

no_leading_zero : (word : List ℕ) → BeginsDecimal word → get_or word 0 0 ≡ 48 → length word ≡ 1
no_leading_zero word (inl e) z = ap length e
no_leading_zero word (inr h) z = absurd (omega (arith, h.0))

some_digit : (word : List ℕ) → BeginsDecimal word → 0 < length word
some_digit word (inl e) = omega (arith, ap length e)
some_digit [] (inr h) = absurd (omega (arith, h.0))
some_digit (byte ∷ word) (inr h) = omega arith

-- a word that is no number's text
pub starts_no_number : (word : List ℕ) → (BeginsDecimal word → ⊥) → (n : ℕ) → n < 2 ^ 64 → word ≢ decimal n
starts_no_number word otherwise n fits spelled = otherwise (rw spelled (begins n fits))

-- ---- digit by digit

digits_more : (digits : List ℕ) (digit : ℕ) → AllDigits 10 digits → digit_value digit < 10 → AllDigits 10 (digits ++ digit ∷ [])
digits_more [] digit all is = (is, tt)
digits_more (first ∷ digits) digit all is = (all.0, digits_more digits digit all.1 is)

value_more : (n : ℕ) (digits : List ℕ) (digit : ℕ) → digits_value_after 10 n (digits ++ digit ∷ []) ≡ digits_value_after 10 n digits * 10 + digit_value digit
value_more n [] digit = refl
value_more n (first ∷ digits) digit = value_more (n * 10 + digit_value first) digits digit

value_from : (n : ℕ) (digits : List ℕ) → n ≤ digits_value_after 10 n digits
value_from n [] = omega arith
value_from n (digit ∷ digits) = omega (arith, value_from (n * 10 + digit_value digit) digits)

-- the digits so far write no more than all
value_upto : (n i : ℕ) (digits : List ℕ) → digits_value_after 10 n (take i digits) ≤ digits_value_after 10 n digits
value_upto n zero digits = value_from n digits
value_upto n (suc i) [] = omega arith
value_upto n (suc i) (digit ∷ digits) = value_upto (n * 10 + digit_value digit) i digits

-- the bytes of a word before an index are digits, and write this number
pub record AreRead (word : List ℕ) (i number : ℕ) : Type 0 where
  pub digits : AllDigits 10 (take i word)
  pub value : number ≡ digits_value 10 (take i word)
  pub small : number < 2 ^ 64

pub none_read : (word : List ℕ) → AreRead word 0 0
none_read word = record { digits = tt; value = refl; small = omega arith }

module _ (word : List ℕ) (i number : ℕ) (inside : i < length word) (so_far : AreRead word i number) where
  abbrev byte : ℕ
  byte = get_or word i 0

  next_value : IsInRange 48 57 byte → digits_value 10 (take (i + 1) word) ≡ number * 10 + (byte - 48)
  next_value range =
      ap (digits_value 10) (take_more word i 0 inside)
      ∙ value_more 0 (take i word) byte
      ∙ omega (arith, so_far.value, digit_value_digit byte range)

  pub one_read : (more : ℕ) → more < 2 ^ 64 → IsInRange 48 57 byte → more ≡ number * 10 + (byte - 48) → AreRead word (i + 1) more
  one_read more small range is = record {
    digits = subst (AllDigits 10) (sym (take_more word i 0 inside)) (digits_more (take i word) byte so_far.digits (omega (arith, digit_value_digit byte range)));
    value = is ∙ sym (next_value range);
    small = small;
  }

  -- a byte that is no digit, or one too many
  pub not_read : (IsInRange 48 57 byte → 2 ^ 64 ≤ number * 10 + (byte - 48)) → (n : ℕ) → n < 2 ^ 64 → word ≢ decimal n
  not_read large n fits spelled =
      let numeral = decimal_is_IsNumeral n fits in
      let all : AllDigits 10 word = subst (AllDigits 10) (sym spelled) numeral.0.1 in
      let value : digits_value 10 word ≡ n = ap (digits_value 10) spelled ∙ numeral.1 in
      let range = digit_at word i all inside in
      omega (arith, large range, next_value range, value_upto 0 (i + 1) word, value)

-- all bytes of a word that begins as a number
pub all_read : (word : List ℕ) (i number : ℕ) → BeginsDecimal word → i ≡ length word → AreRead word i number → word ≡ decimal number
all_read word i number starts end read =
    let whole : take i word ≡ word = ap (λ (n : ℕ). take n word) end ∙ take-length word in
    let all : AllDigits 10 word = subst (AllDigits 10) whole read.digits in
    let value : digits_value 10 word ≡ number = ap (digits_value 10) (sym whole) ∙ sym read.value in
    sym (decimal-digits_value own word all (some_digit word starts) (no_leading_zero word starts) (omega (arith, value, read.small))) ∙ ap decimal value
