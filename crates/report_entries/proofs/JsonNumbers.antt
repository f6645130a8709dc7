-- Thousandths as a decimal fraction are a number of JSON.
use Rattle.std.proofs.Common.{◌≡◌, ℕ, ℤ, pos, negsuc, zero, suc, ◌+◌, ◌^◌, ◌/◌, ◌%◌, ◌<◌, ◌≤◌, cond, false, ◌==◌, List, [], ◌∷◌, ◌++◌, length, drop, get_or, Some, option_and_then, decimal, unsigned_abs, refl, ap, ◌∙◌, arith}
use Rattle.std.proofs.Math.Seq.{drop-append_seam}
use Rattle.std.proofs.lemmas.Bool.{ne_eqb, le-leb, and_from}
use Rattle.std.proofs.lemmas.Fmt.{decimal_is_IsNumeral, decimal_digit, first_decimal}
use Rattle.std.proofs.lemmas.Str.Parse.{digit_at}
use Rattle.std.specs.List.{prefix_len}
use Rattle.std.specs.Char.{is_ascii_digit}
use Rattle.json.specs.Word.{head, after_digits, after_whole, after_fraction, after_exponent, after_number}
use Rattle.json.specs.Print.{IsNumber}
use Rattle.report_entries.specs.Shown.{three_digits, thousandths}

leading_digit : (d : ℕ) (rest : List ℕ) → 48 ≤ d → d ≤ 57 → prefix_len is_ascii_digit (d ∷ rest) ≡ 1 + prefix_len is_ascii_digit rest
leading_digit d rest low high = ap (λ b. cond b (1 + prefix_len is_ascii_digit rest) 0) (and_from _ _ (le-leb 48 d low) (le-leb d 57 high))

leading_digits : (ds rest : List ℕ) → ((i : ℕ) → i < length ds → (48 ≤ get_or ds i 0) × (get_or ds i 0 ≤ 57)) → prefix_len is_ascii_digit rest ≡ 0
    → prefix_len is_ascii_digit (ds ++ rest) ≡ length ds
leading_digits [] rest h ends = ends
leading_digits (d ∷ ds) rest h ends =
    let first = h 0 (omega arith) in
    let more = leading_digits ds rest (λ i l. h (suc i) (omega arith)) ends in
    leading_digit d (ds ++ rest) first.0 first.1 ∙ omega (arith, more)

-- nothing follows the three digits of the fraction
fraction_ends : (a b c : ℕ) → a < 10 → b < 10 → c < 10 → after_digits ((48 + a) ∷ (48 + b) ∷ (48 + c) ∷ []) ≡ Some []
fraction_ends a b c la lb lc =
    let third : prefix_len is_ascii_digit ((48 + c) ∷ []) ≡ 1 = leading_digit (48 + c) [] (omega arith) (omega arith) in
    let two : prefix_len is_ascii_digit ((48 + b) ∷ (48 + c) ∷ []) ≡ 2 = leading_digit (48 + b) ((48 + c) ∷ []) (omega arith) (omega arith) ∙ ap (λ n. 1 + n) third in
    let all_three : prefix_len is_ascii_digit ((48 + a) ∷ (48 + b) ∷ (48 + c) ∷ []) ≡ 3 = leading_digit (48 + a) ((48 + b) ∷ (48 + c) ∷ []) (omega arith) (omega arith) ∙ ap (λ n. 1 + n) two in
    rw all_three refl

three_end : (n : ℕ) → after_digits (three_digits n) ≡ Some []
three_end n =
    let a : n / 100 % 10 < 10 = omega arith in
    let b : n / 10 % 10 < 10 = omega arith in
    let c : n % 10 < 10 = omega arith in
    rw (decimal_digit (n / 100 % 10) a, decimal_digit (n / 10 % 10) b, decimal_digit (n % 10) c) (fraction_ends _ _ _ a b c)

-- the point follows the whole part, which has no minus
whole_of_digits : (ds rest : List ℕ) → 48 < get_or ds 0 0 → get_or ds 0 0 ≤ 57 → prefix_len is_ascii_digit (ds ++ 46 ∷ rest) ≡ length ds
    → (after_whole (ds ++ 46 ∷ rest) ≡ Some (46 ∷ rest)) × ((head (ds ++ 46 ∷ rest) == 45) ≡ false)
whole_of_digits [] rest first last all = absurd (omega arith)
whole_of_digits (d ∷ ds) rest first last all = (
  rw (ne_eqb d 48 (λ e. omega arith), all, ne_eqb (suc (length ds)) 0 (λ e. omega arith)) (ap Some (drop-append_seam (d ∷ ds) (46 ∷ rest))),
  ne_eqb d 45 (λ e. omega arith),
)

whole_of_decimal : (n : ℕ) (rest : List ℕ) → n < 2 ^ 64 → (after_whole (decimal n ++ 46 ∷ rest) ≡ Some (46 ∷ rest)) × ((head (decimal n ++ 46 ∷ rest) == 45) ≡ false)
whole_of_decimal zero rest h = let e = decimal_digit 0 (omega arith) in (ap (λ l. after_whole (l ++ 46 ∷ rest)) e, ap (λ l. head (l ++ 46 ∷ rest) == 45) e)
whole_of_decimal (suc n) rest h =
    let numeral = decimal_is_IsNumeral (suc n) h in
    let digits = λ (i : ℕ) (l : i < length (decimal (suc n))). digit_at _ i numeral.0.1 l in
    whole_of_digits (decimal (suc n)) rest (first_decimal (suc n) (omega arith) h) ((digits 0 numeral.0.0).1) (leading_digits _ (46 ∷ rest) digits refl)

of_either_sign : (n rest : ℕ) → n < 2 ^ 64 → (after_number (decimal n ++ 46 ∷ three_digits rest) ≡ Some []) × (after_number (45 ∷ decimal n ++ 46 ∷ three_digits rest) ≡ Some [])
unfolding after_number
of_either_sign n rest h =
    let w = whole_of_decimal n (three_digits rest) h in
    let t = decimal n ++ 46 ∷ three_digits rest in
    let f : option_and_then after_exponent (after_fraction (46 ∷ three_digits rest)) ≡ Some [] = ap (option_and_then after_exponent) (three_end rest) in
    let g : option_and_then after_exponent (option_and_then after_fraction (after_whole t)) ≡ Some [] =
    ap (λ o. option_and_then after_exponent (option_and_then after_fraction o)) w.0 ∙ f in
    (ap (λ b. option_and_then after_exponent (option_and_then after_fraction (after_whole (cond b (drop 1 t) t)))) w.1 ∙ g, g)

pub IsNumber-thousandths : (z : ℤ) → unsigned_abs z < 2 ^ 64 → IsNumber (thousandths z)
unfolding thousandths
IsNumber-thousandths (pos n) h = (of_either_sign (n / 1000) (n % 1000) (omega arith)).0
IsNumber-thousandths (negsuc n) h = (of_either_sign (suc n / 1000) (suc n % 1000) (omega arith)).1
