-- The text of a decimal fraction writes exactly that number.
use Rattle.std.proofs.Common.{◌≡◌, ◌<◌, ◌∙◌, ℕ, ◌+◌, ◌/◌, ◌%◌, ℤ, List, [], ◌∷◌, ◌++◌, refl, sym, ap, arith}
use Rattle.std.specs.Prelude.{length, unsigned_abs}
use Rattle.std.specs.List.{AllByRecursion}
use Rattle.std.specs.Fmt.{decimal}
use Rattle.std.proofs.lemmas.List.{append-nil}
use Rattle.std.proofs.lemmas.Fmt.{decimal_digit}
use Rattle.observables.specs.declared.fixed.Places.{Places}
use Rattle.observables.specs.declared.fixed.Places.TheVariants.{Zero, One, Two, Three, Four, Six, Eight}
use Rattle.observables.specs.Scientific.{number_from, pointed}
use Rattle.observables.specs.Fixed.{fixed, four_digits, three_digits, size_text, minus_of, count_of, WritesUnits, FixedIsExact}

-- digit i after the point, from the last
abbrev digit : ℕ → ℕ → ℕ
digit n weight = n / weight % 10

glyph_one : (h : List ℕ) (a : ℕ) → a < 10 → h ++ 46 ∷ decimal a ≡ h ++ 46 ∷ (48 + a) ∷ []
glyph_one h a fits = rw (decimal_digit a fits) refl

glyph_two : (h : List ℕ) (a b : ℕ) → a < 10 → b < 10 → h ++ 46 ∷ (decimal a ++ decimal b) ≡ h ++ 46 ∷ (48 + a) ∷ (48 + b) ∷ []
glyph_two h a b fits more = rw (decimal_digit a fits, decimal_digit b more) refl

glyph_four : (a b c d : ℕ) → a < 10 → b < 10 → c < 10 → d < 10 → decimal a ++ decimal b ++ decimal c ++ decimal d ≡ (48 + a) ∷ (48 + b) ∷ (48 + c) ∷ (48 + d) ∷ []
glyph_four a b c d ha hb hc hd = rw (decimal_digit a ha, decimal_digit b hb, decimal_digit c hc, decimal_digit d hd) refl

four_is : (n : ℕ) → four_digits n ≡ (48 + digit n 1000) ∷ (48 + digit n 100) ∷ (48 + digit n 10) ∷ (48 + n % 10) ∷ []
unfolding four_digits
four_is n = glyph_four (digit n 1000) (digit n 100) (digit n 10) (n % 10) (omega arith) (omega arith) (omega arith) (omega arith)

glyph_three : (a b c : ℕ) → a < 10 → b < 10 → c < 10 → decimal a ++ decimal b ++ decimal c ≡ (48 + a) ∷ (48 + b) ∷ (48 + c) ∷ []
glyph_three a b c ha hb hc = rw (decimal_digit a ha, decimal_digit b hb, decimal_digit c hc) refl

three_is : (n : ℕ) → three_digits n ≡ (48 + digit n 100) ∷ (48 + digit n 10) ∷ (48 + n % 10) ∷ []
unfolding three_digits
three_is n = glyph_three (digit n 100) (digit n 10) (n % 10) (omega arith) (omega arith) (omega arith)

text_one : (n : ℕ) → size_text One n ≡ decimal (n / 10) ++ pointed (n % 10 ∷ [])
unfolding size_text
text_one n = glyph_one (decimal (n / 10)) (n % 10) (omega arith)

text_two : (n : ℕ) → size_text Two n ≡ decimal (n / 100) ++ pointed (digit n 10 ∷ n % 10 ∷ [])
unfolding size_text
text_two n = glyph_two (decimal (n / 100)) (digit n 10) (n % 10) (omega arith) (omega arith)

abbrev three : ℕ → List ℕ
three n = digit n 100 ∷ digit n 10 ∷ n % 10 ∷ []

text_three : (n : ℕ) → size_text Three n ≡ decimal (n / 1000) ++ pointed (three n)
unfolding size_text
text_three n = ap (λ (t : List ℕ). decimal (n / 1000) ++ 46 ∷ t) (three_is n)

abbrev four : ℕ → List ℕ
four n = digit n 1000 ∷ digit n 100 ∷ digit n 10 ∷ n % 10 ∷ []

text_four : (n : ℕ) → size_text Four n ≡ decimal (n / 10000) ++ pointed (four n)
unfolding size_text
text_four n = ap (λ (t : List ℕ). decimal (n / 10000) ++ 46 ∷ t) (four_is n)

abbrev six : ℕ → List ℕ
six n = digit (n / 1000) 100 ∷ digit (n / 1000) 10 ∷ n / 1000 % 10 ∷ digit n 100 ∷ digit n 10 ∷ n % 10 ∷ []

text_six : (n : ℕ) → size_text Six n ≡ decimal (n / 1000000) ++ pointed (six n)
unfolding size_text
text_six n =
    ap (λ (t : List ℕ). decimal (n / 1000000) ++ 46 ∷ (t ++ three_digits n)) (three_is (n / 1000))
    ∙ ap (λ (t : List ℕ). decimal (n / 1000000) ++ 46 ∷ (48 + digit (n / 1000) 100) ∷ (48 + digit (n / 1000) 10) ∷ (48 + n / 1000 % 10) ∷ t) (three_is n)

abbrev eight : ℕ → List ℕ
eight n = digit (n / 10000) 1000 ∷ digit (n / 10000) 100 ∷ digit (n / 10000) 10 ∷ n / 10000 % 10 ∷ digit n 1000 ∷ digit n 100 ∷ digit n 10 ∷ n % 10 ∷ []

text_eight : (n : ℕ) → size_text Eight n ≡ decimal (n / 100000000) ++ pointed (eight n)
unfolding size_text
text_eight n =
    ap (λ (t : List ℕ). decimal (n / 100000000) ++ 46 ∷ (t ++ four_digits n)) (four_is (n / 10000))
    ∙ ap (λ (t : List ℕ). decimal (n / 100000000) ++ 46 ∷ (48 + digit (n / 10000) 1000) ∷ (48 + digit (n / 10000) 100) ∷ (48 + digit (n / 10000) 10) ∷ (48 + n / 10000 % 10) ∷ t) (four_is n)

text_zero : (n : ℕ) → size_text Zero n ≡ decimal n ++ pointed []
unfolding size_text
text_zero n = sym (append-nil (decimal n))

module _ (mantissa : ℤ) where
  abbrev n : ℕ
  n = unsigned_abs mantissa

  writes : (places : Places) (whole : ℕ) (more : List ℕ) → size_text places n ≡ decimal whole ++ pointed more → length more ≡ count_of places
      → AllByRecursion (λ digit. digit < 10) more → number_from whole more ≡ n → WritesUnits (fixed mantissa places) (count_of places) mantissa
  unfolding fixed
  writes places whole more text places_are digits number = record {
    whole = whole;
    more = more;
    text_is = ap (λ (t : List ℕ). minus_of mantissa ++ t) text;
    places_are = places_are;
    digits = digits;
    number = number;
  }

pub is_exact : FixedIsExact
is_exact mantissa Zero = writes mantissa Zero (n mantissa) [] (text_zero (n mantissa)) refl tt refl
is_exact mantissa One = writes mantissa One (n mantissa / 10) (n mantissa % 10 ∷ []) (text_one (n mantissa)) refl (omega arith, tt) (omega arith)
is_exact mantissa Two = writes mantissa Two (n mantissa / 100) (digit (n mantissa) 10 ∷ n mantissa % 10 ∷ []) (text_two (n mantissa)) refl (omega arith, (omega arith, tt)) (omega arith)
is_exact mantissa Three = writes mantissa Three (n mantissa / 1000) (three (n mantissa)) (text_three (n mantissa)) refl
    (omega arith, (omega arith, (omega arith, tt))) (omega arith)
is_exact mantissa Four = writes mantissa Four (n mantissa / 10000) (four (n mantissa)) (text_four (n mantissa)) refl
    (omega arith, (omega arith, (omega arith, (omega arith, tt)))) (omega arith)
is_exact mantissa Six = writes mantissa Six (n mantissa / 1000000) (six (n mantissa)) (text_six (n mantissa)) refl
    (omega arith, (omega arith, (omega arith, (omega arith, (omega arith, (omega arith, tt)))))) (omega arith)
is_exact mantissa Eight = writes mantissa Eight (n mantissa / 100000000) (eight (n mantissa)) (text_eight (n mantissa)) refl
    (omega arith, (omega arith, (omega arith, (omega arith, (omega arith, (omega arith, (omega arith, (omega arith, tt)))))))) (omega arith)
