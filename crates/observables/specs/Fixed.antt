-- Decimal fractions as text, and that the text writes exactly the number. (This project's own)
use Rattle.std.specs.Prelude.{◌≡◌, ℕ, ◌/◌, ◌%◌, ◌<◌, ℤ, pos, negsuc, unsigned_abs, List, [], ◌∷◌, ◌++◌, length}
use Rattle.std.specs.List.{AllByRecursion}
use Rattle.std.specs.Fmt.{decimal}
use Rattle.observables.specs.declared.fixed.Places.{Places}
use Rattle.observables.specs.declared.fixed.Places.TheVariants.{Zero, One, Two, Three, Four, Six, Eight}
use Rattle.observables.specs.Scientific.{number_from, pointed}

-- `-` if the number is negative
abbrev pub minus_of : ℤ → List ℕ
minus_of (pos n) = []
minus_of (negsuc n) = 45 ∷ []

-- the last three digits of a number
unfoldable pub three_digits : ℕ → List ℕ
three_digits n = decimal (n / 100 % 10) ++ decimal (n / 10 % 10) ++ decimal (n % 10)

abbrev pub six_digits : ℕ → List ℕ
six_digits n = three_digits (n / 1000) ++ three_digits n

-- the last four digits of a number
unfoldable pub four_digits : ℕ → List ℕ
four_digits n = decimal (n / 1000 % 10) ++ decimal (n / 100 % 10) ++ decimal (n / 10 % 10) ++ decimal (n % 10)

abbrev pub eight_digits : ℕ → List ℕ
eight_digits n = four_digits (n / 10000) ++ four_digits n

unfoldable pub size_text : Places → ℕ → List ℕ
size_text Zero n = decimal n
size_text One n = decimal (n / 10) ++ 46 ∷ decimal (n % 10)
size_text Two n = decimal (n / 100) ++ 46 ∷ (decimal (n / 10 % 10) ++ decimal (n % 10))
size_text Three n = decimal (n / 1000) ++ 46 ∷ three_digits n
size_text Four n = decimal (n / 10000) ++ 46 ∷ four_digits n
size_text Six n = decimal (n / 1000000) ++ 46 ∷ six_digits n
size_text Eight n = decimal (n / 100000000) ++ 46 ∷ eight_digits n

unfoldable pub fixed : ℤ → Places → List ℕ
fixed mantissa places = minus_of mantissa ++ size_text places (unsigned_abs mantissa)

abbrev pub count_of : Places → ℕ
count_of Zero = 0
count_of One = 1
count_of Two = 2
count_of Three = 3
count_of Four = 4
count_of Six = 6
count_of Eight = 8

-- The text writes so many units of its last place: a sign, a number, and digits after a point that go on with that number.
pub record WritesUnits (text : List ℕ) (places : ℕ) (mantissa : ℤ) : Type 0 where
  pub whole : ℕ
  pub more : List ℕ
  pub text_is : text ≡ minus_of mantissa ++ (decimal whole ++ pointed more)
  pub places_are : length more ≡ places
  pub digits : AllByRecursion (λ digit. digit < 10) more
  pub number : number_from whole more ≡ unsigned_abs mantissa

-- each decimal fraction is written exactly
abbrev pub FixedIsExact : Type 0
FixedIsExact = (mantissa : ℤ) (places : Places) → WritesUnits (fixed mantissa places) (count_of places) mantissa
