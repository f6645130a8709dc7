-- Names of metrics are names of the format, and what is said of them is one line.
use Rattle.std.proofs.Common.{◌≡◌, ℕ, ◌==◌, ◌&&◌, ◌||◌, if◌then◌else◌, nat_le, Bool, true, false, List, [], ◌∷◌, ◌++◌, refl, sym, ap, ◌∙◌}
use Rattle.std.proofs.lemmas.Bool.{and_parts, eqb-true, false≢true}
use Rattle.std.specs.List.{list_all}
use Rattle.report_entries.specs.declared.printed_unit.PrintedUnit.{PrintedUnit}
use Rattle.report_entries.specs.declared.printed_unit.PrintedUnit.TheVariants.{Celsius, Millivolt, Microwatt, Milliampere, Watt, Metre, Kilometre, Nanometre, Decibel, Gigabaud, Percent}
use Rattle.module_metrics.specs.declared.name.Scope.{Scope}
use Rattle.module_metrics.specs.declared.name.Scope.TheVariants.{Module, Lane, Limit}
use Rattle.module_metrics.specs.BaseUnits.{base_name}
use Rattle.module_metrics.specs.Grammar.{is_digit, is_help, is_in_name, is_letter, is_name}
use Rattle.module_metrics.specs.MetricNames.{amount_help, amount_name, is_word_letter, scope_help, scope_name, snake, word_letter, words}

-- ---- names

pub all_append : (test : ℕ → Bool) (xs ys : List ℕ) → list_all test xs ≡ true → list_all test ys ≡ true → list_all test (xs ++ ys) ≡ true
all_append test [] ys all more = more
all_append test (x ∷ xs) ys all more =
    let parts = and_parts (test x) (list_all test xs) all in
    ap (λ b. b && list_all test (xs ++ ys)) parts.0 ∙ all_append test xs ys parts.1 more

pub name_append : (xs ys : List ℕ) → is_name xs ≡ true → list_all is_in_name ys ≡ true → is_name (xs ++ ys) ≡ true
name_append [] ys named more = absurd (false≢true named)
name_append (x ∷ xs) ys named more =
    let parts = and_parts (is_letter x) (list_all is_in_name xs) named in
    ap (λ b. b && list_all is_in_name (xs ++ ys)) parts.0 ∙ all_append is_in_name xs ys parts.1 more

word_or : (small capital digit : Bool) → (small || digit) ≡ true → ((small || capital) || digit) ≡ true
word_or true capital digit e = refl
word_or false true digit e = refl
word_or false false digit e = e

in_name : (c : ℕ) (b : Bool) → is_word_letter c ≡ b → is_in_name (word_letter 95 c) ≡ true
in_name c true e = rw e (word_or (nat_le 97 c && nat_le c 122) ((nat_le 65 c && nat_le c 90) || c == 95) (is_digit c) e)
in_name c false e = rw e refl

pub snake_all : (name : List ℕ) → list_all is_in_name (snake name) ≡ true
snake_all [] = refl
snake_all (c ∷ cs) = ap (λ b. b && list_all is_in_name (snake cs)) (in_name c (is_word_letter c) refl) ∙ snake_all cs

scope_named : (scope : Scope) → is_name (scope_name scope) ≡ true
unfolding scope_name
scope_named Module = refl
scope_named Lane = refl
scope_named Limit = refl

base_named : (unit : PrintedUnit) → list_all is_in_name (95 ∷ base_name unit) ≡ true
unfolding base_name
base_named Celsius = refl
base_named Millivolt = refl
base_named Microwatt = refl
base_named Milliampere = refl
base_named Watt = refl
base_named Metre = refl
base_named Kilometre = refl
base_named Nanometre = refl
base_named Decibel = refl
base_named Gigabaud = refl
base_named Percent = refl

pub amount_named : (scope : Scope) (name : List ℕ) (unit : PrintedUnit) → is_name (amount_name scope name unit) ≡ true
unfolding amount_name
amount_named scope name unit =
    name_append (scope_name scope) (snake name ++ 95 ∷ base_name unit) (scope_named scope)
    (all_append is_in_name (snake name) (95 ∷ base_name unit) (snake_all name) (base_named unit))

-- ---- help

abbrev pub is_plain : ℕ → Bool
is_plain byte = if byte == 92 then false else if byte == 10 then false else true

not_this : (c d : ℕ) (b : Bool) → (c == d) ≡ b → is_word_letter d ≡ false → is_word_letter c ≡ true → b ≡ false
not_this c d true same other is = absurd (false≢true (sym other ∙ ap is_word_letter (sym (eqb-true c d same)) ∙ is))
not_this c d false same other is = refl

-- a small letter or a digit is neither a backslash nor a line feed
letter_plain : (c : ℕ) → is_word_letter c ≡ true → is_plain c ≡ true
letter_plain c is =
    let slash : (c == 92) ≡ false = not_this c 92 (c == 92) refl refl is in
    let feed : (c == 10) ≡ false = not_this c 10 (c == 10) refl refl is in
    rw (slash, feed) refl

word_plain : (c : ℕ) (b : Bool) → is_word_letter c ≡ b → is_plain (word_letter 32 c) ≡ true
word_plain c true e = rw e (letter_plain c e)
word_plain c false e = rw e refl

pub words_plain : (name : List ℕ) → is_help (words 32 name) ≡ true
words_plain [] = refl
words_plain (c ∷ cs) = ap (λ b. b && is_help (words 32 cs)) (word_plain c (is_word_letter c) refl) ∙ words_plain cs

scope_plain : (scope : Scope) → is_help (scope_help scope) ≡ true
unfolding scope_help
scope_plain Module = refl
scope_plain Lane = refl
scope_plain Limit = refl

base_plain : (unit : PrintedUnit) → is_help (base_name unit) ≡ true
unfolding base_name
base_plain Celsius = refl
base_plain Millivolt = refl
base_plain Microwatt = refl
base_plain Milliampere = refl
base_plain Watt = refl
base_plain Metre = refl
base_plain Kilometre = refl
base_plain Nanometre = refl
base_plain Decibel = refl
base_plain Gigabaud = refl
base_plain Percent = refl

pub amount_helped : (scope : Scope) (name : List ℕ) (unit : PrintedUnit) → is_help (amount_help scope name unit) ≡ true
unfolding amount_help
amount_helped scope name unit =
    all_append is_plain (words 32 name) (scope_help scope ++ base_name unit) (words_plain name)
    (all_append is_plain (scope_help scope) (base_name unit) (scope_plain scope) (base_plain unit))
