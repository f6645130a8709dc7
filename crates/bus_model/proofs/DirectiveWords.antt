-- Lines of a script's text and their words.
use Rattle.std.proofs.Common.{◌≡◌, ◌≢◌, ℕ, ◌<◌, ◌≤◌, ◌^◌, Bool, true, false, not, eqb, cond, List, [], length, get_or, Option, Some, None, MatchOption, codes, refl, sym, ap, ◌∙◌, arith}
use Rattle.std.specs.List.{AllByRecursion, list_all}
use Rattle.std.specs.Fmt.{decimal}
use Rattle.std.specs.Str.Parse.{digits_value}
use Rattle.std.proofs.lemmas.Bool.Decides.{nat_tests}
use Rattle.std.proofs.lemmas.List.{get_or_default}
use Rattle.std.proofs.lemmas.List.Sums.{AllPass-from_list_all}
use Rattle.std.proofs.lemmas.List.Splits.{join_with_byte-slice_split}
use Rattle.std.proofs.lemmas.Str.Parse.{digit_at}
use Rattle.std.proofs.lemmas.Fmt.{decimal_is_IsNumeral}
use Rattle.text_lines.specs.Words.{is_space, words_of, spaced, IsWord}
use Rattle.text_lines.proofs.WrittenWords.{words_of-spaced}
use Rattle.bus_model.specs.declared.script.Directive.{Directive}
use Rattle.bus_model.specs.declared.script.Directive.TheVariants.{Pass, Nack, Cut, Tick, LowPower}
use Rattle.bus_model.specs.ScriptText.{directive_words, directive_line, switch_text, IsDirective, IsDirectiveLine}

abbrev no_space : ℕ → Bool
no_space byte = not (is_space byte)

digit_is_no_space : (byte : ℕ) → 48 ≤ byte → byte ≤ 57 → no_space byte ≡ true
digit_is_no_space byte low high = grind (arith, nat_tests)

decimal_is_word : (n : ℕ) → n < 2 ^ 64 → IsWord (decimal n)
decimal_is_word n fits k d lt =
    let digit = digit_at (decimal n) k (decimal_is_IsNumeral n fits).0.1 lt in
    rw (get_or_default (decimal n) k d 0 lt) (digit_is_no_space _ digit.0 digit.1)

name_is_word : (name : List ℕ) → list_all no_space name ≡ true → IsWord name
name_is_word = AllPass-from_list_all no_space

switch_is_word : (on : Bool) → IsWord (switch_text on)
switch_is_word true = name_is_word (codes "1") refl
switch_is_word false = name_is_word (codes "0") refl

are_words : (directive : Directive) → IsDirective directive → AllByRecursion IsWord (directive_words directive)
unfolding directive_words
are_words (Pass count) h = (name_is_word (codes "ok") refl, (decimal_is_word count (omega (arith, h.1)), tt))
are_words (Nack count) h = (name_is_word (codes "nack") refl, (decimal_is_word count (omega (arith, h.1)), tt))
are_words (Cut kept) h = (name_is_word (codes "cut") refl, (decimal_is_word kept (omega (arith, h)), tt))
are_words (Tick count) h = (name_is_word (codes "tick") refl, (decimal_is_word count (omega (arith, h.1)), tt))
are_words (LowPower on) h = (name_is_word (codes "lpmode") refl, (switch_is_word on, tt))

pub words_of-directive_line : (directive : Directive) → IsDirective directive → words_of (directive_line directive) ≡ directive_words directive
unfolding directive_words
words_of-directive_line (Pass count) h = words_of-spaced _ _ (are_words (Pass count) h)
words_of-directive_line (Nack count) h = words_of-spaced _ _ (are_words (Nack count) h)
words_of-directive_line (Cut kept) h = words_of-spaced _ _ (are_words (Cut kept) h)
words_of-directive_line (Tick count) h = words_of-spaced _ _ (are_words (Tick count) h)
words_of-directive_line (LowPower on) h = words_of-spaced _ _ (are_words (LowPower on) h)

pub word_count : (directive : Directive) → length (directive_words directive) ≤ 2
unfolding directive_words
word_count (Pass count) = omega arith
word_count (Nack count) = omega arith
word_count (Cut kept) = omega arith
word_count (Tick count) = omega arith
word_count (LowPower on) = omega arith

-- what reading the words of a line answers is what reading the line does
pub directive_of_words : (line : List ℕ) (words : List (List ℕ)) (r : Option Directive) → words ≡ words_of line
    → MatchOption r ((directive : Directive) → IsDirective directive → words ≢ directive_words directive) (λ directive. IsDirective directive × (words ≡ directive_words directive))
    → MatchOption r ((directive : Directive) → IsDirective directive → line ≢ directive_line directive) (λ directive. IsDirectiveLine line directive)
directive_of_words line words None is h = λ directive fits spelled. h directive fits (is ∙ ap words_of spelled ∙ words_of-directive_line directive fits)
directive_of_words line words (Some directive) is h = (h.0, sym (join_with_byte-slice_split 32 line) ∙ ap spaced (sym is ∙ h.1))

-- ---- words tell directives apart

number_back : (n : ℕ) → n < 2 ^ 64 → digits_value 10 (decimal n) ≡ n
number_back n fits = (decimal_is_IsNumeral n fits).1

pub same_number : (m n : ℕ) → m < 2 ^ 64 → n < 2 ^ 64 → decimal m ≡ decimal n → m ≡ n
same_number m n m_fits n_fits same = sym (number_back m m_fits) ∙ ap (digits_value 10) same ∙ number_back n n_fits

-- the directive of these words, by the first byte of the first of them
abbrev directive_with : ℕ → List ℕ → Directive
directive_with letter value =
    cond (eqb letter 111) (Pass (digits_value 10 value))
    (cond (eqb letter 110) (Nack (digits_value 10 value))
    (cond (eqb letter 99) (Cut (digits_value 10 value))
    (cond (eqb letter 116) (Tick (digits_value 10 value)) (LowPower (eqb (get_or value 0 0) 49)))))

abbrev directive_back : List (List ℕ) → Directive
directive_back words = directive_with (get_or (get_or words 0 []) 0 0) (get_or words 1 [])

back : (directive : Directive) → IsDirective directive → directive_back (directive_words directive) ≡ directive
unfolding directive_words
back (Pass count) h = ap Pass (number_back count (omega (arith, h.1)))
back (Nack count) h = ap Nack (number_back count (omega (arith, h.1)))
back (Cut kept) h = ap Cut (number_back kept (omega (arith, h)))
back (Tick count) h = ap Tick (number_back count (omega (arith, h.1)))
back (LowPower true) h = refl
back (LowPower false) h = refl

pub same_directive : (a b : Directive) → IsDirective a → IsDirective b → directive_line a ≡ directive_line b → a ≡ b
same_directive a b ha hb e =
    let words = sym (words_of-directive_line a ha) ∙ ap words_of e ∙ words_of-directive_line b hb in
    sym (back a ha) ∙ ap directive_back words ∙ back b hb
