-- Lines of a certificate's text and their words.
use Rattle.std.proofs.Common.{◌≡◌, ◌≢◌, ℕ, zero, suc, ◌<◌, ◌≤◌, ◌^◌, Bool, true, false, not, eqb, cond, List, [], ◌∷◌, length, get_or, Option, Some, None, Result, Ok, Err, MatchOption, codes, refl, sym, ap, ◌∙◌, arith}
use Rattle.std.specs.List.{AllByRecursion, list_all, AllPass}
use Rattle.std.specs.Fmt.{decimal}
use Rattle.std.specs.Str.Parse.{digits_value}
use Rattle.std.proofs.lemmas.Bool.Decides.{nat_tests}
use Rattle.std.proofs.lemmas.List.{get_or_default}
use Rattle.std.proofs.lemmas.List.Sums.{AllPass-from_list_all}
use Rattle.std.proofs.lemmas.List.Splits.{join_with_byte-slice_split}
use Rattle.std.proofs.lemmas.Str.Parse.{digit_at}
use Rattle.std.proofs.lemmas.Fmt.{decimal_is_IsNumeral}
use Rattle.hex.specs.Hex.{IsBytes, encode_lower, decode_of, lower_digits}
use Rattle.hex.specs.declared.error.FromHexError.{FromHexError}
use Rattle.hex.proofs.HexLemmas.{decode_of-encode_lower}
use Rattle.text_lines.specs.Lines.{is_lf, HasNoLf}
use Rattle.text_lines.specs.Words.{is_space, words_of, spaced}
use Rattle.text_lines.proofs.WrittenWords.{words_of-spaced, spaced_passes}
use Rattle.text_lines.proofs.HexDigits.{digits_pass}
use Rattle.plan_certificate.specs.declared.path.Path.{Path}
use Rattle.plan_certificate.specs.declared.line.Line.{Line}
use Rattle.plan_certificate.specs.declared.line.Line.TheVariants.{Header, KeptHeader, Weight, KeepLine, PathLine, StateLine, End}
use Rattle.plan_certificate.specs.CertificateText.{header_of, line_words, line_text, IsLineInRange}

pub header_in_range : (paired : Bool) (kept : List Path) → IsLineInRange (header_of paired kept)
header_in_range paired [] = tt
header_in_range paired (path ∷ kept) = tt

-- a test that the bytes of such lines pass, but for the spaces
record Passes (p : ℕ → Bool) : Type 0 where
  certificate : list_all p (codes "certificate") ≡ true
  one : list_all p (codes "1") ≡ true
  two : list_all p (codes "2") ≡ true
  three : list_all p (codes "3") ≡ true
  four : list_all p (codes "4") ≡ true
  weight : list_all p (codes "weight") ≡ true
  keep : list_all p (codes "keep") ≡ true
  path : list_all p (codes "path") ≡ true
  state : list_all p (codes "state") ≡ true
  end : list_all p (codes "end") ≡ true
  decimals : (byte : ℕ) → 48 ≤ byte → byte ≤ 57 → p byte ≡ true
  hexadecimals : list_all p lower_digits ≡ true

one_byte : (byte : ℕ) → byte < 256 → IsBytes (byte ∷ [])
one_byte byte fits zero = fits
one_byte byte fits (suc i) = omega arith

module _ (p : ℕ → Bool) (passes : Passes p) where
  decimal_passes : (n : ℕ) → n < 2 ^ 64 → AllPass p (decimal n)
  decimal_passes n fits k d lt =
      let digit = digit_at (decimal n) k (decimal_is_IsNumeral n fits).0.1 lt in
      rw (get_or_default (decimal n) k d 0 lt) (passes.decimals _ digit.0 digit.1)

  name_passes : (name : List ℕ) → list_all p name ≡ true → AllPass p name
  name_passes = AllPass-from_list_all p

  words_pass : (line : Line) → IsLineInRange line → AllByRecursion (AllPass p) (line_words line)
  unfolding line_words
  words_pass (Header false) h = (name_passes (codes "certificate") passes.certificate, (name_passes (codes "1") passes.one, tt))
  words_pass (Header true) h = (name_passes (codes "certificate") passes.certificate, (name_passes (codes "3") passes.three, tt))
  words_pass (KeptHeader false) h = (name_passes (codes "certificate") passes.certificate, (name_passes (codes "2") passes.two, tt))
  words_pass (KeptHeader true) h = (name_passes (codes "certificate") passes.certificate, (name_passes (codes "4") passes.four, tt))
  words_pass (Weight weight) h = (name_passes (codes "weight") passes.weight, (decimal_passes weight h, tt))
  words_pass (KeepLine path) h = (
    name_passes (codes "keep") passes.keep,
    (decimal_passes path.app (omega (arith, h.app)), (decimal_passes path.host (omega (arith, h.host)), (decimal_passes path.media (omega (arith, h.media)), tt))),
  )
  words_pass (PathLine path) h = (
    name_passes (codes "path") passes.path,
    (decimal_passes path.app (omega (arith, h.app)), (decimal_passes path.host (omega (arith, h.host)), (decimal_passes path.media (omega (arith, h.media)), tt))),
  )
  words_pass (StateLine entry) h = (
    name_passes (codes "state") passes.state,
    (decimal_passes entry.boundary (omega (arith, h.boundary)), (digits_pass p passes.hexadecimals (entry.used ∷ []) (one_byte entry.used h.used), (decimal_passes entry.potential h.potential, tt))),
  )
  words_pass End h = (name_passes (codes "end") passes.end, tt)

no_spaces : Passes (λ byte. not (is_space byte))
no_spaces = record { certificate = refl; one = refl; two = refl; three = refl; four = refl; weight = refl; keep = refl; path = refl; state = refl; end = refl; decimals = λ byte low high. grind (arith, nat_tests); hexadecimals = refl }

no_line_ends : Passes (λ byte. not (is_lf byte))
no_line_ends = record { certificate = refl; one = refl; two = refl; three = refl; four = refl; weight = refl; keep = refl; path = refl; state = refl; end = refl; decimals = λ byte low high. grind (arith, nat_tests); hexadecimals = refl }

pub words_of-line_text : (line : Line) → IsLineInRange line → words_of (line_text line) ≡ line_words line
unfolding line_words
words_of-line_text (Header false) h = words_of-spaced _ _ (words_pass _ no_spaces (Header false) h)
words_of-line_text (Header true) h = words_of-spaced _ _ (words_pass _ no_spaces (Header true) h)
words_of-line_text (KeptHeader false) h = words_of-spaced _ _ (words_pass _ no_spaces (KeptHeader false) h)
words_of-line_text (KeptHeader true) h = words_of-spaced _ _ (words_pass _ no_spaces (KeptHeader true) h)
words_of-line_text (Weight weight) h = words_of-spaced _ _ (words_pass _ no_spaces (Weight weight) h)
words_of-line_text (KeepLine path) h = words_of-spaced _ _ (words_pass _ no_spaces (KeepLine path) h)
words_of-line_text (PathLine path) h = words_of-spaced _ _ (words_pass _ no_spaces (PathLine path) h)
words_of-line_text (StateLine entry) h = words_of-spaced _ _ (words_pass _ no_spaces (StateLine entry) h)
words_of-line_text End h = words_of-spaced _ _ (words_pass _ no_spaces End h)

pub line_has_no_lf : (line : Line) → IsLineInRange line → HasNoLf (line_text line)
line_has_no_lf line h = spaced_passes (λ byte. not (is_lf byte)) refl (line_words line) (words_pass _ no_line_ends line h)

pub word_count : (line : Line) → length (line_words line) ≤ 4
unfolding line_words
word_count (Header false) = omega arith
word_count (Header true) = omega arith
word_count (KeptHeader false) = omega arith
word_count (KeptHeader true) = omega arith
word_count (Weight weight) = omega arith
word_count (KeepLine path) = omega arith
word_count (PathLine path) = omega arith
word_count (StateLine entry) = omega arith
word_count End = omega arith

-- what reading the words of a line answers is what reading the line does
pub line_of_words : (bytes : List ℕ) (words : List (List ℕ)) (r : Option Line) → words ≡ words_of bytes
    → MatchOption r ((line : Line) → IsLineInRange line → words ≢ line_words line) (λ line. IsLineInRange line × (words ≡ line_words line))
    → MatchOption r ((line : Line) → IsLineInRange line → bytes ≢ line_text line) (λ line. IsLineInRange line × (bytes ≡ line_text line))
line_of_words bytes words None is h = λ line fits spelled. h line fits (is ∙ ap words_of spelled ∙ words_of-line_text line fits)
line_of_words bytes words (Some line) is h = (h.0, sym (join_with_byte-slice_split 32 bytes) ∙ ap spaced (sym is ∙ h.1))

-- ---- words tell lines apart

abbrev byte_in : Result (List ℕ) FromHexError → ℕ
byte_in (Ok bytes) = get_or bytes 0 0
byte_in (Err e) = 0

byte_back : (byte : ℕ) → byte < 256 → byte_in (decode_of (encode_lower (byte ∷ []))) ≡ byte
byte_back byte fits = ap byte_in (decode_of-encode_lower (byte ∷ []) (one_byte byte fits))

number_back : (n : ℕ) → n < 2 ^ 64 → digits_value 10 (decimal n) ≡ n
number_back n fits = (decimal_is_IsNumeral n fits).1

-- the header of the version that is a digit with this code
abbrev header_with : ℕ → Line
header_with digit = cond (eqb digit 49) (Header false) (cond (eqb digit 50) (KeptHeader false) (cond (eqb digit 51) (Header true) (KeptHeader true)))

-- the line of these words, by the first byte of the first of them
abbrev line_with : ℕ → List ℕ → List ℕ → List ℕ → Line
line_with letter first second third =
    cond (eqb letter 99) (header_with (get_or first 0 0))
    (cond (eqb letter 107) (KeepLine (record { app = digits_value 10 first; host = digits_value 10 second; media = digits_value 10 third }))
    (cond (eqb letter 119) (Weight (digits_value 10 first))
    (cond (eqb letter 112) (PathLine (record { app = digits_value 10 first; host = digits_value 10 second; media = digits_value 10 third }))
    (cond (eqb letter 115) (StateLine (record { boundary = digits_value 10 first; used = byte_in (decode_of second); potential = digits_value 10 third })) End))))

abbrev line_back : List (List ℕ) → Line
line_back words = line_with (get_or (get_or words 0 []) 0 0) (get_or words 1 []) (get_or words 2 []) (get_or words 3 [])

back : (line : Line) → IsLineInRange line → line_back (line_words line) ≡ line
unfolding line_words
back (Header false) h = refl
back (Header true) h = refl
back (KeptHeader false) h = refl
back (KeptHeader true) h = refl
back (Weight weight) h = ap Weight (number_back weight h)
back (KeepLine path) h =
    let app = number_back path.app (omega (arith, h.app)) in
    let host = number_back path.host (omega (arith, h.host)) in
    let media = number_back path.media (omega (arith, h.media)) in
    λ i. KeepLine (record { app = app i; host = host i; media = media i })
back (PathLine path) h =
    let app = number_back path.app (omega (arith, h.app)) in
    let host = number_back path.host (omega (arith, h.host)) in
    let media = number_back path.media (omega (arith, h.media)) in
    λ i. PathLine (record { app = app i; host = host i; media = media i })
back (StateLine entry) h =
    let boundary = number_back entry.boundary (omega (arith, h.boundary)) in
    let used = byte_back entry.used h.used in
    let potential = number_back entry.potential h.potential in
    λ i. StateLine (record { boundary = boundary i; used = used i; potential = potential i })
back End h = refl

pub same_line : (a b : Line) → IsLineInRange a → IsLineInRange b → line_text a ≡ line_text b → a ≡ b
same_line a b ha hb e =
    let words = sym (words_of-line_text a ha) ∙ ap words_of e ∙ words_of-line_text b hb in
    sym (back a ha) ∙ ap line_back words ∙ back b hb
