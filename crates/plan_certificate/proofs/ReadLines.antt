-- Where the lines of a certificate stand in its text: each has at most 31 bytes, and there are at most 2,323.
use Rattle.std.proofs.Common.{◌≡◌, ◌≢◌, ℕ, ◌+◌, ◌-◌, ◌<◌, ◌≤◌, ◌^◌, true, false, not, Option, Some, None, MatchOption, unwrap_or, Result, Ok, Err, OnOk, List, [], ◌∷◌, ◌++◌, length, drop, take, get_or, map, codes, refl, sym, ap, ◌∙◌, inl, inr, arith}
use Rattle.std.specs.Fmt.{decimal}
use Rattle.std.specs.List.{after_first, position_or_len}
use Rattle.std.specs.Str.Parse.{digits_value}
use Rattle.std.proofs.lemmas.Fmt.{decimal_digit, decimal_injective, decimal_is_IsNumeral, decimal_nonempty, length-decimal-le}
use Rattle.std.proofs.Math.ListN.{drop_of_length-le}
use Rattle.std.proofs.Math.Seq.{take-length}
use Rattle.std.proofs.lemmas.Bool.{cases_lt}
use Rattle.std.proofs.lemmas.List.{drop-drop, length-append, length-drop, length-map, length-take-le}
use Rattle.std.proofs.lemmas.List.Sums.{prefix_len-le-length}
use Rattle.hex.specs.Hex.{encode_lower, encode_with}
use Rattle.text_lines.specs.Lines.{is_lf, lines_of}
use Rattle.text_lines.specs.Words.{words_of, spaced}
use Rattle.text_lines.proofs.LineEnds.{first_line}
use Rattle.plan_certificate.specs.declared.certificate.Entry.{Entry}
use Rattle.plan_certificate.specs.declared.fault.CertificateFault.{CertificateFault}
use Rattle.plan_certificate.specs.declared.line.Line.{Line}
use Rattle.plan_certificate.specs.declared.line.Line.TheVariants.{Header, KeptHeader, Weight, KeepLine, PathLine, StateLine, End}
use Rattle.plan_certificate.specs.declared.stage.Stage.{Stage}
use Rattle.plan_certificate.specs.declared.stage.Stage.TheVariants.{Start, Headed, KeptHeaded, KeptWeighed, Weighed, Ended}
use Rattle.plan_certificate.specs.Bounds.{IsStated, line_at, potential_at}
use Rattle.plan_certificate.specs.Certificates.{Claim}
use Rattle.plan_certificate.specs.CertificateDrafts.{lines_before_end, lines_so_far}
use Rattle.plan_certificate.specs.CertificateText.{IsEntryInRange, IsLineInRange, IsReadable, line_text, line_words}
use Rattle.plan_certificate.specs.ReadLines.{IsLineAt}
use Rattle.plan_certificate.proofs.LineWords.{words_of-line_text}

-- ---- how long they are

byte_digits : (n : ℕ) → n < 256 → length (decimal n) ≤ 3
byte_digits n small = length-decimal-le 3 n (omega arith) (omega (arith, small)) (omega (arith, small))

word_digits : (n : ℕ) → n < 2 ^ 64 → length (decimal n) ≤ 20
word_digits n small = length-decimal-le 20 n (omega arith) (omega (arith, small)) small

two_digits : (byte : ℕ) → length (encode_lower (byte ∷ [])) ≡ 2
unfolding encode_with
two_digits byte = refl

pub line_is_short : (line : Line) → IsLineInRange line → length (line_text line) ≤ 31
unfolding line_words
line_is_short (Header false) fits = omega arith
line_is_short (Header true) fits = omega arith
line_is_short (KeptHeader false) fits = omega arith
line_is_short (KeptHeader true) fits = omega arith
line_is_short (Weight weight) fits = omega (arith, word_digits weight fits)
line_is_short (KeepLine path) fits =
    let rest = length-append (decimal path.app) (32 ∷ decimal path.host ++ 32 ∷ decimal path.media) in
    let more = length-append (decimal path.host) (32 ∷ decimal path.media) in
    omega (arith, rest, more, byte_digits path.app fits.app, byte_digits path.host fits.host, byte_digits path.media fits.media)
line_is_short (PathLine path) fits =
    let rest = length-append (decimal path.app) (32 ∷ decimal path.host ++ 32 ∷ decimal path.media) in
    let more = length-append (decimal path.host) (32 ∷ decimal path.media) in
    omega (arith, rest, more, byte_digits path.app fits.app, byte_digits path.host fits.host, byte_digits path.media fits.media)
line_is_short (StateLine entry) fits =
    let rest = length-append (decimal entry.boundary) (32 ∷ encode_lower (entry.used ∷ []) ++ 32 ∷ decimal entry.potential) in
    let more = length-append (encode_lower (entry.used ∷ [])) (32 ∷ decimal entry.potential) in
    omega (arith, rest, more, two_digits entry.used, length-decimal-le 1 entry.boundary (omega arith) (omega (arith, fits.boundary)) (omega (arith, fits.boundary)), word_digits entry.potential fits.potential)
line_is_short End fits = omega arith

-- ---- how many there are

before_end : (states : ℕ) (claim : Claim) → IsReadable states claim → length claim.entries ≤ 2304 → length (lines_before_end claim) ≤ 2322
before_end states claim readable few = omega (
  arith,
  length-append (map KeepLine claim.kept ++ map PathLine claim.paths) (map StateLine claim.entries),
  length-append (map KeepLine claim.kept) (map PathLine claim.paths),
  length-map claim.kept KeepLine,
  length-map claim.paths PathLine,
  length-map claim.entries StateLine,
  readable.few_kept,
  readable.few_paths,
  few,
)

pub few_lines : (states : ℕ) (stage : Stage) (claim : Claim) → IsReadable states claim → length claim.entries ≤ 2304 → length (lines_so_far stage claim) ≤ 2323
few_lines states Start claim readable few = omega arith
few_lines states Headed claim readable few = omega arith
few_lines states KeptHeaded claim readable few = omega arith
few_lines states KeptWeighed claim readable few = omega arith
few_lines states Weighed claim readable few = omega (arith, before_end states claim readable few)
few_lines states Ended claim readable few = omega (
  arith,
  length-append (map KeepLine claim.kept ++ map PathLine claim.paths ++ map StateLine claim.entries) (End ∷ []),
  length-append (map KeepLine claim.kept ++ map PathLine claim.paths) (map StateLine claim.entries),
  length-append (map KeepLine claim.kept) (map PathLine claim.paths),
  length-map claim.kept KeepLine,
  length-map claim.paths PathLine,
  length-map claim.entries StateLine,
  readable.few_kept,
  readable.few_paths,
  few,
)

-- ---- a state's line

last_word : (entry : Entry) → IsEntryInRange entry → digits_value 10 (get_or (line_words (StateLine entry)) 3 []) ≡ entry.potential
unfolding line_words
last_word entry fits = (decimal_is_IsNumeral entry.potential fits.potential).1

pub potential_is : (text : List ℕ) (at : ℕ) (entry : Entry) → IsEntryInRange entry → line_at text at ≡ line_text (StateLine entry) → potential_at text at ≡ entry.potential
potential_is text at entry fits line =
    ap (λ (l : List ℕ). digits_value 10 (get_or (words_of l) 3 [])) line
    ∙ ap (λ (words : List (List ℕ)). digits_value 10 (get_or words 3 [])) (words_of-line_text (StateLine entry) fits)
    ∙ last_word entry fits

-- which stands behind eleven bytes
pub last_behind : (entry : Entry) → IsEntryInRange entry → drop 11 (line_text (StateLine entry)) ≡ decimal entry.potential
unfolding line_words encode_with
last_behind entry fits =
    ap (λ (boundary : List ℕ). drop 11 (spaced (codes "state" ∷ boundary ∷ encode_lower (entry.used ∷ []) ∷ decimal entry.potential ∷ [])))
    (decimal_digit entry.boundary (omega (arith, fits.boundary)))

pub has_last : (entry : Entry) → IsEntryInRange entry → 11 ≤ length (line_text (StateLine entry))
has_last entry fits = omega (
  arith,
  length-drop 11 (line_text (StateLine entry)),
  ap (λ (l : List ℕ). length l) (last_behind entry fits),
  decimal_nonempty entry.potential fits.potential,
)

-- so reading it finds the potential
pub potential_read : (entry : Entry) (word : List ℕ) (r : Option ℕ) → IsEntryInRange entry
    → MatchOption r ((n : ℕ) → n ≤ 18446744073709551615 → word ≢ decimal n) (λ n. (n ≤ 18446744073709551615) × (word ≡ decimal n))
    → word ≡ decimal entry.potential → unwrap_or r 0 ≡ entry.potential
potential_read entry word None fits h is = absurd (h entry.potential (omega (arith, fits.potential)) is)
potential_read entry word (Some n) fits h is = decimal_injective n entry.potential (omega (arith, h.0)) fits.potential (sym h.1 ∙ is)

module _ (text : List ℕ) (at : ℕ) (entry : Entry) (number : ℕ) (fits : IsEntryInRange entry) (there : IsLineAt text at (line_text (StateLine entry)) number) where
  pub stated_there : IsStated text at
  stated_there = record { entry = entry; in_range = fits; line = there.here; within = there.within }

  pub potential_there : potential_at text at ≡ entry.potential
  potential_there = potential_is text at entry fits there.here

-- what is left of a list has no more elements than that
pub whole_rest : (n : ℕ) (l : List ℕ) → take (length l - n) (drop n l) ≡ drop n l
whole_rest n l = ap (λ (many : ℕ). take many (drop n l)) (sym (length-drop n l)) ∙ take-length (drop n l)

-- the first line of what is left of a text
pub first_of_rest : (text : List ℕ) (at : ℕ) (line : List ℕ) (lines : List (List ℕ)) → lines_of (take (length text - at) (drop at text)) ≡ line ∷ lines → line ≡ line_at text at
first_of_rest text at line lines is =
    sym (ap (λ (l : List ℕ). get_or (lines_of l) 0 []) (sym (whole_rest at text)) ∙ ap (λ (l : List (List ℕ)). get_or l 0 []) is)

-- ---- one line more

-- the first line of what is left, and what follows it
module _ (text rest line after : List ℕ) (at : ℕ) (some : rest ≢ []) (left : rest ≡ drop at text) (lines : lines_of rest ≡ line ∷ lines_of after) (behind : after ≡ after_first is_lf rest) where
  abbrev end : ℕ
  end = position_or_len is_lf rest

  line_is : line ≡ take end rest
  line_is = (let same : line ∷ lines_of after ≡ take end rest ∷ lines_of (drop (end + 1) rest) = sym lines ∙ first_line rest some in cc)

  line_len : length line ≡ end
  line_len = ap (λ (l : List ℕ). length l) line_is ∙ length-take-le end rest (prefix_len-le-length (λ byte. not (is_lf byte)) rest)

  pub line_within : length line ≤ length rest
  line_within = omega (arith, line_len, prefix_len-le-length (λ byte. not (is_lf byte)) rest)

  pub after_is : after ≡ drop (at + (length line + 1)) text
  after_is =
      behind ∙ ap (λ (n : ℕ). drop (n + 1) rest) (sym line_len) ∙ ap (drop (length line + 1)) left ∙ drop-drop (length line + 1) at text

  pub first_there : line_at text at ≡ line
  first_there = ap (λ (l : List ℕ). get_or (lines_of l) 0 []) (sym left) ∙ ap (λ (l : List (List ℕ)). get_or l 0 []) lines

  pub at_within : at < length text
  at_within = elim (cases_lt at (length text)) [
    | inl below ↦ below
    | inr past ↦ absurd (some (left ∙ drop_of_length-le text past))
  ]

  pub rest_len : length rest ≡ length text - at
  rest_len = ap (λ (l : List ℕ). length l) left ∙ length-drop at text

pub on_ok : (r : Result Stage CertificateFault) (n : ℕ) → n ≤ 31 → OnOk r (n ≤ 31)
on_ok (Ok stage) n short = short
on_ok (Err fault) n short = tt
