-- The digits that bytes are written with.
use Rattle.std.proofs.Common.{◌≡◌, ℕ, suc, ◌+◌, ◌*◌, ◌/◌, ◌%◌, ◌<◌, Bool, true, not, List, [], ◌∷◌, ◌++◌, length, get_or, take, refl, sym, ap, ◌∙◌, arith}
use Rattle.std.specs.List.{list_all, AllPass}
use Rattle.std.proofs.lemmas.List.{take_more}
use Rattle.std.proofs.lemmas.List.Sums.{AllPass-from_list_all}
use Rattle.hex.specs.Hex.{encode_lower, encode_with, lower_digits, IsBytes}
use Rattle.text_lines.specs.Words.{is_space, IsWord}

-- each digit that is written passes a test that the sixteen pass
digit_passes : (p : ℕ → Bool) → list_all p lower_digits ≡ true → (value : ℕ) → value < 16 → p (get_or lower_digits value 0) ≡ true
digit_passes p all value fits = AllPass-from_list_all p lower_digits all value 0 fits

written_pass : (p : ℕ → Bool) → list_all p lower_digits ≡ true → (bytes : List ℕ) → IsBytes bytes → list_all p (encode_with lower_digits bytes) ≡ true
unfolding encode_with
written_pass p all [] fits = refl
written_pass p all (byte ∷ bytes) fits =
    let fit : byte < 256 = fits 0 in
    rw (digit_passes p all (byte / 16) (omega arith), digit_passes p all (byte % 16) (omega arith), written_pass p all bytes (λ i. fits (suc i))) refl

-- so do the digits of bytes
pub digits_pass : (p : ℕ → Bool) → list_all p lower_digits ≡ true → (bytes : List ℕ) → IsBytes bytes → AllPass p (encode_lower bytes)
digits_pass p all bytes fits = AllPass-from_list_all p (encode_lower bytes) (written_pass p all bytes fits)

pub encode_append : (digits xs ys : List ℕ) → encode_with digits (xs ++ ys) ≡ encode_with digits xs ++ encode_with digits ys
unfolding encode_with
encode_append digits [] ys = refl
encode_append digits (x ∷ xs) ys = ap (λ rest. get_or digits (x / 16) 0 ∷ get_or digits (x % 16) 0 ∷ rest) (encode_append digits xs ys)

-- the digits of one more byte
pub encode_more : (xs : List ℕ) (i : ℕ) → i < length xs → encode_lower (take i xs) ++ encode_lower (get_or xs i 0 ∷ []) ≡ encode_lower (take (i + 1) xs)
encode_more xs i lt = sym (encode_append lower_digits (take i xs) (get_or xs i 0 ∷ [])) ∙ ap encode_lower (sym (take_more xs i 0 lt))

-- hexadecimal digits are one word
pub hex_word : (bytes : List ℕ) → IsBytes bytes → IsWord (encode_lower bytes)
hex_word bytes fits = digits_pass (λ byte. not (is_space byte)) refl bytes fits

-- ---- one byte

two : (word : List ℕ) → length word ≡ 2 → word ≡ get_or word 0 0 ∷ get_or word 1 0 ∷ []
two [] long = absurd (omega (arith, long))
two (a ∷ []) long = absurd (omega (arith, long))
two (a ∷ b ∷ []) long = refl
two (a ∷ b ∷ d ∷ rest) long = absurd (omega (arith, long))

abbrev pub digit_of : ℕ → ℕ
digit_of value = get_or lower_digits value 0

pub byte_spelled : (word : List ℕ) (high low : ℕ) → length word ≡ 2 → (high < 16) × (digit_of high ≡ get_or word 0 0) → (low < 16) × (digit_of low ≡ get_or word 1 0) → word ≡ encode_lower ((16 * high + low) ∷ [])
unfolding encode_with
byte_spelled word high low long h l =
    let front : (16 * high + low) / 16 ≡ high = omega (arith, h.0, l.0) in
    let back : (16 * high + low) % 16 ≡ low = omega (arith, h.0, l.0) in
    let first = sym h.1 ∙ ap digit_of (sym front) in
    let second = sym l.1 ∙ ap digit_of (sym back) in
    two word long ∙ (λ i. first i ∷ second i ∷ [])

module _ (word : List ℕ) (byte : ℕ) (fits : byte < 256) (spelled : word ≡ encode_lower (byte ∷ [])) where
  pub spelled_length : length word ≡ 2
  unfolding encode_with
  spelled_length = ap length spelled

  pub spelled_first : digit_of (byte / 16) ≡ get_or word 0 0
  unfolding encode_with
  spelled_first = sym (ap (λ (w : List ℕ). get_or w 0 0) spelled)

  pub spelled_second : digit_of (byte % 16) ≡ get_or word 1 0
  unfolding encode_with
  spelled_second = sym (ap (λ (w : List ℕ). get_or w 1 0) spelled)
