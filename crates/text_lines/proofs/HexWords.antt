-- A word of hexadecimal digits, read two by two.
use Rattle.std.proofs.Common.{◌≡◌, ◌≢◌, ℕ, suc, ◌+◌, ◌<◌, ◌≤◌, List, [], ◌∷◌, ◌++◌, length, get_or, take, drop, slice_set, refl, sym, ap, ◌∙◌, arith}
use Rattle.std.proofs.Math.Seq.{drop-cons}
use Rattle.std.proofs.lemmas.List.{append-nil, append_assoc, drop_all, length-set, take_all, take_more_set}
use Rattle.hex.specs.Hex.{encode_lower, encode_with, lower_digits, IsBytes}
use Rattle.text_lines.proofs.HexDigits.{encode_append}

-- of n bytes, i have been read, and the word goes on with the rest, which is as well the end of each text of n bytes that the word is
abbrev pub AreRead : ℕ → List ℕ → List ℕ → ℕ → List ℕ → Type 0
AreRead n word read i rest = record {
  len : length read ≡ n;
  digits : word ≡ encode_lower (take i read) ++ rest;
  left : (bytes : List ℕ) → length bytes ≡ n → word ≡ encode_lower bytes → rest ≡ encode_lower (drop i bytes);
}

pub none_read : (n : ℕ) (word read : List ℕ) → length read ≡ n → AreRead n word read 0 word
unfolding encode_with
none_read n word read len = record { len = len; digits = refl; left = λ bytes fits spelled. spelled }

two_first : (rest : List ℕ) → 2 ≤ length rest → rest ≡ (get_or rest 0 0 ∷ get_or rest 1 0 ∷ []) ++ drop 2 rest
two_first [] enough = absurd (omega (arith, enough))
two_first (a ∷ []) enough = absurd (omega (arith, enough))
two_first (a ∷ b ∷ rest) enough = refl

module _ (n : ℕ) (word read : List ℕ) (i : ℕ) (rest : List ℕ) (below : i < n) (are : AreRead n word read i rest) where
  -- the rest begins with the digits of the next byte
  next : (bytes : List ℕ) → length bytes ≡ n → word ≡ encode_lower bytes → rest ≡ encode_lower (get_or bytes i 0 ∷ drop (i + 1) bytes)
  next bytes len spelled =
      let on : suc i ≡ i + 1 = omega arith in
      are.left bytes len spelled ∙ ap encode_lower (drop-cons bytes i 0 (omega (arith, below, len)) ∙ ap (λ (k : ℕ). get_or bytes i 0 ∷ drop k bytes) on)

  pub too_short : length rest < 2 → (bytes : List ℕ) → length bytes ≡ n → word ≢ encode_lower bytes
  unfolding encode_with
  too_short short bytes len spelled = let long : length rest ≡ suc (suc (length (encode_lower (drop (i + 1) bytes)))) = ap length (next bytes len spelled) in omega (arith, short, long)

  pub no_digits : ((byte : ℕ) → byte < 256 → get_or rest 0 0 ∷ get_or rest 1 0 ∷ [] ≢ encode_lower (byte ∷ [])) → (bytes : List ℕ) → length bytes ≡ n → IsBytes bytes → word ≢ encode_lower bytes
  unfolding encode_with
  no_digits none bytes len fits spelled = none (get_or bytes i 0) (fits i) (ap (λ (l : List ℕ). get_or l 0 0 ∷ get_or l 1 0 ∷ []) (next bytes len spelled))

  pub one_read : (byte : ℕ) → 2 ≤ length rest → get_or rest 0 0 ∷ get_or rest 1 0 ∷ [] ≡ encode_lower (byte ∷ []) → AreRead n word (slice_set read i byte) (i + 1) (drop 2 rest)
  unfolding encode_with
  one_read byte enough spelled =
      let more : take (i + 1) (slice_set read i byte) ≡ take i read ++ byte ∷ [] = take_more_set read i byte (omega (arith, below, are.len)) in
      record {
        len = length-set read i byte ∙ are.len;
        digits = are.digits ∙ ap (λ l. encode_lower (take i read) ++ l) (two_first rest enough ∙ ap (λ l. l ++ drop 2 rest) spelled)
            ∙ sym (append_assoc (encode_lower (take i read)) (encode_lower (byte ∷ [])) (drop 2 rest))
            ∙ ap (λ l. l ++ drop 2 rest) (sym (encode_append lower_digits (take i read) (byte ∷ [])) ∙ ap encode_lower (sym more));
        left = λ bytes len is. ap (drop 2) (next bytes len is);
      }

empty : (rest : List ℕ) → length rest ≡ 0 → rest ≡ []
empty [] none = refl
empty (byte ∷ rest) none = absurd (omega (arith, none))

module _ (n : ℕ) (word read : List ℕ) (i : ℕ) (rest : List ℕ) (over : n ≤ i) (are : AreRead n word read i rest) where
  pub all_read : length rest ≡ 0 → word ≡ encode_lower read
  all_read none = are.digits ∙ ap (λ l. encode_lower (take i read) ++ l) (empty rest none) ∙ append-nil (encode_lower (take i read)) ∙ ap encode_lower (take_all i read (omega (arith, over, are.len)))

  pub more_left : rest ≢ [] → (bytes : List ℕ) → length bytes ≡ n → word ≢ encode_lower bytes
  unfolding encode_with
  more_left some bytes len spelled = some (are.left bytes len spelled ∙ ap encode_lower (drop_all i bytes (omega (arith, over, len))))
