-- Page lines and their words.
use Rattle.std.proofs.Common.{◌≡◌, ◌≢◌, ℕ, zero, suc, ◌<◌, ◌≤◌, Bool, true, not, List, [], ◌∷◌, ◌++◌, length, Option, Some, None, MatchOption, codes, refl, sym, ap, ◌∙◌, arith}
use Rattle.std.specs.List.{AllByRecursion, list_all, AllPass}
use Rattle.std.proofs.lemmas.List.Sums.{AllPass-from_list_all}
use Rattle.std.proofs.lemmas.List.Splits.{join_with_byte-slice_split}
use Rattle.hex.specs.Hex.{IsBytes, encode_lower, lower_digits}
use Rattle.text_lines.specs.Lines.{is_lf, HasNoLf}
use Rattle.text_lines.specs.Words.{is_space, words_of, spaced}
use Rattle.text_lines.proofs.WrittenWords.{words_of-spaced, spaced_passes}
use Rattle.text_lines.proofs.HexDigits.{digits_pass}
use Rattle.bus_model.specs.declared.device.Dev.{Dev}
use Rattle.bus_model.specs.declared.device.Dev.TheVariants.{A0, A2}
use Rattle.bus_model.specs.DeviceName.{device_name}
use Rattle.paged_memory.specs.declared.key.Half.{Half}
use Rattle.paged_memory.specs.declared.key.Half.TheVariants.{Lower, Upper}
use Rattle.paged_memory.specs.declared.key.Key.{Key}
use Rattle.paged_memory.specs.ImageText.{half_words, key_words, page_words, page_line, IsEntry}
use Rattle.paged_memory.specs.ImageFaults.{IsPageLine}

-- a test that the bytes of page lines pass, but for the spaces
record Passes (p : ℕ → Bool) : Type 0 where
  lower : list_all p (codes "lower") ≡ true
  upper : list_all p (codes "upper") ≡ true
  names : (dev : Dev) → list_all p (device_name dev) ≡ true
  digits : list_all p lower_digits ≡ true

name_passes : (p : ℕ → Bool) → list_all p (device_name A0) ≡ true → list_all p (device_name A2) ≡ true → (dev : Dev) → list_all p (device_name dev) ≡ true
name_passes p a0 a2 A0 = a0
name_passes p a0 a2 A2 = a2

pub one_byte : (byte : ℕ) → byte < 256 → IsBytes (byte ∷ [])
one_byte byte fits zero = fits
one_byte byte fits (suc i) = omega arith

module _ (p : ℕ → Bool) (passes : Passes p) where
  digits_of : (bytes : List ℕ) → IsBytes bytes → AllPass p (encode_lower bytes)
  digits_of bytes fits = digits_pass p passes.digits bytes fits

  half_pass : (half : Half) (dev : Dev) (bank page : ℕ) (bytes : List ℕ) → bank < 256 → page < 256 → IsBytes bytes → AllByRecursion (AllPass p) (half_words half dev bank page ++ encode_lower bytes ∷ [])
  half_pass Lower dev bank page bytes b n h =
      (AllPass-from_list_all p (codes "lower") passes.lower, (AllPass-from_list_all p (device_name dev) (passes.names dev), (digits_of bytes h, tt)))
  half_pass Upper dev bank page bytes b n h =
      (AllPass-from_list_all p (codes "upper") passes.upper, (AllPass-from_list_all p (device_name dev) (passes.names dev), (digits_of (bank ∷ []) (one_byte bank b), (digits_of (page ∷ []) (one_byte page n), (digits_of bytes h, tt)))))

no_spaces : Passes (λ byte. not (is_space byte))
no_spaces = record { lower = refl; upper = refl; names = name_passes _ refl refl; digits = refl }

no_line_ends : Passes (λ byte. not (is_lf byte))
no_line_ends = record { lower = refl; upper = refl; names = name_passes _ refl refl; digits = refl }

half_words_back : (half : Half) (dev : Dev) (bank page : ℕ) (bytes : List ℕ) → bank < 256 → page < 256 → IsBytes bytes
    → words_of (spaced (half_words half dev bank page ++ encode_lower bytes ∷ [])) ≡ half_words half dev bank page ++ encode_lower bytes ∷ []
half_words_back Lower dev bank page bytes b p h = words_of-spaced _ _ (half_pass _ no_spaces Lower dev bank page bytes b p h)
half_words_back Upper dev bank page bytes b p h = words_of-spaced _ _ (half_pass _ no_spaces Upper dev bank page bytes b p h)

-- the words of a page line
pub words_of-page_line : (key : Key) (page : List ℕ) → IsEntry key page → words_of (page_line key page) ≡ page_words key page
words_of-page_line key page entry = half_words_back key.half key.dev key.bank key.page page entry.key_fits.bank entry.key_fits.number entry.page_fits.bytes

-- a line is a page line where its words are those of one
pub line_from_words : (line : List ℕ) (words : List (List ℕ)) (key : Key) (page : List ℕ) → words ≡ words_of line → words ≡ page_words key page → line ≡ page_line key page
line_from_words line words key page is h = sym (join_with_byte-slice_split 32 line) ∙ ap spaced (sym is ∙ h)

pub words_from_line : (line : List ℕ) (key : Key) (page : List ℕ) → IsEntry key page → line ≡ page_line key page → words_of line ≡ page_words key page
words_from_line line key page entry h = ap words_of h ∙ words_of-page_line key page entry

half_count : (half : Half) (dev : Dev) (bank page : ℕ) (bytes : List ℕ) → length (half_words half dev bank page ++ encode_lower bytes ∷ []) ≤ 5
half_count Lower dev bank page bytes = omega arith
half_count Upper dev bank page bytes = omega arith

-- a page line has at most five words
pub word_count : (key : Key) (page : List ℕ) → length (page_words key page) ≤ 5
word_count key page = half_count key.half key.dev key.bank key.page page

half_bank : (half : Half) (dev : Dev) (bank page : ℕ) (a b c d : List ℕ) → a ∷ b ∷ c ∷ d ∷ [] ≡ half_words half dev bank page → c ≡ encode_lower (bank ∷ [])
half_bank Lower dev bank page a b c d e = absurd cc
half_bank Upper dev bank page a b c d e = cc

-- the third of four words of a key is its bank
pub bank_word : (key : Key) (a b c d : List ℕ) → a ∷ b ∷ c ∷ d ∷ [] ≡ key_words key → c ≡ encode_lower (key.bank ∷ [])
bank_word key = half_bank key.half key.dev key.bank key.page

-- what reading the words of a line answers is what reading the line does
pub entry_of_line : (line : List ℕ) (words : List (List ℕ)) (r : Option (Key × List ℕ)) → words ≡ words_of line
    → MatchOption r ((key : Key) (page : List ℕ) → IsEntry key page → words ≢ page_words key page) (λ e. IsEntry e.0 e.1 × (words ≡ page_words e.0 e.1))
    → MatchOption r ((key : Key) (page : List ℕ) → IsPageLine line key page → ⊥) (λ e. IsPageLine line e.0 e.1)
entry_of_line line words None is h = λ key page spelled. h key page spelled.0 (is ∙ words_from_line line key page spelled.0 spelled.1)
entry_of_line line words (Some e) is h = (h.0, line_from_words line words e.0 e.1 is h.1)

-- a page line has no LF in it
pub page_line_has_no_lf : (key : Key) (page : List ℕ) → IsEntry key page → HasNoLf (page_line key page)
page_line_has_no_lf key page entry =
    spaced_passes (λ byte. not (is_lf byte)) refl (page_words key page) (half_pass _ no_line_ends key.half key.dev key.bank key.page page entry.key_fits.bank entry.key_fits.number entry.page_fits.bytes)
