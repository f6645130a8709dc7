-- Page lines tell their keys and pages apart, and no page line is `end`.
use Rattle.std.proofs.Common.{◌≡◌, ◌≢◌, ℕ, ◌<◌, List, [], ◌∷◌, ◌++◌, get_or, codes, Result, Ok, refl, sym, ap, ◌∙◌, arith}
use Rattle.hex.specs.Hex.{IsBytes, encode_lower, decode_of}
use Rattle.hex.proofs.HexLemmas.{decode_of-encode_lower}
use Rattle.text_lines.specs.Words.{words_of}
use Rattle.bus_model.specs.declared.device.Dev.{Dev}
use Rattle.bus_model.specs.declared.device.Dev.TheVariants.{A0, A2}
use Rattle.bus_model.specs.DeviceName.{device_name}
use Rattle.paged_memory.specs.declared.key.Half.{Half}
use Rattle.paged_memory.specs.declared.key.Half.TheVariants.{Lower, Upper}
use Rattle.paged_memory.specs.declared.key.Key.{Key}
use Rattle.paged_memory.specs.KeyCode.{same_key}
use Rattle.paged_memory.specs.ImageText.{end_line, half_words, page_line, IsEntry}
use Rattle.paged_memory.proofs.PageLines.{words_of-page_line, one_byte}

same_bytes : (a b : List ℕ) → IsBytes a → IsBytes b → encode_lower a ≡ encode_lower b → a ≡ b
same_bytes a b fa fb e =
    let decoded : Result.Ok a ≡ Ok b = sym (decode_of-encode_lower a fa) ∙ ap decode_of e ∙ decode_of-encode_lower b fb in
    cc

same_byte : (a b : ℕ) → a < 256 → b < 256 → encode_lower (a ∷ []) ≡ encode_lower (b ∷ []) → a ≡ b
same_byte a b fa fb e = ap (λ l. get_or l 0 0) (same_bytes (a ∷ []) (b ∷ []) (one_byte a fa) (one_byte b fb) e)

same_device : (a b : Dev) → device_name a ≡ device_name b → a ≡ b
same_device A0 A0 e = refl
same_device A0 A2 e = let digit = ap (λ l. get_or l 1 0) e in absurd (omega arith)
same_device A2 A0 e = let digit = ap (λ l. get_or l 1 0) e in absurd (omega arith)
same_device A2 A2 e = refl

module _ (a b : Key) (p q : List ℕ) (fa : IsEntry a p) (fb : IsEntry b q) where
  same_words : (h k : Half) → a.half ≡ h → b.half ≡ k → half_words h a.dev a.bank a.page ++ encode_lower p ∷ [] ≡ half_words k b.dev b.bank b.page ++ encode_lower q ∷ [] → (a ≡ b) × (p ≡ q)
  same_words Lower Lower ha hb e =
      let names : device_name a.dev ≡ device_name b.dev = cc in
      let digits : encode_lower p ≡ encode_lower q = cc in
      let za = a.one_lower_half ha in
      let zb = b.one_lower_half hb in
      (same_key a b (same_device a.dev b.dev names) (ha ∙ sym hb) (za.0 ∙ sym zb.0) (za.1 ∙ sym zb.1), same_bytes p q fa.page_fits.bytes fb.page_fits.bytes digits)
  same_words Lower Upper ha hb e = absurd cc
  same_words Upper Lower ha hb e = absurd cc
  same_words Upper Upper ha hb e =
      let names : device_name a.dev ≡ device_name b.dev = cc in
      let banks : encode_lower (a.bank ∷ []) ≡ encode_lower (b.bank ∷ []) = cc in
      let numbers : encode_lower (a.page ∷ []) ≡ encode_lower (b.page ∷ []) = cc in
      let digits : encode_lower p ≡ encode_lower q = cc in
      (same_key a b (same_device a.dev b.dev names) (ha ∙ sym hb) (same_byte _ _ fa.key_fits.bank fb.key_fits.bank banks) (same_byte _ _ fa.key_fits.number fb.key_fits.number numbers), same_bytes p q fa.page_fits.bytes fb.page_fits.bytes digits)

  pub same_entry : page_line a p ≡ page_line b q → (a ≡ b) × (p ≡ q)
  same_entry e = same_words a.half b.half refl refl (sym (words_of-page_line a p fa) ∙ ap words_of e ∙ words_of-page_line b q fb)

one_word : (half : Half) (dev : Dev) (bank page : ℕ) (digits : List ℕ) → half_words half dev bank page ++ digits ∷ [] ≢ codes "end" ∷ []
one_word Lower dev bank page digits e = cc
one_word Upper dev bank page digits e = cc

pub not_end : (key : Key) (page : List ℕ) → IsEntry key page → page_line key page ≢ end_line
unfolding end_line
not_end key page fits e = one_word key.half key.dev key.bank key.page (encode_lower page) (sym (words_of-page_line key page fits) ∙ ap words_of e)
