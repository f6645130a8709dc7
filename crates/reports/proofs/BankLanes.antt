-- What the lanes of a bank are read from is the same of two memories that agree in pages 01h and 02h and in page 11h of the bank.
use Rattle.std.proofs.Common.{◌≡◌, ℕ, ◌&&◌, Bool, true, false, List, [], ◌∷◌, Option, Some, None, take, refl, sym, ap, ◌∙◌, cond, if◌then◌else◌}
use Rattle.std.proofs.lemmas.Bool.{and_parts}
use Rattle.std.specs.Prelude.{option_map}
use Rattle.std.specs.FinMap as map
use Rattle.std.specs.Option.{option_map_or, option_or}
use Rattle.std.specs.Ordering.{eq_by_cmp}
use Rattle.bus_model.specs.declared.device.Dev.TheVariants.{A0}
use Rattle.paged_memory.specs.declared.key.Key.{Key}
use Rattle.paged_memory.specs.Images.{Memory}
use Rattle.paged_memory.specs.KeyOrder.{key_cmp}
use Rattle.paged_memory.specs.Keys.{lower_key, upper_key}
use Rattle.paged_memory.proofs.KeyLaws.{keys_total}
use Rattle.field_tables.proofs.SameValues.{Agree, plain}
use Rattle.observables.specs.Banks.{lanes_of_bank, with_page}
use Rattle.observables.specs.Words.{page_of}
use Rattle.reports.proofs.SameIf.{KeysAgree, each_agree, is_among}

-- ---- a page of the memory of a bank's lanes

alike : {A : Type 0} (b : Bool) (x : A) → cond b x x ≡ x
alike true x = refl
alike false x = refl

module _ (lanes : Memory) (page : ℕ) (key : Key) where
  taken_of : (half : Option (List ℕ)) → map.get (option_map_or (λ (bytes : List ℕ). map.insert lanes (upper_key A0 0 page) bytes) half lanes) key
      ≡ cond (eq_by_cmp key_cmp key (upper_key A0 0 page)) (option_or half (map.get lanes key)) (map.get lanes key)
  taken_of None = sym (alike (eq_by_cmp key_cmp key (upper_key A0 0 page)) (map.get lanes key))
  taken_of (Some bytes) = map.get-insert keys_total lanes (upper_key A0 0 page) bytes key

or_none : {A : Type 0} (x : Option A) → option_or x None ≡ x
or_none None = refl
or_none (Some x) = refl

module _ (memory : Memory) (bank : ℕ) where
  abbrev adverts : Memory
  adverts = with_page memory 0 0x01 map.empty

  abbrev limits : Memory
  limits = with_page memory 0 0x02 adverts

  abbrev nothing : Memory
  nothing = map.empty

  no_page : (page : ℕ) → map.get nothing (upper_key A0 0 page) ≡ None
  no_page page = map.get-empty key_cmp (upper_key A0 0 page)

  lanes_page : map.get (lanes_of_bank memory bank) (upper_key A0 0 0x11) ≡ page_of memory bank 0x11
  lanes_page =
      taken_of limits 0x11 (upper_key A0 0 0x11) (page_of memory bank 0x11)
      ∙ ap (option_or (page_of memory bank 0x11)) (taken_of adverts 0x02 (upper_key A0 0 0x11) (page_of memory 0 0x02) ∙ taken_of map.empty 0x01 (upper_key A0 0 0x11) (page_of memory 0 0x01) ∙ no_page 0x11)
      ∙ or_none (page_of memory bank 0x11)

  limits_page : map.get (lanes_of_bank memory bank) (upper_key A0 0 0x02) ≡ page_of memory 0 0x02
  limits_page =
      taken_of limits 0x11 (upper_key A0 0 0x02) (page_of memory bank 0x11)
      ∙ taken_of adverts 0x02 (upper_key A0 0 0x02) (page_of memory 0 0x02)
      ∙ ap (option_or (page_of memory 0 0x02)) (taken_of map.empty 0x01 (upper_key A0 0 0x02) (page_of memory 0 0x01) ∙ no_page 0x02)
      ∙ or_none (page_of memory 0 0x02)

  adverts_page : map.get (lanes_of_bank memory bank) (upper_key A0 0 0x01) ≡ page_of memory 0 0x01
  adverts_page =
      taken_of limits 0x11 (upper_key A0 0 0x01) (page_of memory bank 0x11)
      ∙ taken_of adverts 0x02 (upper_key A0 0 0x01) (page_of memory 0 0x02)
      ∙ taken_of map.empty 0x01 (upper_key A0 0 0x01) (page_of memory 0 0x01)
      ∙ ap (option_or (page_of memory 0 0x01)) (no_page 0x01)
      ∙ or_none (page_of memory 0 0x01)

  no_identity : map.get (lanes_of_bank memory bank) (upper_key A0 0 0x00) ≡ None
  no_identity =
      taken_of limits 0x11 (upper_key A0 0 0x00) (page_of memory bank 0x11)
      ∙ taken_of adverts 0x02 (upper_key A0 0 0x00) (page_of memory 0 0x02)
      ∙ taken_of map.empty 0x01 (upper_key A0 0 0x00) (page_of memory 0 0x01)
      ∙ no_page 0x00

  no_lower : map.get (lanes_of_bank memory bank) (lower_key A0) ≡ None
  no_lower =
      taken_of limits 0x11 (lower_key A0) (page_of memory bank 0x11)
      ∙ taken_of adverts 0x02 (lower_key A0) (page_of memory 0 0x02)
      ∙ taken_of map.empty 0x01 (lower_key A0) (page_of memory 0 0x01)
      ∙ map.get-empty key_cmp (lower_key A0)

-- ---- of two memories

-- the halves of a CMIS module with pages
abbrev pub paged_keys : List Key
paged_keys = lower_key A0 ∷ upper_key A0 0 0x00 ∷ upper_key A0 0 0x01 ∷ upper_key A0 0 0x02 ∷ upper_key A0 0 0x11 ∷ []

-- if these memories agree in what the memory of a bank's lanes is taken from, those of the lanes do in all halves
pub bank_agrees : (a b : Memory) (bank : ℕ) → Agree a b (upper_key A0 0 0x01) → Agree a b (upper_key A0 0 0x02) → Agree a b (upper_key A0 bank 0x11) → KeysAgree (lanes_of_bank a bank) (lanes_of_bank b bank) paged_keys
bank_agrees a b bank adverts limits lanes =
    each_agree (lanes_of_bank a bank) (lanes_of_bank b bank) paged_keys (
      both (lower_key A0) (no_lower a bank) (no_lower b bank),
      (
        both (upper_key A0 0 0x00) (no_identity a bank) (no_identity b bank),
        (
          taken (upper_key A0 0 0x01) (upper_key A0 0 0x01) (adverts_page a bank) (adverts_page b bank) adverts,
          (
            taken (upper_key A0 0 0x02) (upper_key A0 0 0x02) (limits_page a bank) (limits_page b bank) limits,
            (taken (upper_key A0 0 0x11) (upper_key A0 bank 0x11) (lanes_page a bank) (lanes_page b bank) lanes, tt),
          ),
        ),
      ),
    ) where
      both : (key : Key) → map.get (lanes_of_bank a bank) key ≡ None → map.get (lanes_of_bank b bank) key ≡ None → Agree (lanes_of_bank a bank) (lanes_of_bank b bank) key
      both key one other = ap (option_map (take (plain key))) (one ∙ sym other)

      taken : (key from : Key) → map.get (lanes_of_bank a bank) key ≡ map.get a from → map.get (lanes_of_bank b bank) key ≡ map.get b from
          → option_map (take (plain key)) (map.get a from) ≡ option_map (take (plain key)) (map.get b from) → Agree (lanes_of_bank a bank) (lanes_of_bank b bank) key
      taken key from one other agree = ap (option_map (take (plain key))) one ∙ agree ∙ sym (ap (option_map (take (plain key))) other)

-- the halves of which both have the same, if they agree in what they are taken from
abbrev pub lanes_keys : List Key → ℕ → List Key
lanes_keys keys bank =
    if is_among keys (upper_key A0 0 0x01) && (is_among keys (upper_key A0 0 0x02) && is_among keys (upper_key A0 bank 0x11)) then paged_keys else []

pub lanes_agree : {a b : Memory} {keys : List Key} → KeysAgree a b keys → (bank : ℕ) → KeysAgree (lanes_of_bank a bank) (lanes_of_bank b bank) (lanes_keys keys bank)
lanes_agree {a} {b} {keys} agree bank = by (is_among keys (upper_key A0 0 0x01) && (is_among keys (upper_key A0 0 0x02) && is_among keys (upper_key A0 bank 0x11))) refl where
  by : (test : Bool) → is_among keys (upper_key A0 0 0x01) && (is_among keys (upper_key A0 0 0x02) && is_among keys (upper_key A0 bank 0x11)) ≡ test
      → KeysAgree (lanes_of_bank a bank) (lanes_of_bank b bank) (if test then paged_keys else [])
  by false e = each_agree (lanes_of_bank a bank) (lanes_of_bank b bank) [] tt
  by true e =
      let parts = and_parts (is_among keys (upper_key A0 0 0x01)) (is_among keys (upper_key A0 0 0x02) && is_among keys (upper_key A0 bank 0x11)) e in
      let more = and_parts (is_among keys (upper_key A0 0 0x02)) (is_among keys (upper_key A0 bank 0x11)) parts.1 in
      bank_agrees a b bank (agree.half (upper_key A0 0 0x01) parts.0) (agree.half (upper_key A0 0 0x02) more.0) (agree.half (upper_key A0 bank 0x11) more.1)
