-- Which further banks a module's lanes are read of is the same of two memories that agree in the lower half, in page 01h and in page 11h of
-- each bank that it advertises.
use Rattle.std.proofs.Common.{◌≡◌, inl, inr, ◌⊎◌, ℕ, ◌<◌, ◌≤◌, ◌%◌, ◌&&◌, ◌||◌, Bool, true, false, nat_lt, List, [], ◌∷◌, ◌++◌, Option, Some, None, map, take, refl, sym, ap, ◌∙◌, if◌then◌else◌, arith}
use Rattle.std.proofs.lemmas.Bool.{and_parts, ltb-true, or_cases}
use Rattle.std.proofs.lemmas.List.{get_or-take}
use Rattle.std.specs.Prelude.{is_some, option_map}
use Rattle.std.specs.FinMap as map
use Rattle.std.specs.List.{AllByRecursion}
use Rattle.std.specs.Option.{option_map_or}
use Rattle.std.specs.Ordering.{eq_by_cmp}
use Rattle.bus_model.specs.declared.device.Dev.TheVariants.{A0}
use Rattle.paged_memory.specs.declared.family.Family.TheVariants.{Cmis}
use Rattle.paged_memory.specs.declared.key.Key.{Key}
use Rattle.paged_memory.specs.Families.{is_family, managed_by}
use Rattle.paged_memory.specs.Images.{Memory}
use Rattle.paged_memory.specs.KeyOrder.{key_cmp}
use Rattle.paged_memory.specs.Keys.{lower_key, upper_key}
use Rattle.field_tables.proofs.SameValues.{Agree}
use Rattle.module_reading.proofs.RegionLaws.{same_identifier}
use Rattle.observables.specs.Banks.{bank_count, banks_by}
use Rattle.observables.specs.Words.{byte_in, page_of}
use Rattle.report_entries.specs.Banks.{further_banks, has_lanes}
use Rattle.reports.proofs.SameIf.{KeysAgree, each_agree, is_among}

-- ---- the further banks that there may be

pub data Further : Type 0 where
  no_further : Further
  up_to_1 : Further
  up_to_2 : Further
  up_to_3 : Further

abbrev pub numbers : Further → List ℕ
numbers no_further = []
numbers up_to_1 = 1 ∷ []
numbers up_to_2 = 1 ∷ 2 ∷ []
numbers up_to_3 = 1 ∷ 2 ∷ 3 ∷ []

-- page 11h of each
abbrev pub bank_key : ℕ → Key
bank_key bank = upper_key A0 bank 0x11

abbrev pub bank_keys : List ℕ → List Key
bank_keys banks = map bank_key banks

abbrev if_all : Bool → Bool → Memory → List ℕ
if_all all_lanes flat memory = if all_lanes then further_banks flat memory else []

pub numbered : (all_lanes flat : Bool) (memory : Memory) → (further : Further) × (numbers further ≡ if_all all_lanes flat memory)
unfolding further_banks
numbered false flat memory = (no_further, refl)
numbered true true memory = (no_further, refl)
numbered true false memory = by (has_lanes memory 1) (has_lanes memory 2) (has_lanes memory 3) where
  by : (first second third : Bool) → (further : Further) × (numbers further ≡ (if first then 1 ∷ (if second then 2 ∷ (if third then 3 ∷ [] else []) else []) else []))
  by false second third = (no_further, refl)
  by true false third = (up_to_1, refl)
  by true true false = (up_to_2, refl)
  by true true true = (up_to_3, refl)

-- ---- keys of which some more agree

among_append : (xs ys : List Key) (key : Key) → is_among (xs ++ ys) key ≡ true → (is_among xs key ≡ true) ⊎ (is_among ys key ≡ true)
among_append [] ys key e = inr e
among_append (x ∷ xs) ys key e =
    elim (or_cases (eq_by_cmp key_cmp key x) (is_among (xs ++ ys) key) e) [
      | inl same ↦ inl (ap (λ (t : Bool). t || is_among xs key) same)
      | inr later ↦ elim (among_append xs ys key later) [ inl first ↦ inl (either (eq_by_cmp key_cmp key x) (is_among xs key) first) | inr second ↦ inr second ]
    ] where
      either : (s t : Bool) → t ≡ true → s || t ≡ true
      either true t e = refl
      either false t e = e

pub with_more : (a b : Memory) (xs ys : List Key) → KeysAgree a b xs → AllByRecursion (λ key. Agree a b key) ys → KeysAgree a b (xs ++ ys)
with_more a b xs ys agree more = record { half = λ key e. elim (among_append xs ys key e) [ inl first ↦ agree.half key first | inr second ↦ (each_agree a b ys more).half key second ] }

-- ---- of two memories

module _ (a b : Memory) where
  abbrev pub BanksAgree : Type 0
  BanksAgree = (bank : ℕ) → 1 ≤ bank → bank < bank_count a → Agree a b (bank_key bank)

  abbrev count_in : Option (List ℕ) → ℕ
  count_in half = option_map_or (λ bytes. banks_by (byte_in bytes 142 % 4)) half 1

  taken : (half : Option (List ℕ)) → count_in (option_map (take 128) half) ≡ count_in half
  taken None = refl
  taken (Some bytes) = ap (λ (n : ℕ). banks_by (n % 4)) (get_or-take 128 bytes 14 0 (omega arith))

  -- as many banks are advertised
  pub same_count : Agree a b (lower_key A0) → Agree a b (upper_key A0 0 0x01) → bank_count a ≡ bank_count b
  same_count low first =
      let id = same_identifier a b low in
      let advertised = sym (taken (page_of a 0 0x01)) ∙ ap count_in first ∙ taken (page_of b 0 0x01) in
      λ i. if is_family Cmis (managed_by (id i)) then advertised i else 1

  is_mapped : (half : Option (List ℕ)) → is_some (option_map (take 128) half) ≡ is_some half
  is_mapped None = refl
  is_mapped (Some bytes) = refl

  there_same : (key : Key) → option_map (take 128) (map.get a key) ≡ option_map (take 128) (map.get b key) → map.contains_key a key ≡ map.contains_key b key
  there_same key agree = sym (is_mapped (map.get a key)) ∙ ap is_some agree ∙ is_mapped (map.get b key)

  module _ (low : Agree a b (lower_key A0)) (first : Agree a b (upper_key A0 0 0x01)) (banks : BanksAgree) where
    has_same : (bank : ℕ) → 1 ≤ bank → has_lanes a bank ≡ has_lanes b bank
    has_same bank from = by (nat_lt bank (bank_count a)) refl ∙ ap (λ (count : ℕ). nat_lt bank count && map.contains_key b (bank_key bank)) (same_count low first) where
      by : (advertised : Bool) → nat_lt bank (bank_count a) ≡ advertised → nat_lt bank (bank_count a) && map.contains_key a (bank_key bank) ≡ nat_lt bank (bank_count a) && map.contains_key b (bank_key bank)
      by true e = ap (λ (there : Bool). nat_lt bank (bank_count a) && there) (there_same (bank_key bank) (banks bank from (ltb-true bank (bank_count a) e)))
      by false e = rw e refl

    both_same : further_banks false a ≡ further_banks false b
    unfolding further_banks
    both_same =
        let first_bank = has_same 1 (omega arith) in
        let second_bank = has_same 2 (omega arith) in
        let third_bank = has_same 3 (omega arith) in
        λ i. if first_bank i then 1 ∷ (if second_bank i then 2 ∷ (if third_bank i then 3 ∷ [] else []) else []) else []

    pub paged_banks_same : (all_lanes : Bool) → if_all all_lanes false a ≡ if_all all_lanes false b
    paged_banks_same true = both_same
    paged_banks_same false = refl

  pub flat_banks_same : (all_lanes : Bool) → if_all all_lanes true a ≡ if_all all_lanes true b
  unfolding further_banks
  flat_banks_same true = refl
  flat_banks_same false = refl

  -- the halves of all that there are agree
  pub further_agree : BanksAgree → (all_lanes flat : Bool) → AllByRecursion (λ key. Agree a b key) (bank_keys (if_all all_lanes flat a))
  unfolding further_banks
  further_agree banks false flat = tt
  further_agree banks true true = tt
  further_agree banks true false = by (has_lanes a 1) (has_lanes a 2) (has_lanes a 3) refl refl refl where
    one_agrees : (bank : ℕ) → 1 ≤ bank → has_lanes a bank ≡ true → Agree a b (bank_key bank)
    one_agrees bank from e = banks bank from (ltb-true bank (bank_count a) (and_parts (nat_lt bank (bank_count a)) (map.contains_key a (bank_key bank)) e).0)

    by : (x y z : Bool) → has_lanes a 1 ≡ x → has_lanes a 2 ≡ y → has_lanes a 3 ≡ z
        → AllByRecursion (λ key. Agree a b key) (bank_keys (if x then 1 ∷ (if y then 2 ∷ (if z then 3 ∷ [] else []) else []) else []))
    by false y z e f g = tt
    by true false z e f g = (one_agrees 1 (omega arith) e, tt)
    by true true false e f g = (one_agrees 1 (omega arith) e, (one_agrees 2 (omega arith) f, tt))
    by true true true e f g = (one_agrees 1 (omega arith) e, (one_agrees 2 (omega arith) f, (one_agrees 3 (omega arith) g, tt)))
