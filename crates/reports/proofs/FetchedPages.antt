-- Which pages are read for reports, and which of further banks.
use Rattle.std.proofs.Common.{◌≡◌, inl, inr, ℕ, ◌<◌, ◌%◌, ◌==◌, Bool, true, false, not, List, [], ◌∷◌, Option, Some, None, is_some, nat_lt, refl, sym, ap, subst, if◌then◌else◌, arith}
use Rattle.std.specs.FinMap as map
use Rattle.std.proofs.lemmas.Bool.{and_parts, eq-eqb, ltb-true}
use Rattle.std.specs.List.{AllByRecursion, list_all}
use Rattle.std.specs.Option.{option_map_or}
use Rattle.paged_memory.specs.declared.family.Family.{Family}
use Rattle.paged_memory.specs.declared.family.Family.TheVariants.{Cmis}
use Rattle.paged_memory.specs.declared.key.Half.TheVariants as halves
use Rattle.paged_memory.specs.declared.key.Key.{Key}
use Rattle.paged_memory.specs.Images.{Memory}
use Rattle.paged_memory.specs.Keys.{page_key}
use Rattle.module_reading.specs.declared.region.Region.{Region}
use Rattle.module_reading.specs.declared.region.Region.TheVariants.{Lower, FirstPage, Page}
use Rattle.module_reading.specs.ReadImages.{IsKeyAmong}
use Rattle.module_reading.specs.Regions.{decides, everything, family_regions, is_flat, regions_in}
use Rattle.observables.specs.Banks.{bank_count, banks_by}
use Rattle.observables.specs.Pages.{is_cmis}
use Rattle.observables.specs.Words.{byte_in}
use Rattle.reports.proofs.PutPages.{one_number}

-- ---- of which pages something holds

-- it holds of the page, if it is one
abbrev pub HasPage : (ℕ → Type 0) → Region → Type 0
HasPage P (Lower dev) = Unit {0}
HasPage P FirstPage = P 0
HasPage P (Page page) = P page

pub among_page : (P : ℕ → Type 0) (page : ℕ) (regions : List Region) → AllByRecursion (HasPage P) regions → IsKeyAmong regions (page_key page) → P page
among_page P page [] all among = absurd among
among_page P page (Lower dev ∷ regions) all (inl is) = absurd (let apart : halves.Upper ≡ halves.Lower = ap (λ (key : Key). key.half) is in cc)
among_page P page (FirstPage ∷ regions) all (inl is) = subst P (sym (one_number page 0 is)) all.0
among_page P page (Page other ∷ regions) all (inl is) = subst P (sym (one_number page other is)) all.0
among_page P page (region ∷ regions) all (inr later) = among_page P page regions all.1 later

-- what holds of each half that is asked for holds of the page that is among them, unless it is page 00h
pub among_regions : (P : Region → Type 0) (page : ℕ) (regions : List Region) → 0 < page → AllByRecursion P regions → IsKeyAmong regions (page_key page) → P (Page page)
among_regions P page [] above all among = absurd among
among_regions P page (Lower dev ∷ regions) above all (inl is) = absurd (let apart : halves.Upper ≡ halves.Lower = ap (λ (key : Key). key.half) is in cc)
among_regions P page (FirstPage ∷ regions) above all (inl is) = absurd (let number = one_number page 0 is in omega (arith, above, number))
among_regions P page (Page other ∷ regions) above all (inl is) = subst (λ (p : ℕ). P (Page p)) (sym (one_number page other is)) all.0
among_regions P page (region ∷ regions) above all (inr later) = among_regions P page regions above all.1 later

-- ---- those for reports

abbrev pub IsLow : ℕ → Type 0
IsLow page = page < 0x20

abbrev has_low : Region → Bool
has_low (Lower dev) = true
has_low FirstPage = true
has_low (Page page) = nat_lt page 0x20

low_true : (family : Family) → list_all has_low (family_regions everything family true) ≡ true
low_true Cmis = refl
low_true _ = refl

low_false : (family : Family) → list_all has_low (family_regions everything family false) ≡ true
low_false Cmis = refl
low_false _ = refl

pub all_low : (family : Option Family) (memory : Memory) → AllByRecursion (HasPage IsLow) (regions_in everything family memory)
all_low None memory = (tt, tt)
all_low (Some family) memory = by (family_regions everything family (decides family memory)) (either (decides family memory)) where
  either : (holds : Bool) → list_all has_low (family_regions everything family holds) ≡ true
  either true = low_true family
  either false = low_false family

  by : (regions : List Region) → list_all has_low regions ≡ true → AllByRecursion (HasPage IsLow) regions
  by [] e = tt
  by (Lower dev ∷ regions) e = (tt, by regions e)
  by (FirstPage ∷ regions) e = (omega arith, by regions e)
  by (Page page ∷ regions) e = (ltb-true page 0x20 (and_parts _ _ e).0, by regions (and_parts _ _ e).1)

-- page 01h isn't among them
abbrev lacks_first : Region → Bool
lacks_first (Lower dev) = true
lacks_first FirstPage = true
lacks_first (Page page) = not (page == 1)

no_first : (regions : List Region) → list_all lacks_first regions ≡ true → IsKeyAmong regions (page_key 1) → ⊥
no_first regions lacking among = among_page (λ page. page ≡ 1 → ⊥) 1 regions (by regions lacking) among refl where
  by : (regions : List Region) → list_all lacks_first regions ≡ true → AllByRecursion (HasPage (λ page. page ≡ 1 → ⊥)) regions
  by [] e = tt
  by (Lower dev ∷ regions) e = (tt, by regions e)
  by (FirstPage ∷ regions) e = ((λ is. cc), by regions e)
  by (Page page ∷ regions) e = ((λ is. let one : page == 1 ≡ true = eq-eqb page 1 is in let never : not (page == 1) ≡ true = (and_parts _ _ e).0 in cc), by regions (and_parts _ _ e).1)

-- of a CMIS module with page 01h, memory isn't flat
pub has_pages : (memory : Memory) → IsKeyAmong (regions_in everything (Some Cmis) memory) (page_key 1) → is_flat memory ≡ false
has_pages memory among = by (is_flat memory) refl among where
  by : (flat : Bool) → is_flat memory ≡ flat → IsKeyAmong (family_regions everything Cmis flat) (page_key 1) → is_flat memory ≡ false
  by false is among = is
  by true is among = absurd (no_first (family_regions everything Cmis true) refl among)

-- ---- those of further banks

abbrev asked : Bool → Bool → Bool → List Region
asked three two one = family_regions (record { halves = if three then 0x87 else if two then 0x83 else if one then 0x81 else 0x80 }) Cmis false

pub asks_first : (P : Region → Type 0) (three two one : Bool) → one ≡ true → AllByRecursion P (asked three two one) → P (Page 0x111)
asks_first P true two one is all = all.1.0
asks_first P false true one is all = all.1.0
asks_first P false false true is all = all.1.0
asks_first P false false false is all = absurd cc

pub asks_second : (P : Region → Type 0) (three two one : Bool) → two ≡ true → AllByRecursion P (asked three two one) → P (Page 0x211)
asks_second P true two one is all = all.1.1.0
asks_second P false true one is all = all.1.1.0
asks_second P false false one is all = absurd cc

pub asks_third : (P : Region → Type 0) (three two one : Bool) → three ≡ true → AllByRecursion P (asked three two one) → P (Page 0x311)
asks_third P true two one is all = all.1.1.1.0
asks_third P false two one is all = absurd cc

-- of a module of CMIS or of another family, with page 01h or without
abbrev count_by : Bool → Option (List ℕ) → ℕ
count_by cmis half = if cmis then option_map_or (λ (bytes : List ℕ). banks_by (byte_in bytes 142 % 4)) half 1 else 1

first_by : (cmis : Bool) (half : Option (List ℕ)) → nat_lt 1 (count_by cmis half) ≡ true → (cmis ≡ true) × (is_some half ≡ true)
first_by true (Some bytes) e = (refl, refl)
first_by true None e = absurd cc
first_by false half e = absurd cc

-- a module with more banks than one is of CMIS, and has page 01h
pub has_first : (memory : Memory) → nat_lt 1 (bank_count memory) ≡ true → (is_cmis memory ≡ true) × (map.contains_key memory (page_key 1) ≡ true)
has_first memory e = first_by (is_cmis memory) (map.get memory (page_key 1)) e
