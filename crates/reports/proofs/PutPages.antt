-- What a memory has of a page after pages of another were put into it.
use Rattle.std.proofs.Common.{◌≡◌, ◌⊎◌, inl, inr, ℕ, ◌/◌, ◌%◌, ◌<◌, ◌≤◌, Bool, true, false, cond, List, Option, Some, None, refl, sym, ap, ◌∙◌, arith}
use Rattle.std.proofs.lemmas.Bool.{false_from_ne_true}
use Rattle.std.specs.FinMap as map
use Rattle.std.specs.Cmp.{eq_by_cmp_equiv}
use Rattle.std.specs.Option.{option_map_or}
use Rattle.std.specs.Ordering.{eq_by_cmp}
use Rattle.bus_model.specs.declared.device.Dev.{Dev}
use Rattle.paged_memory.specs.declared.key.Half.TheVariants as halves
use Rattle.paged_memory.specs.declared.key.Key.{Key}
use Rattle.paged_memory.specs.Images.{Memory}
use Rattle.paged_memory.specs.Keys.{lower_key, page_key}
use Rattle.paged_memory.specs.KeyOrder.{key_cmp}
use Rattle.paged_memory.proofs.KeyLaws.{keys_total}
use Rattle.module_reading.proofs.RegionLaws.{keys_are}
use Rattle.reports.specs.FetchedImages.{with_banks, with_page}

-- ---- keys of pages

pub one_number : (page other : ℕ) → page_key page ≡ page_key other → page ≡ other
one_number page other e =
    let bank : page / 256 ≡ other / 256 = ap (λ (key : Key). key.bank) e in
    let number : page % 256 ≡ other % 256 = ap (λ (key : Key). key.page) e in
    omega (arith, bank, number)

pub below_apart : (page other : ℕ) → page < other → page_key page ≡ page_key other → ⊥
below_apart page other below e = let number = one_number page other e in omega (arith, below, number)

pub above_apart : (page other : ℕ) → other < page → page_key page ≡ page_key other → ⊥
above_apart page other above e = let number = one_number page other e in omega (arith, above, number)

pub lower_apart : (dev : Dev) (other : ℕ) → lower_key dev ≡ page_key other → ⊥
lower_apart dev other e = let apart : halves.Lower ≡ halves.Upper = ap (λ (key : Key). key.half) e in cc

-- ---- one page

-- another half stays
pub put_apart : (key : Key) (other : ℕ) (from memory : Memory) → (key ≡ page_key other → ⊥) → map.get (with_page from other memory) key ≡ map.get memory key
put_apart key other from memory apart = by (map.get from (page_key other)) where
  by : (half : Option (List ℕ)) → map.get (option_map_or (λ (found : List ℕ). map.insert memory (page_key other) found) half memory) key ≡ map.get memory key
  by None = refl
  by (Some found) =
      map.get-insert keys_total memory (page_key other) found key
      ∙ ap (λ (b : Bool). cond b (Some found) (map.get memory key)) (false_from_ne_true (eq_by_cmp key_cmp key (page_key other)) (λ e. apart (keys_are key (page_key other) e)))

-- a page that the memory lacks is the other's
pub put_there : (page : ℕ) (from memory : Memory) → map.get memory (page_key page) ≡ None → map.get (with_page from page memory) (page_key page) ≡ map.get from (page_key page)
put_there page from memory none = by (map.get from (page_key page)) refl where
  by : (half : Option (List ℕ)) → map.get from (page_key page) ≡ half → map.get (option_map_or (λ (found : List ℕ). map.insert memory (page_key page) found) half memory) (page_key page) ≡ map.get from (page_key page)
  by None there = none ∙ sym there
  by (Some found) there =
      map.get-insert keys_total memory (page_key page) found (page_key page)
      ∙ ap (λ (b : Bool). cond b (Some found) (map.get memory (page_key page))) ((eq_by_cmp_equiv keys_total).refl (page_key page))
      ∙ sym there

same_at : (page other : ℕ) (from memory : Memory) (found : List ℕ) → map.get memory (page_key page) ≡ map.get from (page_key page) → map.get from (page_key other) ≡ Some found
    → (equal : Bool) → eq_by_cmp key_cmp (page_key page) (page_key other) ≡ equal → cond equal (Some found) (map.get memory (page_key page)) ≡ map.get from (page_key page)
same_at page other from memory found same there true e = sym there ∙ ap (map.get from) (sym (keys_are (page_key page) (page_key other) e))
same_at page other from memory found same there false e = same

-- a page that is the other's stays so
pub put_same : (page other : ℕ) (from memory : Memory) → map.get memory (page_key page) ≡ map.get from (page_key page) → map.get (with_page from other memory) (page_key page) ≡ map.get from (page_key page)
put_same page other from memory same = by (map.get from (page_key other)) refl where
  by : (half : Option (List ℕ)) → map.get from (page_key other) ≡ half → map.get (option_map_or (λ (found : List ℕ). map.insert memory (page_key other) found) half memory) (page_key page) ≡ map.get from (page_key page)
  by None there = same
  by (Some found) there =
      map.get-insert keys_total memory (page_key other) found (page_key page)
      ∙ same_at page other from memory found same there (eq_by_cmp key_cmp (page_key page) (page_key other)) refl

module _ (from : Memory) (page : ℕ) (bytes : List ℕ) where
  abbrev pub Has : Memory → Type 0
  Has memory = map.get memory (page_key page) ≡ Some bytes

  either_at : (memory : Memory) (other : ℕ) (found : List ℕ) → map.get from (page_key other) ≡ Some found → (equal : Bool) → eq_by_cmp key_cmp (page_key page) (page_key other) ≡ equal
      → cond equal (Some found) (map.get memory (page_key page)) ≡ Some bytes → Has from ⊎ Has memory
  either_at memory other found there true e is = inl (ap (map.get from) (keys_are (page_key page) (page_key other) e) ∙ there ∙ is)
  either_at memory other found there false e is = inr is

  -- a page that it has afterwards is the other's, or was there
  pub put_either : (memory : Memory) (other : ℕ) → Has (with_page from other memory) → Has from ⊎ Has memory
  put_either memory other has = by (map.get from (page_key other)) refl has where
    by : (half : Option (List ℕ)) → map.get from (page_key other) ≡ half → Has (option_map_or (λ (found : List ℕ). map.insert memory (page_key other) found) half memory) → Has from ⊎ Has memory
    by None there has = inr has
    by (Some found) there has =
        either_at memory other found there (eq_by_cmp key_cmp (page_key page) (page_key other)) refl (sym (map.get-insert keys_total memory (page_key other) found (page_key page)) ∙ has)

-- ---- page 11h of banks 1 to 3

-- any other half stays
pub banks_apart : (key : Key) (from memory : Memory) → (key ≡ page_key 0x111 → ⊥) → (key ≡ page_key 0x211 → ⊥) → (key ≡ page_key 0x311 → ⊥) → map.get (with_banks from memory) key ≡ map.get memory key
banks_apart key from memory one two three =
    put_apart key 0x311 from (with_page from 0x211 (with_page from 0x111 memory)) three
    ∙ put_apart key 0x211 from (with_page from 0x111 memory) two
    ∙ put_apart key 0x111 from memory one

pub banks_beside : (page : ℕ) (from memory : Memory) → page < 256 → map.get (with_banks from memory) (page_key page) ≡ map.get memory (page_key page)
banks_beside page from memory below =
    banks_apart (page_key page) from memory (below_apart page 0x111 (omega (arith, below))) (below_apart page 0x211 (omega (arith, below))) (below_apart page 0x311 (omega (arith, below)))

pub banks_lower : (dev : Dev) (from memory : Memory) → map.get (with_banks from memory) (lower_key dev) ≡ map.get memory (lower_key dev)
banks_lower dev from memory = banks_apart (lower_key dev) from memory (lower_apart dev 0x111) (lower_apart dev 0x211) (lower_apart dev 0x311)

pub banks_either : (page : ℕ) (bytes : List ℕ) (from memory : Memory) → map.get (with_banks from memory) (page_key page) ≡ Some bytes → (map.get from (page_key page) ≡ Some bytes) ⊎ (map.get memory (page_key page) ≡ Some bytes)
banks_either page bytes from memory has =
    elim (put_either from page bytes (with_page from 0x211 (with_page from 0x111 memory)) 0x311 has) [
      | inl there ↦ inl there
      | inr third ↦ elim (put_either from page bytes (with_page from 0x111 memory) 0x211 third) [
        | inl there ↦ inl there
        | inr second ↦ put_either from page bytes memory 0x111 second
      ]
    ]

-- of a memory that has none of them, they are the other's
module _ (from memory : Memory) (none : (page : ℕ) → 0x20 ≤ page → map.get memory (page_key page) ≡ None) where
  pub first_bank : map.get (with_banks from memory) (page_key 0x111) ≡ map.get from (page_key 0x111)
  first_bank =
      put_same 0x111 0x311 from (with_page from 0x211 (with_page from 0x111 memory))
      (put_same 0x111 0x211 from (with_page from 0x111 memory) (put_there 0x111 from memory (none 0x111 (omega arith))))

  pub second_bank : map.get (with_banks from memory) (page_key 0x211) ≡ map.get from (page_key 0x211)
  second_bank =
      put_same 0x211 0x311 from (with_page from 0x211 (with_page from 0x111 memory))
      (put_there 0x211 from (with_page from 0x111 memory) (put_apart (page_key 0x211) 0x111 from memory (above_apart 0x211 0x111 (omega arith)) ∙ none 0x211 (omega arith)))

  pub third_bank : map.get (with_banks from memory) (page_key 0x311) ≡ map.get from (page_key 0x311)
  third_bank =
      put_there 0x311 from (with_page from 0x211 (with_page from 0x111 memory))
      (put_apart (page_key 0x311) 0x211 from (with_page from 0x111 memory) (above_apart 0x311 0x211 (omega arith))
      ∙ put_apart (page_key 0x311) 0x111 from memory (above_apart 0x311 0x111 (omega arith))
      ∙ none 0x311 (omega arith))
