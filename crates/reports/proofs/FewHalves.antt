-- What was read has no more halves than were asked for.
use Rattle.std.proofs.Common.{◌≡◌, ◌≤◌, ◌+◌, ◌-◌, ◌∙◌, inl, inr, ℕ, Bool, true, false, cond, List, [], ◌∷◌, Option, Some, None, is_some, length, refl, sym, ap, subst, arith}
use Rattle.std.specs.FinMap as map
use Rattle.std.specs.Cmp.{eq_by_cmp_equiv}
use Rattle.std.specs.Ordering.{eq_by_cmp}
use Rattle.paged_memory.specs.declared.key.Key.{Key}
use Rattle.paged_memory.specs.Images.{Memory}
use Rattle.paged_memory.specs.KeyOrder.{key_cmp}
use Rattle.paged_memory.specs.PageAddressing.{History}
use Rattle.paged_memory.proofs.KeyLaws.{keys_apart, keys_total}
use Rattle.module_reading.specs.declared.region.Region.{Region}
use Rattle.module_reading.specs.declared.request.Request.{Request}
use Rattle.module_reading.specs.ReadImages.{IsImageOf, IsKeyAmong}
use Rattle.module_reading.specs.Regions.{key_of, regions_of}
use Rattle.module_reading.proofs.RegionLaws.{at_most_five}

-- all its keys are among those of the regions
abbrev AreAmong : List Region → Memory → Type 0
AreAmong regions image = (key : Key) → map.contains_key image key ≡ true → IsKeyAmong regions key

none_there : (image : Memory) → AreAmong [] image → image ≡ map.empty
none_there image only = map.same_map keys_total keys_apart image map.empty (λ key. by key (map.get image key) refl) where
  by : (key : Key) (half : Option (List ℕ)) → map.get image key ≡ half → map.get image key ≡ map.get {R = key_cmp} map.empty key
  by key None e = e ∙ sym (map.get-empty key_cmp key)
  by key (Some bytes) e = absurd (only key (ap is_some e))

-- without the key of the first region
module _ (region : Region) (rest : List Region) (image : Memory) (only : AreAmong (region ∷ rest) image) where
  abbrev fewer : Memory
  fewer = map.remove image (key_of region)

  later : AreAmong rest fewer
  later key there = by (eq_by_cmp key_cmp key (key_of region)) refl (sym (ap is_some (map.get-remove keys_total image (key_of region) key)) ∙ there)
    where
      by : (same : Bool) → eq_by_cmp key_cmp key (key_of region) ≡ same → is_some (cond same None (map.get image key)) ≡ true → IsKeyAmong rest key
      by true e there = absurd (let clash : false ≡ true = there in cc)
      by false e there = elim (only key there) [
        | inl own ↦ absurd (let clash : true ≡ false = sym (ap (λ (k : Key). eq_by_cmp key_cmp k (key_of region)) own ∙ (eq_by_cmp_equiv keys_total).refl (key_of region)) ∙ e in cc)
        | inr among ↦ among
      ]

  one_less : map.len image ≤ map.len fewer + 1
  one_less = by (map.contains_key image (key_of region)) (map.len-remove keys_total image (key_of region)) where
    by : (has : Bool) → map.len fewer ≡ cond has (map.len image - 1) (map.len image) → map.len image ≤ map.len fewer + 1
    by true e = omega (arith, e)
    by false e = omega (arith, e)

keys_few : (regions : List Region) (image : Memory) → AreAmong regions image → map.len image ≤ length regions
keys_few [] image only = subst (λ (n : ℕ). n ≤ 0) (sym (ap map.len (none_there image only) ∙ map.len-empty key_cmp (List ℕ))) (omega arith)
keys_few (region ∷ rest) image only =
    let first = one_less region rest image only in
    let others = keys_few rest (fewer region rest image only) (later region rest image only) in
    omega (arith, first, others)

pub image_few : (request : Request) (history : History) (image : Memory) → IsImageOf false request history image → map.len image ≤ 5
image_few request history image is =
    let few = keys_few (regions_of request image) image is.only in
    let five = at_most_five request image in
    omega (arith, few, five)
