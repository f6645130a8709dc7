-- What keeping a half makes of an image.
use Rattle.std.proofs.Common.{◌≡◌, ◌<◌, ◌≤◌, ◌+◌, ◌⊎◌, ℕ, ◌==◌, ◌&&◌, not, Bool, true, false, List, Some, refl, sym, ap, subst, ◌∙◌, inl, inr, if◌then◌else◌, cond, arith}
use Rattle.std.specs.Prelude.{IsTrue, is_some}
use Rattle.std.specs.FinMap as map
use Rattle.std.specs.Ordering.{eq_by_cmp}
use Rattle.std.specs.Cmp.{eq_by_cmp_equiv}
use Rattle.std.proofs.lemmas.Bool.{cases_Bool, eqb-true, false_from_ne_true}
use Rattle.paged_memory.specs.declared.key.Key.{Key}
use Rattle.paged_memory.specs.Images.{Memory, most_pages}
use Rattle.paged_memory.specs.KeyOrder.{key_cmp}
use Rattle.paged_memory.proofs.KeyLaws.{keys_total}
use Rattle.module_reading.specs.ImageReading.{put_in}
use Rattle.module_reading.proofs.RegionLaws.{keys_are}

module _ (image : Memory) (key : Key) (bytes : List ℕ) where
  abbrev kept : Memory
  kept = map.insert image key bytes

  gets : (other : Key) → map.get kept other ≡ cond (eq_by_cmp key_cmp other key) (Some bytes) (map.get image other)
  gets other = map.get-insert keys_total image key bytes other

  -- it is full, or keeps the half
  by_room : (P : Memory → Type 0) → P image → P kept → P (put_in image key bytes)
  by_room P full keeps = by (map.len image == most_pages && not (map.contains_key image key)) where
    by : (is_full : Bool) → P (if is_full then image else kept)
    by true = full
    by false = keeps

  pub puts_own : map.len image < most_pages → map.get (put_in image key bytes) key ≡ Some bytes
  puts_own room =
      let not_full : (map.len image == most_pages) ≡ false = false_from_ne_true (map.len image == most_pages) (λ full. (let same = eqb-true (map.len image) most_pages full in absurd (omega (arith, same, room)))) in
      ap (λ (full : Bool). map.get (if full && not (map.contains_key image key) then image else kept) key) not_full
      ∙ gets key ∙ ap (λ (b : Bool). cond b (Some bytes) (map.get image key)) ((eq_by_cmp_equiv keys_total).refl key)

  gets_other : (other : Key) → eq_by_cmp key_cmp other key ≡ false → map.get kept other ≡ map.get image other
  gets_other other differs = gets other ∙ ap (λ (b : Bool). cond b (Some bytes) (map.get image other)) differs

  pub puts_other : (other : Key) → eq_by_cmp key_cmp other key ≡ false → map.get (put_in image key bytes) other ≡ map.get image other
  puts_other other differs = by_room (λ memory. map.get memory other ≡ map.get image other) refl (gets_other other differs)

  pub puts_only : (other : Key) → IsTrue (map.contains_key (put_in image key bytes) other) → IsTrue (map.contains_key image other) ⊎ (other ≡ key)
  puts_only other = by_room (λ memory. IsTrue (map.contains_key memory other) → IsTrue (map.contains_key image other) ⊎ (other ≡ key)) (λ there. inl there) (λ there. elim (cases_Bool (eq_by_cmp key_cmp other key)) [
    | inl same ↦ inr (keys_are other key same)
    | inr differs ↦ inl (ap is_some (sym (gets_other other differs)) ∙ there)
  ])

  one_more : (b : Bool) (n : ℕ) → cond b n (n + 1) ≤ n + 1
  one_more true n = omega arith
  one_more false n = omega arith

  pub puts_few : map.len (put_in image key bytes) ≤ map.len image + 1
  puts_few = by_room (λ memory. map.len memory ≤ map.len image + 1) (omega arith)
      (subst (λ (n : ℕ). n ≤ map.len image + 1) (sym (map.len-insert keys_total image key bytes)) (one_more (map.contains_key image key) (map.len image)))
