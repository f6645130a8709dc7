-- An image as the map of the entries that it keeps.
use Rattle.std.proofs.Common.{◌≡◌, ◌↔◌, ℕ, Bool, true, false, length, List, [], Option, Some, None, refl, sym, ap, subst, ◌∙◌, ◌∷◌}
use Rattle.std.specs.Prelude.{is_some}
use lib.Dec.{T}
use Rattle.std.specs.FinMap as map
use Rattle.std.specs.FinMap.Entries.{put, by_order}
use Rattle.std.specs.List.{AllByRecursion}
use Rattle.std.specs.declared.cmp.Ordering.TheVariants.{Less, Equal, Greater}
use Rattle.paged_memory.specs.declared.key.Key.{Key}
use Rattle.paged_memory.specs.KeyOrder.{key_cmp}
use Rattle.paged_memory.specs.ImageText.{IsEntry, IsImage, AreEntries}
use Rattle.paged_memory.proofs.KeyLaws.{keys_total}

abbrev pub Entries : Type 0
Entries = List (Key × List ℕ)

abbrev pub Sorted : Entries → Type 0
Sorted es = map.is_sorted key_cmp es ≡ true

abbrev pub image_of : Entries → map.FinMap key_cmp (List ℕ)
image_of es = map.from_sorted es

test_of : (b : Bool) → b ≡ true → T b
test_of b h = subst T (sym h) tt

pub true_of : (b : Bool) → T b → b ≡ true
true_of true h = refl
true_of false h = absurd h

pub entries_of : (es : Entries) → Sorted es → map.entries (image_of es) ≡ es
entries_of es sorted = map.entries-from_sorted key_cmp es (test_of _ sorted)

pub no_pages : image_of [] ≡ map.empty
no_pages = map.empty_of_len (image_of []) (map.len-entries (image_of []) ∙ ap (λ (es : Entries). length es) (entries_of [] refl))

pub len_of : (es : Entries) → Sorted es → map.len (image_of es) ≡ length es
len_of es sorted = map.len-entries (image_of es) ∙ ap (λ (l : Entries). length l) (entries_of es sorted)

-- what an image has at a key
pub got : (es : Entries) (m : map.FinMap key_cmp (List ℕ)) (q : Key) → Sorted es → image_of es ≡ m → map.find key_cmp q es ≡ map.get m q
got es m q sorted view = sym (map.get-from_sorted key_cmp es q (test_of _ sorted)) ∙ ap (λ n. map.get n q) view

module _ (es : Entries) (sorted : Sorted es) (key : Key) (page : List ℕ) where
  inserted : map.entries (map.insert (image_of es) key page) ≡ put key_cmp key page es
  inserted = map.entries-insert keys_total (image_of es) key page ∙ ap (put key_cmp key page) (entries_of es sorted)

  pub put_sorted : Sorted (put key_cmp key page es)
  put_sorted = true_of _ (subst (λ l. T (map.is_sorted key_cmp l)) inserted (map.entries_sorted (map.insert (image_of es) key page)))

  pub put_view : image_of (put key_cmp key page es) ≡ map.insert (image_of es) key page
  put_view = map.same_entries_map _ _ (entries_of (put key_cmp key page es) put_sorted ∙ sym inserted)

-- an image has what its entries are
pub is_image : (es : Entries) → AreEntries es → IsImage (image_of es)
is_image es h = record { each = rw (entries_of es h.sorted) h.each }

pub are_entries : (es : Entries) → Sorted es → IsImage (image_of es) → AreEntries es
are_entries es sorted h = record { sorted = sorted; each = rw (entries_of es sorted) at h.each }

abbrev Fit : Key × List ℕ → Type 0
Fit e = IsEntry e.0 e.1

-- a page put under a key keeps this
put_fits : (key : Key) (page : List ℕ) → IsEntry key page → (es : Entries) → AllByRecursion Fit es → AllByRecursion Fit (put key_cmp key page es)
put_fits key page fit [] each = (fit, tt)
put_fits key page fit (e ∷ es) each =
    elim (key_cmp key e.0) as (λ order. AllByRecursion Fit (by_order order ((key, page) ∷ e ∷ es) ((e.0, page) ∷ es) (e ∷ put key_cmp key page es))) [
      | Less ↦ (fit, each)
      | Equal ↦ (record { key_fits = each.0.key_fits; page_fits = fit.page_fits }, each.1)
      | Greater ↦ (each.0, put_fits key page fit es each.1)
    ]

pub put_kept : (es : Entries) (key : Key) (page : List ℕ) → AreEntries es → IsEntry key page → AreEntries (put key_cmp key page es)
put_kept es key page h fit = record {
  sorted = put_sorted es h.sorted key page;
  each = put_fits key page fit es h.each;
}

absent_is : (o : Option (List ℕ)) → (o ≡ None) ↔ (is_some o ≡ false)
absent_is None = (λ _. refl, λ _. refl)
absent_is (Some x) = (λ e. absurd cc, λ e. absurd cc)

-- when there is neither a page under the key nor room for one
pub no_room : (es : Entries) (m : map.FinMap key_cmp (List ℕ)) (key : Key) (room : ℕ) → Sorted es → image_of es ≡ m
    → ((length es ≡ room) × (map.find key_cmp key es ≡ None)) ↔ ((map.len m ≡ room) × (map.contains_key m key ≡ false))
no_room es m key room sorted view =
    let lens : length es ≡ map.len m = sym (len_of es sorted) ∙ ap map.len view in
    let finds = got es m key sorted view in
    rw (lens, finds) (λ h. (h.0, (absent_is (map.get m key)).0 h.1), λ h. (h.0, (absent_is (map.get m key)).1 h.1))
