-- What the fetch of a half reads of a window: the bytes of the image, but for those that show the selection.
use Rattle.std.proofs.Common.{◌≡◌, ◌⊎◌, inl, inr, ℕ, ◌+◌, ◌<◌, ◌≤◌, Bool, true, false, cond, List, [], ◌∷◌, length, map, take, Option, Some, None, refl, sym, ap, subst, ◌∙◌, if◌then◌else◌, arith}
use Rattle.std.proofs.lemmas.Bool.Decides.{nat_tests}
use Rattle.std.proofs.lemmas.List.{ext_get_or, get_or-take, length-take}
use Rattle.std.proofs.lemmas.List.FromFn.{get_or-map-range_with_len, length-map-range_with_len, take-map-range_with_len}
use Rattle.std.proofs.Math.Seq.{take-length}
use Rattle.std.specs.Prelude.{option_map, slice_index, unwrap_or}
use Rattle.std.specs.List.{AllByRecursion, range_with_len}
use Rattle.std.specs.FinMap as finmap
use Rattle.std.specs.Ordering.{eq_by_cmp}
use Rattle.bus_model.specs.declared.device.Dev.{Dev}
use Rattle.bus_model.specs.declared.device.Dev.TheVariants.{A0, A2}
use Rattle.paged_memory.specs.declared.key.Key.{Key}
use Rattle.paged_memory.specs.declared.mapped_page.MappedPage.{MappedPage}
use Rattle.paged_memory.specs.declared.page_addressing.PageAddressing.{PageAddressing}
use Rattle.paged_memory.specs.declared.page_addressing.PageAddressing.TheVariants.{BankAndPage, PageAlone}
use Rattle.paged_memory.specs.Images.{Memory, place_in_half}
use Rattle.paged_memory.specs.ImageText.{IsEntry, IsImage, IsPage}
use Rattle.paged_memory.specs.Keys.{lower_key, page_key, upper_key}
use Rattle.paged_memory.specs.KeyOrder.{key_cmp}
use Rattle.paged_memory.specs.MappedPages.{selecting_on, shown_at}
use Rattle.paged_memory.specs.Windows.{Windowed, bytes_from, window_fetched, half_at, read_at}
use Rattle.paged_memory.proofs.WindowHistories.{IsOf, Shows, below_next, not_126, not_127}

-- ---- the halves of an image

value_at : (test : Bool) (value half : List ℕ) (rest : Option (List ℕ)) → cond test (Some value) rest ≡ Some half → (value ≡ half) ⊎ (rest ≡ Some half)
value_at true value half rest same = inl cc
value_at false value half rest same = inr same

entry_page : (entries : List (Key × List ℕ)) (key : Key) (half : List ℕ) → AllByRecursion (λ entry. IsEntry entry.0 entry.1) entries →
    finmap.find key_cmp key entries ≡ Some half → IsPage half
entry_page [] key half each e = absurd cc
entry_page (entry ∷ entries) key half each e =
    elim (value_at (eq_by_cmp key_cmp key entry.0) entry.1 half (finmap.find key_cmp key entries) e) [
      | inl here ↦ subst IsPage here each.0.page_fits
      | inr later ↦ entry_page entries key half each.1 later
    ]

pub half_page : (memory : Memory) (key : Key) (half : List ℕ) → IsImage memory → finmap.get memory key ≡ Some half → IsPage half
half_page memory key half image e = entry_page (finmap.entries memory) key half image.each (sym (finmap.get-entries memory key) ∙ e)

-- ---- what a fetch of a half reads

-- the bytes that a fetch gives are those of the half, as far as the selection isn't shown
read_first : (how : Option PageAddressing) (shown : MappedPage) (half : List ℕ) (address count : ℕ) → count ≤ length half → ((place : ℕ) → place < count → read_at how shown half (address + place) ≡ slice_index half place) →
    map (read_at how shown half) (range_with_len address count) ≡ take count half
read_first how shown half address count fits same =
    let len = length-map-range_with_len (read_at how shown half) address count in
    ext_get_or 0 (map (read_at how shown half) (range_with_len address count)) (take count half) (omega (arith, len, length-take count half))
    (λ place below.
    let within : place < count = omega (arith, below, len) in
    get_or-map-range_with_len (read_at how shown half) address count place (address + place) 0 within refl ∙ same place within ∙ sym (get_or-take count half place 0 within))

none_shown : (how : Option PageAddressing) (shown : MappedPage) (address : ℕ) → (address < 126) ⊎ (128 ≤ address) → shown_at how shown address ≡ None
none_shown (Some BankAndPage) shown address apart = λ i.
    if not_126 address apart i then Some shown.bank else if not_127 address (below_next address apart) i then Some shown.page else None
none_shown (Some PageAlone) shown address apart = λ i. if not_127 address (below_next address apart) i then Some shown.page else None
none_shown None shown address apart = refl

read_plain : (how : Option PageAddressing) (shown : MappedPage) (half : List ℕ) (address place : ℕ) → (address < 126) ⊎ (128 ≤ address) → place_in_half address ≡ place → read_at how shown half address ≡ slice_index half place
read_plain how shown half address place apart same = λ i. unwrap_or (none_shown how shown address apart i) (slice_index half (same i))

-- an answer comes from a half
given_by : (of : List ℕ → List ℕ) (half : Option (List ℕ)) (bytes : List ℕ) → option_map of half ≡ Some bytes → (there : List ℕ) × (half ≡ Some there) × (of there ≡ bytes)
given_by of None bytes e = absurd cc
given_by of (Some there) bytes e = (there, refl, cc)

whole : (half : List ℕ) → length half ≡ 128 → take 128 half ≡ half
whole half len = ap (λ (n : ℕ). take n half) (sym len) ∙ take-length half

-- of a page that is shown
pub reads_page : (memory : Memory) (page : ℕ) (window : Windowed) (bytes : List ℕ) → IsImage memory → Shows memory page window → (window_fetched window A0 128 128).0 ≡ Some bytes →
    finmap.get memory (page_key page) ≡ Some bytes
reads_page memory page window bytes image shows answer =
    let how = selecting_on window.memory A0 in
    let from = given_by (bytes_from how window.selection 128 128) (half_at window A0 128) bytes answer in
    let half = from.0 in
    let there : finmap.get memory (page_key page) ≡ half_at window A0 128 = λ i. finmap.get (sym shows.memory_is i) (upper_key A0 (sym shows.bank i) (sym shows.number i)) in
    let has = there ∙ from.1 in
    let len = (half_page memory (page_key page) half image has).len in
    let same = read_first how window.selection half 128 128 (omega (arith, len)) (λ place below. read_plain how window.selection half (128 + place) place (inr (omega arith)) (grind (arith, nat_tests))) in
    has ∙ ap (λ (xs : List ℕ). Some xs) (sym (whole half len) ∙ sym same ∙ from.2)

-- how many bytes of a lower half are before the selection
abbrev pub before_selection : Dev → ℕ
before_selection A0 = 126
before_selection A2 = 128

-- a half, and bytes that were read of it
pub record ReadsLower (memory : Memory) (dev : Dev) (bytes : List ℕ) : Type 0 where
  pub half : List ℕ
  pub has : finmap.get memory (lower_key dev) ≡ Some half
  pub same : take (before_selection dev) bytes ≡ take (before_selection dev) half

low_place : (place : ℕ) → place < 128 → place_in_half (0 + place) ≡ place
low_place place below = grind (arith, nat_tests)

-- of a lower half
pub reads_lower : (memory : Memory) (dev : Dev) (window : Windowed) (bytes : List ℕ) → IsImage memory → IsOf memory window → (window_fetched window dev 0 128).0 ≡ Some bytes → ReadsLower memory dev bytes
reads_lower memory A0 window bytes image of answer =
    let how = selecting_on window.memory A0 in
    let read = read_at how window.selection in
    let from = given_by (bytes_from how window.selection 0 128) (half_at window A0 0) bytes answer in
    let half = from.0 in
    let has : finmap.get memory (lower_key A0) ≡ Some half = ap (λ (m : Memory). finmap.get m (lower_key A0)) (sym of) ∙ from.1 in
    let len = (half_page memory (lower_key A0) half image has).len in
    let same = read_first how window.selection half 0 126 (omega (arith, len)) (λ place below.
    read_plain how window.selection half (0 + place) place (inl (omega (arith, below))) (low_place place (omega (arith, below)))) in
    record { half = half; has = has; same = ap (λ (xs : List ℕ). take 126 xs) (sym from.2) ∙ take-map-range_with_len (read half) 0 128 126 (omega arith) ∙ same }
reads_lower memory A2 window bytes image of answer =
    let read = read_at None window.selection in
    let from = given_by (bytes_from None window.selection 0 128) (half_at window A2 0) bytes answer in
    let half = from.0 in
    let has : finmap.get memory (lower_key A2) ≡ Some half = ap (λ (m : Memory). finmap.get m (lower_key A2)) (sym of) ∙ from.1 in
    let len = (half_page memory (lower_key A2) half image has).len in
    let same = read_first None window.selection half 0 128 (omega (arith, len)) (λ place below. ap (λ (k : ℕ). slice_index half k) (low_place place below)) in
    record { half = half; has = has; same = ap (λ (xs : List ℕ). take 128 xs) (sym from.2) ∙ take-map-range_with_len (read half) 0 128 128 (omega arith) ∙ same }
