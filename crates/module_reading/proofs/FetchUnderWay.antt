-- How far the reading of a module has come, by an index into the list of its halves: those before it are settled, and nothing was done
-- for those after it. What isn't finished gives no image, and what is gives the one that was read.
use Rattle.std.proofs.Common.{◌≡◌, ◌<◌, ◌≤◌, ◌+◌, ◌⊎◌, ℕ, zero, suc, Bool, true, List, [], ◌∷◌, Option, Some, None, refl, sym, ap, subst, ◌∙◌, inl, inr, arith}
use Rattle.std.specs.Prelude.{IsTrue, MatchOption}
use Rattle.std.specs.FinMap as map
use Rattle.std.specs.List.{AllByRecursion, slice_get}
use Rattle.bus_model.specs.declared.device.Dev.TheVariants.{A0}
use Rattle.conversations.specs.Selecting.{WasTaken, trusted}
use Rattle.paged_memory.specs.declared.key.Key.{Key}
use Rattle.paged_memory.specs.declared.page_addressing.PageAddressing.{PageAddressing}
use Rattle.paged_memory.specs.Keys.{lower_key}
use Rattle.paged_memory.specs.PageAddressing.{EachStep, History, is_open}
use Rattle.module_reading.specs.declared.halves.Halves.{Halves}
use Rattle.module_reading.specs.declared.region.Region.{Region}
use Rattle.module_reading.specs.declared.region.Region.TheVariants.{Lower, Page}
use Rattle.module_reading.specs.Regions.{key_of, addressing_of, regions_of}
use Rattle.module_reading.specs.ImageReading as reader
use Rattle.module_reading.specs.ReadImages.{IsImageOf, IsKeyAmong, IsLeftOut, IsRead, IsSettled, IsUnfinished, StoresNothing}
use Rattle.module_reading.proofs.RegionLaws.{first_is, not_same_key, same_paging, same_regions}
use Rattle.module_reading.proofs.HalvesLaws.{known_later}
use Rattle.module_reading.proofs.FetchSteps.{IsKnown}

-- one of so many first halves of a list
abbrev pub IsAmong : List Region → ℕ → Region → Type 0
IsAmong regions count region = (n : ℕ) × (n < count) × (slice_get regions n ≡ Some region)

abbrev pub all_of : Halves → List Region
all_of halves = regions_of halves.request halves.image

all_at : (P : Region → Type 0) (regions : List Region) (n : ℕ) (region : Region) → AllByRecursion P regions → slice_get regions n ≡ Some region → P region
all_at P [] n region all is = absurd cc
all_at P (first ∷ rest) zero region all is = let same : first ≡ region = cc in subst P same all.0
all_at P (first ∷ rest) (suc n) region all is = all_at P rest n region all.1 is

-- where the list ends there
all_before : (P : Region → Type 0) (regions : List Region) (end : ℕ) → slice_get regions end ≡ None → ((region : Region) → IsAmong regions end region → P region) → AllByRecursion P regions
all_before P [] end none each = tt
all_before P (first ∷ rest) zero none each = absurd cc
all_before P (first ∷ rest) (suc end) none each = (each first (0, omega arith, refl), all_before P rest end none (λ region among. each region (suc among.0, omega (arith, among.1), among.2)))

key_among : (regions : List Region) (n : ℕ) (region : Region) (key : Key) → slice_get regions n ≡ Some region → key ≡ key_of region → IsKeyAmong regions key
key_among [] n region key is same = absurd cc
key_among (first ∷ rest) zero region key is same = let e : first ≡ region = cc in inl (same ∙ ap key_of (sym e))
key_among (first ∷ rest) (suc n) region key is same = inr (key_among rest n region key is same)

module _ (doubts : Bool) (addressing : PageAddressing) where
  -- half is what an image has of the region
  abbrev pub Settles : PageAddressing → History → Region → Option (List ℕ) → Type 0
  Settles by history region half = MatchOption half (IsLeftOut doubts by region history) (λ bytes. IsRead doubts by region bytes history)

  -- so far it has come by these steps
  pub record IsAt (halves : Halves) (history : History) : Type 0 where
    pub room : map.len halves.image ≤ halves.settled
    pub brief : EachStep (λ step before. IsUnfinished doubts halves.request before) history
    pub settled : (region : Region) → IsAmong (all_of halves) halves.settled region → Settles addressing history region (map.get halves.image (key_of region))
    pub only : (key : Key) → IsTrue (map.contains_key halves.image key) → (region : Region) × IsAmong (all_of halves) halves.settled region × (key ≡ key_of region)
    -- nothing else was read or left out
    pub read : (region : Region) (bytes : List ℕ) → IsRead doubts addressing region bytes history → IsAmong (all_of halves) halves.settled region × (map.get halves.image (key_of region) ≡ Some bytes)
    pub out : (region : Region) → IsLeftOut doubts addressing region history → IsAmong (all_of halves) halves.settled region
    -- nor selected, but for the half in hand
    pub taken : (page : ℕ) → WasTaken addressing page (trusted doubts history) → IsAmong (all_of halves) (halves.settled + 1) (Page page)
    pub stored : StoresNothing history ⊎ ((page : ℕ) × IsAmong (all_of halves) (halves.settled + 1) (Page page))
    pub known : IsKnown doubts addressing history
    pub awaits : is_open addressing (trusted doubts history) ≡ true → (region : Region) × (reader.in_hand halves ≡ Some region)

  -- the way that pages are selected, once it is known
  abbrev pub Fits : Halves → Type 0
  Fits halves = (by : PageAddressing) → reader.addressing halves ≡ Some by → by ≡ addressing

  module _ (halves : Halves) (fits : Fits halves) (history : History) (at : IsAt halves history) where
    fits_later : (region : Region) → IsAmong (all_of halves) halves.settled region → addressing_of halves.image ≡ addressing
    fits_later region (n, few, is) = fits (addressing_of halves.image) (known_later halves.settled halves.image (omega (arith, few)))

    module _ (hand : Region) (is : reader.in_hand halves ≡ Some hand) where
      -- no half before has its key
      pub not_before : (region : Region) → IsAmong (all_of halves) halves.settled region → key_of region ≡ key_of hand → ⊥
      not_before region (n, few, there) same = not_same_key halves.request halves.image n halves.settled region hand few there is same

      neither : (half : Option (List ℕ)) → Settles addressing history hand half → ⊥
      neither None out = not_before hand (at.out hand out) refl
      neither (Some bytes) read = not_before hand (at.read hand bytes read).0 refl

      pub unfinished : IsUnfinished doubts halves.request history
      unfinished image gives = by (map.get image (lower_key A0)) refl (all_at (IsSettled doubts history image) (regions_of halves.request image) 0 (Lower A0) gives.each (first_is halves.request image)) where
        by : (half : Option (List ℕ)) → map.get image (lower_key A0) ≡ half → Settles (addressing_of image) history (Lower A0) half → ⊥
        by None lower none = none
        by (Some bytes) lower read =
            let (among, held) = at.read (Lower A0) bytes read in
            let same : map.get image (lower_key A0) ≡ map.get halves.image (lower_key A0) = lower ∙ sym held in
            let here = all_at (IsSettled doubts history image) (regions_of halves.request image) halves.settled hand gives.each (ap (λ (regions : List Region). slice_get regions halves.settled) (same_regions image halves.image same halves.request) ∙ is) in
            neither (map.get image (key_of hand)) (subst (λ (by : PageAddressing). Settles by history hand (map.get image (key_of hand))) (same_paging image halves.image same ∙ fits_later (Lower A0) among) here)

    pub complete : reader.in_hand halves ≡ None → IsImageOf doubts halves.request history halves.image
    complete none = record {
      each = all_before (IsSettled doubts history halves.image) (all_of halves) halves.settled none
          (λ region among. subst (λ (by : PageAddressing). Settles by history region (map.get halves.image (key_of region))) (sym (fits_later region among)) (at.settled region among));
      only = λ key there. (let (region, among, same) = at.only key there in key_among (all_of halves) among.0 region key among.2 same);
    }
