-- The halves that were read of a module so far are its own, but for what it shows in place of bytes of its lower half and of page 11h.
use Rattle.std.proofs.Common.{[], ◌≡◌, ℕ, zero, suc, ◌+◌, ◌<◌, ◌≤◌, ◌==◌, true, false, List, ◌∷◌, Option, Some, None, is_some, refl, sym, ap, subst, ◌∙◌, arith}
use Rattle.std.specs.Prelude.{option_map, pos, slice_get, unsigned_abs, unwrap_or}
use Rattle.std.specs.FinMap as finmap
use Rattle.std.specs.Ordering.{eq_by_cmp}
use Rattle.bus_model.specs.declared.device.Dev.TheVariants.{A0}
use Rattle.field_tables.specs.declared.field.Field.{Field}
use Rattle.field_tables.specs.declared.field.Field.TheVariants as fields
use Rattle.field_tables.specs.declared.table.cmis.CmisField.TheVariants as cmis
use Rattle.field_tables.specs.FieldValues.{field_key, value_in}
use Rattle.field_tables.specs.Halves.{byte_in}
use Rattle.field_tables.specs.Readings.{number, reading_at}
use Rattle.paged_memory.specs.declared.family.Family.{Family}
use Rattle.paged_memory.specs.declared.key.Key.{Key}
use Rattle.paged_memory.specs.declared.family.Family.TheVariants.{Cmis}
use Rattle.paged_memory.specs.Families.{managed_by}
use Rattle.paged_memory.specs.Images.{Memory, most_pages}
use Rattle.paged_memory.specs.KeyOrder.{key_cmp}
use Rattle.paged_memory.specs.Keys.{lower_key, page_key, upper_key}
use Rattle.module_reading.specs.declared.halves.Halves.{Halves}
use Rattle.module_reading.specs.declared.region.Region.{Region}
use Rattle.module_reading.specs.declared.region.Region.TheVariants.{Lower, FirstPage, Page}
use Rattle.module_reading.specs.declared.request.Request.{Request}
use Rattle.module_reading.specs.ImageReading.{in_hand, keeping, leaving_out, put_in}
use Rattle.module_reading.specs.Regions.{everything, family_regions, identifier, regions_in, regions_of}
use Rattle.module_reading.proofs.KeptHalves.{puts_few, puts_other, puts_own}
use Rattle.module_reading.proofs.RegionLaws.{first_is}
use Rattle.managed_module.specs.Managed.{IsCmisFamily}
use Rattle.managed_module.proofs.OwnAdverts.{IsPaged, first_key, lanes_key, second_key}
use Rattle.managed_module.proofs.OwnLower.{HasLower, is_plain, lower_number}

-- the halves that are read of a module with pages, one after the other
abbrev pub all_regions : List Region
all_regions = Lower A0 ∷ Page 0x00 ∷ Page 0x01 ∷ Page 0x02 ∷ Page 0x11 ∷ []

pub record IsOwn (own : Memory) (halves : Halves) : Type 0 where
  pub request : halves.request ≡ everything
  pub few : finmap.len halves.image ≤ halves.settled
  pub none : halves.settled ≡ 0 → halves.image ≡ finmap.empty
  pub lower : 1 ≤ halves.settled → HasLower halves.image own
  pub first : 2 ≤ halves.settled → finmap.get halves.image first_key ≡ finmap.get own first_key
  pub second : 3 ≤ halves.settled → finmap.get halves.image second_key ≡ finmap.get own second_key
  pub lanes : 5 ≤ halves.settled → finmap.contains_key halves.image lanes_key ≡ true

-- ---- which half is next

cmis_in : (own : Memory) (image : Memory) → IsPaged own → HasLower image own → managed_by (identifier image) ≡ managed_by (number own (fields.Cmis cmis.Identifier))
cmis_in own image paged lower = ap managed_by (lower_number image own (fields.Cmis cmis.Identifier) 1 lower refl refl)

in_order : (own : Memory) (image : Memory) → IsPaged own → HasLower image own → regions_of everything image ≡ all_regions
in_order own image paged lower =
    ap (λ (family : Option Family). regions_in everything family image) (cmis_in own image paged lower ∙ paged.cmis)
    ∙ ap (family_regions everything Cmis) (ap (λ (n : ℕ). n == 1) (lower_number image own (fields.Cmis cmis.FlatMemory) 1 lower refl refl) ∙ paged.paged)

pub hand_is : (own : Memory) (halves : Halves) → IsPaged own → IsOwn own halves → in_hand halves ≡ slice_get all_regions halves.settled
hand_is own halves paged is = by halves.settled refl where
  by : (n : ℕ) → halves.settled ≡ n → in_hand halves ≡ slice_get all_regions halves.settled
  by zero e =
      ap (slice_get (regions_of halves.request halves.image)) e ∙ first_is halves.request halves.image ∙ sym (ap (slice_get all_regions) e)
  by (suc n) e =
      ap (λ (regions : List Region). slice_get regions halves.settled)
      (ap (λ (request : Request). regions_of request halves.image) is.request ∙ in_order own halves.image paged (is.lower (omega (arith, e))))

pub number_of_nothing : (field : Field) → number finmap.empty field ≡ 0
unfolding reading_at
number_of_nothing field =
    ap (λ (half : Option (List ℕ)). unsigned_abs (unwrap_or (option_map (λ bytes. value_in bytes field 1) half) (pos 0))) (finmap.get-empty key_cmp (field_key field))

no_family : managed_by 0 ≡ None
unfolding managed_by
no_family = refl

-- so what was read is of CMIS
pub is_cmis : (own : Memory) (halves : Halves) → IsPaged own → IsOwn own halves → IsCmisFamily (managed_by (identifier halves.image))
is_cmis own halves paged is = by halves.settled refl where
  by : (n : ℕ) → halves.settled ≡ n → IsCmisFamily (managed_by (identifier halves.image))
  by zero e = subst IsCmisFamily (sym (ap (λ (image : Memory). managed_by (identifier image)) (is.none e) ∙ ap managed_by (number_of_nothing (fields.Cmis cmis.Identifier)) ∙ no_family)) tt
  by (suc n) e = subst IsCmisFamily (sym (cmis_in own halves.image paged (is.lower (omega (arith, e))) ∙ paged.cmis)) tt

-- ---- one half more

-- the bytes are those of the half
abbrev pub Fits : Memory → Region → List ℕ → Type 0
Fits own (Lower dev) bytes = (page : List ℕ) × (finmap.get own (lower_key A0) ≡ Some page) × ((address : ℕ) → is_plain address ≡ true → byte_in bytes address ≡ byte_in page address)
Fits own FirstPage bytes = Unit {0}
Fits own (Page page) bytes = page < 3 → finmap.get own (page_key page) ≡ Some bytes

lower_kept : (own image : Memory) (key : Key) (bytes : List ℕ) → eq_by_cmp key_cmp (lower_key A0) key ≡ false → HasLower image own → HasLower (put_in image key bytes) own
lower_kept own image key bytes other lower =
    record { bytes = lower.bytes; page = lower.page; read = puts_other image key bytes (lower_key A0) other ∙ lower.read; there = lower.there; same = lower.same }

module _ (own : Memory) (halves : Halves) (is : IsOwn own halves) where
  same_region : (n : ℕ) (region next : Region) → slice_get all_regions n ≡ Some next → slice_get all_regions n ≡ Some region → next ≡ region
  same_region n region next e f = let same : Some next ≡ Some region = sym e ∙ f in cc

  module _ (bytes : List ℕ) where
    abbrev image_with : Key → Memory
    image_with key = put_in halves.image key bytes

    room : halves.settled ≤ 4 → finmap.len halves.image < most_pages
    room few = omega (arith, few, is.few)

    own_get : (key : Key) → halves.settled ≤ 4 → finmap.get (image_with key) key ≡ Some bytes
    own_get key few = puts_own halves.image key bytes (room few)

    more : (key : Key) → finmap.len (image_with key) ≤ halves.settled + 1
    more key = omega (arith, puts_few halves.image key bytes, is.few)

    keeps_by : (n : ℕ) (region : Region) → halves.settled ≡ n → slice_get all_regions n ≡ Some region → Fits own region bytes → IsOwn own (keeping halves region bytes)
    keeps_by zero region e hand fits = subst (λ (region : Region). Fits own region bytes → IsOwn own (keeping halves region bytes)) (same_region 0 region (Lower A0) refl hand) (λ fits. record {
      request = is.request;
      few = more (lower_key A0);
      none = λ none. absurd (omega (arith, none));
      lower = λ one. record { bytes = bytes; page = fits.0; read = own_get (lower_key A0) (omega (arith, e)); there = fits.1; same = fits.2 };
      first = λ two. absurd (omega (arith, two, e));
      second = λ three. absurd (omega (arith, three, e));
      lanes = λ five. absurd (omega (arith, five, e));
    }) fits
    keeps_by (suc zero) region e hand fits = subst (λ (region : Region). Fits own region bytes → IsOwn own (keeping halves region bytes)) (same_region 1 region (Page 0x00) refl hand) (λ fits. record {
      request = is.request;
      few = more first_key;
      none = λ none. absurd (omega (arith, none));
      lower = λ one. lower_kept own halves.image first_key bytes refl (is.lower (omega (arith, e)));
      first = λ two. own_get first_key (omega (arith, e)) ∙ sym (fits (omega arith));
      second = λ three. absurd (omega (arith, three, e));
      lanes = λ five. absurd (omega (arith, five, e));
    }) fits
    keeps_by (suc (suc zero)) region e hand fits = subst (λ (region : Region). Fits own region bytes → IsOwn own (keeping halves region bytes)) (same_region 2 region (Page 0x01) refl hand) (λ fits. record {
      request = is.request;
      few = more second_key;
      none = λ none. absurd (omega (arith, none));
      lower = λ one. lower_kept own halves.image second_key bytes refl (is.lower (omega (arith, e)));
      first = λ two. puts_other halves.image second_key bytes first_key refl ∙ is.first (omega (arith, e));
      second = λ three. own_get second_key (omega (arith, e)) ∙ sym (fits (omega arith));
      lanes = λ five. absurd (omega (arith, five, e));
    }) fits
    keeps_by (suc (suc (suc zero))) region e hand fits = subst (λ (region : Region). IsOwn own (keeping halves region bytes)) (same_region 3 region (Page 0x02) refl hand) (record {
      request = is.request;
      few = more (upper_key A0 0 0x02);
      none = λ none. absurd (omega (arith, none));
      lower = λ one. lower_kept own halves.image (upper_key A0 0 0x02) bytes refl (is.lower (omega (arith, e)));
      first = λ two. puts_other halves.image (upper_key A0 0 0x02) bytes first_key refl ∙ is.first (omega (arith, e));
      second = λ three. puts_other halves.image (upper_key A0 0 0x02) bytes second_key refl ∙ is.second (omega (arith, e));
      lanes = λ five. absurd (omega (arith, five, e));
    })
    keeps_by (suc (suc (suc (suc zero)))) region e hand fits = subst (λ (region : Region). IsOwn own (keeping halves region bytes)) (same_region 4 region (Page 0x11) refl hand) (record {
      request = is.request;
      few = more lanes_key;
      none = λ none. absurd (omega (arith, none));
      lower = λ one. lower_kept own halves.image lanes_key bytes refl (is.lower (omega (arith, e)));
      first = λ two. puts_other halves.image lanes_key bytes first_key refl ∙ is.first (omega (arith, e));
      second = λ three. puts_other halves.image lanes_key bytes second_key refl ∙ is.second (omega (arith, e));
      lanes = λ five. ap (λ (half : Option (List ℕ)). is_some half) (own_get lanes_key (omega (arith, e)));
    })
    keeps_by (suc (suc (suc (suc (suc n))))) region e hand fits = absurd (let none : None ≡ Some region = hand in cc)

    pub keeps : (region : Region) → slice_get all_regions halves.settled ≡ Some region → Fits own region bytes → IsOwn own (keeping halves region bytes)
    keeps region hand fits = keeps_by halves.settled region refl hand fits

  -- ---- a half that isn't there

  here_not : (key : Key) → finmap.contains_key own key ≡ true → finmap.contains_key own key ≡ false → ⊥
  here_not key there none = let wrong : true ≡ false = sym there ∙ none in cc

  lacks_by : (n page : ℕ) → halves.settled ≡ n → slice_get all_regions n ≡ Some (Page page) → IsPaged own → finmap.contains_key own lanes_key ≡ true → finmap.contains_key own (page_key page) ≡ false
      → IsOwn own (leaving_out (Some (Page page)) halves) × (halves.settled ≡ 3)
  lacks_by zero page e hand paged status none = absurd (let wrong : Lower A0 ≡ Page page = same_region 0 (Page page) (Lower A0) refl hand in cc)
  lacks_by (suc zero) page e hand paged status none =
      let same : Page 0x00 ≡ Page page = same_region 1 (Page page) (Page 0x00) refl hand in
      let number : 0x00 ≡ page = cc in
      absurd (here_not (page_key page) (subst (λ (page : ℕ). finmap.contains_key own (page_key page) ≡ true) number paged.first) none)
  lacks_by (suc (suc zero)) page e hand paged status none =
      let same : Page 0x01 ≡ Page page = same_region 2 (Page page) (Page 0x01) refl hand in
      let number : 0x01 ≡ page = cc in
      absurd (here_not (page_key page) (subst (λ (page : ℕ). finmap.contains_key own (page_key page) ≡ true) number paged.second) none)
  lacks_by (suc (suc (suc zero))) page e hand paged status none = (
    record {
      request = is.request;
      few = omega (arith, is.few);
      none = λ none. absurd (omega (arith, none));
      lower = λ one. is.lower (omega (arith, e));
      first = λ two. is.first (omega (arith, e));
      second = λ three. is.second (omega (arith, e));
      lanes = λ five. absurd (omega (arith, five, e));
    },
    e,
  )
  lacks_by (suc (suc (suc (suc zero)))) page e hand paged status none =
      let same : Page 0x11 ≡ Page page = same_region 4 (Page page) (Page 0x11) refl hand in
      let number : 0x11 ≡ page = cc in
      absurd (here_not (page_key page) (subst (λ (page : ℕ). finmap.contains_key own (page_key page) ≡ true) number status) none)
  lacks_by (suc (suc (suc (suc (suc n))))) page e hand paged status none = absurd (let wrong : None ≡ Some (Page page) = hand in cc)

  pub lacks : (page : ℕ) → slice_get all_regions halves.settled ≡ Some (Page page) → IsPaged own → finmap.contains_key own lanes_key ≡ true → finmap.contains_key own (page_key page) ≡ false
      → IsOwn own (leaving_out (Some (Page page)) halves) × (halves.settled ≡ 3)
  lacks page hand paged status none = lacks_by halves.settled page refl hand paged status none

-- ---- the end

pub all_settled : (n : ℕ) → slice_get all_regions n ≡ None → 5 ≤ n
all_settled zero e = absurd cc
all_settled (suc zero) e = absurd cc
all_settled (suc (suc zero)) e = absurd cc
all_settled (suc (suc (suc zero))) e = absurd cc
all_settled (suc (suc (suc (suc zero)))) e = absurd cc
all_settled (suc (suc (suc (suc (suc n))))) e = omega arith

pub one_settled : (n page : ℕ) → slice_get all_regions n ≡ Some (Page page) → 1 ≤ n
one_settled zero page e = absurd (let same : Some (Lower A0) ≡ Some (Page page) = e in cc)
one_settled (suc n) page e = omega arith
