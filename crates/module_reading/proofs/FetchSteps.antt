-- What the steps of a reading can't be, by their operations, and what they tell of the selection.
use Rattle.std.proofs.Common.{◌≡◌, ℕ, ◌==◌, Bool, true, false, not, [], ◌∷◌, Option, Some, None, refl, sym, ap, subst, ◌∙◌, inl, inr, if◌then◌else◌, eqb-true}
use Rattle.std.proofs.lemmas.Bool.{cases_Bool, true≢false}
use Rattle.bus_model.specs.declared.device.Dev.{Dev}
use Rattle.bus_model.specs.declared.device.Dev.TheVariants.{A0, A2}
use Rattle.bus_model.specs.declared.operation.Op.{Op}
use Rattle.bus_model.specs.declared.operation.Op.TheVariants.{Fetch, Store}
use Rattle.bus_model.specs.declared.operation.Step.{Step}
use Rattle.bus_model.specs.SameOperation.{same_op}
use Rattle.conversations.specs.Pauses.{is_refused}
use Rattle.conversations.specs.Selecting.{IsFetch, since_refusal, trusted}
use Rattle.conversations.proofs.OnPageLaws.{selection_stores}
use Rattle.paged_memory.specs.declared.page_addressing.PageAddressing.{PageAddressing}
use Rattle.paged_memory.specs.declared.page_addressing.PageAddressing.TheVariants.{BankAndPage, PageAlone}
use Rattle.paged_memory.specs.declared.page_addressing.KnownPage.{KnownPage}
use Rattle.paged_memory.specs.declared.page_addressing.KnownPage.TheVariants.{Unknown}
use Rattle.paged_memory.specs.KnownPages.{IsApart, Tells, is_awaited, is_known, selected_after, selecting_first, wanted}
use Rattle.paged_memory.specs.PageAddressing.{History, is_open, is_page_confirmed, read_selection, selection}
use Rattle.paged_memory.proofs.KnownPageLaws.{after_work, one_page, reads_itself, step_of, tells_next, tells_nothing}
use Rattle.module_reading.specs.declared.region.Region.{Region}
use Rattle.module_reading.specs.declared.region.Region.TheVariants.{Lower, FirstPage, Page}
use Rattle.module_reading.specs.Regions.{operation}
use Rattle.module_reading.specs.ReadImages.{IsShown, StoresNothing}

pub leaves_selection : (addressing : PageAddressing) (region : Region) → IsApart addressing (operation region)
leaves_selection BankAndPage (Lower A0) = record { not_selecting = refl; not_reading_back = refl }
leaves_selection BankAndPage (Lower A2) = record { not_selecting = refl; not_reading_back = refl }
leaves_selection BankAndPage FirstPage = record { not_selecting = refl; not_reading_back = refl }
leaves_selection BankAndPage (Page page) = record { not_selecting = refl; not_reading_back = refl }
leaves_selection PageAlone (Lower A0) = record { not_selecting = refl; not_reading_back = refl }
leaves_selection PageAlone (Lower A2) = record { not_selecting = refl; not_reading_back = refl }
leaves_selection PageAlone FirstPage = record { not_selecting = refl; not_reading_back = refl }
leaves_selection PageAlone (Page page) = record { not_selecting = refl; not_reading_back = refl }

pub no_read_back : (addressing : PageAddressing) (region : Region) → operation region ≡ read_selection addressing → ⊥
no_read_back addressing region e =
    true≢false (sym (reads_itself addressing) ∙ ap (same_op (read_selection addressing)) (sym e) ∙ (leaves_selection addressing region).not_reading_back)

pub reads_fetch : (region : Region) → IsFetch (operation region)
reads_fetch (Lower dev) = tt
reads_fetch FirstPage = tt
reads_fetch (Page page) = tt

abbrev device_of : Op → Dev
device_of (Fetch dev offset count) = dev
device_of (Store dev offset bytes) = dev

-- a fetch of the lower half begins where none of an upper one does
abbrev is_lower : Op → Bool
is_lower (Fetch dev offset count) = offset == 0
is_lower (Store dev offset bytes) = false

-- ---- the steps that are trusted

-- what holds of no steps holds of those of them that are trusted
pub trusts_none : (P : History → Type 0) (doubts : Bool) → P [] → P (trusted doubts [])
trusts_none P false none = none
trusts_none P true none = none

-- what holds of no steps, and of those that are trusted with one more, holds of those that are trusted then
pub trusts_next : (P : History → Type 0) (doubts : Bool) (step : Step) (before : History) → P [] → P (step ∷ trusted doubts before) → P (trusted doubts (step ∷ before))
trusts_next P false step before none next = next
trusts_next P true step before none next = by (is_refused step.reply) where
  by : (refused : Bool) → P (if refused then [] else step ∷ since_refusal before)
  by true = none
  by false = next

module _ (doubts : Bool) (addressing : PageAddressing) where
  -- what is known of the selection, by the steps: nothing, as long as nothing is stored
  pub record IsKnown (history : History) : Type 0 where
    pub known : KnownPage
    pub tells : Tells addressing known (trusted doubts history)
    pub quiet : StoresNothing history → known ≡ Unknown

  pub knows_nothing : IsKnown []
  knows_nothing = record { known = Unknown; tells = trusts_none (Tells addressing Unknown) doubts (tells_nothing addressing); quiet = λ stores. refl }

  module _ (history : History) (is : IsKnown history) (step : Step) where
    abbrev KnownBy : History → Type 0
    KnownBy steps = (known : KnownPage) × Tells addressing known steps × (StoresNothing (step ∷ history) → known ≡ Unknown)

    knows_next : (op : Op) (needed : Option ℕ) → IsApart addressing op → step.op ≡ wanted addressing is.known needed op → (StoresNothing (step ∷ history) → selected_after addressing is.known step ≡ Unknown) → IsKnown (step ∷ history)
    knows_next op needed apart wants quiet =
        let (known, tells, still) = trusts_next KnownBy doubts step history (Unknown, tells_nothing addressing, λ stores. refl)
        (selected_after addressing is.known step, tells_next addressing is.known op (trusted doubts history) apart is.tells needed step wants, quiet) in
        record { known = known; tells = tells; quiet = still }

    -- the selection is read back
    pub knows_read_back : is_open addressing (trusted doubts history) ≡ true → step.op ≡ read_selection addressing → IsKnown (step ∷ history)
    knows_read_back awaited reads =
        let waits : is_awaited is.known ≡ true = sym is.tells.awaited ∙ awaited in
        knows_next (operation FirstPage) None (leaves_selection addressing FirstPage) (reads ∙ sym (ap (λ (b : Bool). if b then read_selection addressing else operation FirstPage) waits))
        (λ stores. absurd (true≢false (sym waits ∙ ap is_awaited (is.quiet stores.1))))

    -- a page is selected
    pub knows_selection : (page : ℕ) → is_open addressing (trusted doubts history) ≡ false → is_page_confirmed addressing page (trusted doubts history) ≡ false → step.op ≡ selection addressing page → IsKnown (step ∷ history)
    knows_selection page closed unconfirmed selects =
        let shut : is_awaited is.known ≡ false = sym is.tells.awaited ∙ closed in
        let unknown : is_known is.known page ≡ false = sym (is.tells.known page) ∙ unconfirmed in
        knows_next (operation FirstPage) (Some page) (leaves_selection addressing FirstPage)
        (selects ∙ sym (λ i. if shut i then read_selection addressing else selecting_first addressing (operation FirstPage) (if unknown i then None else Some page)))
        (λ stores. absurd (selection_stores addressing page (subst IsFetch selects stores.0)))

    -- a half is fetched
    pub knows_fetch : (region : Region) → is_open addressing (trusted doubts history) ≡ false → step.op ≡ operation region → IsKnown (step ∷ history)
    knows_fetch region closed own =
        knows_next (operation region) None (leaves_selection addressing region) (own ∙ sym (ap (λ (b : Bool). if b then read_selection addressing else operation region) (sym is.tells.awaited ∙ closed)))
        (λ stores. ap (selected_after addressing is.known) (λ i. step_of (own i) step.reply) ∙ after_work addressing is.known (operation region) step.reply (leaves_selection addressing region) ∙ is.quiet stores.1)

  module _ (history : History) (is : IsKnown history) where
    one_shown : (page other : ℕ) → IsShown doubts addressing (Page page) history → IsShown doubts addressing (Page other) history → page ≡ other
    one_shown page other shown there = elim (cases_Bool (other == page)) [
      | inl same ↦ sym (eqb-true other page same)
      | inr differs ↦ absurd (true≢false (sym there ∙ one_page addressing is.known (trusted doubts history) is.tells page other (ap not differs) shown))
    ]

    none_shown : (page : ℕ) → StoresNothing history → IsShown doubts addressing (Page page) history → ⊥
    none_shown page stores shown = true≢false (sym shown ∙ is.tells.known page ∙ ap (λ (known : KnownPage). is_known known page) (is.quiet stores))

    -- no step can read two halves
    pub same_half : (hand region : Region) → operation hand ≡ operation region → IsShown doubts addressing hand history → IsShown doubts addressing region history → hand ≡ region
    same_half (Lower dev) (Lower other) e shown there = ap (λ (d : Dev). Lower d) (ap device_of e)
    same_half (Lower dev) FirstPage e shown there = absurd (true≢false (ap is_lower e))
    same_half (Lower dev) (Page page) e shown there = absurd (true≢false (ap is_lower e))
    same_half FirstPage (Lower dev) e shown there = absurd (true≢false (sym (ap is_lower e)))
    same_half FirstPage FirstPage e shown there = refl
    same_half FirstPage (Page page) e shown there = absurd (none_shown page shown there)
    same_half (Page page) (Lower dev) e shown there = absurd (true≢false (sym (ap is_lower e)))
    same_half (Page page) FirstPage e shown there = absurd (none_shown page there shown)
    same_half (Page page) (Page other) e shown there = ap (λ (n : ℕ). Page n) (one_shown page other shown there)
