-- What a reading knows of the selection is what the steps say since the newest refusal.
use Rattle.std.proofs.Common.{◌≡◌, ℕ, ◌||◌, Bool, true, false, ◌∷◌, refl, sym, ap, subst, ◌∙◌, if◌then◌else◌, nat_lt}
use Rattle.arrayvec.specs.ArrayVec.{ArrayVec}
use Rattle.bus_model.specs.declared.operation.Op.{Op}
use Rattle.bus_model.specs.declared.operation.Reply.{Reply}
use Rattle.bus_model.specs.declared.operation.Reply.TheVariants.{Bytes, Done, Refused}
use Rattle.conversations.specs.declared.next.Next.TheVariants.{Do}
use Rattle.conversations.specs.Selecting.{since_refusal}
use Rattle.observables.specs.Pages.{has_observables}
use Rattle.paged_memory.specs.declared.page_addressing.PageAddressing.TheVariants.{BankAndPage}
use Rattle.paged_memory.specs.declared.page_addressing.KnownPage.{KnownPage}
use Rattle.paged_memory.specs.declared.page_addressing.KnownPage.TheVariants.{Unknown, Open, Page}
use Rattle.paged_memory.specs.Images.{Memory}
use Rattle.paged_memory.specs.KnownPages.{is_known, selection_read}
use Rattle.paged_memory.specs.PageAddressing.{History, is_page_confirmed, read_selection, selection}
use Rattle.paged_memory.proofs.KnownPageLaws.{read_tells, step_of}
use Rattle.vdm_reading.specs.declared.end.Statistics.TheVariants as statistics
use Rattle.vdm_reading.specs.declared.reading.VdmReading.{VdmReading}
use Rattle.vdm_reading.specs.declared.reading.VdmStage.{VdmStage}
use Rattle.vdm_reading.specs.declared.reading.VdmStage.TheVariants as stage
use Rattle.vdm_reading.specs.FrozenSteps.{IsShown, IsTaken, freezing, is_freeze_done, is_unfreeze_done, read_done, read_half, releasing, store_control}
use Rattle.vdm_reading.specs.VdmStages.{accepted_at, after, after_read_back, after_selection, after_work, asked, confirmed, enter, failed, frozen_by, fruitless, kept, next_by, page_now, read_at, refused_at, released_by, wants, work_at}
use Rattle.vdm_reading.proofs.Told.{failed_same, fruitless_same, next_same}
use Rattle.vdm_reading.proofs.WantedTurns.{by_turn}

abbrev pub Selected : KnownPage → ℕ → History → Type 0
Selected Unknown page history = Unit {0}
Selected Open page history = IsTaken page history
Selected (Page known) page history = IsShown known history

abbrev pub Shown : History → VdmReading → Type 0
Shown history reading = Selected reading.selection (page_now reading) history

module _ (history : History) (reading : VdmReading) (shown : Shown history reading) where
  abbrev page : ℕ
  page = page_now reading

  -- the page of the stage is shown
  pub is_shown : reading.selection ≡ Page page → IsShown page history
  is_shown on = subst (λ (selected : KnownPage). Selected selected page history) on shown

  -- the page of the stage was taken
  pub is_taken : reading.selection ≡ Open → IsTaken page history
  is_taken awaits = subst (λ (selected : KnownPage). Selected selected page history) awaits shown

  -- nothing is known after a failure
  unknown : (old : VdmReading) (op : Op) (reply : Reply) → Shown (step_of op reply ∷ history) (failed old)
  unknown old op reply = subst (λ (selected : KnownPage). Selected selected (page_now (failed old)) (step_of op reply ∷ history)) (sym (failed_same old).selection) tt

  confirms : (bytes : ArrayVec ℕ) (shows : Bool) → is_known (selection_read BankAndPage bytes.items) page ≡ shows → Shown (step_of (read_selection BankAndPage) (Bytes bytes) ∷ history) (confirmed shows reading)
  confirms bytes true is = ap (λ (b : Bool). b || is_page_confirmed BankAndPage page (since_refusal history)) (read_tells BankAndPage bytes.items page ∙ is)
  confirms bytes false is = unknown reading (read_selection BankAndPage) (Bytes bytes)

  backs : (reply : Reply) → Shown (step_of (read_selection BankAndPage) reply ∷ history) (after_read_back reading reply)
  backs (Bytes bytes) = confirms bytes (is_known (selection_read BankAndPage bytes.items) page) refl
  backs Done = unknown reading (read_selection BankAndPage) Done
  backs Refused = unknown reading (read_selection BankAndPage) Refused

  selects : (reply : Reply) → Shown (step_of (selection BankAndPage page) reply ∷ history) (after_selection reading reply)
  selects (Bytes bytes) = unknown reading (selection BankAndPage page) (Bytes bytes)
  selects Done = (refl, refl)
  selects Refused = unknown reading (selection BankAndPage page) Refused

  module _ (on : reading.selection ≡ Page page) where
    -- the selection is left alone
    stays : (op : Op) (reply : Reply) (new : VdmReading) → new.selection ≡ reading.selection → IsShown page (step_of op reply ∷ history) → Shown (step_of op reply ∷ history) new
    stays op reply new same still =
        subst (λ (selected : KnownPage). Selected selected (page_now new) (step_of op reply ∷ history)) (sym (same ∙ on)) still

    module _ (bytes : ArrayVec ℕ) where
      advertises : (has : Bool) (image : Memory) → let new = record reading { image = image } in
          Shown (step_of read_half (Bytes bytes) ∷ history) (if has then enter stage.Groups new else enter stage.Over (record new { statistics = statistics.Unsupported }))
      advertises true image = stays read_half (Bytes bytes) (enter stage.Groups (record reading { image = image })) refl (is_shown on)
      advertises false image = stays read_half (Bytes bytes) (enter stage.Over (record reading { image = image; statistics = statistics.Unsupported })) refl (is_shown on)

      freezes : (done : Bool) → Shown (step_of read_done (Bytes bytes) ∷ history) (frozen_by done reading)
      freezes true =
          let new = record reading { statistics = statistics.Frozen } in
          stays read_done (Bytes bytes) (next_by reading.todo.items new) (next_same reading.todo.items new).selection (is_shown on)
      freezes false = stays read_done (Bytes bytes) (fruitless reading) (fruitless_same (nat_lt 0 reading.left) reading).selection (is_shown on)

      releases : (done : Bool) → Shown (step_of read_done (Bytes bytes) ∷ history) (released_by done reading)
      releases true = stays read_done (Bytes bytes) (released_by true reading) refl (is_shown on)
      releases false = stays read_done (Bytes bytes) (fruitless reading) (fruitless_same (nat_lt 0 reading.left) reading).selection (is_shown on)

      reads : (now : VdmStage) (work : Op) → work_at reading now ≡ Do work → Shown (step_of work (Bytes bytes) ∷ history) (read_at now bytes.items reading)
      reads stage.Advertised work does =
          let own : read_half ≡ work = cc in
          subst (λ op. Shown (step_of op (Bytes bytes) ∷ history) (read_at stage.Advertised bytes.items reading)) own
          (advertises (has_observables (kept 0x01 bytes.items reading).image) (kept 0x01 bytes.items reading).image)
      reads stage.Groups work does =
          let own : read_half ≡ work = cc in
          subst (λ op. Shown (step_of op (Bytes bytes) ∷ history) (read_at stage.Groups bytes.items reading)) own
          (stays read_half (Bytes bytes) (read_at stage.Groups bytes.items reading) refl (is_shown on))
      reads stage.Freeze work does = unknown reading work (Bytes bytes)
      reads stage.Freezing work does =
          let own : read_done ≡ work = cc in
          subst (λ op. Shown (step_of op (Bytes bytes) ∷ history) (read_at stage.Freezing bytes.items reading)) own (freezes (is_freeze_done bytes.items))
      reads (stage.Page number) work does =
          let own : read_half ≡ work = cc in
          let new = kept number bytes.items reading in
          subst (λ op. Shown (step_of op (Bytes bytes) ∷ history) (read_at (stage.Page number) bytes.items reading)) own
          (stays read_half (Bytes bytes) (next_by reading.todo.items new) (next_same reading.todo.items new).selection (is_shown on))
      reads stage.Release work does = unknown reading work (Bytes bytes)
      reads stage.Releasing work does =
          let own : read_done ≡ work = cc in
          subst (λ op. Shown (step_of op (Bytes bytes) ∷ history) (read_at stage.Releasing bytes.items reading)) own (releases (is_unfreeze_done bytes.items))
      reads stage.Over work does = absurd cc

    accepts : (now : VdmStage) (work : Op) → work_at reading now ≡ Do work → Shown (step_of work Done ∷ history) (accepted_at now reading)
    accepts stage.Advertised work does = unknown reading work Done
    accepts stage.Groups work does = unknown reading work Done
    accepts stage.Freeze work does =
        let own : store_control (freezing reading.control) ≡ work = cc in
        subst (λ op. Shown (step_of op Done ∷ history) (accepted_at stage.Freeze reading)) own
        (stays (store_control (freezing reading.control)) Done (accepted_at stage.Freeze reading) refl (is_shown on))
    accepts stage.Freezing work does = unknown reading work Done
    accepts (stage.Page number) work does = unknown reading work Done
    accepts stage.Release work does =
        let own : store_control (releasing reading.control) ≡ work = cc in
        subst (λ op. Shown (step_of op Done ∷ history) (accepted_at stage.Release reading)) own
        (stays (store_control (releasing reading.control)) Done (accepted_at stage.Release reading) refl (is_shown on))
    accepts stage.Releasing work does = unknown reading work Done
    accepts stage.Over work does = absurd cc

    refuses : (now : VdmStage) (work : Op) → work_at reading now ≡ Do work → Shown (step_of work Refused ∷ history) (refused_at now reading)
    refuses stage.Advertised work does = unknown reading work Refused
    refuses stage.Groups work does = unknown reading work Refused
    refuses stage.Freeze work does = unknown (asked reading) work Refused
    refuses stage.Freezing work does = unknown reading work Refused
    refuses (stage.Page number) work does = unknown reading work Refused
    refuses stage.Release work does = unknown reading work Refused
    refuses stage.Releasing work does = unknown reading work Refused
    refuses stage.Over work does = absurd cc

    works : (reply : Reply) (work : Op) → work_at reading reading.stage ≡ Do work → Shown (step_of work reply ∷ history) (after_work reading reply)
    works (Bytes bytes) work does = reads bytes reading.stage work does
    works Done work does = accepts reading.stage work does
    works Refused work does = refuses reading.stage work does

pub keeps_shown : (history : History) (reading : VdmReading) (op : Op) (reply : Reply) → wants reading ≡ Do op → Shown history reading → Shown (step_of op reply ∷ history) (after reading reply)
keeps_shown history reading op reply asks shown =
    by_turn reading reply (λ op new. Shown (step_of op reply ∷ history) new)
    (λ work does awaits. backs history reading shown reply)
    (λ work does closed elsewhere. selects history reading shown reply)
    (λ work does on. works history reading shown on reply work does)
    op asks
