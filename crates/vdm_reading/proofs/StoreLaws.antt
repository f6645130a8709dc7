-- Nothing is stored but page selections and the freeze bit of the control byte.
use Rattle.std.proofs.Common.{◌≡◌, ℕ, Bool, true, false, List, [], ◌∷◌, refl, sym, ap, subst, inl, inr, if◌then◌else◌, nat_lt, slice_index}
use Rattle.arrayvec.specs.ArrayVec.{ArrayVec}
use Rattle.bus_model.specs.declared.operation.Op.{Op}
use Rattle.bus_model.specs.declared.operation.Reply.{Reply}
use Rattle.bus_model.specs.declared.operation.Reply.TheVariants.{Bytes, Done, Refused}
use Rattle.bus_model.specs.declared.operation.Step.{Step}
use Rattle.bus_model.specs.Operations.{Answers}
use Rattle.conversations.specs.declared.next.Next.TheVariants.{Do}
use Rattle.conversations.specs.Events.{Events, steps_of}
use Rattle.observables.specs.Pages.{has_observables}
use Rattle.paged_memory.specs.declared.page_addressing.PageAddressing.TheVariants.{BankAndPage}
use Rattle.paged_memory.specs.declared.page_addressing.KnownPage.TheVariants as selected_page
use Rattle.paged_memory.specs.Images.{Memory}
use Rattle.paged_memory.specs.KnownPages.{is_known, selection_read}
use Rattle.paged_memory.specs.PageAddressing.{EachStep, History, read_selection, selection}
use Rattle.paged_memory.proofs.KnownPageLaws.{step_of}
use Rattle.vdm_reading.specs.declared.end.Statistics.TheVariants as statistics
use Rattle.vdm_reading.specs.declared.reading.VdmReading.{VdmReading}
use Rattle.vdm_reading.specs.declared.reading.VdmRequest.{VdmRequest}
use Rattle.vdm_reading.specs.declared.reading.VdmStage.{VdmStage}
use Rattle.vdm_reading.specs.declared.reading.VdmStage.TheVariants as stage
use Rattle.vdm_reading.specs.BankPages.{groups_page}
use Rattle.vdm_reading.specs.FrozenSteps.{IsReadingStep, IsShown, WasRead, freezing, is_freeze_done, is_unfreeze_done, read_done, read_half, releasing, store_control}
use Rattle.vdm_reading.specs.VdmAccounts.{IsTold}
use Rattle.vdm_reading.specs.VdmStages.{accepted_at, after, after_read_back, after_selection, after_work, asked, confirmed, enter, failed, frozen_by, fruitless, fruitless_by, kept, lost_at, may_be_frozen, next_by, over, page_at, page_now, read_at, refused_at, released_by, wants, work_at}
use Rattle.vdm_reading.proofs.ShownLaws.{Shown, is_shown, keeps_shown}
use Rattle.vdm_reading.proofs.Told.{request_kept}
use Rattle.vdm_reading.proofs.WantedTurns.{by_turn, holds_told}

-- the control byte is that of page 2Fh of the bank as it was read
abbrev IsControl : ℕ → ℕ → History → Type 0
IsControl bank control history = (bytes : List ℕ) × WasRead (groups_page bank) bytes history × (control ≡ slice_index bytes 16)

-- so once that page was read, until the end
abbrev ControlAt : ℕ → VdmStage → ℕ → History → Type 0
ControlAt bank stage.Advertised control history = Unit {0}
ControlAt bank stage.Groups control history = Unit {0}
ControlAt bank stage.Freeze control history = IsControl bank control history
ControlAt bank stage.Freezing control history = IsControl bank control history
ControlAt bank (stage.Page page) control history = IsControl bank control history
ControlAt bank stage.Release control history = IsControl bank control history
ControlAt bank stage.Releasing control history = IsControl bank control history
ControlAt bank stage.Over control history = Unit {0}

abbrev Control : History → VdmReading → Type 0
Control history reading = ControlAt reading.request.bank reading.stage reading.control history

control_more : (bank : ℕ) (now : VdmStage) (control : ℕ) (step : Step) (history : History) → ControlAt bank now control history → ControlAt bank now control (step ∷ history)
control_more bank stage.Advertised control step history was = tt
control_more bank stage.Groups control step history was = tt
control_more bank stage.Freeze control step history was = (was.0, inr was.1, was.2)
control_more bank stage.Freezing control step history was = (was.0, inr was.1, was.2)
control_more bank (stage.Page page) control step history was = (was.0, inr was.1, was.2)
control_more bank stage.Release control step history was = (was.0, inr was.1, was.2)
control_more bank stage.Releasing control step history was = (was.0, inr was.1, was.2)
control_more bank stage.Over control step history was = tt

-- ---- what comes next

module _ (history : History) where
  finish_control : (frozen : Bool) (reading : VdmReading) → IsControl reading.request.bank reading.control history → Control history (if frozen then enter stage.Release reading else over reading)
  finish_control true reading was = was
  finish_control false reading was = tt

  next_control : (todo : List ℕ) (reading : VdmReading) → IsControl reading.request.bank reading.control history → Control history (next_by todo reading)
  next_control [] reading was = finish_control (may_be_frozen reading.release) reading was
  next_control (page ∷ rest) reading was = was

  lost_control : (now : VdmStage) (reading : VdmReading) → ControlAt reading.request.bank now reading.control history → Control history (lost_at now reading)
  lost_control stage.Advertised reading was = tt
  lost_control stage.Groups reading was = tt
  lost_control stage.Freeze reading was = next_control reading.todo.items (record reading { statistics = statistics.Refused }) was
  lost_control stage.Freezing reading was = next_control reading.todo.items (record reading { statistics = statistics.Pending }) was
  lost_control (stage.Page page) reading was = next_control reading.todo.items reading was
  lost_control stage.Release reading was = tt
  lost_control stage.Releasing reading was = tt
  lost_control stage.Over reading was = tt

  fruitless_control : (more : Bool) (reading : VdmReading) → Control history reading → Control history (fruitless_by more reading)
  fruitless_control true reading was = was
  fruitless_control false reading was = lost_control reading.stage (record reading { due = true }) was

  failed_control : (reading : VdmReading) → Control history reading → Control history (failed reading)
  failed_control reading was = fruitless_control (nat_lt 0 reading.left) (record reading { selection = selected_page.Unknown }) was

-- ---- one step more

-- the step is one that a reading may make, and the control byte stays known
abbrev Stores : ℕ → Op → Reply → History → VdmReading → Type 0
Stores bank op reply history new = IsReadingStep bank (step_of op reply) history × Control (step_of op reply ∷ history) new

module _ (history : History) (reading : VdmReading) (was : Control history reading) where
  abbrev page : ℕ
  page = page_now reading

  more : (op : Op) (reply : Reply) → Control (step_of op reply ∷ history) reading
  more op reply = control_more reading.request.bank reading.stage reading.control (step_of op reply) history was

  fails : (op : Op) (reply : Reply) → Control (step_of op reply ∷ history) (failed reading)
  fails op reply = failed_control (step_of op reply ∷ history) reading (more op reply)

  waits : (op : Op) (reply : Reply) → Control (step_of op reply ∷ history) (fruitless reading)
  waits op reply = fruitless_control (step_of op reply ∷ history) (nat_lt 0 reading.left) reading (more op reply)

  confirms : (bytes : ArrayVec ℕ) (shows : Bool) → Stores reading.request.bank (read_selection BankAndPage) (Bytes bytes) history (confirmed shows reading)
  confirms bytes true = (inl tt, more (read_selection BankAndPage) (Bytes bytes))
  confirms bytes false = (inl tt, fails (read_selection BankAndPage) (Bytes bytes))

  backs : (reply : Reply) → Stores reading.request.bank (read_selection BankAndPage) reply history (after_read_back reading reply)
  backs (Bytes bytes) = confirms bytes (is_known (selection_read BankAndPage bytes.items) page)
  backs Done = (inl tt, fails (read_selection BankAndPage) Done)
  backs Refused = (inl tt, fails (read_selection BankAndPage) Refused)

  selects : (reply : Reply) → Stores reading.request.bank (selection BankAndPage page) reply history (after_selection reading reply)
  selects (Bytes bytes) = (inr (inl (page, refl)), fails (selection BankAndPage page) (Bytes bytes))
  selects Done = (inr (inl (page, refl)), more (selection BankAndPage page) Done)
  selects Refused = (inr (inl (page, refl)), fails (selection BankAndPage page) Refused)

  -- a store on page 2Fh
  freezes_by : (reply : Reply) → IsShown (groups_page reading.request.bank) history → IsControl reading.request.bank reading.control history → IsReadingStep reading.request.bank (step_of (store_control (freezing reading.control)) reply) history
  freezes_by reply shown control = inr (inr (control.0, control.1, shown, inl (ap (λ (n : ℕ). store_control (freezing n)) control.2)))

  releases_by : (reply : Reply) → IsShown (groups_page reading.request.bank) history → IsControl reading.request.bank reading.control history → IsReadingStep reading.request.bank (step_of (store_control (releasing reading.control)) reply) history
  releases_by reply shown control = inr (inr (control.0, control.1, shown, inr (ap (λ (n : ℕ). store_control (releasing n)) control.2)))

  module _ (shown : IsShown page history) where
    shown_at : (now : VdmStage) → reading.stage ≡ now → IsShown (page_at reading.request.bank now) history
    shown_at now is = subst (λ (now : VdmStage). IsShown (page_at reading.request.bank now) history) is shown

    was_at : (now : VdmStage) → reading.stage ≡ now → ControlAt reading.request.bank now reading.control history
    was_at now is = subst (λ (now : VdmStage). ControlAt reading.request.bank now reading.control history) is was

    module _ (bytes : ArrayVec ℕ) where
      advertises : (has : Bool) (image : Memory) → let new = record reading { image = image } in
          Stores reading.request.bank read_half (Bytes bytes) history (if has then enter stage.Groups new else enter stage.Over (record new { statistics = statistics.Unsupported }))
      advertises true image = (inl tt, tt)
      advertises false image = (inl tt, tt)

      freezes : (done : Bool) → reading.stage ≡ stage.Freezing → Stores reading.request.bank read_done (Bytes bytes) history (frozen_by done reading)
      freezes true is = (
        inl tt,
        next_control (step_of read_done (Bytes bytes) ∷ history) reading.todo.items (record reading { statistics = statistics.Frozen })
            (control_more reading.request.bank stage.Freezing reading.control (step_of read_done (Bytes bytes)) history (was_at stage.Freezing is)),
      )
      freezes false is = (inl tt, waits read_done (Bytes bytes))

      releases : (done : Bool) → Stores reading.request.bank read_done (Bytes bytes) history (released_by done reading)
      releases true = (inl tt, tt)
      releases false = (inl tt, waits read_done (Bytes bytes))

      reads : (now : VdmStage) (work : Op) → reading.stage ≡ now → work_at reading now ≡ Do work → Answers work (Bytes bytes) → Stores reading.request.bank work (Bytes bytes) history (read_at now bytes.items reading)
      reads stage.Advertised work is does answers =
          let own : read_half ≡ work = cc in
          subst (λ op. Stores reading.request.bank op (Bytes bytes) history (read_at stage.Advertised bytes.items reading)) own
          (advertises (has_observables (kept 0x01 bytes.items reading).image) (kept 0x01 bytes.items reading).image)
      reads stage.Groups work is does answers =
          let own : read_half ≡ work = cc in
          subst (λ op. Stores reading.request.bank op (Bytes bytes) history (read_at stage.Groups bytes.items reading)) own
          (inl tt, (bytes.items, inl (refl, refl, shown_at stage.Groups is), refl))
      reads stage.Freeze work is does answers =
          let own : store_control (freezing reading.control) ≡ work = cc in
          absurd (subst (λ op. Answers op (Bytes bytes)) (sym own) answers)
      reads stage.Freezing work is does answers =
          let own : read_done ≡ work = cc in
          subst (λ op. Stores reading.request.bank op (Bytes bytes) history (read_at stage.Freezing bytes.items reading)) own (freezes (is_freeze_done bytes.items) is)
      reads (stage.Page number) work is does answers =
          let own : read_half ≡ work = cc in
          subst (λ op. Stores reading.request.bank op (Bytes bytes) history (read_at (stage.Page number) bytes.items reading)) own (
            inl tt,
            next_control (step_of read_half (Bytes bytes) ∷ history) reading.todo.items (kept number bytes.items reading)
                (control_more reading.request.bank (stage.Page number) reading.control (step_of read_half (Bytes bytes)) history (was_at (stage.Page number) is)),
          )
      reads stage.Release work is does answers =
          let own : store_control (releasing reading.control) ≡ work = cc in
          absurd (subst (λ op. Answers op (Bytes bytes)) (sym own) answers)
      reads stage.Releasing work is does answers =
          let own : read_done ≡ work = cc in
          subst (λ op. Stores reading.request.bank op (Bytes bytes) history (read_at stage.Releasing bytes.items reading)) own (releases (is_unfreeze_done bytes.items))
      reads stage.Over work is does answers = absurd cc

    accepts : (now : VdmStage) (work : Op) → reading.stage ≡ now → work_at reading now ≡ Do work → Answers work Done → Stores reading.request.bank work Done history (accepted_at now reading)
    accepts stage.Advertised work is does answers = let own : read_half ≡ work = cc in absurd (subst (λ op. Answers op Done) (sym own) answers)
    accepts stage.Groups work is does answers = let own : read_half ≡ work = cc in absurd (subst (λ op. Answers op Done) (sym own) answers)
    accepts stage.Freeze work is does answers =
        let own : store_control (freezing reading.control) ≡ work = cc in
        let control = was_at stage.Freeze is in
        subst (λ op. Stores reading.request.bank op Done history (accepted_at stage.Freeze reading)) own
        (freezes_by Done (shown_at stage.Freeze is) control, (control.0, inr control.1, control.2))
    accepts stage.Freezing work is does answers = let own : read_done ≡ work = cc in absurd (subst (λ op. Answers op Done) (sym own) answers)
    accepts (stage.Page number) work is does answers = let own : read_half ≡ work = cc in absurd (subst (λ op. Answers op Done) (sym own) answers)
    accepts stage.Release work is does answers =
        let own : store_control (releasing reading.control) ≡ work = cc in
        let control = was_at stage.Release is in
        subst (λ op. Stores reading.request.bank op Done history (accepted_at stage.Release reading)) own
        (releases_by Done (shown_at stage.Release is) control, (control.0, inr control.1, control.2))
    accepts stage.Releasing work is does answers = let own : read_done ≡ work = cc in absurd (subst (λ op. Answers op Done) (sym own) answers)
    accepts stage.Over work is does answers = absurd cc

    refuses : (now : VdmStage) (work : Op) → reading.stage ≡ now → work_at reading now ≡ Do work → Stores reading.request.bank work Refused history (refused_at now reading)
    refuses stage.Advertised work is does = let own : read_half ≡ work = cc in subst (λ op. Stores reading.request.bank op Refused history (failed reading)) own (inl tt, fails read_half Refused)
    refuses stage.Groups work is does = let own : read_half ≡ work = cc in subst (λ op. Stores reading.request.bank op Refused history (failed reading)) own (inl tt, fails read_half Refused)
    refuses stage.Freeze work is does =
        let own : store_control (freezing reading.control) ≡ work = cc in
        let op = store_control (freezing reading.control) in
        subst (λ op. Stores reading.request.bank op Refused history (failed (asked reading))) own
        (freezes_by Refused (shown_at stage.Freeze is) (was_at stage.Freeze is), failed_control (step_of op Refused ∷ history) (asked reading) (more op Refused))
    refuses stage.Freezing work is does = let own : read_done ≡ work = cc in subst (λ op. Stores reading.request.bank op Refused history (failed reading)) own (inl tt, fails read_done Refused)
    refuses (stage.Page number) work is does = let own : read_half ≡ work = cc in subst (λ op. Stores reading.request.bank op Refused history (failed reading)) own (inl tt, fails read_half Refused)
    refuses stage.Release work is does =
        let own : store_control (releasing reading.control) ≡ work = cc in
        subst (λ op. Stores reading.request.bank op Refused history (failed reading)) own
        (releases_by Refused (shown_at stage.Release is) (was_at stage.Release is), fails (store_control (releasing reading.control)) Refused)
    refuses stage.Releasing work is does = let own : read_done ≡ work = cc in subst (λ op. Stores reading.request.bank op Refused history (failed reading)) own (inl tt, fails read_done Refused)
    refuses stage.Over work is does = absurd cc

    works : (reply : Reply) (work : Op) → work_at reading reading.stage ≡ Do work → Answers work reply → Stores reading.request.bank work reply history (after_work reading reply)
    works (Bytes bytes) work does answers = reads bytes reading.stage work refl does answers
    works Done work does answers = accepts reading.stage work refl does answers
    works Refused work does answers = refuses reading.stage work refl does

record Known (history : History) (reading : VdmReading) : Type 0 where
  pub shown : Shown history reading
  pub control : Control history reading
  pub each : EachStep (IsReadingStep reading.request.bank) history

keeps : (history : History) (reading : VdmReading) (op : Op) (reply : Reply) → wants reading ≡ Do op → Answers op reply → Known history reading → Known (step_of op reply ∷ history) (after reading reply)
keeps history reading op reply asks answers known =
    let stores = by_turn reading reply (λ op new. Answers op reply → Stores reading.request.bank op reply history new)
    (λ work does awaits answers. backs history reading known.control reply)
    (λ work does closed elsewhere answers. selects history reading known.control reply)
    (λ work does on answers. works history reading known.control (is_shown history reading known.shown on) reply work does answers)
    op asks answers in
    record { shown = keeps_shown history reading op reply asks known.shown; control = stores.1; each = subst (λ (request : VdmRequest). EachStep (IsReadingStep request.bank) (step_of op reply ∷ history)) (sym (request_kept reading reply)) (stores.0, known.each) }

pub only : (events : Events) (reading : VdmReading) → IsTold events reading → EachStep (IsReadingStep reading.request.bank) (steps_of events)
only events reading told =
    (holds_told Known (λ request. record { shown = tt; control = tt; each = tt }) keeps
    (λ history reading known. record { shown = known.shown; control = known.control; each = known.each }) events reading told).each
