-- Whether statistics may be frozen is what the steps say.
use Rattle.std.proofs.Common.{◌≡◌, ℕ, ◌+◌, ◌%◌, ◌<◌, ◌||◌, Bool, true, false, not, List, [], ◌∷◌, refl, sym, ap, subst, ◌∙◌, if◌then◌else◌, nat_lt, arith}
use Rattle.std.proofs.lemmas.Bool.Decides.{nat_tests}
use Rattle.arrayvec.specs.ArrayVec.{ArrayVec}
use Rattle.bus_model.specs.declared.operation.Op.{Op}
use Rattle.bus_model.specs.declared.operation.Reply.{Reply}
use Rattle.bus_model.specs.declared.operation.Reply.TheVariants.{Bytes, Done, Refused}
use Rattle.bus_model.specs.Operations.{Answers}
use Rattle.conversations.specs.declared.next.Next.TheVariants.{Do}
use Rattle.conversations.specs.Events.{Events, steps_of}
use Rattle.observables.specs.Pages.{has_observables}
use Rattle.paged_memory.specs.declared.page_addressing.PageAddressing.TheVariants.{BankAndPage}
use Rattle.paged_memory.specs.declared.page_addressing.KnownPage.TheVariants as selected_page
use Rattle.paged_memory.specs.Images.{Memory}
use Rattle.paged_memory.specs.KnownPages.{is_known, selection_read}
use Rattle.paged_memory.specs.PageAddressing.{History, read_selection, selection}
use Rattle.paged_memory.proofs.KnownPageLaws.{step_of}
use Rattle.vdm_reading.specs.declared.end.Release.{Release}
use Rattle.vdm_reading.specs.declared.end.Release.TheVariants as release
use Rattle.vdm_reading.specs.declared.end.Statistics.TheVariants as statistics
use Rattle.vdm_reading.specs.declared.reading.VdmReading.{VdmReading}
use Rattle.vdm_reading.specs.declared.reading.VdmStage.{VdmStage}
use Rattle.vdm_reading.specs.declared.reading.VdmStage.TheVariants as stage
use Rattle.vdm_reading.specs.FrozenSteps as steps
use Rattle.vdm_reading.specs.FrozenSteps.{freezing, is_freeze_done, is_unfreeze_done, read_done, read_half, releasing, store_control}
use Rattle.vdm_reading.specs.VdmAccounts.{IsTold}
use Rattle.vdm_reading.specs.VdmStages.{accepted_at, after, after_read_back, after_selection, after_work, asked, confirmed, enter, failed, frozen_by, fruitless, fruitless_by, kept, lost_at, may_be_frozen, next_by, page_now, read_at, refused_at, released_by, wants, work_at}
use Rattle.vdm_reading.proofs.Told.{failed_same, fruitless_same, next_same}
use Rattle.vdm_reading.proofs.WantedTurns.{by_turn, holds_told}

-- it knows what may be frozen; and while it waits for the end of a freeze, the release was accepted
abbrev IsReleasing : VdmStage → Release → Type 0
IsReleasing stage.Advertised r = Unit {0}
IsReleasing stage.Groups r = Unit {0}
IsReleasing stage.Freeze r = Unit {0}
IsReleasing stage.Freezing r = Unit {0}
IsReleasing (stage.Page page) r = Unit {0}
IsReleasing stage.Release r = Unit {0}
IsReleasing stage.Releasing r = may_be_frozen r ≡ false
IsReleasing stage.Over r = Unit {0}

record Knows (history : History) (reading : VdmReading) : Type 0 where
  pub same : may_be_frozen reading.release ≡ steps.may_be_frozen history
  pub releasing : IsReleasing reading.stage reading.release

pub asks_by : (byte : ℕ) → steps.asks_freeze (store_control (freezing byte)) ≡ true
asks_by byte = ap not (by (byte % 128)) where
  by : (n : ℕ) → nat_lt (128 + n) 128 ≡ false
  by n = grind (arith, nat_tests)

releases_by : (byte : ℕ) → steps.asks_freeze (store_control (releasing byte)) ≡ false
releases_by byte = ap not (by (byte % 128) (omega arith)) where
  by : (n : ℕ) → n < 128 → nat_lt n 128 ≡ true
  by n few = grind (arith, nat_tests)

-- ---- what comes next is no wait for the end of a freeze

next_quiet : (todo : List ℕ) (reading : VdmReading) → let new = next_by todo reading in IsReleasing new.stage new.release
next_quiet [] reading = by (may_be_frozen reading.release) where
  by : (frozen : Bool) → let new = if frozen then enter stage.Release reading else enter stage.Over reading in IsReleasing new.stage new.release
  by true = tt
  by false = tt
next_quiet (page ∷ rest) reading = tt

lost_quiet : (now : VdmStage) (reading : VdmReading) → let new = lost_at now reading in IsReleasing new.stage new.release
lost_quiet stage.Advertised reading = tt
lost_quiet stage.Groups reading = tt
lost_quiet stage.Freeze reading = next_quiet reading.todo.items (record reading { statistics = statistics.Refused })
lost_quiet stage.Freezing reading = next_quiet reading.todo.items (record reading { statistics = statistics.Pending })
lost_quiet (stage.Page page) reading = next_quiet reading.todo.items reading
lost_quiet stage.Release reading = tt
lost_quiet stage.Releasing reading = tt
lost_quiet stage.Over reading = tt

fruitless_quiet : (more : Bool) (reading : VdmReading) → IsReleasing reading.stage reading.release → let new = fruitless_by more reading in IsReleasing new.stage new.release
fruitless_quiet true reading quiet = quiet
fruitless_quiet false reading quiet = lost_quiet reading.stage (record reading { due = true })

failed_quiet : (reading : VdmReading) → IsReleasing reading.stage reading.release → IsReleasing (failed reading).stage (failed reading).release
failed_quiet reading quiet = fruitless_quiet (nat_lt 0 reading.left) (record reading { selection = selected_page.Unknown }) quiet

-- ---- one step more

module _ (history : History) (reading : VdmReading) (knows : Knows history reading) where
  abbrev known : Bool
  known = steps.may_be_frozen history

  -- no control was stored
  moved : (op : Op) (reply : Reply) (new : VdmReading) → steps.may_be_frozen_by op reply known ≡ known → new.release ≡ reading.release → IsReleasing new.stage new.release → Knows (step_of op reply ∷ history) new
  moved op reply new elsewhere same quiet = record { same = ap may_be_frozen same ∙ knows.same ∙ sym elsewhere; releasing = quiet }

  fails : (op : Op) (reply : Reply) → steps.may_be_frozen_by op reply known ≡ known → Knows (step_of op reply ∷ history) (failed reading)
  fails op reply elsewhere = moved op reply (failed reading) elsewhere (failed_same reading).release (failed_quiet reading knows.releasing)

  waits : (op : Op) (reply : Reply) → steps.may_be_frozen_by op reply known ≡ known → Knows (step_of op reply ∷ history) (fruitless reading)
  waits op reply elsewhere =
      moved op reply (fruitless reading) elsewhere (fruitless_same (nat_lt 0 reading.left) reading).release (fruitless_quiet (nat_lt 0 reading.left) reading knows.releasing)

  confirms : (bytes : ArrayVec ℕ) (shows : Bool) → Knows (step_of (read_selection BankAndPage) (Bytes bytes) ∷ history) (confirmed shows reading)
  confirms bytes true = record { same = knows.same; releasing = knows.releasing }
  confirms bytes false = fails (read_selection BankAndPage) (Bytes bytes) refl

  backs : (reply : Reply) → Knows (step_of (read_selection BankAndPage) reply ∷ history) (after_read_back reading reply)
  backs (Bytes bytes) = confirms bytes (is_known (selection_read BankAndPage bytes.items) (page_now reading))
  backs Done = fails (read_selection BankAndPage) Done refl
  backs Refused = fails (read_selection BankAndPage) Refused refl

  selects : (reply : Reply) → let op = selection BankAndPage (page_now reading) in Knows (step_of op reply ∷ history) (after_selection reading reply)
  selects (Bytes bytes) = fails (selection BankAndPage (page_now reading)) (Bytes bytes) refl
  selects Done = record { same = knows.same; releasing = knows.releasing }
  selects Refused = fails (selection BankAndPage (page_now reading)) Refused refl

  module _ (bytes : ArrayVec ℕ) where
    advertises : (has : Bool) (image : Memory) → let new = record reading { image = image } in
        Knows (step_of read_half (Bytes bytes) ∷ history) (if has then enter stage.Groups new else enter stage.Over (record new { statistics = statistics.Unsupported }))
    advertises true image = record { same = knows.same; releasing = tt }
    advertises false image = record { same = knows.same; releasing = tt }

    freezes : (done : Bool) → Knows (step_of read_done (Bytes bytes) ∷ history) (frozen_by done reading)
    freezes true =
        let new = record reading { statistics = statistics.Frozen } in
        moved read_done (Bytes bytes) (next_by reading.todo.items new) refl (next_same reading.todo.items new).release (next_quiet reading.todo.items new)
    freezes false = waits read_done (Bytes bytes) refl

    releases : reading.stage ≡ stage.Releasing → (done : Bool) → Knows (step_of read_done (Bytes bytes) ∷ history) (released_by done reading)
    releases is true = record {
      same = sym (subst (λ (now : VdmStage). IsReleasing now reading.release) is knows.releasing) ∙ knows.same;
      releasing = tt;
    }
    releases is false = waits read_done (Bytes bytes) refl

    reads : (now : VdmStage) (work : Op) → reading.stage ≡ now → work_at reading now ≡ Do work → Answers work (Bytes bytes) → Knows (step_of work (Bytes bytes) ∷ history) (read_at now bytes.items reading)
    reads stage.Advertised work is does answers =
        let own : read_half ≡ work = cc in
        subst (λ op. Knows (step_of op (Bytes bytes) ∷ history) (read_at stage.Advertised bytes.items reading)) own
        (advertises (has_observables (kept 0x01 bytes.items reading).image) (kept 0x01 bytes.items reading).image)
    reads stage.Groups work is does answers =
        let own : read_half ≡ work = cc in
        subst (λ op. Knows (step_of op (Bytes bytes) ∷ history) (read_at stage.Groups bytes.items reading)) own (record { same = knows.same; releasing = tt })
    reads stage.Freeze work is does answers =
        let own : store_control (freezing reading.control) ≡ work = cc in
        absurd (subst (λ op. Answers op (Bytes bytes)) (sym own) answers)
    reads stage.Freezing work is does answers =
        let own : read_done ≡ work = cc in
        subst (λ op. Knows (step_of op (Bytes bytes) ∷ history) (read_at stage.Freezing bytes.items reading)) own (freezes (is_freeze_done bytes.items))
    reads (stage.Page page) work is does answers =
        let own : read_half ≡ work = cc in
        let new = kept page bytes.items reading in
        subst (λ op. Knows (step_of op (Bytes bytes) ∷ history) (read_at (stage.Page page) bytes.items reading)) own
        (moved read_half (Bytes bytes) (next_by reading.todo.items new) refl (next_same reading.todo.items new).release (next_quiet reading.todo.items new))
    reads stage.Release work is does answers =
        let own : store_control (releasing reading.control) ≡ work = cc in
        absurd (subst (λ op. Answers op (Bytes bytes)) (sym own) answers)
    reads stage.Releasing work is does answers =
        let own : read_done ≡ work = cc in
        subst (λ op. Knows (step_of op (Bytes bytes) ∷ history) (read_at stage.Releasing bytes.items reading)) own (releases is (is_unfreeze_done bytes.items))
    reads stage.Over work is does answers = absurd cc

  accepts : (now : VdmStage) (work : Op) → reading.stage ≡ now → work_at reading now ≡ Do work → Answers work Done → Knows (step_of work Done ∷ history) (accepted_at now reading)
  accepts stage.Advertised work is does answers = let own : read_half ≡ work = cc in absurd (subst (λ op. Answers op Done) (sym own) answers)
  accepts stage.Groups work is does answers = let own : read_half ≡ work = cc in absurd (subst (λ op. Answers op Done) (sym own) answers)
  accepts stage.Freeze work is does answers =
      let own : store_control (freezing reading.control) ≡ work = cc in
      subst (λ op. Knows (step_of op Done ∷ history) (accepted_at stage.Freeze reading)) own
      (record { same = sym (ap (λ (b : Bool). b || false) (asks_by reading.control)); releasing = tt })
  accepts stage.Freezing work is does answers = let own : read_done ≡ work = cc in absurd (subst (λ op. Answers op Done) (sym own) answers)
  accepts (stage.Page page) work is does answers = let own : read_half ≡ work = cc in absurd (subst (λ op. Answers op Done) (sym own) answers)
  accepts stage.Release work is does answers =
      let own : store_control (releasing reading.control) ≡ work = cc in
      subst (λ op. Knows (step_of op Done ∷ history) (accepted_at stage.Release reading)) own
      (record { same = sym (ap (λ (b : Bool). b || false) (releases_by reading.control)); releasing = refl })
  accepts stage.Releasing work is does answers = let own : read_done ≡ work = cc in absurd (subst (λ op. Answers op Done) (sym own) answers)
  accepts stage.Over work is does answers = absurd cc

  refuses : (now : VdmStage) (work : Op) → reading.stage ≡ now → work_at reading now ≡ Do work → Knows (step_of work Refused ∷ history) (refused_at now reading)
  refuses stage.Advertised work is does = let own : read_half ≡ work = cc in subst (λ op. Knows (step_of op Refused ∷ history) (failed reading)) own (fails read_half Refused refl)
  refuses stage.Groups work is does = let own : read_half ≡ work = cc in subst (λ op. Knows (step_of op Refused ∷ history) (failed reading)) own (fails read_half Refused refl)
  refuses stage.Freeze work is does =
      let own : store_control (freezing reading.control) ≡ work = cc in
      subst (λ op. Knows (step_of op Refused ∷ history) (failed (asked reading))) own
      (record {
        same = ap may_be_frozen (failed_same (asked reading)).release ∙ sym (ap (λ (b : Bool). b || known) (asks_by reading.control));
        releasing = failed_quiet (asked reading) (subst (λ (now : VdmStage). IsReleasing now release.MayBeFrozen) (sym is) tt);
      })
  refuses stage.Freezing work is does = let own : read_done ≡ work = cc in subst (λ op. Knows (step_of op Refused ∷ history) (failed reading)) own (fails read_done Refused refl)
  refuses (stage.Page page) work is does = let own : read_half ≡ work = cc in subst (λ op. Knows (step_of op Refused ∷ history) (failed reading)) own (fails read_half Refused refl)
  refuses stage.Release work is does =
      let own : store_control (releasing reading.control) ≡ work = cc in
      subst (λ op. Knows (step_of op Refused ∷ history) (failed reading)) own
      (fails (store_control (releasing reading.control)) Refused (ap (λ (b : Bool). b || known) (releases_by reading.control)))
  refuses stage.Releasing work is does = let own : read_done ≡ work = cc in subst (λ op. Knows (step_of op Refused ∷ history) (failed reading)) own (fails read_done Refused refl)
  refuses stage.Over work is does = absurd cc

  works : (reply : Reply) (work : Op) → work_at reading reading.stage ≡ Do work → Answers work reply → Knows (step_of work reply ∷ history) (after_work reading reply)
  works (Bytes bytes) work does answers = reads bytes reading.stage work refl does answers
  works Done work does answers = accepts reading.stage work refl does answers
  works Refused work does answers = refuses reading.stage work refl does

keeps : (history : History) (reading : VdmReading) (op : Op) (reply : Reply) → wants reading ≡ Do op → Answers op reply → Knows history reading → Knows (step_of op reply ∷ history) (after reading reply)
keeps history reading op reply asks answers knows =
    by_turn reading reply (λ op new. Answers op reply → Knows (step_of op reply ∷ history) new)
    (λ work does awaits answers. backs history reading knows reply)
    (λ work does closed elsewhere answers. selects history reading knows reply)
    (λ work does on answers. works history reading knows reply work does answers)
    op asks answers

pub names : (events : Events) (reading : VdmReading) → IsTold events reading → may_be_frozen reading.release ≡ steps.may_be_frozen (steps_of events)
names events reading told =
    (holds_told Knows (λ request. record { same = refl; releasing = tt }) keeps (λ history reading knows. record { same = knows.same; releasing = knows.releasing }) events reading told).same
