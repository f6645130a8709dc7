-- How many halves are still to be read, after each reply: one less if it gives one.
use Rattle.std.proofs.Common.{◌≡◌, ◌≤◌, ◌+◌, ℕ, Bool, true, false, List, [], ◌∷◌, length, Option, Some, None, refl, sym, subst, arith, if◌then◌else◌, nat_lt}
use Rattle.std.specs.Prelude.{◌||◌, is_some}
use Rattle.bus_model.specs.declared.operation.Reply.{Reply}
use Rattle.bus_model.specs.declared.operation.Reply.TheVariants.{Bytes, Done, Refused}
use Rattle.observables.specs.Pages.{has_observables}
use Rattle.paged_memory.specs.declared.page_addressing.PageAddressing.TheVariants.{BankAndPage}
use Rattle.paged_memory.specs.declared.page_addressing.KnownPage.TheVariants as selected_page
use Rattle.paged_memory.specs.Images.{Memory}
use Rattle.paged_memory.specs.KnownPages.{is_awaited, is_known, missing_page, selection_read}
use Rattle.vdm_reading.specs.declared.end.Statistics.TheVariants as statistics
use Rattle.vdm_reading.specs.declared.reading.VdmReading.{VdmReading}
use Rattle.vdm_reading.specs.declared.reading.VdmStage.{VdmStage}
use Rattle.vdm_reading.specs.declared.reading.VdmStage.TheVariants as stage
use Rattle.vdm_reading.specs.FrozenSteps.{is_freeze_done, is_unfreeze_done}
use Rattle.vdm_reading.specs.BankPages.{groups_page}
use Rattle.vdm_reading.specs.VdmStages.{accepted_at, after, after_missing, after_read_back, after_selection, after_work, asked, confirmed, enter, failed, frozen_by, fruitless, fruitless_by, kept, lost_at, may_be_frozen, next_by, over, page_now, read_at, refused_at, released_by}
use Rattle.vdm_reading.proofs.EndingLaws.{pages_few}
use Rattle.saved_vdm.specs.SavedReadings.{need}
use Rattle.saved_vdm.specs.VdmTurns.{count_of, page_given, page_read}

abbrev pub need_of : VdmReading → ℕ
need_of reading = need reading.stage (length reading.todo.items)

-- ---- what comes next

finish_need : (may : Bool) (reading : VdmReading) → need_of (if may then enter stage.Release reading else over reading) ≡ 0
finish_need true reading = refl
finish_need false reading = refl

next_need : (todo : List ℕ) (reading : VdmReading) → need_of (next_by todo reading) ≤ length todo
next_need [] reading = let none = finish_need (may_be_frozen reading.release) reading in omega (arith, none)
next_need (page ∷ rest) reading = omega arith

lost_need : (now : VdmStage) (reading : VdmReading) → need_of (lost_at now reading) ≤ need now (length reading.todo.items)
lost_need stage.Advertised reading = omega arith
lost_need stage.Groups reading = omega arith
lost_need stage.Freeze reading = next_need reading.todo.items (record reading { statistics = statistics.Refused })
lost_need stage.Freezing reading = next_need reading.todo.items (record reading { statistics = statistics.Pending })
lost_need (stage.Page page) reading = let next = next_need reading.todo.items reading in omega (arith, next)
lost_need stage.Release reading = omega arith
lost_need stage.Releasing reading = omega arith
lost_need stage.Over reading = omega arith

fruitless_need : (more : Bool) (reading : VdmReading) → need_of (fruitless_by more reading) ≤ need_of reading
fruitless_need true reading = omega arith
fruitless_need false reading = lost_need reading.stage (record reading { due = true })

-- ---- a reply

-- one half less is needed if the page is given
abbrev Falls : VdmReading → Option ℕ → VdmReading → Type 0
Falls reading page new = need_of new + count_of page ≤ need_of reading

module _ (reading : VdmReading) where
  abbrev many : ℕ
  many = length reading.todo.items

  same : Falls reading None reading
  same = omega arith

  fails : Falls reading None (failed reading)
  fails = let fewer = fruitless_need (nat_lt 0 reading.left) (record reading { selection = selected_page.Unknown }) in omega (arith, fewer)

  waits : Falls reading None (fruitless reading)
  waits = let fewer = fruitless_need (nat_lt 0 reading.left) reading in omega (arith, fewer)

  confirms : (shows : Bool) → Falls reading None (confirmed shows reading)
  confirms true = omega arith
  confirms false = fails

  backs : (reply : Reply) → Falls reading None (after_read_back reading reply)
  backs (Bytes bytes) = confirms (is_known (selection_read BankAndPage bytes.items) (page_now reading))
  backs Done = fails
  backs Refused = fails

  chooses : (reply : Reply) → Falls reading None (after_selection reading reply)
  chooses (Bytes bytes) = fails
  chooses Done = omega arith
  chooses Refused = fails

  -- so at the stage
  abbrev At : VdmStage → Option ℕ → VdmReading → Type 0
  At now page new = need_of new + count_of page ≤ need now many

  at : (now : VdmStage) → reading.stage ≡ now → (new : VdmReading) → Falls reading None new → At now None new
  at now is new falls = subst (λ (now : VdmStage). At now None new) is falls

  advertises : (has : Bool) (image : Memory) → let new = record reading { image = image } in
      At stage.Advertised (Some 0x01) (if has then enter stage.Groups new else over (record new { statistics = statistics.Unsupported }))
  advertises true image = omega arith
  advertises false image = omega arith

  freezes : (done : Bool) → reading.stage ≡ stage.Freezing → At stage.Freezing None (frozen_by done reading)
  freezes true is = let next = next_need reading.todo.items (record reading { statistics = statistics.Frozen }) in omega (arith, next)
  freezes false is = at stage.Freezing is (fruitless reading) waits

  releases : (done : Bool) → reading.stage ≡ stage.Releasing → At stage.Releasing None (released_by done reading)
  releases true is = omega arith
  releases false is = at stage.Releasing is (fruitless reading) waits

  reads : (now : VdmStage) → reading.stage ≡ now → (bytes : List ℕ) → At now (page_read reading.request.bank now) (read_at now bytes reading)
  reads stage.Advertised is bytes = advertises (has_observables (kept 0x01 bytes reading).image) (kept 0x01 bytes reading).image
  reads stage.Groups is bytes = let some = pages_few (kept (groups_page reading.request.bank) bytes reading).image reading.request.bank in omega (arith, some)
  reads stage.Freeze is bytes = at stage.Freeze is (failed reading) fails
  reads stage.Freezing is bytes = freezes (is_freeze_done bytes) is
  reads (stage.Page page) is bytes = let next = next_need reading.todo.items (kept page bytes reading) in omega (arith, next)
  reads stage.Release is bytes = at stage.Release is (failed reading) fails
  reads stage.Releasing is bytes = releases (is_unfreeze_done bytes) is
  reads stage.Over is bytes = at stage.Over is reading same

  accepts : (now : VdmStage) → reading.stage ≡ now → At now None (accepted_at now reading)
  accepts stage.Advertised is = at stage.Advertised is (failed reading) fails
  accepts stage.Groups is = at stage.Groups is (failed reading) fails
  accepts stage.Freeze is = omega arith
  accepts stage.Freezing is = at stage.Freezing is (failed reading) fails
  accepts (stage.Page page) is = at (stage.Page page) is (failed reading) fails
  accepts stage.Release is = omega arith
  accepts stage.Releasing is = at stage.Releasing is (failed reading) fails
  accepts stage.Over is = at stage.Over is reading same

  asks : Falls reading None (failed (asked reading))
  asks = let fewer = fruitless_need (nat_lt 0 reading.left) (record (asked reading) { selection = selected_page.Unknown }) in omega (arith, fewer)

  refuses : (now : VdmStage) → reading.stage ≡ now → At now None (refused_at now reading)
  refuses stage.Advertised is = at stage.Advertised is (failed reading) fails
  refuses stage.Groups is = at stage.Groups is (failed reading) fails
  refuses stage.Freeze is = at stage.Freeze is (failed (asked reading)) asks
  refuses stage.Freezing is = at stage.Freezing is (failed reading) fails
  refuses (stage.Page page) is = at (stage.Page page) is (failed reading) fails
  refuses stage.Release is = at stage.Release is (failed reading) fails
  refuses stage.Releasing is = at stage.Releasing is (failed reading) fails
  refuses stage.Over is = at stage.Over is reading same

  -- what a reply gives if a page is to be selected first, or not
  abbrev given : Bool → Reply → Option ℕ
  given first (Bytes bytes) = if first then None else page_read reading.request.bank reading.stage
  given first Done = None
  given first Refused = None

  given_none : (reply : Reply) → given true reply ≡ None
  given_none (Bytes bytes) = refl
  given_none Done = refl
  given_none Refused = refl

  works : (reply : Reply) → Falls reading (given false reply) (after_work reading reply)
  works (Bytes bytes) = reads reading.stage refl bytes.items
  works Done = accepts reading.stage refl
  works Refused = refuses reading.stage refl

  misses : (missing : Option ℕ) (reply : Reply) → Falls reading (given (is_some missing) reply) (after_missing missing reading reply)
  misses None reply = works reply
  misses (Some page) reply = subst (λ (page : Option ℕ). Falls reading page (after_selection reading reply)) (sym (given_none reply)) (chooses reply)

  turns : (awaited : Bool) (missing : Option ℕ) (reply : Reply) →
      Falls reading (given (awaited || is_some missing) reply) (if awaited then after_read_back reading reply else after_missing missing reading reply)
  turns true missing reply = subst (λ (page : Option ℕ). Falls reading page (after_read_back reading reply)) (sym (given_none reply)) (backs reply)
  turns false missing reply = misses missing reply

  given_is : (reply : Reply) → given (is_awaited reading.selection || is_some (missing_page reading.selection (Some (page_now reading)))) reply ≡ page_given reading reply
  given_is (Bytes bytes) = refl
  given_is Done = refl
  given_is Refused = refl

  pub need_falls : (reply : Reply) → need_of (after reading reply) + count_of (page_given reading reply) ≤ need_of reading
  need_falls reply =
      subst (λ (page : Option ℕ). Falls reading page (after reading reply)) (given_is reply)
      (turns (is_awaited reading.selection) (missing_page reading.selection (Some (page_now reading))) reply)

-- a page that is given is needed
pub given_needs : (reading : VdmReading) (page : ℕ) (reply : Reply) → page_given reading reply ≡ Some page → 1 ≤ need_of reading
given_needs reading page reply is =
    let falls = need_falls reading reply in
    let more = subst (λ (given : Option ℕ). need_of (after reading reply) + count_of given ≤ need_of reading) is falls in
    omega (arith, more)
