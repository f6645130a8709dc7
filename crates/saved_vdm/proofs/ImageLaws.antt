-- The image after a reply: with the half that the reply gives.
use Rattle.std.proofs.Common.{◌≡◌, ◌<◌, ◌==◌, ◌&&◌, ℕ, Bool, true, false, List, Option, Some, None, refl, sym, ap, ◌∙◌, arith, if◌then◌else◌, nat_lt}
use Rattle.std.specs.Prelude.{◌||◌, is_some}
use Rattle.std.specs.FinMap as map
use Rattle.std.proofs.lemmas.Bool.{eqb-true, false_from_ne_true}
use Rattle.bus_model.specs.declared.operation.Reply.{Reply}
use Rattle.bus_model.specs.declared.operation.Reply.TheVariants.{Bytes, Done, Refused}
use Rattle.field_tables.specs.Halves.{is_absent}
use Rattle.observables.specs.Pages.{has_observables}
use Rattle.paged_memory.specs.declared.page_addressing.PageAddressing.TheVariants.{BankAndPage}
use Rattle.paged_memory.specs.Images.{Memory, most_pages}
use Rattle.paged_memory.specs.KnownPages.{is_awaited, is_known, missing_page, selection_read}
use Rattle.vdm_reading.specs.declared.end.Statistics.TheVariants as statistics
use Rattle.vdm_reading.specs.declared.reading.VdmReading.{VdmReading}
use Rattle.vdm_reading.specs.declared.reading.VdmStage.{VdmStage}
use Rattle.vdm_reading.specs.declared.reading.VdmStage.TheVariants as stage
use Rattle.vdm_reading.specs.FrozenSteps.{is_freeze_done, is_unfreeze_done}
use Rattle.vdm_reading.specs.BankPages.{groups_page}
use Rattle.vdm_reading.specs.VdmStages.{accepted_at, after, after_missing, after_read_back, after_selection, after_work, asked, confirmed, enter, failed, frozen_by, kept, key_of, over, page_now, put_in, read_at, refused_at, released_by}
use Rattle.vdm_reading.proofs.Told.{failed_same, fruitless_same, next_same}
use Rattle.saved_vdm.specs.VdmTurns.{image_with, page_given, page_read}

-- there is room for one half more
put_there : (image : Memory) (page : ℕ) (bytes : List ℕ) → map.len image < 16 → put_in image page bytes ≡ map.insert image (key_of page) bytes
put_there image page bytes room =
    let not_full : (map.len image == most_pages) ≡ false = false_from_ne_true (map.len image == most_pages) (λ full. (let same = eqb-true (map.len image) most_pages full in absurd (omega (arith, same, room)))) in
    ap (λ (full : Bool). if full && is_absent image (key_of page) then image else map.insert image (key_of page) bytes) not_full

module _ (reading : VdmReading) (room : map.len reading.image < 16) where
  -- the image with a page that is given, or as it was
  abbrev with_page : Option ℕ → List ℕ → Memory
  with_page None bytes = reading.image
  with_page (Some page) bytes = map.insert reading.image (key_of page) bytes

  fails : (failed reading).image ≡ reading.image
  fails = (failed_same reading).image

  confirms : (shows : Bool) → (confirmed shows reading).image ≡ reading.image
  confirms true = refl
  confirms false = fails

  backs : (reply : Reply) → (after_read_back reading reply).image ≡ reading.image
  backs (Bytes bytes) = confirms (is_known (selection_read BankAndPage bytes.items) (page_now reading))
  backs Done = fails
  backs Refused = fails

  chooses : (reply : Reply) → (after_selection reading reply).image ≡ reading.image
  chooses (Bytes bytes) = fails
  chooses Done = refl
  chooses Refused = fails

  advertises : (has : Bool) (image : Memory) → let new = record reading { image = image } in
      (if has then enter stage.Groups new else over (record new { statistics = statistics.Unsupported })).image ≡ image
  advertises true image = refl
  advertises false image = refl

  freezes : (done : Bool) → (frozen_by done reading).image ≡ reading.image
  freezes true = (next_same reading.todo.items (record reading { statistics = statistics.Frozen })).image
  freezes false = (fruitless_same (nat_lt 0 reading.left) reading).image

  releases : (done : Bool) → (released_by done reading).image ≡ reading.image
  releases true = refl
  releases false = (fruitless_same (nat_lt 0 reading.left) reading).image

  reads : (now : VdmStage) (bytes : List ℕ) → (read_at now bytes reading).image ≡ with_page (page_read reading.request.bank now) bytes
  reads stage.Advertised bytes = advertises (has_observables (kept 0x01 bytes reading).image) (kept 0x01 bytes reading).image ∙ put_there reading.image 0x01 bytes room
  reads stage.Groups bytes = put_there reading.image (groups_page reading.request.bank) bytes room
  reads stage.Freeze bytes = fails
  reads stage.Freezing bytes = freezes (is_freeze_done bytes)
  reads (stage.Page page) bytes = (next_same reading.todo.items (kept page bytes reading)).image ∙ put_there reading.image page bytes room
  reads stage.Release bytes = fails
  reads stage.Releasing bytes = releases (is_unfreeze_done bytes)
  reads stage.Over bytes = refl

  accepts : (now : VdmStage) → (accepted_at now reading).image ≡ reading.image
  accepts stage.Advertised = fails
  accepts stage.Groups = fails
  accepts stage.Freeze = refl
  accepts stage.Freezing = fails
  accepts (stage.Page page) = fails
  accepts stage.Release = refl
  accepts stage.Releasing = fails
  accepts stage.Over = refl

  refuses : (now : VdmStage) → (refused_at now reading).image ≡ reading.image
  refuses stage.Advertised = fails
  refuses stage.Groups = fails
  refuses stage.Freeze = (failed_same (asked reading)).image
  refuses stage.Freezing = fails
  refuses (stage.Page page) = fails
  refuses stage.Release = fails
  refuses stage.Releasing = fails
  refuses stage.Over = refl

  abbrev given : Bool → Reply → Option ℕ
  given first (Bytes bytes) = if first then None else page_read reading.request.bank reading.stage
  given first Done = None
  given first Refused = None

  none : (reply : Reply) → image_with (given true reply) reply reading.image ≡ reading.image
  none (Bytes bytes) = refl
  none Done = refl
  none Refused = refl

  with_is : (page : Option ℕ) (bytes : List ℕ) → with_page page bytes ≡ image_with page (Bytes (record { items = bytes })) reading.image
  with_is None bytes = refl
  with_is (Some page) bytes = refl

  works : (reply : Reply) → (after_work reading reply).image ≡ image_with (given false reply) reply reading.image
  works (Bytes bytes) = reads reading.stage bytes.items ∙ with_is (page_read reading.request.bank reading.stage) bytes.items
  works Done = accepts reading.stage
  works Refused = refuses reading.stage

  misses : (missing : Option ℕ) (reply : Reply) → (after_missing missing reading reply).image ≡ image_with (given (is_some missing) reply) reply reading.image
  misses None reply = works reply
  misses (Some page) reply = chooses reply ∙ sym (none reply)

  turns : (awaited : Bool) (missing : Option ℕ) (reply : Reply) →
      (if awaited then after_read_back reading reply else after_missing missing reading reply).image ≡ image_with (given (awaited || is_some missing) reply) reply reading.image
  turns true missing reply = backs reply ∙ sym (none reply)
  turns false missing reply = misses missing reply

  given_is : (reply : Reply) → given (is_awaited reading.selection || is_some (missing_page reading.selection (Some (page_now reading)))) reply ≡ page_given reading reply
  given_is (Bytes bytes) = refl
  given_is Done = refl
  given_is Refused = refl

  pub image_grows : (reply : Reply) → (after reading reply).image ≡ image_with (page_given reading reply) reply reading.image
  image_grows reply =
      turns (is_awaited reading.selection) (missing_page reading.selection (Some (page_now reading))) reply
      ∙ ap (λ (page : Option ℕ). image_with page reply reading.image) (given_is reply)
