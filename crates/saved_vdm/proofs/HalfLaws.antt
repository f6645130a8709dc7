-- A page that a reply gives is given whole.
use Rattle.std.proofs.Common.{◌≡◌, Bool, true, false, Option, Some, None, refl, if◌then◌else◌}
use Rattle.std.specs.Prelude.{◌||◌, ℕ, is_some}
use Rattle.arrayvec.specs.ArrayVec.{ArrayVec}
use Rattle.bus_model.specs.declared.operation.Reply.{Reply}
use Rattle.bus_model.specs.declared.operation.Reply.TheVariants.{Bytes, Done, Refused}
use Rattle.conversations.specs.Wanted.{IsReplyTo}
use Rattle.paged_memory.specs.KnownPages.{is_awaited, missing_page}
use Rattle.vdm_reading.specs.declared.reading.VdmReading.{VdmReading}
use Rattle.vdm_reading.specs.declared.reading.VdmStage.{VdmStage}
use Rattle.vdm_reading.specs.declared.reading.VdmStage.TheVariants as stage
use Rattle.vdm_reading.specs.VdmStages.{page_now, wants, work_at}
use Rattle.vdm_reading.proofs.Told.{replies_to_work}
use Rattle.saved_vdm.specs.VdmTurns.{GivesHalf, page_given, page_read}

module _ (reading : VdmReading) where
  reads : (now : VdmStage) (bytes : ArrayVec ℕ) → IsReplyTo (work_at reading now) (Bytes bytes) → GivesHalf (page_read reading.request.bank now) (Bytes bytes)
  reads stage.Advertised bytes answers = answers
  reads stage.Groups bytes answers = answers
  reads stage.Freeze bytes answers = tt
  reads stage.Freezing bytes answers = tt
  reads (stage.Page page) bytes answers = answers
  reads stage.Release bytes answers = tt
  reads stage.Releasing bytes answers = tt
  reads stage.Over bytes answers = tt

  by : (awaited : Bool) → is_awaited reading.selection ≡ awaited → (missing : Option ℕ) → missing_page reading.selection (Some (page_now reading)) ≡ missing → (bytes : ArrayVec ℕ) →
      IsReplyTo (wants reading) (Bytes bytes) → GivesHalf (if awaited || is_some missing then None else page_read reading.request.bank reading.stage) (Bytes bytes)
  by true awaits missing there bytes answers = tt
  by false closed (Some page) there bytes answers = tt
  by false closed None there bytes answers = reads reading.stage bytes (replies_to_work reading (Bytes bytes) closed there answers)

  pub gives_half : (reply : Reply) → IsReplyTo (wants reading) reply → GivesHalf (page_given reading reply) reply
  gives_half (Bytes bytes) answers = by (is_awaited reading.selection) refl (missing_page reading.selection (Some (page_now reading))) refl bytes answers
  gives_half Done answers = tt
  gives_half Refused answers = tt
