-- The half that a reply to a reading of statistics (VDM) gives. (docs/observables.md, "Frozen statistics"; this project's own)
use Rattle.std.specs.Prelude.{◌≡◌, ℕ, ◌||◌, Bool, length, Option, Some, None, is_some, if◌then◌else◌}
use Rattle.std.specs.FinMap as finite
use Rattle.bus_model.specs.declared.operation.Reply.{Reply}
use Rattle.bus_model.specs.declared.operation.Reply.TheVariants.{Bytes, Done, Refused}
use Rattle.paged_memory.specs.Images.{Memory}
use Rattle.paged_memory.specs.KnownPages.{is_awaited, missing_page}
use Rattle.vdm_reading.specs.declared.reading.VdmReading.{VdmReading}
use Rattle.vdm_reading.specs.declared.reading.VdmStage.{VdmStage}
use Rattle.vdm_reading.specs.declared.reading.VdmStage.TheVariants as stages
use Rattle.vdm_reading.specs.BankPages.{groups_page}
use Rattle.vdm_reading.specs.VdmStages.{key_of, page_now}

-- the page that is read at a stage, in a reading of this bank
abbrev pub page_read : ℕ → VdmStage → Option ℕ
page_read bank stages.Advertised = Some 0x01
page_read bank stages.Groups = Some (groups_page bank)
page_read bank stages.Freeze = None
page_read bank stages.Freezing = None
page_read bank (stages.Page page) = Some page
page_read bank stages.Release = None
page_read bank stages.Releasing = None
page_read bank stages.Over = None

-- a page is to be selected first, or that is to be read back
abbrev pub selects : VdmReading → Bool
selects reading = is_awaited reading.selection || is_some (missing_page reading.selection (Some (page_now reading)))

abbrev pub page_given : VdmReading → Reply → Option ℕ
page_given reading (Bytes bytes) = if selects reading then None else page_read reading.request.bank reading.stage
page_given reading Done = None
page_given reading Refused = None

-- with the half of that page as the reply gives it
abbrev pub image_with : Option ℕ → Reply → Memory → Memory
image_with (Some page) (Bytes bytes) image = finite.insert image (key_of page) bytes.items
image_with (Some page) Done image = image
image_with (Some page) Refused image = image
image_with None reply image = image

-- a page that is given is given whole
abbrev pub GivesHalf : Option ℕ → Reply → Type 0
GivesHalf (Some page) (Bytes bytes) = length bytes.items ≡ 128
GivesHalf (Some page) Done = ⊥
GivesHalf (Some page) Refused = ⊥
GivesHalf None reply = Unit {0}

abbrev pub count_of : Option ℕ → ℕ
count_of None = 0
count_of (Some page) = 1
