-- How far the reading of a module's statistics (VDM) has come: what it asks for, and what a reply makes of it. (docs/observables.md,
-- "Frozen statistics"; this project's own)
use Rattle.std.specs.Prelude.{ℕ, ◌-◌, ◌==◌, ◌&&◌, nat_lt, Bool, true, false, List, [], ◌∷◌, Option, Some, None, if◌then◌else◌, slice_index}
use Rattle.std.specs.FinMap as finite
use Rattle.bus_model.specs.declared.operation.Op.{Op}
use Rattle.bus_model.specs.declared.operation.Reply.{Reply}
use Rattle.bus_model.specs.declared.operation.Reply.TheVariants.{Bytes, Done, Refused}
use Rattle.conversations.specs.declared.next.Next.{Next}
use Rattle.conversations.specs.declared.next.Next.TheVariants.{Do, Wait, End}
use Rattle.field_tables.specs.Halves.{is_absent}
use Rattle.observables.specs.Pages.{has_observables}
use Rattle.paged_memory.specs.declared.key.Key.{Key}
use Rattle.paged_memory.specs.declared.page_addressing.PageAddressing.TheVariants.{BankAndPage}
use Rattle.paged_memory.specs.declared.page_addressing.KnownPage.TheVariants as selected
use Rattle.paged_memory.specs.Images.{Memory, most_pages}
use Rattle.paged_memory.specs.Keys.{page_key}
use Rattle.paged_memory.specs.KnownPages.{is_awaited, is_known, missing_page, selection_read, wanted}
use Rattle.vdm_reading.specs.declared.reading.VdmReading.{VdmReading}
use Rattle.vdm_reading.specs.declared.reading.VdmRequest.{VdmRequest}
use Rattle.vdm_reading.specs.declared.end.Release.{Release}
use Rattle.vdm_reading.specs.declared.end.Release.TheVariants as release
use Rattle.vdm_reading.specs.declared.end.Statistics.TheVariants as statistics
use Rattle.vdm_reading.specs.declared.end.VdmEnd.{VdmEnd}
use Rattle.vdm_reading.specs.declared.reading.VdmStage.{VdmStage}
use Rattle.vdm_reading.specs.declared.reading.VdmStage.TheVariants as stage
use Rattle.vdm_reading.specs.BankPages.{bank_pages, groups_page}
use Rattle.vdm_reading.specs.FrozenSteps.{freezing, is_freeze_done, is_unfreeze_done, read_done, read_half, releasing, store_control}

-- ---- how often a transaction may fail

abbrev pub most_retries : ℕ
most_retries = 2

abbrev pub most_polls : ℕ
most_polls = 100

-- so many transactions may be fruitless at a stage; one more ends it
abbrev pub allowance : VdmStage → ℕ
allowance stage.Advertised = most_retries
allowance stage.Groups = most_retries
allowance stage.Freeze = most_retries
allowance stage.Freezing = most_polls
allowance (stage.Page page) = most_retries
allowance stage.Release = most_retries
allowance stage.Releasing = most_polls
allowance stage.Over = 0

-- a reading ends within so many transactions, whatever the bus refuses
abbrev pub most_transactions : ℕ
most_transactions = 759

-- ---- what is kept

abbrev pub key_of : ℕ → Key
key_of page = page_key page

-- where the image has room
abbrev pub put_in : Memory → ℕ → List ℕ → Memory
put_in image page bytes = if finite.len image == most_pages && is_absent image (key_of page) then image else finite.insert image (key_of page) bytes

abbrev pub begun : VdmRequest → VdmReading
begun request = record {
  request = request;
  stage = stage.Advertised;
  image = finite.empty;
  selection = selected.Unknown;
  left = most_retries;
  due = false;
  pages = record { items = [] };
  todo = record { items = [] };
  control = 0;
  statistics = statistics.Unknown;
  release = release.NotNeeded;
}

-- ---- the end

abbrev pub may_be_frozen : Release → Bool
may_be_frozen release.NotNeeded = false
may_be_frozen release.MayBeFrozen = true
may_be_frozen release.Accepted = false
may_be_frozen release.Released = false

abbrev pub and_if : Bool → ℕ → List ℕ → List ℕ
and_if true page pages = page ∷ pages
and_if false page pages = pages

-- those that the image lacks
unfoldable pub missing : List ℕ → Memory → List ℕ
missing [] image = []
missing (page ∷ pages) image = and_if (is_absent image (key_of page)) page (missing pages image)

abbrev pub end_of : VdmReading → VdmEnd
end_of reading = record {
  statistics = reading.statistics;
  release = reading.release;
  missing = record { items = missing reading.pages.items reading.image };
}

-- ---- what is asked for

abbrev pub page_at : ℕ → VdmStage → ℕ
page_at bank stage.Advertised = 0x01
page_at bank stage.Groups = groups_page bank
page_at bank stage.Freeze = groups_page bank
page_at bank stage.Freezing = groups_page bank
page_at bank (stage.Page page) = page
page_at bank stage.Release = groups_page bank
page_at bank stage.Releasing = groups_page bank
page_at bank stage.Over = groups_page bank

abbrev pub page_now : VdmReading → ℕ
page_now reading = page_at reading.request.bank reading.stage

abbrev pub work_at : VdmReading → VdmStage → Next VdmEnd
work_at reading stage.Advertised = Do read_half
work_at reading stage.Groups = Do read_half
work_at reading stage.Freeze = Do (store_control (freezing reading.control))
work_at reading stage.Freezing = Do read_done
work_at reading (stage.Page page) = Do read_half
work_at reading stage.Release = Do (store_control (releasing reading.control))
work_at reading stage.Releasing = Do read_done
work_at reading stage.Over = End (end_of reading)

abbrev pub after_pause : Bool → ℕ → Op → Next VdmEnd
after_pause due pause op = if due then Wait pause else Do op

abbrev pub turn : VdmReading → Op → Next VdmEnd
turn reading op = after_pause reading.due reading.request.pause (wanted BankAndPage reading.selection (Some (page_now reading)) op)

-- on its page, after a pause if one is due
abbrev pub turn_by : VdmReading → Next VdmEnd → Next VdmEnd
turn_by reading (Do op) = turn reading op
turn_by reading (Wait time) = Wait time
turn_by reading (End end) = End end

abbrev pub wants : VdmReading → Next VdmEnd
wants reading = turn_by reading (work_at reading reading.stage)

-- ---- what comes next

abbrev pub enter : VdmStage → VdmReading → VdmReading
enter now reading = record reading { stage = now; left = allowance now }

abbrev pub over : VdmReading → VdmReading
over reading = enter stage.Over reading

-- the statistics are released if they may be frozen
abbrev pub finish : VdmReading → VdmReading
finish reading = if may_be_frozen reading.release then enter stage.Release reading else over reading

abbrev pub next_by : List ℕ → VdmReading → VdmReading
next_by [] reading = finish reading
next_by (page ∷ rest) reading = enter (stage.Page page) (record reading { todo = record { items = rest } })

abbrev pub next_page : VdmReading → VdmReading
next_page reading = next_by reading.todo.items reading

-- what may not fail more often
abbrev pub lost_at : VdmStage → VdmReading → VdmReading
lost_at stage.Advertised reading = over reading
lost_at stage.Groups reading = over reading
lost_at stage.Freeze reading = next_page (record reading { statistics = statistics.Refused })
lost_at stage.Freezing reading = next_page (record reading { statistics = statistics.Pending })
lost_at (stage.Page page) reading = next_page reading
lost_at stage.Release reading = over reading
lost_at stage.Releasing reading = over reading
lost_at stage.Over reading = over reading

-- a pause is due before the next transaction
abbrev pub fruitless_by : Bool → VdmReading → VdmReading
fruitless_by more reading = if more then record reading { left = reading.left - 1; due = true } else lost_at reading.stage (record reading { due = true })

abbrev pub fruitless : VdmReading → VdmReading
fruitless reading = fruitless_by (nat_lt 0 reading.left) reading

-- nothing is known of the selection, since a module that refuses may have reset itself
abbrev pub failed : VdmReading → VdmReading
failed reading = fruitless (record reading { selection = selected.Unknown })

-- ---- what a reply makes of it

abbrev pub after_selection : VdmReading → Reply → VdmReading
after_selection reading (Bytes bytes) = failed reading
after_selection reading Done = record reading { selection = selected.Open }
after_selection reading Refused = failed reading

abbrev pub confirmed : Bool → VdmReading → VdmReading
confirmed shows reading = if shows then record reading { selection = selected.Page (page_now reading) } else failed reading

abbrev pub after_read_back : VdmReading → Reply → VdmReading
after_read_back reading (Bytes bytes) = confirmed (is_known (selection_read BankAndPage bytes.items) (page_now reading)) reading
after_read_back reading Done = failed reading
after_read_back reading Refused = failed reading

abbrev pub kept : ℕ → List ℕ → VdmReading → VdmReading
kept page bytes reading = record reading { image = put_in reading.image page bytes }

abbrev pub advertised : VdmReading → VdmReading
advertised reading = if has_observables reading.image then enter stage.Groups reading else over (record reading { statistics = statistics.Unsupported })

abbrev pub grouped : ℕ → VdmReading → VdmReading
grouped control reading =
    enter stage.Freeze (record reading {
      pages = record { items = bank_pages reading.image reading.request.bank };
      todo = record { items = bank_pages reading.image reading.request.bank };
      control = control;
    })

abbrev pub asked : VdmReading → VdmReading
asked reading = record reading { release = release.MayBeFrozen }

abbrev pub frozen_by : Bool → VdmReading → VdmReading
frozen_by done reading = if done then next_page (record reading { statistics = statistics.Frozen }) else fruitless reading

abbrev pub released_by : Bool → VdmReading → VdmReading
released_by done reading = if done then over (record reading { release = release.Released }) else fruitless reading

abbrev pub read_at : VdmStage → List ℕ → VdmReading → VdmReading
read_at stage.Advertised bytes reading = advertised (kept 0x01 bytes reading)
read_at stage.Groups bytes reading = grouped (slice_index bytes 16) (kept (groups_page reading.request.bank) bytes reading)
read_at stage.Freeze bytes reading = failed reading
read_at stage.Freezing bytes reading = frozen_by (is_freeze_done bytes) reading
read_at (stage.Page page) bytes reading = next_page (kept page bytes reading)
read_at stage.Release bytes reading = failed reading
read_at stage.Releasing bytes reading = released_by (is_unfreeze_done bytes) reading
read_at stage.Over bytes reading = reading

abbrev pub accepted_at : VdmStage → VdmReading → VdmReading
accepted_at stage.Advertised reading = failed reading
accepted_at stage.Groups reading = failed reading
accepted_at stage.Freeze reading = enter stage.Freezing (asked reading)
accepted_at stage.Freezing reading = failed reading
accepted_at (stage.Page page) reading = failed reading
accepted_at stage.Release reading = enter stage.Releasing (record reading { release = release.Accepted })
accepted_at stage.Releasing reading = failed reading
accepted_at stage.Over reading = reading

-- a request to freeze that was refused may have been taken
abbrev pub refused_at : VdmStage → VdmReading → VdmReading
refused_at stage.Advertised reading = failed reading
refused_at stage.Groups reading = failed reading
refused_at stage.Freeze reading = failed (asked reading)
refused_at stage.Freezing reading = failed reading
refused_at (stage.Page page) reading = failed reading
refused_at stage.Release reading = failed reading
refused_at stage.Releasing reading = failed reading
refused_at stage.Over reading = reading

abbrev pub after_work : VdmReading → Reply → VdmReading
after_work reading (Bytes bytes) = read_at reading.stage bytes.items reading
after_work reading Done = accepted_at reading.stage reading
after_work reading Refused = refused_at reading.stage reading

abbrev pub after_missing : Option ℕ → VdmReading → Reply → VdmReading
after_missing None reading reply = after_work reading reply
after_missing (Some page) reading reply = after_selection reading reply

abbrev pub after : VdmReading → Reply → VdmReading
after reading reply =
    if is_awaited reading.selection then after_read_back reading reply
    else after_missing (missing_page reading.selection (Some (page_now reading))) reading reply

-- it has paused
abbrev pub rested : VdmReading → VdmReading
rested reading = record reading { due = false }
