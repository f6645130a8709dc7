-- A reading of statistics (VDM) as plain numbers, beside the image that it has read: which numbers are whose. (docs/observables.md,
-- "Frozen statistics"; this project's own)
use Rattle.std.specs.Prelude.{ℕ, ◌+◌, ◌==◌, ◌&&◌, nat_le, Bool, take, Option, Some, None, if◌then◌else◌}
use Rattle.paged_memory.specs.declared.page_addressing.KnownPage.{KnownPage}
use Rattle.paged_memory.specs.declared.page_addressing.KnownPage.TheVariants as pages
use Rattle.paged_memory.specs.Images.{Memory}
use Rattle.vdm_reading.specs.declared.end.Release.{Release}
use Rattle.vdm_reading.specs.declared.end.Release.TheVariants.{NotNeeded, MayBeFrozen, Accepted, Released}
use Rattle.vdm_reading.specs.declared.end.Statistics.{Statistics}
use Rattle.vdm_reading.specs.declared.end.Statistics.TheVariants.{Unknown, Unsupported, Refused, Pending, Frozen}
use Rattle.vdm_reading.specs.declared.reading.VdmReading.{VdmReading}
use Rattle.vdm_reading.specs.declared.reading.VdmStage.{VdmStage}
use Rattle.vdm_reading.specs.declared.reading.VdmStage.TheVariants as stages
use Rattle.saved_vdm.specs.declared.numbers.SavedVdm.{SavedVdm}

-- what stands in each: DCV1, in ASCII
abbrev pub reading_magic : ℕ
reading_magic = 0x44435631

-- pages 01h and 2Fh, and 13 of a module of four groups
abbrev pub most_halves : ℕ
most_halves = 15

-- how many pages have a place in a list
abbrev pub most_listed : ℕ
most_listed = 16

-- each number but 1 stands for no
abbrev pub is_one : ℕ → Bool
is_one number = number == 1

-- ---- which reading it is

abbrev pub stage_in : ℕ → ℕ → VdmStage
stage_in number page =
    if number == 0 then stages.Advertised
    else (if number == 1 then stages.Groups
    else (if number == 2 then stages.Freeze
    else (if number == 3 then stages.Freezing
    else (if number == 4 then stages.Page page
    else (if number == 5 then stages.Release
    else (if number == 6 then stages.Releasing
    else stages.Over))))))

abbrev pub statistics_in : ℕ → Statistics
statistics_in number =
    if number == 0 then Unknown
    else (if number == 1 then Unsupported
    else (if number == 2 then Refused
    else (if number == 3 then Pending
    else Frozen)))

abbrev pub release_in : ℕ → Release
release_in number =
    if number == 0 then NotNeeded
    else (if number == 1 then MayBeFrozen
    else (if number == 2 then Accepted
    else Released))

abbrev pub page_in : ℕ → ℕ → KnownPage
page_in number page = if number == 2 then pages.Page page else (if number == 1 then pages.Open else pages.Unknown)

abbrev pub reading_at : SavedVdm → Memory → VdmReading
reading_at saved image = record {
  request = record { pause = saved.pause; bank = saved.bank };
  stage = stage_in saved.stage saved.stage_page;
  image = image;
  selection = page_in saved.selection saved.page;
  left = saved.left;
  due = is_one saved.due;
  pages = record { items = take saved.page_count saved.pages };
  todo = record { items = take saved.todo_count saved.todo };
  control = saved.control;
  statistics = statistics_in saved.statistics;
  release = release_in saved.release;
}

-- ---- whether they are a reading's

abbrev pub are_codes : SavedVdm → Bool
are_codes saved = nat_le saved.stage 7 && (nat_le saved.statistics 4 && nat_le saved.release 3)

abbrev pub are_lists : SavedVdm → Bool
are_lists saved = nat_le saved.page_count most_listed && nat_le saved.todo_count most_listed

-- how many halves are still to be read at most, with so many pages besides that of the stage
abbrev pub need : VdmStage → ℕ → ℕ
need stages.Advertised todo = 15
need stages.Groups todo = 14
need stages.Freeze todo = todo
need stages.Freezing todo = todo
need (stages.Page page) todo = todo + 1
need stages.Release todo = 0
need stages.Releasing todo = 0
need stages.Over todo = 0

-- there is room for them
abbrev pub has_room : SavedVdm → Bool
has_room saved = nat_le (saved.halves + need (stage_in saved.stage saved.stage_page) saved.todo_count) most_halves

abbrev pub is_sound : SavedVdm → Bool
is_sound saved = saved.magic == reading_magic && (are_codes saved && (are_lists saved && has_room saved))

-- the reading under way by these numbers that has read this image; none by other memory
unfoldable pub reading_in : SavedVdm → Memory → Option VdmReading
reading_in saved image = if is_sound saved then Some (reading_at saved image) else None
