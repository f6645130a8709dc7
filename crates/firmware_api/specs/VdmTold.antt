-- Readings of statistics (VDM) as C keeps them: which reading it is, and what is told of each call. (docs/observables.md, "Frozen
-- statistics"; this project's own)
use Rattle.std.specs.Prelude.{◌≡◌, ℕ, ◌+◌, ◌-◌, List, ◌∷◌, take, Option, Some, None}
use Rattle.bus_model.specs.declared.operation.Reply.{Reply}
use Rattle.bus_model.specs.declared.operation.Reply.TheVariants.{Bytes, Done, Refused}
use Rattle.conversations.specs.declared.next.Next.{Next}
use Rattle.conversations.specs.declared.next.Next.TheVariants.{Do, Wait, End}
use Rattle.saved_vdm.specs.declared.ending.SavedVdmEnd.{SavedVdmEnd}
use Rattle.saved_vdm.specs.declared.numbers.SavedVdm.{SavedVdm}
use Rattle.saved_vdm.specs.SavedReadings.{most_halves, reading_in}
use Rattle.saved_vdm.specs.VdmEndings.{IsEnding}
use Rattle.saved_vdm.specs.VdmTurns.{count_of}
use Rattle.vdm_reading.specs.declared.end.VdmEnd.{VdmEnd}
use Rattle.vdm_reading.specs.declared.reading.VdmReading.{VdmReading}
use Rattle.vdm_reading.specs.VdmStages.{key_of, wants}
use Rattle.firmware_api.specs.declared.half.HalfBytes.{HalfBytes}
use Rattle.firmware_api.specs.declared.status.Refusal.TheVariants.{NoConversation, NotEnded}
use Rattle.firmware_api.specs.Halves.{half_at, memory_of}
use Rattle.firmware_api.specs.Statuses.{done, status_of}

-- the reading by these numbers, which has read the first halves, as many as they say
abbrev pub vdm_in : SavedVdm → List HalfBytes → Option VdmReading
vdm_in saved halves = reading_in saved (memory_of (take saved.halves halves))

abbrev pub wanted_of : Option VdmReading → Option (Next VdmEnd)
wanted_of None = None
wanted_of (Some reading) = Some (wants reading)

abbrev pub wanted_in : SavedVdm → List HalfBytes → Option (Next VdmEnd)
wanted_in saved halves = wanted_of (vdm_in saved halves)

-- the array with the half that a reply gives of a page inserted at its beginning: what stood in its last place is gone
abbrev pub halves_with : Option ℕ → Reply → List HalfBytes → List HalfBytes
halves_with (Some page) (Bytes bytes) halves = half_at (key_of page) bytes.items ∷ take (most_halves - 1) halves
halves_with (Some page) Done halves = halves
halves_with (Some page) Refused halves = halves
halves_with None reply halves = halves

-- a half that the reply gives of a page is inserted and counted, once; without one all stands as it was
pub record IsInserted (page : Option ℕ) (reply : Reply) (saved later : SavedVdm) (before after : List HalfBytes) : Type 0 where
  pub count : later.halves ≡ saved.halves + count_of page
  pub halves : after ≡ halves_with page reply before

abbrev pub IsEndBy : ℕ → SavedVdmEnd → Next VdmEnd → Type 0
IsEndBy status ended (Do op) = status ≡ status_of NotEnded
IsEndBy status ended (Wait time) = status ≡ status_of NotEnded
IsEndBy status ended (End end) = (status ≡ done) × IsEnding ended end

abbrev pub IsEndTold : ℕ → SavedVdmEnd → Option VdmReading → Type 0
IsEndTold status ended None = status ≡ status_of NoConversation
IsEndTold status ended (Some reading) = IsEndBy status ended (wants reading)
