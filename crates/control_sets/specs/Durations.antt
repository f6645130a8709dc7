-- How long states of a module and of its data paths last, as it advertises, and how long to pause between two polls of them.
-- (OIF-CMIS-05.0, "Durations Advertising" of page 01h; docs/bus.md, "Pauses"; the pauses are this project's own)
use Rattle.std.specs.Prelude.{ℕ, ◌*◌, max, List, [], ◌∷◌, Option, unwrap_or}
use Rattle.std.specs.Int.{div_ceil}
use Rattle.std.specs.List.{slice_get}
use Rattle.conversations.specs.declared.pausing.Patience.{Patience}
use Rattle.paged_memory.specs.Images.{Memory}
use Rattle.field_tables.specs.declared.field.Field.{Field}
use Rattle.field_tables.specs.declared.field.Field.TheVariants as fields
use Rattle.field_tables.specs.declared.table.cmis.CmisField.TheVariants as cmis
use Rattle.field_tables.specs.Readings.{number}

-- the ends of the ranges that the codes from 0 on stand for, in milliseconds; later codes have no upper end, or no meaning
abbrev pub durations : List ℕ
durations = 1 ∷ 5 ∷ 10 ∷ 50 ∷ 100 ∷ 500 ∷ 1000 ∷ 5000 ∷ 10000 ∷ 60000 ∷ 300000 ∷ 600000 ∷ 3000000 ∷ []

abbrev pub longest_duration : ℕ → Option ℕ
longest_duration code = slice_get durations code

-- a state of which no end is said is taken for one of 50 minutes, the longest that a code stands for
abbrev pub lasts : ℕ → ℕ
lasts code = unwrap_or (longest_duration code) 3000000

abbrev pub duration_of : Memory → Field → ℕ
duration_of memory field = lasts (number memory field)

-- of the module and of its data paths
abbrev pub states_of : Memory → List ℕ
states_of memory =
    duration_of memory (fields.Cmis cmis.MaxDurationModulePwrUp)
    ∷ duration_of memory (fields.Cmis cmis.MaxDurationModulePwrDn)
    ∷ duration_of memory (fields.Cmis cmis.MaxDurationDPInit)
    ∷ duration_of memory (fields.Cmis cmis.MaxDurationDPDeinit)
    ∷ duration_of memory (fields.Cmis cmis.MaxDurationDPTxTurnOn)
    ∷ duration_of memory (fields.Cmis cmis.MaxDurationDPTxTurnOff)
    ∷ []

abbrev pub longest_of : List ℕ → ℕ
longest_of [] = 0
longest_of (time ∷ times) = max time (longest_of times)

-- that many of the steps that a procedure may make can be polls; the others are left for what it does besides
abbrev pub polls : ℕ
polls = 4000

-- a module that is put to sleep while lanes are up turns their outputs off, takes the data paths down, and powers down
abbrev pub states_in_a_row : ℕ
states_in_a_row = 3

abbrev pub shortest_pause : ℕ
shortest_pause = 100

-- so long that the polls last three times as long as this
abbrev pub pause_after : ℕ → ℕ
pause_after longest = max shortest_pause (div_ceil (states_in_a_row * longest) polls)

abbrev pub pause_for : Memory → ℕ
pause_for memory = pause_after (longest_of (states_of memory))

abbrev pub shortest_limit : ℕ
shortest_limit = 10000

-- three times as long as this
abbrev pub limit_after : ℕ → ℕ
limit_after longest = max shortest_limit (states_in_a_row * longest)

abbrev pub patience_for : Memory → Patience
patience_for memory = record { pause = pause_for memory; limit = limit_after (longest_of (states_of memory)) }
