-- How long a module may need for what it is told about its firmware. (OIF-CMIS-05.0, CMD 0041h "Firmware Management Features")
use Rattle.std.specs.Prelude.{ℕ, ◌+◌, ◌*◌, ◌/◌, ◌%◌, ◌==◌, nat_lt, List, [], ◌∷◌, length, slice_index, if◌then◌else◌}
use Rattle.command_block.specs.declared.outcome.Outcome.{Outcome}
use Rattle.command_block.specs.declared.outcome.Outcome.TheVariants.{Succeeded}
use Rattle.firmware_update.specs.declared.command.Command.{Command}
use Rattle.firmware_update.specs.declared.command.Command.TheVariants.{Features, Info, Start, Block, Complete, Abort, Run, Commit}
use Rattle.firmware_update.specs.declared.durations.Durations.{Durations}
use Rattle.firmware_update.specs.Exchanges.{History}

abbrev pub none : Durations
none = record { start = 0; abort = 0; block = 0; complete = 0 }

-- bit 3 of the second byte: in steps of ten milliseconds, or of one
abbrev pub unit_of : ℕ → ℕ
unit_of byte = if byte / 8 % 2 == 1 then 10 else 1

-- two bytes, the higher first
abbrev pub duration_at : ℕ → List ℕ → ℕ → ℕ
duration_at unit reply at = (slice_index reply at * 256 + slice_index reply (at + 1)) * unit

abbrev pub durations_of : List ℕ → Durations
durations_of reply =
    if nat_lt (length reply) 18 then none
    else record {
      start = duration_at (unit_of (slice_index reply 1)) reply 8;
      abort = duration_at (unit_of (slice_index reply 1)) reply 10;
      block = duration_at (unit_of (slice_index reply 1)) reply 12;
      complete = duration_at (unit_of (slice_index reply 1)) reply 14;
    }

abbrev pub duration_for : Command → Durations → ℕ
duration_for Features durations = 0
duration_for Info durations = 0
duration_for (Start header) durations = durations.start
duration_for (Block header address) durations = durations.block
duration_for Complete durations = durations.complete
duration_for Abort durations = durations.abort
duration_for Run durations = 0
duration_for Commit durations = 0

-- the reply about how firmware is managed tells them
abbrev pub learned : Command → Outcome → Durations → Durations
learned Features (Succeeded reply) durations = durations_of reply.items
learned command outcome durations = durations

-- as the newest such reply tells them
abbrev pub durations_after : History → Durations
durations_after [] = none
durations_after (x ∷ before) = learned x.command x.outcome (durations_after before)
