-- What the steps of a link test show. Steps stand with the newest first. (docs/lanes.md; this project's own)
use Rattle.std.specs.Prelude.{ℕ, ◌==◌, Bool, false, List, [], ◌∷◌, Option, Some, None, if◌then◌else◌}
use Rattle.bus_model.specs.declared.operation.Op.{Op}
use Rattle.bus_model.specs.declared.operation.Op.TheVariants.{Fetch, Store}
use Rattle.bus_model.specs.declared.operation.Reply.{Reply}
use Rattle.bus_model.specs.declared.operation.Reply.TheVariants.{Bytes, Done, Refused}
use Rattle.paged_memory.specs.PageAddressing.{History}
use Rattle.lane_controls.specs.ByteHistories.{is_store_at, last_read, stores_at}

-- the byte as it was read last before the first store there
abbrev pub byte_before : ℕ → History → Option ℕ
byte_before a [] = None
byte_before a (step ∷ before) =
    if is_store_at a step.op then (if stores_at a before == 0 then last_read a before else byte_before a before) else byte_before a before

-- so many bytes that were read at once, if they were, and what was known before if not
abbrev pub bytes_by : ℕ → Option (List ℕ) → Op → Reply → Option (List ℕ)
bytes_by size known (Fetch dev offset count) (Bytes bytes) = if count == size then Some bytes.items else known
bytes_by size known (Fetch dev offset count) Done = known
bytes_by size known (Fetch dev offset count) Refused = known
bytes_by size known (Store dev offset bytes) reply = known

abbrev pub bytes_read : ℕ → History → Option (List ℕ)
bytes_read size [] = None
bytes_read size (step ∷ before) = bytes_by size (bytes_read size before) step.op step.reply

-- the states of the paths as they were read last: four bytes
abbrev pub paths_read : History → Option (List ℕ)
paths_read history = bytes_read 4 history

-- what patterns, loopbacks and results the module advertises, as it was read last: twelve bytes
abbrev pub capabilities_read : History → Option (List ℕ)
capabilities_read history = bytes_read 12 history

-- results were read: 64 bytes
abbrev pub is_measurement : Op → Reply → Bool
is_measurement (Fetch dev offset count) (Bytes bytes) = count == 64
is_measurement (Fetch dev offset count) Done = false
is_measurement (Fetch dev offset count) Refused = false
is_measurement (Store dev offset bytes) reply = false
