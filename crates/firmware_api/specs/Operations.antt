-- Operations and their replies, as C sees them. (docs/firmware.md, "Operations"; docs/bus.md, "Transactions"; this project's
-- own)
use Rattle.std.specs.Prelude.{ℕ, ◌-◌, ◌==◌, nat_le, List, ◌++◌, length, replicate, Option, Some, None, if◌then◌else◌}
use Rattle.bus_model.specs.declared.device.Dev.{Dev}
use Rattle.bus_model.specs.declared.device.Dev.TheVariants.{A0, A2}
use Rattle.bus_model.specs.declared.operation.Op.{Op}
use Rattle.bus_model.specs.declared.operation.Op.TheVariants.{Fetch, Store}
use Rattle.bus_model.specs.declared.operation.Reply.{Reply}
use Rattle.bus_model.specs.declared.operation.Reply.TheVariants.{Bytes, Done, Refused}
use Rattle.firmware_api.specs.declared.operation.Operation.{Operation}

-- the most bytes of a store
abbrev pub most_stored : ℕ
most_stored = 8

-- A0h or A2h
abbrev pub address_of : Dev → ℕ
address_of A0 = 160
address_of A2 = 162

-- with zeros after them
abbrev pub padded : List ℕ → List ℕ
padded bytes = bytes ++ replicate (most_stored - length bytes) 0

abbrev pub operation_of : Op → Operation
operation_of (Fetch dev offset count) =
    record { milliseconds = 0; kind = 0; device = address_of dev; offset = offset; count = count; bytes = replicate most_stored 0 }
operation_of (Store dev offset bytes) =
    record { milliseconds = 0; kind = 1; device = address_of dev; offset = offset; count = length bytes.items; bytes = padded bytes.items }

-- a wait of so many milliseconds
abbrev pub waiting : ℕ → Operation
waiting time = record { milliseconds = time; kind = 2; device = 0; offset = 0; count = 0; bytes = replicate most_stored 0 }

-- 0 for a refusal, 1 for a store that was taken, 2 for bytes that were fetched: those of one half at most
abbrev pub reply_of : ℕ → List ℕ → Option Reply
reply_of number bytes =
    if number == 0 then Some Refused
    else (if number == 1 then Some Done
    else (if number == 2 then (if nat_le (length bytes) 128 then Some (Bytes (record { items = bytes })) else None)
    else None))

-- so long was waited
abbrev pub waited : ℕ
waited = 3
