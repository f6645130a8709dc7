-- What steps say of one byte of a page, with the newest first. Each operation on it is of that byte alone. (docs/lanes.md; this
-- project's own)
use Rattle.std.specs.Prelude.{ℕ, ◌+◌, ◌==◌, Bool, true, false, [], ◌∷◌, Option, Some, None, if◌then◌else◌, slice_index}
use Rattle.bus_model.specs.declared.device.Dev.TheVariants.{A0, A2}
use Rattle.bus_model.specs.declared.operation.Op.{Op}
use Rattle.bus_model.specs.declared.operation.Op.TheVariants.{Fetch, Store}
use Rattle.bus_model.specs.declared.operation.Reply.{Reply}
use Rattle.bus_model.specs.declared.operation.Reply.TheVariants.{Bytes, Done, Refused}
use Rattle.paged_memory.specs.PageAddressing.{History}

abbrev pub read_at : ℕ → Op
read_at address = Fetch A0 address 1

abbrev pub store_at : ℕ → ℕ → Op
store_at address byte = Store A0 address (record { items = byte ∷ [] })

-- a store from there on, taken or refused
abbrev pub is_store_at : ℕ → Op → Bool
is_store_at address (Store A0 offset bytes) = offset == address
is_store_at address (Store A2 offset bytes) = false
is_store_at address (Fetch dev offset count) = false

-- the byte that was read there, if it was, and what was known before if not
abbrev pub byte_read : ℕ → Option ℕ → Op → Reply → Option ℕ
byte_read address known (Fetch A0 offset count) (Bytes bytes) = if offset == address then Some (slice_index bytes.items 0) else known
byte_read address known (Fetch A0 offset count) Done = known
byte_read address known (Fetch A0 offset count) Refused = known
byte_read address known (Fetch A2 offset count) reply = known
byte_read address known (Store dev offset bytes) reply = known

-- the byte as it was last read, if nothing was stored there since: a store that was refused may have been carried out
abbrev pub last_read : ℕ → History → Option ℕ
last_read address [] = None
last_read address (step ∷ before) = if is_store_at address step.op then None else byte_read address (last_read address before) step.op step.reply

-- how often something was stored there, taken or refused
abbrev pub stores_at : ℕ → History → ℕ
stores_at address [] = 0
stores_at address (step ∷ before) = if is_store_at address step.op then stores_at address before + 1 else stores_at address before

abbrev pub was_refused : Reply → Bool
was_refused (Bytes bytes) = false
was_refused Done = false
was_refused Refused = true

-- the newest store there was refused
abbrev pub is_last_refused : ℕ → History → Bool
is_last_refused address [] = false
is_last_refused address (step ∷ before) = if is_store_at address step.op then was_refused step.reply else is_last_refused address before

-- the byte that was given there, if it was, and what was known before if not
abbrev pub byte_stored : ℕ → Option ℕ → Op → Option ℕ
byte_stored address known (Store A0 offset bytes) = if offset == address then Some (slice_index bytes.items 0) else known
byte_stored address known (Store A2 offset bytes) = known
byte_stored address known (Fetch dev offset count) = known

-- the byte that was stored there last, taken or refused
abbrev pub last_stored : ℕ → History → Option ℕ
last_stored address [] = None
last_stored address (step ∷ before) = byte_stored address (last_stored address before) step.op
