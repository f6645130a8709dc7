-- Transactions on the bus: what is asked, and what kind of reply fits it. (OIF-CMIS-05.0, "Management Interface";
-- docs/bus.md, "Transactions")
use Rattle.std.specs.Prelude.{◌≡◌, ℕ, ◌+◌, ◌<◌, ◌≤◌, ◌⊎◌, Bool, if◌then◌else◌, List, length, Option, Some, None}
use Rattle.arrayvec.specs.ArrayVec.{ArrayVec}
use Rattle.bus_model.specs.declared.device.Dev.{Dev}
use Rattle.bus_model.specs.declared.operation.Op.{Op}
use Rattle.bus_model.specs.declared.operation.Op.TheVariants.{Fetch, Store}
use Rattle.bus_model.specs.declared.operation.Reply.{Reply}
use Rattle.bus_model.specs.declared.operation.Reply.TheVariants.{Bytes, Done, Refused}
use Rattle.bus_model.specs.declared.operation.Step.{Step}

-- at least one byte, and all of them in addresses 0 to 127 or 128 to 255
abbrev pub IsInHalf : ℕ → ℕ → Type 0
IsInHalf offset count = (0 < count) × ((offset + count ≤ 128) ⊎ ((128 ≤ offset) × (offset + count ≤ 256)))

-- a store gives 8 bytes at most
abbrev pub IsWellShapedStore : ℕ → List ℕ → Type 0
IsWellShapedStore offset bytes = IsInHalf offset (length bytes) × (length bytes ≤ 8)

abbrev pub IsWellShaped : Op → Type 0
IsWellShaped (Fetch dev offset count) = IsInHalf offset count
IsWellShaped (Store dev offset bytes) = IsWellShapedStore offset bytes.items

-- the reply is one that the operation can have
abbrev pub Answers : Op → Reply → Type 0
Answers (Fetch dev offset count) (Bytes bytes) = length bytes.items ≡ count
Answers (Fetch dev offset count) Done = ⊥
Answers (Fetch dev offset count) Refused = Unit {0}
Answers (Store dev offset given) (Bytes bytes) = ⊥
Answers (Store dev offset given) Done = Unit {0}
Answers (Store dev offset given) Refused = Unit {0}

abbrev pub fetch_reply : Option (ArrayVec ℕ) → Reply
fetch_reply (Some bytes) = Bytes bytes
fetch_reply None = Refused

-- a fetch with its answer
abbrev pub fetch_step : Dev → ℕ → ℕ → Option (ArrayVec ℕ) → Step
fetch_step dev offset count answer = record { op = Fetch dev offset count; reply = fetch_reply answer }

-- a store, and whether it was taken
abbrev pub store_step : Dev → ℕ → List ℕ → Bool → Step
store_step dev offset bytes taken =
    record { op = Store dev offset (record { items = bytes }); reply = if taken then Done else Refused }

-- the operation has its shape, and the reply is of its kind
abbrev pub IsFit : Step → Type 0
IsFit step = IsWellShaped step.op × Answers step.op step.reply
